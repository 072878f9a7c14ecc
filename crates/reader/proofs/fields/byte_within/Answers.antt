-- `reader::fields::byte_within` meets its contract. Assumes nothing.
use mathlib.Core.Path.{refl}
use lib.ListN.{drop}
use Rattle.reader.specs.Format.{any_byte, within}
use Rattle.reader.proofs.Giving.{part-refused, known, passed-up, refused-only, within-below, within-above, within-right}
use Rattle.reader.proofs.fields.byte_within.Goals as goal
use Rattle.reader.proofs.fields.byte_within.Goals.{then-byte-least-via-then-byte-least, then-byte-least-via-else-byte-least+then-most-byte}

pub returns-in_err-byte : goal.returns-in_err-byte
unfolding within
returns-in_err-byte c =
    let a = c.args in
    let up = c.from_residual in record {
      gives = passed-up up.result _ _ _ up.ensures.1 (part-refused any_byte _ (drop a.from a.bytes.now) c.in_err-byte.ensures.gives);
      range = refused-only _ up.result _ up.ensures.1;
    }

pub returns-then-byte-least : goal.returns-then-byte-least
returns-then-byte-least c =
    let a = c.args in
    let s = drop a.from a.bytes.now in
    let read = known c.in_ok-byte.ensures.gives in
    record {
      gives = elim c.then-byte-least.branch [
        | then-byte-least-via-then-byte-least w ↦ within-below s _ read _ a.least a.most w.if-byte-least.true
        | then-byte-least-via-else-byte-least+then-most-byte w ↦ within-above s _ read _ a.least a.most w.if-byte-least.false w.if-most-byte.true
      ];
      range = tt;
    }

pub returns : goal.returns
returns c =
    let a = c.args in record {
      gives = record {
        value = _;
        taken = within-right (drop a.from a.bytes.now) _ (known c.in_ok-byte.ensures.gives) _ a.least a.most c.if-byte-least.false c.if-most-byte.false;
        holds = refl;
      };
      range = (c.if-byte-least.false, c.if-most-byte.false, c.in_ok-byte.ensures.one);
    }
