-- `reader::fields::reset_byte` meets its contract. Assumes nothing.
use mathlib.Core.Path.{refl}
use lib.ListN.{drop}
use Rattle.reader.specs.Format.{any_byte, reset_byte}
use Rattle.reader.proofs.Giving.{part-refused, known, passed-up, reset-wrong, reset-right}
use Rattle.reader.proofs.fields.reset_byte.Goals as goal

pub returns-in_err-byte : goal.returns-in_err-byte
unfolding reset_byte
returns-in_err-byte c = let a = c.args in
    rw c.if-not-stands.false
    (passed-up c.from_residual.result _ _ _ c.from_residual.ensures.1 (part-refused any_byte _ (drop a.from a.bytes.now) c.in_err-byte.ensures.gives))

pub returns-then-names-byte : goal.returns-then-names-byte
returns-then-names-byte c =
    let a = c.args in
    rw c.if-not-stands.false (reset-wrong (drop a.from a.bytes.now) _ (known c.in_ok-byte.ensures.gives) a.timers _ c.names.ensures c.if-names-byte.true)

pub returns : goal.returns
returns c =
    let a = c.args in
    rw c.if-not-stands.false (record {
      value = _;
      taken = reset-right (drop a.from a.bytes.now) _ (known c.in_ok-byte.ensures.gives) a.timers _ c.names.ensures c.if-names-byte.false;
      holds = refl;
    })
