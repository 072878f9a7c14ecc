-- `reader::fields::bit_map` meets its contract. Assumes nothing.
use mathlib.Core.Path.{refl}
use lib.ListN.{drop}
use Rattle.reader.specs.Format.{any_byte, bit_map}
use Rattle.reader.proofs.Giving.{part-refused, known, passed-up, map_first, map-further, map-right}
use Rattle.reader.proofs.fields.bit_map.Goals as goal
use Rattle.reader.proofs.fields.bit_map.Goals.{then-limit-b-via-then-limit-b, then-limit-b-via-else-limit-b+then-limit-b-2}

pub returns-in_err-map : goal.returns-in_err-map
unfolding bit_map
returns-in_err-map c =
    let a = c.args in
    passed-up c.from_residual.result _ _ _ c.from_residual.ensures.1
    (part-refused any_byte _ (drop a.from a.bytes.now) c.in_err-map.ensures.gives)

pub returns-then-limit-b : goal.returns-then-limit-b
returns-then-limit-b c =
    let a = c.args in
    let s = drop a.from a.bytes.now in
    elim c.then-limit-b.branch [
      | then-limit-b-via-then-limit-b w ↦ map_first s _ (known c.in_ok-map.ensures.gives) a.timers _ c.names-limit.ensures w.if-limit-b.true
      | then-limit-b-via-else-limit-b+then-limit-b-2 w ↦
          map-further s _ (known c.in_ok-map.ensures.gives) a.timers _ c.names-limit.ensures w.if-limit-b.false w.if-limit-b-2.true
    ]

pub returns : goal.returns
returns c =
    let a = c.args in record {
      value = _;
      taken = map-right (drop a.from a.bytes.now) _ (known c.in_ok-map.ensures.gives) a.timers _ c.names-limit.ensures c.if-limit-b.false c.if-limit-b-2.false;
      holds = refl;
    }
