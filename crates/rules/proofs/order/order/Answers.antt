-- `rules::order::order` meets its contract. The loop's invariant: the moves from e on stand in their order. Assumes nothing.
use mathlib.Core.Path.{◌≡◌}
use Prim.Native.Nat.{◌+◌, ◌-◌, ◌<◌}
use native.Mathlib.Omega.{arith}
use lib.ListN.{length}
use Rattle.table.specs.Held.{automaton_of}
use Rattle.table.specs.Theorems.Access.{source-below}
use Rattle.rules.proofs.Ordering.{modes-few, moves-few, ordered-more}
use Rattle.rules.proofs.order.order.Goals as goal

pub loop-e-preserved : goal.loop-e-preserved
loop-e-preserved c =
    let t = c.args.table.now in
    let e = c.loop-e.e - 1 in
    let there : e < length (automaton_of t.bytes).moves = omega arith in
    let up : c.loop-e.e ≡ e + 1 = omega arith in
    ordered-more (automaton_of t.bytes) c.args.rules.now (moves-few t.bytes t.is_table) (modes-few t.bytes t.is_table) c.told-rules c.loop-e.rules e _ there
    c.source-mode.ensures (omega (arith, source-below t.bytes t.is_table e there, c.source-mode.ensures)) (rw up at c.loop-e.invariant)
