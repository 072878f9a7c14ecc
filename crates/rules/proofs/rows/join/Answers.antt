-- `rules::rows::join` meets its contract. The loop's invariant: the rows of the moves before e are joined. Assumes nothing.
use Prim.Native.Nat.{◌<◌}
use native.Mathlib.Omega.{arith}
use lib.ListN.{length}
use Rattle.table.specs.Held.{automaton_of}
use Rattle.table.specs.Theorems.Access.{target_below}
use Rattle.rules.proofs.Ordering.{modes-few, moves-few}
use Rattle.rules.proofs.Joining.{move-resets, rows_more}
use Rattle.rules.proofs.rows.join.Goals.{After-target, In-loop-e}
use Rattle.rules.proofs.rows.join.Goals as goal

-- In a turn the move is there, and so is its target.
there : (c : In-loop-e) → c.loop-e.e < length (automaton_of c.args.table.now.bytes).moves
there c = omega (arith, c.moves-moves.ensures)

target-few : (c : After-target) → c.target.result < 16
target-few c =
    let t = c.args.table.now.bytes in
    omega (arith, c.target.ensures, target_below t c.args.table.now.is_table c.loop-e.e (there c.before.before), modes-few t c.args.table.now.is_table)

pub join_row-requires : goal.join_row-requires
join_row-requires c = (
  omega (arith, target-few (goal.at.join_row-requires c).After-target),
  omega (arith, there (goal.at.join_row-requires c).In-loop-e, moves-few c.args.table.now.bytes c.args.table.now.is_table),
)

pub loop-e-preserved : goal.loop-e-preserved
loop-e-preserved c =
    let t = c.args.table.now.bytes in (
      omega arith,
      rows_more (automaton_of t) _ c.loop-e.e c.loop-e.rules _ c.loop-e.invariant.1 _ _
          (move-resets t c.loop-e.e _ c.resets.ensures) c.target.ensures (target-few (goal.at.loop-e-preserved c).After-target) c.join_row.ensures,
    )
