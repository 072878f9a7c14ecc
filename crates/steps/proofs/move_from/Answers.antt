-- `steps::move_from` meets its contract. The loop is at a move of the mode, and has passed none from the byte on.
-- Assumes nothing.
use mathlib.Core.Path.{◌≡◌, sym, ◌∙◌}
use mathlib.Core.List.{List}
use Prim.Native.Nat.{ℕ, ◌≤◌}
use native.Mathlib.Omega.{arith}
use Rattle.rules.specs.Laws.Moves.{some-move, no-move}
use Rattle.space.specs.Moves.{OpenNamed}
use Rattle.space.proofs.MovesFrom.{since-done, named-open}
use Rattle.steps.specs.Leading.{FromMode}
use Rattle.steps.proofs.move_from.Goals.{After-next_move, in-Some+then-byte-e, in_default}
use Rattle.steps.proofs.move_from.Goals as goal

-- The loop ends at the first move of the mode from the byte on, or at none.
from_there :
    (c : After-next_move) (t : List ℕ) (f : FromMode t c.args.rules.now c.args.mode c.args.byte) → c.match-next.next ≡ c.loop-next.next
    → c.args.byte ≤ (c.loop-next.invariant t f).0 → OpenNamed t c.args.rules.now c.args.halves c.args.mode c.args.byte c.next_move.result
from_there c t f same past =
    let at = c.loop-next.invariant t f in
    named-open f.1 (since-done _ past at.2) (same ∙ at.1) c.next_move.ensures

pub returns : goal.returns
returns c t f = elim c.match-next.branch [
  | in-Some+then-byte-e w ↦
      let at = c.loop-next.invariant t f in
      from_there c t f (w.next-is ∙ sym w.in-Some.is) (omega (arith, w.if-byte-e.true, (some-move at.1 at.2.few w.in-Some.is).0))
  | in_default w ↦ from_there c t f w.next-is (omega (arith, no-move (c.loop-next.invariant t f).1 w.in_default.is, f.3))
]
