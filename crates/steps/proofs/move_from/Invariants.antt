-- `steps::move_from` meets its contract. The loop is at a move of the mode, and has passed none from the byte on.
-- Assumes nothing.
use mathlib.Core.Path.{◌≡◌}
use mathlib.Core.List.{List}
use Prim.Native.Nat.{ℕ}
use Rattle.table.specs.Held.{automaton_of}
use Rattle.rules.specs.Rules.{as_move}
use Rattle.rules.specs.Laws.Moves.{left}
use Rattle.space.proofs.MovesFrom.{Since}
use Rattle.steps.specs.Leading.{FromMode}
use Rattle.steps.proofs.move_from.Given as goal

abbrev pub invariant-loop-next : goal.invariant-loop-next
invariant-loop-next l =
    (t : List ℕ) → FromMode t l.rules l.mode l.byte → (r : ℕ) × (l.next ≡ as_move r) × Since (automaton_of t) l.mode l.byte r

abbrev pub decreases-loop-next : goal.decreases-loop-next
decreases-loop-next l = left l.next
