-- `space::moves::next_move` meets its contract. The outer loop has passed over the moves before the next one; the inner one has found the timers before
-- the present one in their windows. The outer measure is what is left to 64.
-- Assumes nothing.
use mathlib.Core.Path.{◌≡◌}
use mathlib.Core.List.{List}
use Prim.Native.Nat.{ℕ, ◌+◌, ◌<◌}
use Rattle.std.specs.Prelude.{Some}
use Rattle.rules.specs.Rules.{none, as_move}
use Rattle.rules.specs.Laws.Moves.{left}
use Rattle.space.specs.Moves.{NextFrom}
use Rattle.space.proofs.TimerTests.{InUpTo}
use Rattle.space.proofs.OpenMoves.{Passing}
use Rattle.space.proofs.moves.next_move.Given as goal

abbrev pub invariant-moves : goal.invariant-moves
invariant-moves l = record {
  few : (e : ℕ) → l.next ≡ Some e → e < none;
  passing :
      (t : List ℕ) (byte : ℕ) → l.fn.from ≡ as_move byte → NextFrom t l.rules byte → (r : ℕ) × (l.next ≡ as_move r) × Passing t l.rules l.halves byte r;
}

abbrev pub decreases-moves : goal.decreases-moves
decreases-moves l = left l.next

abbrev pub invariant-loop-timer : goal.invariant-loop-timer
invariant-loop-timer l = InUpTo l.rules (16 + l.e) l.halves l.timer
