-- `space::moves::next_move` meets its contract. The outer loop has passed over the moves before the next one; the inner one has found the timers before
-- the present one in their windows.
-- Assumes nothing.
use mathlib.Core.Path.{◌≡◌}
use mathlib.Core.List.{List}
use Prim.Native.Nat.{ℕ, ◌+◌}
use native.Mathlib.Omega.{arith}
use Rattle.rules.specs.Rules.{as_move, after_of}
use Rattle.rules.specs.Laws.Moves.{some-move}
use Rattle.space.specs.Moves.{NextFrom}
use Rattle.space.proofs.OpenMoves.{Passing, passing-more}
use Rattle.space.proofs.TimerTests.{outside}
use Rattle.space.proofs.moves.next_move.Goals.{After-after-next}
use Rattle.space.proofs.moves.next_move.Goals as goal

-- Where a timer is outside, the move in hand is passed over, like those before it.
passed :
    (c : After-after-next) → (t : List ℕ) (byte : ℕ) → c.args.from ≡ as_move byte → NextFrom t c.args.rules.now byte
    → Passing t c.args.rules.now c.args.halves byte (after_of c.args.rules.now c.in-Some.e)
passed c t byte is r =
    let at = c.moves.invariant.passing t byte is r in
    let here : Passing t c.args.rules.now c.args.halves byte c.in-Some.e = rw (some-move at.1 at.2.few c.in-Some.is).0 at at.2 in
    let shut = outside c.args.rules.now c.args.halves (16 + c.in-Some.e) c.loop-timer.timer _ c.inside.ensures c.if-not-inside.true
    (omega (arith, c.loop-timer-test.true)) in
    passing-more t _ _ _ r.is-rules _ here (c.moves.invariant.few _ c.in-Some.is) shut

pub moves-preserved : goal.moves-preserved
moves-preserved c =
    let from = c.requires in
    record {
      few = λ e some. (some-move c.after-next.ensures (passed c from.0 from.1 from.2 from.3).few some).1;
      passing = λ t byte is r. (_, c.after-next.ensures, passed c t byte is r);
    }
