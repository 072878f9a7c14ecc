-- `space::moves::last_at_most` meets its contract. The loop's invariant: the prices after i are above the bound. The measure is i.
-- Assumes nothing.
use mathlib.Core.Path.{◌≡◌}
use Prim.Native.Nat.{ℕ, ◌≤◌, ◌<◌}
use lib.ListN.{get_or}
use Rattle.space.proofs.moves.last_at_most.Given as goal

abbrev pub invariant-loop-i : goal.invariant-loop-i
invariant-loop-i l = (l.i ≤ l.last) × (get_or l.prices 0 0 ≡ 0) × ((k : ℕ) → l.i < k → k ≤ l.last → l.bound < get_or l.prices k 0)

abbrev pub decreases-loop-i : goal.decreases-loop-i
decreases-loop-i l = l.i
