-- `arrays::charged` meets its contract. The loop has charged the first i prices, if there are so many.
-- Assumes nothing.
use mathlib.Core.Path.{◌≡◌}
use Prim.Native.Nat.{ℕ, ◌+◌, min}
use Rattle.arrays.specs.Arrays.{map_to}
use Rattle.arrays.proofs.charged.Given as goal

abbrev pub invariant-loop-i : goal.invariant-loop-i
invariant-loop-i l = l.c-items ≡ map_to (λ (c : ℕ). c + l.price) (min l.i l.n) l.fn.prices
