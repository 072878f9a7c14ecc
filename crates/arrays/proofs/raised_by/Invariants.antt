-- `arrays::raised_by` meets its contract. The loop has raised the first i values, if there are so many.
-- Assumes nothing.
use mathlib.Core.Path.{◌≡◌}
use Prim.Native.Nat.{ℕ, ◌+◌, min}
use Rattle.arrays.specs.Arrays.{map_to}
use Rattle.arrays.proofs.raised_by.Given as goal

abbrev pub invariant-loop-i : goal.invariant-loop-i
invariant-loop-i l = l.v-items ≡ map_to (λ (v : ℕ). v + l.by) (min l.i l.n) l.fn.values
