-- `arrays::count_of` meets its contract. The loop has counted in the groups that it was given so far.
-- Assumes nothing.
use mathlib.Core.Path.{◌≡◌}
use Prim.Native.Nat.{◌≤◌}
use lib.ListN.{length, take}
use Rattle.semantics.specs.Region.{count}
use Rattle.arrays.proofs.count_of.Given as goal

abbrev pub invariant-loop-h : goal.invariant-loop-h
invariant-loop-h l =
    (l.found ≡ count l.fn.g (take (length l.yielded) (take l.fn.n l.fn.group))) × (l.found ≤ length l.yielded)
    × (goal.iterator-loop-h).can_next l.h-iterator × (goal.iterator-loop-h).is_finite l.h-iterator
