-- `words::keep_near` meets its contract. The loop's invariant: the words of the nodes before this one are done, and all others are the same.
-- Assumes nothing.
use Prim.Native.Nat.{◌*◌, ◌-◌, ◌≤◌}
use lib.ListN.{length}
use Rattle.search.proofs.Keeping.{Keeping}
use Rattle.search.proofs.words.keep_near.Given as goal

abbrev pub invariant-loop-v : goal.invariant-loop-v
invariant-loop-v l = (l.v ≤ l.nodes) × (2 * l.nodes ≤ length l.words) × Keeping l.nodes l.best l.v l.initial.words l.words

abbrev pub decreases-loop-v : goal.decreases-loop-v
decreases-loop-v l = l.nodes - l.v
