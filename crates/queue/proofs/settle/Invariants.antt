-- `settle` meets its contract. The loop's invariant: the matches up to this place were played again, and slot 0 stays. Assumes nothing.
use mathlib.Core.Path.{◌≡◌}
use Rattle.queue.specs.Queue.{lows, slot_at, key}
use Rattle.queue.proofs.Replays.{Replayed}
use Rattle.queue.proofs.settle.Given as goal

abbrev pub invariant-loop-place : goal.invariant-loop-place
invariant-loop-place l =
    (l.settled ≡ key (lows l.nodes l.initial.words) l.node) × Replayed l.nodes l.settled l.initial.words l.words l.place l.best l.least × (slot_at l.words 0 ≡ slot_at l.initial.words 0)

abbrev pub decreases-loop-place : goal.decreases-loop-place
decreases-loop-place l = l.place
