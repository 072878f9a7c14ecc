-- `minutes::edges::relax_pairs` meets its contract. The loop has relaxed the pairs that wait fewer minutes.
-- Assumes nothing.
use Prim.Native.Nat.{◌*◌, ◌<◌}
use Rattle.minutes.specs.Edges.{PairsDone}
use Rattle.minutes.proofs.edges.relax_pairs.Given as goal

abbrev pub invariant-loop-wait : goal.invariant-loop-wait
invariant-loop-wait l =
    PairsDone (λ e. e.label < 64 * l.wait) l.minutes.table.now.bytes l.minutes.states l.from l.initial.words l.words
