-- `reader::records::ceilings` meets its contract. The loop has collected the ceilings before the place `at`. Assumes nothing.
use Prim.Native.Nat.{ℕ, ◌-◌}
use Rattle.reader.specs.Parser.{Parser}
use Rattle.reader.specs.Format.{within}
use Rattle.reader.specs.Step.{Wrote}
use Rattle.reader.proofs.Collecting.{Gathered}
use Rattle.reader.proofs.records.ceilings.Given as goal

abbrev pub ceiling : ℕ → Parser ℕ
ceiling i = within 2 1 15

abbrev pub invariant-loop-at : goal.invariant-loop-at
invariant-loop-at l = Gathered ceiling 0 l.timers l.bytes 4 (Wrote (l.at - 4) l.initial.table 4 l.table) l.at (l.at - 4)

abbrev pub decreases-loop-at : goal.decreases-loop-at
decreases-loop-at l = l.behind - l.at
