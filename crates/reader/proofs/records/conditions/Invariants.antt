-- `reader::records::conditions` meets its contract. The loop has collected the first i conditions. Assumes nothing.
use Prim.Native.Nat.{ℕ, ◌-◌}
use Rattle.reader.specs.Parser.{Parser}
use Rattle.table.specs.Meaning.{stands}
use Rattle.reader.specs.Format.{if_stands, within}
use Rattle.reader.specs.Step.{Wrote}
use Rattle.reader.proofs.Collecting.{Gathered}
use Rattle.reader.proofs.records.conditions.Given as goal

abbrev pub place : ℕ → ℕ → Parser ℕ
place map bit = if_stands (stands map bit) (within 4 16 95)

abbrev pub invariant-loop-i : goal.invariant-loop-i
invariant-loop-i l = Gathered (place l.map) 1 6 l.bytes l.from (Wrote l.i l.initial.table l.at l.table) l.next l.i

abbrev pub decreases-loop-i : goal.decreases-loop-i
decreases-loop-i l = 6 - l.i
