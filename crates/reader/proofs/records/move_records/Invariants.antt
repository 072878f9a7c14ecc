-- `reader::records::move_records` meets its contract. The loop has collected the first i records. Assumes nothing.
use Prim.Native.Nat.{◌*◌, ◌-◌}
use mathlib.Core.List.{map}
use Rattle.reader.specs.Format.{move_record}
use Rattle.table.specs.Held.{flat, move_bytes}
use Rattle.reader.specs.Step.{Wrote}
use Rattle.reader.proofs.Collecting.{Gathered}
use Rattle.reader.proofs.records.move_records.Given as goal

abbrev pub invariant-loop-i : goal.invariant-loop-i
invariant-loop-i l =
    Gathered (λ i. move_record l.modes l.timers) 0 l.moves l.bytes l.from
    (λ es. Wrote (12 * l.i) l.initial.table 136 l.table (flat (map move_bytes es))) l.next l.i

abbrev pub decreases-loop-i : goal.decreases-loop-i
decreases-loop-i l = l.moves - l.i
