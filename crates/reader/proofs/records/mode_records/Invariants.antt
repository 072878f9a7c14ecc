-- `reader::records::mode_records` meets its contract. The loop has collected the first i records. Assumes nothing.
use Prim.Native.Nat.{◌*◌, ◌-◌}
use mathlib.Core.List.{map}
use Rattle.reader.specs.Format.{mode_record}
use Rattle.table.specs.Held.{flat, mode_bytes}
use Rattle.reader.specs.Step.{Wrote}
use Rattle.reader.proofs.Collecting.{Gathered}
use Rattle.reader.proofs.records.mode_records.Given as goal

abbrev pub invariant-loop-i : goal.invariant-loop-i
invariant-loop-i l =
    Gathered (λ i. mode_record l.timers) 0 l.modes l.bytes l.from
    (λ ms. Wrote (8 * l.i) l.initial.table 8 l.table (flat (map mode_bytes ms))) l.next l.i

abbrev pub decreases-loop-i : goal.decreases-loop-i
decreases-loop-i l = l.modes - l.i
