-- `form::records::move_forms` meets its contract. Assumes nothing.
use Prim.Native.Nat.{◌+◌, ◌*◌}
use lib.ListN.{drop}
use Rattle.table.specs.Held.{flat, records_from}
use Rattle.form.specs.Appends.{Appends, move_widened}
use Rattle.form.proofs.records.move_forms.Given as goal

abbrev pub invariant-loop-i : goal.invariant-loop-i
invariant-loop-i l = Appends l.initial.form 232 (flat (records_from move_widened 12 l.i (drop 136 l.table))) l.form (232 + 18
    * l.i)
