-- `form::records::mode_forms` meets its contract. Assumes nothing.
use Prim.Native.Nat.{◌+◌, ◌*◌}
use lib.ListN.{drop}
use Rattle.table.specs.Held.{flat, records_from}
use Rattle.form.specs.Appends.{Appends, mode_widened}
use Rattle.form.proofs.records.mode_forms.Given as goal

abbrev pub invariant-loop-i : goal.invariant-loop-i
invariant-loop-i l = Appends l.initial.form 8 (flat (records_from mode_widened 8 l.i (drop 8 l.table))) l.form (8 + 14 * l.i)
