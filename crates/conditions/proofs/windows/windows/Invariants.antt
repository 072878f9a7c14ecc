-- `conditions::windows::windows` meets its contract. The loop's invariant: the row has the windows of the first i bytes. Assumes nothing.
use mathlib.Core.Path.{◌≡◌}
use lib.ListN.{take}
use Rattle.table.specs.Meaning.{conditions_from}
use Rattle.conditions.specs.Windows.{row_of}
use Rattle.conditions.proofs.windows.windows.Given as goal

abbrev pub invariant-loop-i : goal.invariant-loop-i
invariant-loop-i l = l.row ≡ row_of (conditions_from 0 (take l.i l.fn.conditions))
