-- `form::records::places` meets its contract. Assumes nothing.
use Prim.Native.Nat.{◌+◌, ◌*◌}
use lib.ListN.{take, drop}
use Rattle.form.specs.Formed.{places}
use Rattle.form.specs.Appends.{Appends}
use Rattle.form.proofs.records.places.Given as goal

abbrev pub invariant-loop-i : goal.invariant-loop-i
invariant-loop-i l = Appends l.initial.form l.at (places (take l.i (drop l.from l.table))) l.form (l.at + 2 * l.i)
