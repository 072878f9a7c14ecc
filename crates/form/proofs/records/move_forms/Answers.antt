-- `form::records::move_forms` meets its contract. Assumes nothing.
use Prim.Native.Nat.{◌*◌}
use mathlib.Core.Path.{◌≡◌}
use lib.ListN.{drop}
use lib.Seq.{drop-drop}
use Rattle.form.specs.Appends.{move_widened}
use Rattle.form.specs.Theorems.Appending.{append-record}
use native.Mathlib.Omega.{arith}
use Rattle.form.proofs.records.move_forms.Goals as goal

pub loop-i-preserved : goal.loop-i-preserved
loop-i-preserved c =
    let t = c.args.table.now in
    let i = c.loop-i.i in
    append-record move_widened 12 18 i (drop 136 t) c.loop-i.invariant (rw (drop-drop (12 * i) 136 t) c.move_form.ensures)

pub returns : goal.returns
returns c = let all : c.loop-i.i ≡ 64 = omega arith in rw all at c.loop-i.invariant
