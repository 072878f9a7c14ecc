-- `form::records::mode_forms` meets its contract. Assumes nothing.
use Prim.Native.Nat.{◌*◌}
use mathlib.Core.Path.{◌≡◌}
use lib.ListN.{drop}
use lib.Seq.{drop-drop}
use Rattle.form.specs.Appends.{mode_widened}
use Rattle.form.specs.Theorems.Appending.{append-record}
use native.Mathlib.Omega.{arith}
use Rattle.form.proofs.records.mode_forms.Goals as goal

pub loop-i-preserved : goal.loop-i-preserved
loop-i-preserved c =
    let t = c.args.table.now in
    let i = c.loop-i.i in
    append-record mode_widened 8 14 i (drop 8 t) c.loop-i.invariant (rw (drop-drop (8 * i) 8 t) c.mode_form.ensures)

pub returns : goal.returns
returns c = let all : c.loop-i.i ≡ 16 = omega arith in rw all at c.loop-i.invariant
