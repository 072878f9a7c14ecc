-- `report::put_text` meets its contract.
-- Assumes nothing.
use mathlib.Core.Path.{◌≡◌}
use Prim.Native.Nat.{◌+◌, ◌-◌}
use native.Mathlib.Omega.{arith}
use lib.ListN.{length}
use Rattle.report.proofs.Putting.{put-slice}
use Rattle.report.proofs.put_text.Goals as goal

pub returns : goal.returns
returns c =
    let a = c.args in
    let long : a.at + length a.text.now - a.at ≡ length a.text.now = omega arith in
    rw long (put-slice a.at a.out.now a.text.now c.copy_from_slice.ensures.after)
