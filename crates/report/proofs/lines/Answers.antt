-- `report::lines` meets its contract.
-- Assumes nothing.
use Prim.Native.Nat.{◌<◌}
use native.Mathlib.Omega.{arith}
use borrow.Author.Tests.{ltb-false}
use lib.ListN.{length}
use Rattle.report.specs.Destination.{told, room}
use Rattle.report.proofs.Filling.{lines-refused-short, lines-put}
use Rattle.report.proofs.lines.Goals.{Joined-then-out-lt-FRAME, then-out-lt-FRAME-via-then-out-lt-FRAME, then-out-lt-FRAME-via-else-out-lt-FRAME+then-out-route}
use Rattle.report.proofs.lines.Goals as goal

-- It is too short for the steps; or already without them.
short : (c : Joined-then-out-lt-FRAME) → (let a = c.args in length a.out.now < room (length a.route.now))
short c =
    elim c.then-out-lt-FRAME.branch [
      | then-out-lt-FRAME-via-then-out-lt-FRAME w ↦ omega (arith, w.if-out-lt-FRAME.true)
      | then-out-lt-FRAME-via-else-out-lt-FRAME+then-out-route w ↦ omega (arith, w.if-out-route.true)
    ]

pub returns-then-out-lt-FRAME : goal.returns-then-out-lt-FRAME
returns-then-out-lt-FRAME c = let a = c.args in lines-refused-short (told a.answer) a.route.now a.out.now (short c)

pub put_lines-requires : goal.put_lines-requires
put_lines-requires c = omega (arith, ltb-false)

pub returns : goal.returns
returns c =
    let a = c.args in
    lines-put (told a.answer) a.route.now a.out.now (omega (arith, ltb-false)) c.put_lines.ensures
