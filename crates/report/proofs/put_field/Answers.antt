-- `report::put_field` meets its contract.
-- Assumes nothing.
use native.Mathlib.Omega.{arith}
use lib.ListN.{length-append}
use Rattle.report.specs.Lines.{decimal}
use Rattle.report.proofs.Putting.{put_both}
use Rattle.report.proofs.put_field.Goals as goal

pub put_text-next-requires : goal.put_text-next-requires
put_text-next-requires c =
    let a = c.args in
    omega (arith, c.requires, length-append a.words.now (decimal a.n))

pub put_number-requires : goal.put_number-requires
put_number-requires c =
    omega (arith, c.requires, length-append c.args.words.now (decimal c.args.n), c.put_text-next.ensures.behind, c.put_text-next.auto)

pub returns : goal.returns
returns c =
    put_both c.put_text-next.ensures (omega (arith, c.requires, length-append c.args.words.now (decimal c.args.n))) c.put_number.ensures
