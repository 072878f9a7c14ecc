-- `report::put_number` meets its contract.
-- Assumes nothing.
use mathlib.Core.Path.{◌∙◌}
use Rattle.report.specs.Counting.{fewest-decimal}
use Rattle.report.proofs.put_number.Goals as goal

pub put_text-requires : goal.put_text-requires
put_text-requires c =
    let f = c.decimal-k.ensures in
    rw (f.digits ∙ fewest-decimal c.args.n c.decimal-k.result f.len) c.requires

pub returns : goal.returns
returns c =
    let f = c.decimal-k.ensures in
    let a = c.args in
    rw (f.digits ∙ fewest-decimal a.n c.decimal-k.result f.len) at c.put_text.ensures
