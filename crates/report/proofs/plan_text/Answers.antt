-- `report::plan_text` meets its contract.
-- Assumes nothing.
use mathlib.Core.Path.{sym}
use Rattle.report.proofs.Filling.{text-put}
use Rattle.report.proofs.plan_text.Goals as goal

pub returns : goal.returns
returns c =
    let t = text-put c.args.bytes.now (rw (sym c.from.ensures) at c.plan-answer.ensures.outcome) c.put_lines.ensures in
    record { within = t.0; count = t.1.0; text = t.1.1.0; kept = t.1.1.1 }
