-- `reader::judged` meets its contract. Assumes nothing.
use mathlib.Core.Path.{sym, ◌∙◌}
use Rattle.reader.proofs.Giving.{passed-up}
use Rattle.reader.proofs.Whole.{judged-refused, judged-over, judged-fails, judged-table}
use Rattle.reader.proofs.judged.Goals as goal

pub returns-in_err-next : goal.returns-in_err-next
returns-in_err-next c = passed-up c.from_residual.result _ _ _ c.from_residual.ensures.1 (judged-refused _ c.in_err-next.ensures)

pub returns-then-next-bytes : goal.returns-then-next-bytes
returns-then-next-bytes c = judged-over c.in_ok-next.ensures c.if-next-bytes.true

pub returns-then-not-start_holds : goal.returns-then-not-start_holds
returns-then-not-start_holds c =
    judged-fails c.in_ok-next.ensures c.if-next-bytes.false (sym c.start_holds.ensures ∙ c.if-not-start_holds.true)

pub returns : goal.returns
returns c = judged-table c.in_ok-next.ensures c.if-next-bytes.false (sym c.start_holds.ensures ∙ c.if-not-start_holds.false)
