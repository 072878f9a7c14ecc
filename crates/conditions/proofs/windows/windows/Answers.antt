-- `conditions::windows::windows` meets its contract. The loop's invariant: the row has the windows of the first i bytes. Assumes nothing.
use mathlib.Core.Path.{◌∙◌}
use Prim.Native.Nat.{◌<◌}
use borrow.Author.Rules.{rules}
use lib.ListN.{length}
use Rattle.conditions.proofs.Narrowing.{row-none, row-some}
use Rattle.conditions.proofs.windows.windows.Goals.{then-condition-ne0, else-condition-ne0}
use Rattle.conditions.proofs.windows.windows.Goals as goal

pub loop-i-preserved : goal.loop-i-preserved
loop-i-preserved c =
    let bytes = c.args.conditions in
    let turn = c.loop-i in
    let there : turn.i < length bytes = search rules in
    elim c.if-condition-ne0.branch [
      | then-condition-ne0 w ↦
          w.row-is ∙ row-some bytes turn.i there turn.row turn.invariant _ w.if-condition-ne0.true w.narrow.ensures
      | else-condition-ne0 w ↦
          w.row-is ∙ row-none bytes turn.i there turn.row turn.invariant w.if-condition-ne0.false
    ]
