-- `near::best` meets its contract. The loop's invariant: charge and steps are the least of the mode's nodes before this one.
-- Assumes nothing.
use native.Mathlib.Omega.{arith}
use Rattle.near.proofs.Nearest.{least-cheaper, least-same, least_kept}
use Rattle.near.proofs.best.Goals.{then-c-charge, else-c-charge+then-c-charge-2, else-c-charge+else-c-charge-2}
use Rattle.near.proofs.best.Goals as goal

pub loop-v-preserved : goal.loop-v-preserved
loop-v-preserved c =
    let from = c.loop-v.auto.v in
    let before = c.loop-v.invariant in
    elim c.if-c-charge.branch [
      | then-c-charge w ↦ rw (w.charge-is, w.steps-is) (least-cheaper _ _ _ _ _ from before w.if-c-charge.true)
      | else-c-charge+then-c-charge-2 w ↦ rw (w.charge-is, w.steps-is, w.min-steps.ensures) (least-same _ _ _ _ _ from before w.if-c-charge-2.true)
      | else-c-charge+else-c-charge-2 w ↦ rw (w.charge-is, w.steps-is) (least_kept _ _ _ _ _ from before (omega (arith, w.if-c-charge.false, w.if-c-charge-2.false)))
    ]
