-- `timetable::walk::next_pair` meets its contract. The loop is at a label, and no edge with a label below it is tight.
-- Assumes nothing.
use Prim.Native.Nat.{◌<◌}
use native.Mathlib.Omega.{arith}
use Rattle.timetable.proofs.AfterWaits.{label-parts}
use Rattle.timetable.proofs.NextPairs.{ceiling-first, node-standing, next-none, none-begins, none-later, next-found}
use Rattle.timetable.proofs.walk.next_pair.Goals.{In-loop-label}
use Rattle.timetable.proofs.walk.next_pair.Goals as goal

pub loop-label-init : goal.loop-label-init
loop-label-init c = none-begins c.requires.few

-- In a turn the label is one of a wait.
few-labels : (c : In-loop-label) → c.loop-label.label < 1024
few-labels c =
    omega (arith, c.loop-label-test.true, ceiling-first c.args.minutes.now.setting, label-parts c.loop-label.label)

pub tight_after-requires : goal.tight_after-requires
tight_after-requires c =
    let n = c.requires.at-node in
    record {
      node = c.args.stand.node;
      at-node = n;
      standing = node-standing c.args.minutes.now.setting _ c.state_at-at.ensures _;
      few = few-labels (goal.at.tight_after-requires c).In-loop-label;
    }

pub returns-in-Some : goal.returns-in-Some
returns-in-Some c =
    let n = c.requires.at-node in
    next-found c.loop-label.invariant (few-labels (goal.at.returns-in-Some c).In-loop-label) _ (omega (arith, label-parts c.loop-label.label))
    (rw c.in-Some.is at c.tight_after.ensures) n (node-standing c.args.minutes.now.setting _ c.state_at-at.ensures _)

pub loop-label-smaller : goal.loop-label-smaller
loop-label-smaller c = omega (arith, few-labels (goal.at.loop-label-smaller c).In-loop-label, label-parts c.loop-label.label)

pub loop-label-preserved : goal.loop-label-preserved
loop-label-preserved c =
    none-later c.loop-label.invariant (few-labels (goal.at.loop-label-preserved c).In-loop-label) _ (omega (arith, label-parts c.loop-label.label))
    (rw c.in_default.is at c.tight_after.ensures)

pub returns : goal.returns
returns c =
    next-none c.args.minutes.now.setting _ c.state_at-at.ensures c.requires.at-node _ c.loop-label.invariant c.loop-label-test.false
