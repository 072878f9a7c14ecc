-- `timetable::walk::walk` meets its contract. The loop takes a pair or takes one back, and has written the timetable where it ends.
-- Assumes nothing.
use mathlib.Core.Path.{sym, ◌∙◌}
use mathlib.Core.Logic.{◌≢◌}
use Prim.Native.Nat.{◌/◌}
use native.Mathlib.Omega.{arith}
use Rattle.table.specs.Held.{automaton_of}
use Rattle.timetable.proofs.Walking.{cells-some, walking-begins, entry_here, ready, walking-ends}
use Rattle.timetable.proofs.StepFurther.{advance-ready, walking-advances, fewer-advance}
use Rattle.timetable.proofs.StepBack.{backtrack-ready, walking-backtracks, fewer-backtrack}
use Rattle.timetable.proofs.walk.walk.Goals.{In-loop-states}
use Rattle.timetable.proofs.walk.walk.Goals as goal

-- Out of the goal.
far : (c : In-loop-states) → c.loop-states.stand.node / c.args.minutes.now.states.cells ≢ (automaton_of c.args.minutes.now.table.now.bytes).goal
far c e = c.loop-states-test.true (c.mode_of.ensures ∙ e ∙ sym c.goal-goal.ensures)

pub loop-states-init : goal.loop-states-init
loop-states-init c = λ w. walking-begins c.args.minutes.now.setting w

pub mode_of-requires : goal.mode_of-requires
mode_of-requires c =
    let w = c.requires in
    (omega (arith, (entry_here c.args.minutes.now.setting w (c.loop-states.invariant w)).0, c.args.minutes.now.setting.few), (cells-some c.args.minutes.now.setting w).0, (cells-some c.args.minutes.now.setting w).1)

pub next_pair-requires : goal.next_pair-requires
next_pair-requires c = let w = c.requires in ready c.args.minutes.now.setting w (c.loop-states.invariant w)

pub advance-stand-requires : goal.advance-stand-requires
advance-stand-requires c =
    let w = c.requires in
    advance-ready c.args.minutes.now.setting w (c.loop-states.invariant w) (rw c.in-Some.is at c.next_pair.ensures)

pub loop-states-smaller-in-Some : goal.loop-states-smaller-in-Some
loop-states-smaller-in-Some c =
    let w = c.requires in
    fewer-advance c.args.minutes.now.setting w (c.loop-states.invariant w) (rw c.in-Some.is at c.next_pair.ensures) c.advance-stand.ensures

pub loop-states-preserved-in-Some : goal.loop-states-preserved-in-Some
loop-states-preserved-in-Some c = λ w.
    walking-advances c.args.minutes.now.setting w (c.loop-states.invariant w) (rw c.in-Some.is at c.next_pair.ensures) c.advance-stand.ensures

pub backtrack-stand-requires : goal.backtrack-stand-requires
backtrack-stand-requires c =
    let w = c.requires in
    backtrack-ready c.args.minutes.now.setting w (c.loop-states.invariant w) (rw c.in_default.is at c.next_pair.ensures) (far (goal.at.backtrack-stand-requires c).In-loop-states)

pub loop-states-smaller : goal.loop-states-smaller
loop-states-smaller c =
    let w = c.requires in
    fewer-backtrack c.args.minutes.now.setting w (c.loop-states.invariant w) (rw c.in_default.is at c.next_pair.ensures) (far (goal.at.loop-states-smaller c).In-loop-states)
    c.backtrack-stand.ensures

pub loop-states-preserved : goal.loop-states-preserved
loop-states-preserved c = λ w.
    walking-backtracks c.args.minutes.now.setting w (c.loop-states.invariant w) (rw c.in_default.is at c.next_pair.ensures)
    (far (goal.at.loop-states-preserved c).In-loop-states) c.backtrack-stand.ensures

pub returns : goal.returns
returns c =
    let w = c.requires in
    walking-ends c.args.minutes.now.setting w (c.loop-states.invariant w) (sym c.mode_of.ensures ∙ c.loop-states-test.false ∙ c.goal-goal.ensures)
