-- `route::walk::walk` meets its contract. The loop goes a step further or takes one back, and has written the route where it ends.
-- Assumes nothing.
use mathlib.Core.Path.{sym, ◌∙◌}
use mathlib.Core.Logic.{◌≢◌}
use Prim.Native.Nat.{◌/◌}
use native.Mathlib.Omega.{arith}
use Rattle.table.specs.Held.{automaton_of}
use Rattle.space.specs.Laws.Shares.{block_within}
use Rattle.route.proofs.Walking.{block-some, walking-begins, ready, walking-ends}
use Rattle.route.proofs.StepFurther.{few, steps-below, advance-ready, walking-advances, fewer-advance}
use Rattle.route.proofs.StepBack.{steps-some, byte-there, backtrack-ready, walking-backtracks, fewer-backtrack}
use Rattle.route.proofs.walk.walk.Goals.{In-loop-stand}
use Rattle.route.proofs.walk.walk.Goals as goal

-- Out of the goal.
far : (c : In-loop-stand) → (let args = c.args in
    c.loop-stand.stand.first / args.corners.now.space.block ≢ (automaton_of args.corners.now.table.now.bytes).goal)
far c e = c.loop-stand-test.true (c.mode_of.ensures ∙ e ∙ sym c.goal-goal.ensures)

pub loop-stand-init : goal.loop-stand-init
loop-stand-init c w = walking-begins w c.start_node.result (c.start_node.ensures _ w.setting.is-table w.setting.is-space)

pub mode_of-requires : goal.mode_of-requires
mode_of-requires c =
    let w = c.requires in
    let few = w.setting.few in
    (omega (arith, (ready w (c.loop-stand.invariant w)).there, few), omega (arith, block-some w), omega (arith, block_within _ w.setting.is-table w.setting.is-space, few))

pub next_step-requires : goal.next_step-requires
next_step-requires c = ready c.requires (c.loop-stand.invariant c.requires)

pub overflow_cast-route : goal.overflow_cast-route
overflow_cast-route c = omega (arith, few c.requires (c.loop-stand.invariant c.requires) c.in-Some.next c.in-Some.ensures)

pub bounds-route-depth : goal.bounds-route-depth
bounds-route-depth c =
    let w = c.requires in
    let k = c.loop-stand.invariant w in
    omega (arith, steps-below w k c.in-Some.next c.in-Some.ensures, k.sized, w.room)

pub advance-stand-requires : goal.advance-stand-requires
advance-stand-requires c = advance-ready c.requires (c.loop-stand.invariant c.requires) c.in-Some.next c.in-Some.ensures

pub loop-stand-smaller-in-Some : goal.loop-stand-smaller-in-Some
loop-stand-smaller-in-Some c =
    fewer-advance c.requires (c.loop-stand.invariant c.requires) c.in-Some.next c.in-Some.ensures c.advance-stand.new.words
    c.advance-stand.result c.advance-stand.ensures

pub loop-stand-preserved-in-Some : goal.loop-stand-preserved-in-Some
loop-stand-preserved-in-Some c w =
    walking-advances w (c.loop-stand.invariant w) c.in-Some.next c.in-Some.ensures c.advance-stand.new.words c.advance-stand.result
    c.advance-stand.ensures

pub overflow_sub-depth : goal.overflow_sub-depth
overflow_sub-depth c =
    steps-some c.requires (c.loop-stand.invariant c.requires) c.in_default.ensures (far (goal.at.overflow_sub-depth c).In-loop-stand)

pub bounds-route-depth-in_default : goal.bounds-route-depth-in_default
bounds-route-depth-in_default c =
    byte-there c.requires (c.loop-stand.invariant c.requires) c.in_default.ensures (far (goal.at.bounds-route-depth-in_default c).In-loop-stand)

pub backtrack-stand-requires : goal.backtrack-stand-requires
backtrack-stand-requires c =
    backtrack-ready c.requires (c.loop-stand.invariant c.requires) c.in_default.ensures (far (goal.at.backtrack-stand-requires c).In-loop-stand)

pub loop-stand-smaller : goal.loop-stand-smaller
loop-stand-smaller c =
    fewer-backtrack c.requires (c.loop-stand.invariant c.requires) c.in_default.ensures (far (goal.at.loop-stand-smaller c).In-loop-stand)
    c.backtrack-stand.new.words c.backtrack-stand.result c.backtrack-stand.ensures

pub loop-stand-preserved : goal.loop-stand-preserved
loop-stand-preserved c w =
    walking-backtracks w (c.loop-stand.invariant w) c.in_default.ensures (far (goal.at.loop-stand-preserved c).In-loop-stand)
    c.backtrack-stand.new.words c.backtrack-stand.result c.backtrack-stand.ensures

pub returns : goal.returns
returns c =
    let w = c.requires in
    walking-ends w (c.loop-stand.invariant w) (sym c.mode_of.ensures ∙ c.loop-stand-test.false ∙ c.goal-goal.ensures)
