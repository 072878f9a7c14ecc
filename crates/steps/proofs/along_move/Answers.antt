-- `steps::along_move` meets its contract.
-- Assumes nothing.
use Prim.Native.Nat.{◌+◌, ◌*◌, ◌%◌, ◌<◌}
use native.Mathlib.Omega.{arith}
use Rattle.table.specs.Theorems.Access.{target_below}
use Rattle.space.specs.Laws.Shares.{few-modes, block_within}
use Rattle.steps.proofs.LeadingMoves.{along-few, led-move-ready, along-tried}
use Rattle.steps.proofs.along_move.Goals.{After-target-target}
use Rattle.steps.proofs.along_move.Goals as goal

pub overflow_cast-target : goal.overflow_cast-target
overflow_cast-target c =
    let table = c.requires.ready.ready.setting.is-table in
    omega (arith, c.target-target.ensures, target_below c.args.corners.now.table.now.bytes table c.args.e c.requires.allowed.0, few-modes _ table)

pub overflow_cast-block : goal.overflow_cast-block
overflow_cast-block c =
    let set = c.requires.ready.ready.setting in
    omega (arith, block_within _ set.is-table set.is-space, set.few)

-- The node to which the move leads.
node-few : (c : After-target-target) → c.args.image % 65536 + c.target-target.result * c.args.corners.now.space.block < 65536
node-few c =
    along-few c.requires.ready c.args.e c.requires.allowed c.requires.is c.target-target.ensures

pub overflow_mul-to : goal.overflow_mul-to
overflow_mul-to c = omega (arith, node-few (goal.at.overflow_mul-to c).After-target-target)

pub overflow_add-to : goal.overflow_add-to
overflow_add-to c = omega (arith, node-few (goal.at.overflow_add-to c).After-target-target)

pub led_by_move-requires : goal.led_by_move-requires
led_by_move-requires c =
    led-move-ready c.requires.ready c.args.e c.requires.allowed c.requires.is c.target-target.ensures c.price-price.ensures

pub returns : goal.returns
returns c =
    along-tried c.requires.ready c.args.e c.requires.allowed c.requires.is c.target-target.ensures c.price-price.ensures c.led_by_move.ensures
    c.found.ensures
