-- `cases::scripts::region` meets its contract. The prices have room for the steps that are left.
-- Assumes nothing.
use mathlib.Core.Path.{sym, subst}
use Prim.Native.Nat.{◌+◌, ◌-◌, ◌*◌}
use native.Mathlib.Omega.{arith}
use lib.Dec.{lit<}
use Rattle.regions.specs.Held.{view, PriceRoom}
use Rattle.regions.specs.Laws.Chain.{start_gives}
use Rattle.regions.specs.Laws.Room.{start-price-room, less-room}
use Rattle.cases.specs.Kept.{most_amount}
use Rattle.cases.proofs.scripts.region.Goals as goal

pub loop-step-init : goal.loop-step-init
loop-step-init g c =
    let n = c.timers in
    let made = start_gives n.result c.start-region.result n.ensures.0 n.ensures.1 c.start-region.ensures in
    (made.valid, subst (PriceRoom 67042305) (sym made.seen) (start-price-room n.result 67042305 (lit< tt)))

pub loop-step-preserved : goal.loop-step-preserved
loop-step-preserved g c =
    let loop = c.loop-step in
    let test = c.loop-step-test.true in
    let left = most_amount * (1023 - (loop.step-index + 1)) in (
      c.stepped-region.ensures.valid,
      c.stepped-region.ensures.room left
          (less-room (view loop.region) (most_amount + left) (most_amount * (1023 - loop.step-index)) (omega (arith, test)) loop.invariant.1),
    )
