-- `cases::places::start` meets its contract.
-- Assumes nothing.
use mathlib.Core.Path.{sym, subst, ◌∙◌}
use native.Mathlib.Omega.{arith}
use lib.Dec.{lit<}
use Rattle.table.specs.Theorems.Access.{counts, mode-count, timer-count}
use Rattle.regions.specs.Held.{PriceRoom}
use Rattle.regions.specs.Laws.Chain.{start_gives}
use Rattle.regions.specs.Laws.Room.{start-price-room}
use Rattle.cases.proofs.places.start.Goals as goal

pub returns : goal.returns
returns g c =
    let n = c.timers in
    let h = c.args.table.now.is_table in
    let t = c.args.table.now.bytes in
    let few = counts t h in
    let g = start_gives n.result c.start.result (omega (arith, few, timer-count t h, n.ensures))
    (omega (arith, few, timer-count t h, n.ensures)) c.start.ensures in
    record {
      is-table = h;
      there = omega (arith, few, mode-count t h);
      valid = g.valid;
      timers = g.timers ∙ n.ensures;
      room = subst (PriceRoom 134215680) (sym g.seen) (start-price-room n.result 134215680 (lit< tt));
    }
