-- `minutes::edges::relax_minute` meets its contract.
-- Assumes nothing.
use Rattle.minutes.proofs.PairRelaxing.{wait-ready, stays-ready, moves-ready, minute-done, minute-none}
use Rattle.minutes.proofs.edges.relax_minute.Goals as goal

pub wait-later-requires : goal.wait-later-requires
wait-later-requires c = wait-ready c.args.minutes.now.setting c.requires

pub stays-requires : goal.stays-requires
stays-requires c = stays-ready c.args.minutes.now.setting c.requires c.wait-later.result c.wait-later.ensures

pub relax_moves-requires : goal.relax_moves-requires
relax_moves-requires c =
    moves-ready c.args.minutes.now.setting c.requires c.wait-later.result c.wait-later.ensures c.stays.result c.stays.ensures c.if-stays.true

pub returns-then-stays : goal.returns-then-stays
returns-then-stays c =
    minute-done c.args.minutes.now.setting c.requires c.wait-later.result c.wait-later.ensures c.stays.result c.stays.ensures c.if-stays.true
    c.relax_moves.ensures

pub returns-else-stays : goal.returns-else-stays
returns-else-stays c =
    minute-none c.args.minutes.now.setting c.requires c.wait-later.result c.wait-later.ensures c.stays.result c.stays.ensures c.if-stays.false
