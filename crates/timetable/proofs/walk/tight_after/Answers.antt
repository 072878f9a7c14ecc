-- `timetable::walk::tight_after` meets its contract.
-- Assumes nothing.
use Rattle.timetable.proofs.AfterWaits.{after-wait-ready, later-ready, after-move-ready, after-move, after_none}
use Rattle.timetable.proofs.walk.tight_after.Goals as goal

pub wait-later-requires : goal.wait-later-requires
wait-later-requires c = after-wait-ready c.args.minutes.now.setting c.requires

pub stays-requires : goal.stays-requires
stays-requires c =
    let p = c.requires in
    later-ready c.args.minutes.now.setting p.at-node p.standing c.wait-later.ensures

pub tight_move-requires : goal.tight_move-requires
tight_move-requires c =
    let p = c.requires in
    after-move-ready c.args.minutes.now.setting c.wait-later.ensures c.stays.ensures p.few c.if-stays.true p

pub returns-then-stays : goal.returns-then-stays
returns-then-stays c =
    let p = c.requires in
    after-move c.args.minutes.now.setting c.args.words.now c.wait-later.ensures c.stays.ensures p.few c.if-stays.true c.tight_move.result
    c.tight_move.ensures

pub returns : goal.returns
returns c =
    let p = c.requires in
    after_none c.args.minutes.now.setting c.wait-later.ensures c.stays.ensures p.few c.if-stays.false
