-- `minutes::edges::relax_pairs` meets its contract. The loop has relaxed the pairs that wait fewer minutes.
-- Assumes nothing.
use Rattle.std.proofs.Common.{rules, arith}
use Rattle.minutes.proofs.PairRelaxing.{first-few, pairs-long, minute-ready, pairs-more, pairs-all}
use Rattle.minutes.proofs.edges.relax_pairs.Goals as goal

pub returns-then-minutes-from : goal.returns-then-minutes-from
returns-then-minutes-from c = pairs-long c.args.minutes.now.setting c.requires c.if-minutes-from.true

pub relax_minute-requires : goal.relax_minute-requires
relax_minute-requires c =
    minute-ready c.args.minutes.now.setting c.requires c.loop-wait.wait c.loop-wait.invariant (omega (arith, c.if-minutes-from.false))
    (omega (arith, c.loop-wait-test.true, first-few c.args.minutes.now.setting c.requires))

pub loop-wait-preserved : goal.loop-wait-preserved
loop-wait-preserved c = pairs-more c.args.minutes.now.setting c.requires c.loop-wait.wait c.loop-wait.invariant c.relax_minute.ensures

pub returns-else-minutes-from-2 : goal.returns-else-minutes-from-2
returns-else-minutes-from-2 c =
    pairs-all c.args.minutes.now.setting c.requires c.loop-wait.wait c.loop-wait.invariant c.relax_minute.ensures (search rules)
