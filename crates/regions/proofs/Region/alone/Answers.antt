-- `regions::Region::alone` meets its contract.
-- Assumes nothing.
use borrow.Author.Tests.{lt-ltb, le-ltb}
use Rattle.regions.specs.Held.{view}
use Rattle.regions.specs.Laws.Fields.{holds, group_at}
use Rattle.regions.proofs.Region.alone.Goals as goal

pub returns-then-g-gt0 : goal.returns-then-g-gt0
unfolding view
returns-then-g-gt0 c =
    let s = c.args.self in
    let h = holds s c.requires.0 in
    simp (← group_at s (view s) h c.args.timer, lt-ltb _ _ c.if-g-gt0.true, c.count_of.ensures, c.from.ensures)

pub returns-else-g-gt0 : goal.returns-else-g-gt0
returns-else-g-gt0 c =
    let s = c.args.self in
    let h = holds s c.requires.0 in
    simp (← group_at s (view s) h c.args.timer, le-ltb _ _ c.if-g-gt0.false)
