-- `cases::resets::grouped` meets its contract: what is found is a region of the cell.
-- Assumes nothing.
use native.Mathlib.Omega.{arith}
use Rattle.regions.specs.Laws.Chain.{start_gives}
use Rattle.regions.specs.Laws.Nodes.{corners-few}
use Rattle.cases.proofs.OneCell.{zeros-few, zeros-padded, cell-region}
use Rattle.cases.proofs.resets.grouped.Goals as goal

pub region_at-at-requires : goal.region_at-at-requires
region_at-at-requires c =
    let n = c.args.timers in (
      c.requires.0,
      c.requires.1,
      zeros-few,
      zeros-padded n c.requires.1,
      omega (arith, c.corners-number-end.ensures, corners-few n c.requires.1),
    )

pub returns-then-eq : goal.returns-then-eq
returns-then-eq c =
    let pre = c.requires in
    (cell-region _ pre.0 pre.1 _ _ c.region_at-at.ensures).valid

pub returns : goal.returns
returns c =
    let pre = c.requires in
    (start_gives _ _ pre.0 pre.1 c.start.ensures).valid
