-- `cases::cells::found_again` meets its contract. No more corners are found again than were looked at.
-- Assumes nothing.
use Prim.Native.Nat.{ℕ, ◌<◌, ◌≤◌}
use mathlib.Core.Path.{◌≡◌, ◌∙◌}
use native.Mathlib.Omega.{arith}
use lib.ListN.{take}
use Rattle.semantics.specs.Nodes.Node.{node_at}
use Rattle.regions.specs.declared.nodes.NodeRegion.{NodeRegion}
use Rattle.regions.specs.Held.{most_timers, view, Valid}
use Rattle.regions.specs.Nodes.{most_modes, CeilingsFew, Padded, pack_node_region}
use Rattle.regions.specs.Laws.Fields.{holds, top-is}
use Rattle.regions.specs.Laws.Nodes.{corners-few}
use Rattle.cases.proofs.OneCell.{zeros, zeros-few, zeros-padded, zeros-many, cell-region}
use Rattle.cases.proofs.cells.found_again.Goals as goal

pub region_at-at-requires : goal.region_at-at-requires
region_at-at-requires c =
    let n = c.args.timers in (
      c.requires.0,
      c.requires.1,
      zeros-few,
      zeros-padded n c.requires.1,
      omega (arith, c.corners-number-end.ensures, corners-few n c.requires.1),
    )

-- What `node_of` asks of the region around a number.
ready :
    (n i : ℕ) → 1 ≤ n → n ≤ most_timers → (r : NodeRegion) → r ≡ pack_node_region (take n zeros) (node_at (take n zeros) i)
    → Valid r.region × (r.index ≤ r.region.top) × (0 < most_modes) × CeilingsFew zeros × Padded r.region.timers zeros
ready n i some few r e =
    let h = cell-region n some few i r e in
    let top = top-is r.region (view r.region) (holds r.region h.valid) in
    (h.valid, omega (arith, h.inside, top), omega arith, zeros-few, rw (h.timers-are ∙ zeros-many n some few) (zeros-padded n few))

pub node_of-requires : goal.node_of-requires
node_of-requires c =
    ready c.args.timers c.loop-number.number c.requires.0 c.requires.1 c.region_at-at.result c.region_at-at.ensures
