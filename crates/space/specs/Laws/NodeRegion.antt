-- The region of which a node is a corner, by what `region_at` hands back.
-- Assumes nothing.
use Rattle.std.specs.Prelude.{◌≡◌, ℕ, suc, ◌+◌, ◌≤◌, ◌<◌, take}
use Rattle.std.proofs.Math.Path.{ap, ap₂}
use Rattle.std.proofs.Common.{◌∙◌, arith}
use mathlib.Core.List.{List}
use Rattle.std.proofs.Math.ListN.{get_or}
use Rattle.semantics.specs.Automaton.{timers}
use Rattle.semantics.specs.Region.{PricedRegion, top}
use Rattle.semantics.specs.Nodes.Node.{node_at}
use Rattle.semantics.proofs.Nodes.Number.{node_at-node}
use Rattle.semantics.specs.Corners.Lists.{get_or-count_from}
use Rattle.table.specs.Held.{automaton_of, IsTable}
use Rattle.regions.specs.declared.nodes.NodeRegion.{NodeRegion}
use Rattle.regions.specs.Held.{most_timers, view}
use Rattle.regions.specs.Nodes.{most_nodes, CeilingsFew, Padded, node_region, pack_node_region}
use Rattle.regions.specs.Laws.Chain.{view-pack}
use Rattle.regions.specs.Laws.Nodes.{table-ceilings, table-padded, table-few}
use Rattle.regions.specs.Laws.NodeRegion.{node-region-well-formed, node-region-holds}
use Rattle.space.specs.declared.Space.{Space}
use Rattle.space.specs.Space.{IsSpace, Setting, place_at, IsCorner, place_of}
use Rattle.space.specs.Laws.Shares.{table-timers}

-- The ceilings and timers of a struct `Space`.
module _ {t : List ℕ} {s : Space} (table : IsTable t) (space : IsSpace t s) where
  pub space-few : CeilingsFew s.ceilings
  space-few = rw space.ceilings-are (table-few t table)

  pub space-padded : Padded s.timers s.ceilings
  space-padded = rw (space.timers-are, space.ceilings-are) (table-padded t table)

  pub space-timers : (1 ≤ s.timers) × (s.timers ≤ most_timers)
  space-timers = rw space.timers-are (table-timers t table)

  pub space-ceilings : take s.timers s.ceilings ≡ (automaton_of t).ceilings
  space-ceilings = ap₂ (λ (n : ℕ) (l : List ℕ). take n l) space.timers-are space.ceilings-are ∙ table-ceilings t table

-- The struct is that of node v.
pub record CornerAt (t : List ℕ) (v : ℕ) (z : NodeRegion) : Type 0 where
  pub corner : IsCorner t z
  pub own : z.first + z.index ≡ v
  pub place_is : place_at z ≡ place_of (automaton_of t) v
  pub mode-is : z.mode ≡ (node_at (automaton_of t).ceilings v).mode

module _ {t rs : List ℕ} {s : Space} (h : Setting t rs s) {v : ℕ} (there : v < s.nodes) where
  -- What `region_at` asks.
  pub region-ready : (1 ≤ s.timers) × (s.timers ≤ most_timers) × CeilingsFew s.ceilings × Padded s.timers s.ceilings × (v < most_nodes)
  region-ready = (
    (space-timers h.is-table h.is-space).0,
    (space-timers h.is-table h.is-space).1,
    space-few h.is-table h.is-space,
    space-padded h.is-table h.is-space,
    omega (arith, h.few),
  )

  pub corner-at : (z : NodeRegion) → z ≡ pack_node_region (take s.timers s.ceilings) (node_at (take s.timers s.ceilings) v) → CornerAt t v z
  unfolding pack_node_region
  corner-at z is =
      let a = automaton_of t in
      let own : z ≡ pack_node_region a.ceilings (node_at a.ceilings v) =
      is ∙ ap (λ (c : List ℕ). pack_node_region c (node_at c v)) (space-ceilings h.is-table h.is-space) in
      let some : 0 < timers a = (table-timers t h.is-table).0 in
      let few : timers a ≤ most_timers = (table-timers t h.is-table).1 in
      let around = node-region-holds a.ceilings some few v z own in
      let region : view z.region ≡ node_region (node_at a.ceilings v) =
      ap (λ (y : NodeRegion). view y.region) own ∙ view-pack (node_region (node_at a.ceilings v)) (node-region-well-formed a.ceilings some few v) in
      record {
        corner = record {
          valid = around.valid;
          timers-are = around.timers-are;
          place = record {
            well-formed = around.valid.well_formed;
            cell = around.cell;
            in-modes = rw around.mode-is (node_at-node a v (omega (arith, h.is-space.nodes-are))).mode;
          };
          indexed = λ j k.
              omega (arith, ap (λ (l : List ℕ). get_or l j 0) around.indexed, get_or-count_from 0 (suc (top (view z.region))) j 0 (omega arith));
          first-is = around.first-is;
          inside = around.inside;
        };
        own = around.own;
        place_is = ap₂ (λ (m : ℕ) (r : PricedRegion). record { mode = m; region = r }) around.mode-is region;
        mode-is = around.mode-is;
      }
