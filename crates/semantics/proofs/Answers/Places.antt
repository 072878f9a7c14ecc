-- Places whose corners are nodes. Every place on a chain is one, every node is a corner of one, and steps lead from one to another.
-- Assumes nothing.
use Rattle.std.specs.Prelude.{◌≡◌, Bool, List, ℕ, suc, ◌<◌, length, replicate}
use Rattle.std.proofs.Math.Path.{refl}
use Rattle.std.proofs.Common.{sym, ap, ◌∙◌, arith}
use Rattle.std.proofs.Math.Bool.{true, false}
use Rattle.std.proofs.Math.ListN.{get_or}
use Rattle.std.proofs.lemmas.List.{length-replicate}
use Rattle.semantics.specs.Automata.Proper.{Proper}
use Rattle.semantics.specs.Automaton.{Automaton, timers, move_at}
use Rattle.semantics.specs.Region.{PricedRegion, WellFormed, charge}
use Rattle.semantics.specs.Run.{among}
use Rattle.semantics.specs.NodeCount.{factor, node_count}
use Rattle.semantics.specs.Nodes.Node.{Node, node_of, IsCell, IsNode, node_at}
use Rattle.semantics.specs.Chain.{Place}
use Rattle.semantics.specs.Corners.Edges.{SamePlace}
use Rattle.semantics.specs.Graph.CornerGraph.{highest, node_place, number_of}
use Rattle.semantics.specs.Regions.Lengths.{leave-timers, arrive-timers}
use Rattle.semantics.proofs.Regions.WellFormed.{leave-well-formed, arrive-well-formed}
use Rattle.semantics.specs.Corners.Lists.{mem-get_or}
use Rattle.semantics.specs.Corners.Complete.{corner-listed, IsCorner, corners-sound}
use Rattle.semantics.proofs.Nodes.Number.{node_number-below, node_at-number}
use Rattle.semantics.proofs.Nodes.Regions.{within-cell}
use Rattle.semantics.specs.Bounds.Steps.{rate_at}
use Rattle.semantics.proofs.Bounds.Steps.{moved_by, Stepped, leaves, arrives, lingers, idles, moves}
use Rattle.semantics.proofs.Bounds.Shapes.{shape-linger, shape-well-formed}
use Rattle.semantics.proofs.Bounds.Moved.{moved-well-formed, moved-sized, moved-to}
use Rattle.semantics.proofs.Bounds.Reached.{Reached}
use Rattle.semantics.specs.Answers.Places.{IsPlace, highest-prices}

module _ (a : Automaton) where
  pub reached-place : (p : Place) → Reached a p → IsPlace a p
  reached-place p h = record {
    well-formed = h.well-formed;
    cell = within-cell p.region h.well-formed a.ceilings h.sized h.admits.ceilings;
    in-modes = h.in-modes;
  }

  module _ (p : Place) (h : IsPlace a p) (j : ℕ) (b : j < length p.region.prices) where
    -- Its corners are nodes.
    pub corner-node : IsNode a (node_of p.mode p.region j)
    corner-node = record {
      mode = h.in-modes;
      cell = h.cell;
      corner = rw h.cell.sized at (corner-listed p.region h.well-formed j b);
    }

    pub number-below : number_of a p j < node_count a
    number-below = node_number-below a (node_of p.mode p.region j) corner-node

    pub number-node : node_at a.ceilings (number_of a p j) ≡ node_of p.mode p.region j
    number-node = node_at-number a (node_of p.mode p.region j) corner-node

    -- The place of the node differs from p at most in what its prices are.
    pub node-same : SamePlace (node_place (node_of p.mode p.region j)) p
    node-same = record {
      mode = refl;
      region = record {
        whole = refl;
        group = refl;
        corners = length-replicate (suc (highest p.region.group)) 0 ∙ highest-prices p.region h.well-formed;
      };
    }

  -- Places go by their shape.
  pub place-alike : (p s : Place) → SamePlace p s → IsPlace a p → IsPlace a s
  place-alike p s e h = record {
    well-formed = shape-well-formed _ _ e.region h.well-formed;
    cell = rw (← e.region.whole) h.cell;
    in-modes = rw (← e.mode) h.in-modes;
  }

  -- Places with the same first node have one shape.
  pub number-shape : (p s : Place) → IsPlace a p → IsPlace a s → number_of a p 0 ≡ number_of a s 0 → SamePlace p s
  number-shape p s h k e =
      let x = number-node p h 0 h.well-formed.priced in
      let y = number-node s k 0 k.well-formed.priced in
      let n : node_of p.mode p.region 0 ≡ node_of s.mode s.region 0 = sym x ∙ ap (node_at a.ceilings) e ∙ y in
      let group = ap (λ (u : Node). u.corner.group) n in
      record {
        mode = ap (λ (u : Node). u.mode) n;
        region = record {
          whole = ap (λ (u : Node). u.whole) n;
          group = group;
          corners =
              sym (highest-prices p.region h.well-formed) ∙ ap (λ (gs : List ℕ). suc (highest gs)) group
              ∙ highest-prices s.region k.well-formed;
        };
      }

  -- Every node is a corner of its place.
  module _ (ok : Proper a) (x : Node) (n : IsNode a x) where
    node-corner : IsCorner (timers a) x.corner
    node-corner = corners-sound (timers a) x.corner ok.some-timer n.corner

    node-prices : length (node_place x).region.prices ≡ node-corner.prices
    node-prices =
        let r : PricedRegion = record { whole = x.whole; group = x.corner.group; prices = replicate node-corner.prices 0 } in
        let w = node-corner.well-formed r n.cell.sized refl (length-replicate node-corner.prices 0) in
        length-replicate (suc (highest x.corner.group)) 0 ∙ highest-prices r w ∙ length-replicate node-corner.prices 0

    pub node-is-place : IsPlace a (node_place x)
    node-is-place = record {
      well-formed = node-corner.well-formed (node_place x).region n.cell.sized refl node-prices;
      cell = n.cell;
      in-modes = n.mode;
    }

    pub node-index : x.corner.index < length (node_place x).region.prices
    node-index = rw node-prices node-corner.inside

  module _ (ok : Proper a) where
    -- Resets lower whole parts to 0 and keep the others.
    pub moved-cell : (e : ℕ) (r : PricedRegion) → WellFormed r → IsCell a.ceilings r.whole → IsCell a.ceilings (moved_by a e r).whole
    unfolding charge
    moved-cell e r w c = record { sized = moved-sized a ok e r w c.sized; below = λ t h. below t h (among t (move_at a e).resets) refl }
      where
        below :
            (t : ℕ) → t < timers a → (b : Bool) → among t (move_at a e).resets ≡ b
            → get_or (moved_by a e r).whole t 0 < factor (get_or a.ceilings t 0)
        below t h true b = omega (arith, (moved-to a ok e r w c.sized).zero-whole t (omega (arith, c.sized)) b)
        below t h false b = omega (arith, (moved-to a ok e r w c.sized).same_whole t (omega (arith, c.sized)) b, c.below t h)

    -- An allowed step leads from such a place to such a place.
    pub place-step : {byte : ℕ} (p : Place) {p' : Place} → IsPlace a p → Stepped a p byte p' → IsPlace a p'
    place-step p h (leaves z t) =
        let w = leave-well-formed p.region h.well-formed (rate_at a p) z in
        record {
          well-formed = w;
          cell = within-cell _ w a.ceilings ((leave-timers p.region _).whole ∙ h.cell.sized) t.ceilings;
          in-modes = h.in-modes;
        }
    place-step p h (arrives z t) =
        let w = arrive-well-formed p.region h.well-formed z in
        record {
          well-formed = w;
          cell = within-cell _ w a.ceilings ((arrive-timers p.region).whole ∙ h.cell.sized) t.ceilings;
          in-modes = h.in-modes;
        }
    place-step p h (lingers z) = record {
      well-formed = shape-well-formed _ _ (shape-linger (rate_at a p) p.region) h.well-formed;
      cell = h.cell;
      in-modes = h.in-modes;
    }
    place-step p h (idles z) = h
    place-step p h (moves e b i o g m) = record {
      well-formed = moved-well-formed a ok e p.region h.well-formed h.cell.sized;
      cell = moved-cell e p.region h.well-formed h.cell;
      in-modes = ok.target-there (move_at a e) (mem-get_or a.moves e _ i);
    }
