-- Chains as a system over the corner graph: the states are the places, a label is a step byte, and the corners of a place are nodes with
-- their prices. It follows the edges of the graph from every place that a chain reaches, so the theory of routes (Paths) goes for chains.
-- Assumes nothing.
use Rattle.std.specs.Prelude.{◌≡◌, ◌↔◌, ℕ, ◌<◌, length, get_or}
use Rattle.std.proofs.Math.Path.{refl}
use Rattle.std.proofs.Common.{ap, ◌∙◌, sym, subst, arith, eqb-true, eq-eqb}
use mathlib.Core.List.{List, Memᴰ}
use Rattle.std.proofs.Math.Option.{some}
use Rattle.semantics.specs.Automata.Proper.{Proper}
use Rattle.semantics.specs.Automaton.{Automaton}
use Rattle.semantics.specs.Region.{start}
use Rattle.semantics.specs.Graph.Path.{Edge, Leaves, Target}
use Rattle.semantics.specs.NodeCount.{node_count}
use Rattle.semantics.specs.Chain.{Place, step, begin}
use Rattle.semantics.specs.Graph.CornerGraph.{number_of, start_node, numbered, corner_graph}
use Rattle.semantics.specs.Corners.Lists.{mem-get_or, mem-place}
use Rattle.semantics.specs.Bounds.Prices.{price}
use Rattle.semantics.proofs.Bounds.Steps.{step-view}
use Rattle.semantics.proofs.Bounds.Reached.{Reached, reached-begin, reached-step}
use Rattle.semantics.proofs.Bounds.Flow.{step-flow}
use Rattle.semantics.specs.Paths.System.{System, Predecessor, Successor, Follows}
use Rattle.semantics.specs.Paths.Start.{StartsAt}
use Rattle.semantics.specs.Paths.Greedy.{LabelsBelow}
use Rattle.semantics.specs.Answers.Places.{corner-top}
use Rattle.semantics.proofs.Answers.Places.{reached-place, number-below}
use Rattle.semantics.proofs.Answers.Graph.{label-below, step-listed, listed-step, graph-edges, graph-target}

-- The places and their steps, with the number and the price of each corner.
abbrev pub chains : Automaton → System
chains a = record {
  State = Place;
  step = step a;
  corners = λ p. length p.region.prices;
  node = number_of a;
  price = λ p j. price p.region j;
}

-- A price in the list is the price of a corner.
pub price-corner : (cs : List ℕ) (C : ℕ) → Memᴰ C cs ↔ ((j : ℕ) × (j < length cs) × (get_or cs j 0 ≡ C))
price-corner cs C = (
  λ m. let o = mem-place cs C m in (o.0, o.1, o.2 0),
  λ o. subst (λ (c : ℕ). Memᴰ c cs) o.2 (mem-get_or cs o.0 0 o.1),
)

module _ (a : Automaton) (ok : Proper a) where
  -- An allowed step leads from a place that is reached to one that is.
  pub reached-next : (p p' : Place) (byte : ℕ) → Reached a p → step a byte p ≡ some p' → Reached a p'
  reached-next p p' byte h f = reached-step a ok byte p p' h (step-view a p p' byte f)

  module _ (l : ℕ) where
    predecessor :
        (p p' : Place) (byte i : ℕ) → Reached a p → step a byte p ≡ some p' → i < length p'.region.prices
        → Predecessor (corner_graph a l) (chains a) p byte p' i
    predecessor p p' byte i h f b =
        let i' = (corner-top p'.region (reached-next p p' byte h f).well-formed i).0 b in
        let c = (step-flow a ok p h.well-formed h.sized (step-view a p p' byte f)).attained i i' in
        let j = (corner-top p.region h.well-formed c.from).1 c.there in
        record {
          corner = c.from;
          among = j;
          edge = numbered a byte p' c.edge;
          leaves = rw (graph-edges a l p (reached-place a p h) c.from j) (step-listed a p c.from byte p' f c.edge c.listed);
          labelled = refl;
          leads = ap (number_of a p') c.leads;
          priced = c.sum;
        }

    successor :
        (p : Place) (j : ℕ) (e : Edge) → Reached a p → j < length p.region.prices → Leaves (corner_graph a l) (number_of a p j) e
        → Successor (corner_graph a l) (chains a) p j e
    successor p j e h b m =
        let d = listed-step a p j e (rw (graph-edges a l p (reached-place a p h) j b) at m) in
        let j' = (corner-top p.region h.well-formed j).0 b in
        let o = (step-flow a ok p h.well-formed h.sized (step-view a p d.next e.label d.step)).least j j' d.edge d.listed in
        record {
          next = d.next;
          step = d.step;
          corner = d.edge.corner;
          among = (corner-top d.next.region (reached-next p d.next e.label h d.step).well-formed d.edge.corner).1 o.there;
          leads = sym (ap (λ (k : Edge). k.to) d.is);
          priced = omega (arith, o.least, ap (λ (k : Edge). k.weight) d.is);
        }

    -- The laws of a system over a graph.
    pub chains-follow : Follows (corner_graph a l) (chains a) (Reached a)
    unfolding corner_graph
    chains-follow = record {
      valid = reached-next;
      inside = λ p j h b. number-below a p (reached-place a p h) j b;
      predecessor = predecessor;
      successor = successor;
    }

    -- A corner of a place is a target exactly if the place's mode is l.
    pub target-mode :
        (p : Place) → Reached a p → (j : ℕ) → j < length p.region.prices → Target (corner_graph a l) (number_of a p j) ↔ (p.mode ≡ l)
    target-mode p h j b =
        let e = graph-target a l p (reached-place a p h) j b in
        (λ t. eqb-true p.mode l (sym e ∙ t), λ m. e ∙ eq-eqb p.mode l m)

  -- Every chain begins at one corner, at the price 0.
  pub begin-starts : StartsAt (chains a) (begin a) (start_node a)
  unfolding start
  begin-starts = record { single = refl; node = refl; free = refl }

  pub begin-inside : start_node a < node_count a
  begin-inside =
      let h = reached-begin a ok in
      number-below a (begin a) (reached-place a (begin a) h) 0 h.well-formed.priced

  -- The step bytes are below 66.
  pub bytes_below : LabelsBelow (chains a) (Reached a) 66
  bytes_below p p' byte h f = label-below a p byte p' f
