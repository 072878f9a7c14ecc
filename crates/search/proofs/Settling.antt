-- The graph of a table's corners as a search goes through it: what its trait asks, by the structs of the code.
-- Assumes nothing.
use mathlib.Core.Path.{◌≡◌, refl, sym, subst, ◌∙◌}
use mathlib.Core.Logic.{◌≢◌, ◌↔◌, ◌⊎◌, inl, inr}
use mathlib.Core.Bool.{true, false, true≢false}
use mathlib.Core.List.{List}
use Prim.Native.Nat.{ℕ, ◌+◌, ◌<◌}
use native.Mathlib.Decide.{dec_lt}
use native.Mathlib.Omega.{arith}
use Rattle.semantics.specs.Graph.Path.{Edge, Target}
use Rattle.semantics.specs.Answers.Modes.{graph-goal}
use Rattle.table.specs.Held.{automaton_of}
use Rattle.regions.specs.declared.nodes.NodeRegion.{NodeRegion}
use Rattle.queue.specs.Laws.Lows.{lows-charge, lows-steps}
use Rattle.space.specs.declared.Space.{Space}
use Rattle.space.specs.Space.{graph_of, Setting}
use Rattle.space.specs.Laws.NodeRegion.{CornerAt}
use Rattle.near.specs.declared.Cost.{Cost as CostHeld}
use Rattle.search.specs.declared.edges.Source.{Source}
use Rattle.search.specs.Exploring.{InHand, Relaxes}
use Rattle.search.specs.Searches.{VisitReady, AnyEdge, Visited}
use Rattle.search.specs.Laws.Searchable.{size}
use Rattle.search.specs.Edges.{IsMove, IsWait, IsAny, rooted_of, Holding, EdgesReady, EdgesDone}
use Rattle.search.specs.Laws.FirstNode.{first-hand}

-- The struct that is made of a region and its cost.
abbrev pub source_of : NodeRegion → CostHeld → Source
source_of z c = record { at = z; charge = c.charge; steps = c.steps + 1 }

-- The node is next, and its region is known.
module _ {t rs : List ℕ} {s : Space} (set : Setting t rs s) (goal : ℕ) {node : ℕ} {c : CostHeld} {ws : List ℕ} (k : VisitReady (rooted_of t goal) node c ws) where
  pub there : node < s.nodes
  there = omega (arith, k.there, size set goal)

  pub steps-few : c.steps < 65536
  steps-few = omega (arith, k.steps-are)

  module _ {z : NodeRegion} (corner : CornerAt t node z) where
    pub is-target : (z.mode ≡ goal) ↔ Target (graph_of t goal) node
    is-target =
        let by = graph-goal (automaton_of t) goal node in
        (λ q. by.1 (sym corner.mode-is ∙ q), λ x. corner.mode-is ∙ by.0 x)

    -- It is not of the goal: its edges are in hand.
    module _ (away : z.mode ≢ goal) where
      hand : InHand (rooted_of t goal) s.nodes node ws
      hand =
          subst (λ (n : ℕ). InHand (rooted_of t goal) n node ws) (sym (size set goal))
          (first-hand k.between node k.there k.first (λ x. away (is-target.1 x)))

      holding : Holding t s (source_of z c) ws goal
      holding = record {
        hand = rw corner.own hand;
        charge-is = rw corner.own (k.charge-is ∙ sym (lows-charge s.nodes ws node));
        steps-are = rw corner.own (omega (arith, k.steps-are, lows-steps s.nodes ws node there));
      }

      pub edges-ready : EdgesReady t rs s (source_of z c) ws
      edges-ready = record { setting = set; corner = corner.corner; goal = goal; holding = holding }

      -- They were relaxed.
      pub edges-visited : {ws' : List ℕ} → EdgesDone IsAny t s (source_of z c) ws ws' → Relaxes (rooted_of t goal) (graph_of t goal).nodes node AnyEdge ws ws'
      edges-visited {ws'} edges =
          subst (λ (n : ℕ). Relaxes (rooted_of t goal) n node AnyEdge ws ws') (size set goal)
          (relaxes-all any (rw corner.own at (edges goal holding)))
        where
          any : (e : Edge) → IsAny e
          any e = at (dec_lt e.label 64)
            where
              at : Dec (e.label < 64) → IsWait e ⊎ IsMove e
              at (yes h) = inr h
              at (no h) = inl (omega arith)

          relaxes-all : ((e : Edge) → IsAny e) → Relaxes (rooted_of t goal) s.nodes node IsAny ws ws' → Relaxes (rooted_of t goal) s.nodes node AnyEdge ws ws'
          relaxes-all all x = record {
            hand = x.hand;
            same = x.same;
            low = x.low;
            edges = λ e l f. x.edges e l (all e);
            unsettled = x.unsettled;
            rest = x.rest;
            kept = x.kept;
          }

      pub visited-node : {ws' : List ℕ} → EdgesDone IsAny t s (source_of z c) ws ws' → Visited (rooted_of t goal) node ws ws' false
      visited-node edges = record {
        target = (λ q. absurd (true≢false (sym q)), λ x. absurd (away (is-target.1 x)));
        same = λ q. absurd (true≢false (sym q));
        relaxed = λ q. edges-visited edges;
      }

    -- It is: the search ends here.
    pub visited-target : z.mode ≡ goal → Visited (rooted_of t goal) node ws ws true
    visited-target is = record { target = (λ q. is-target.0 is, λ x. refl); same = λ q. refl; relaxed = λ q. absurd (true≢false q) }
