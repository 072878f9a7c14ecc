-- The graph of a table's states as a search goes through it: what its trait asks, by the structs of the code.
-- Assumes nothing.
use mathlib.Core.Path.{◌≡◌, refl, sym, subst, ◌∙◌}
use mathlib.Core.Bool.{true, false, true≢false}
use mathlib.Core.Logic.{◌≢◌, ◌↔◌}
use mathlib.Core.List.{List}
use Prim.Native.Nat.{ℕ, ◌+◌, ◌/◌, ◌<◌}
use native.Mathlib.Omega.{arith}
use borrow.Author.Tests.{eqb-true, eq-eqb}
use Rattle.semantics.specs.NodeCount.{cell_count}
use Rattle.semantics.specs.Graph.Path.{Target}
use Rattle.semantics.specs.Graph.MinuteGraph.{minute_graph}
use Rattle.table.specs.Held.{automaton_of}
use Rattle.queue.specs.Laws.Lows.{lows-charge, lows-steps}
use Rattle.near.specs.declared.Cost.{Cost as CostHeld}
use Rattle.search.specs.Exploring.{InHand, Relaxes}
use Rattle.search.specs.Laws.FirstNode.{first-hand}
use Rattle.search.specs.Searches.{VisitReady, AnyEdge, Visited}
use Rattle.states.specs.declared.States.{States}
use Rattle.states.specs.declared.State.{State as StateHeld}
use Rattle.states.specs.States.{StandsAt}
use Rattle.minutes.specs.declared.waits.Source.{Source}
use Rattle.minutes.specs.Edges.{Setting, graph_of, rooted_of, state_of, AnyPair, Standing, PairsReady, PairsDone}
use Rattle.minutes.specs.Laws.Searchable.{size}

-- The targets are the states of the goal.
target-mode : (t : List ℕ) (goal v : ℕ) → Target (graph_of t goal) v ↔ ((state_of t v).mode ≡ goal)
unfolding minute_graph
target-mode t goal v =
    let m = v / cell_count (automaton_of t).ceilings in
    (λ q. eqb-true m goal q, λ q. eq-eqb m goal q)

-- The struct that is made of a state and its cost.
abbrev pub source_of : StateHeld → CostHeld → Source
source_of x c = record { at = x; charge = c.charge; pairs = c.steps + 1 }

-- The node is next, and its state is known.
module _ {t rs : List ℕ} {s : States} (set : Setting t rs s) (goal : ℕ) {node : ℕ} {c : CostHeld} {ws : List ℕ} (k : VisitReady (rooted_of t goal) node c ws) where
  there : node < s.count
  there = omega (arith, k.there, size set goal)

  module _ {x : StateHeld} (stands : StandsAt (automaton_of t) (state_of t node) x) where
    is-target : (x.mode ≡ goal) ↔ Target (graph_of t goal) node
    is-target =
        let by = target-mode t goal node in
        (λ q. by.1 (sym stands.mode-is ∙ q), λ q. stands.mode-is ∙ by.0 q)

    pub target-visited : x.mode ≡ goal → Visited (rooted_of t goal) node ws ws true
    target-visited is = record {
      target = (λ q. is-target.0 is, λ q. refl);
      same = λ q. refl;
      relaxed = λ q. absurd (true≢false q);
    }

    -- It is not of the goal: its edges are in hand.
    module _ (away : x.mode ≢ goal) where
      standing : Standing t s (source_of x c) ws goal node
      standing = record {
        hand = subst (λ (n : ℕ). InHand (rooted_of t goal) n node ws) (sym (size set goal))
            (first-hand k.between node k.there k.first (λ q. away (is-target.1 q)));
        stands = stands;
        charge-is = k.charge-is ∙ sym (lows-charge s.count ws node);
        pairs-are = omega (arith, k.steps-are, lows-steps s.count ws node there);
      }

      pub pairs-ready : PairsReady t s (source_of x c) ws
      pairs-ready = record { goal = goal; node = node; standing = standing }

      -- They were relaxed.
      pub pairs-visited : {ws' : List ℕ} → PairsDone AnyPair t s (source_of x c) ws ws' → Visited (rooted_of t goal) node ws ws' false
      pairs-visited {ws'} done = record {
        target = (λ q. absurd (true≢false (sym q)), λ q. absurd (away (is-target.1 q)));
        same = λ q. absurd (true≢false (sym q));
        relaxed = λ q. subst (λ (n : ℕ). Relaxes (rooted_of t goal) n node AnyEdge ws ws') (size set goal) (done goal node standing);
      }
