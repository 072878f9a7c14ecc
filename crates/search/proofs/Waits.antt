-- Linger and then delay from the node in hand: the tests of the code are those of the step, and after both its edges of waiting are relaxed.
-- Assumes nothing.
use mathlib.Core.Path.{◌≡◌, refl, ap, ◌∙◌}
use mathlib.Core.Bool.{Bool, true, false}
use mathlib.Core.Logic.{◌↔◌, ◌⊎◌, inl, inr, ⊎_elim}
use mathlib.Core.List.{List}
use Prim.Native.Nat.{ℕ}
use native.Mathlib.Omega.{arith}
use borrow.Author.Tests.{lt-ltb, le-ltb}
use lib.Dec.{ltb}
use lib.ListN.{take}
use Rattle.semantics.specs.Automaton.{mode_at}
use Rattle.semantics.specs.Region.{top, no_zero, delay, within, meets_all}
use Rattle.semantics.specs.Nodes.Node.{node_of, node_number}
use Rattle.semantics.specs.Graph.Path.{Edge, Leaves}
use Rattle.semantics.specs.Answers.Waiting.{delayed_to}
use Rattle.semantics.proofs.Answers.WaitingNodes.{wait-label}
use Rattle.table.specs.Held.{automaton_of}
use Rattle.rules.specs.Rules.{InRow}
use Rattle.regions.specs.declared.Region.{Region}
use Rattle.regions.specs.declared.nodes.NodeRegion.{NodeRegion}
use Rattle.regions.specs.Held.{pack, view}
use Rattle.space.specs.declared.Space.{Space}
use Rattle.space.specs.Space.{graph_of, place_at}
use Rattle.space.proofs.Settings.{halves_of, corner-leaves}
use Rattle.space.proofs.Delayed.{delayed-seen, delayed-fewer, delayed-allowed, delayed-number}
use Rattle.space.proofs.WaitEdges.{keep-top, delay-allowed}
use Rattle.search.specs.declared.edges.Source.{Source}
use Rattle.search.specs.Exploring.{relaxes-then}
use Rattle.search.specs.Edges.{IsWait, node_in, Short, EdgesReady, EdgesDone}
use Rattle.search.specs.Waits.{IsDelay, IsLinger, WaitReady, WaitDone, DelayReady}
use Rattle.search.proofs.Offers.{hold-again}
use Rattle.search.proofs.WaitRelaxing.{relaxes-fewer, wait-again}

-- What the code finds at first: the region after a delay, its highest group and that of the region before, and the rate.
pub record Looked (t : List ℕ) (z : NodeRegion) (delayed : Region) (new old rate : ℕ) : Type 0 where
  pub is : delayed ≡ pack (delay 0 (view z.region))
  pub new_is : new ≡ top (view delayed)
  pub old-is : old ≡ top (view z.region)
  pub rate-is : rate ≡ (mode_at (automaton_of t) z.mode).rate

module _ {t rs : List ℕ} {s : Space} {x : Source} {ws : List ℕ} (r : EdgesReady t rs s x ws) (short : Short s x) {delayed : Region} {new old rate : ℕ}
    (k : Looked t x.at delayed new old rate) where
  -- A corner is taken away just if r0 is empty.
  empty-is : ltb new old ≡ no_zero (view x.at.region)
  empty-is = go (no_zero (view x.at.region)) refl
    where
      go : (b : Bool) → no_zero (view x.at.region) ≡ b → ltb new old ≡ b
      go true e = lt-ltb new old (omega (arith, k.new_is, k.old-is, (delayed-fewer r.setting r.corner delayed k.is).0 e))
      go false e =
          let rose = keep-top (view x.at.region) r.corner.place.well-formed r.corner.indexed e in
          le-ltb new old (omega (arith, k.new_is, k.old-is, ap top (delayed-seen r.setting r.corner delayed k.is), rose))

  pub waits-ready : WaitReady s.nodes x (ltb new old) rate ws
  waits-ready = record { table = t; rules = rs; space = s; edges = r; short = short; nodes-are = refl; empty-is = empty-is; rate-is = k.rate-is }

  -- After linger there is delay.
  module _ {ws' : List ℕ} (lingered : (w : WaitReady s.nodes x (ltb new old) rate ws) → WaitDone IsLinger w ws') where
    one : EdgesDone IsLinger t s x ws ws'
    unfolding waits-ready
    one = lingered waits-ready

    label : (goal : ℕ) (e : Edge) → Leaves (graph_of t goal) (node_in x) e → IsWait e → IsDelay e ⊎ IsLinger e
    label goal e l w =
        wait-label (automaton_of t) goal (place_at x.at) r.corner.place x.at.index r.corner.inside e (corner-leaves r.corner goal e l) w

    -- Where it is not allowed there is nothing more to do.
    waits-none : ((goal : ℕ) (e : Edge) → Leaves (graph_of t goal) (node_in x) e → IsDelay e → ⊥) → EdgesDone IsWait t s x ws ws'
    waits-none none goal h =
        relaxes-fewer IsWait (one goal h) (λ e l w. ⊎_elim (λ q. absurd (none goal e l q)) (λ q. q) (label goal e l w))

    -- Where its timers stand after it says whether it is.
    module _ {hs : List ℕ} (are : hs ≡ halves_of (view delayed)) where
      window :
          InRow rs x.at.mode hs
          ↔ ((meets_all (mode_at (automaton_of t) x.at.mode).conditions (delayed_to (place_at x.at)).region ≡ true)
          × (within (automaton_of t).ceilings (delayed_to (place_at x.at)).region ≡ true))
      window = delayed-allowed r.setting r.corner delayed k.is hs are

      pub waits-unmet : (InRow rs x.at.mode hs → ⊥) → EdgesDone IsWait t s x ws ws'
      waits-unmet unmet =
          waits-none
          (λ goal e l q.
          let allowed = delay-allowed r.corner goal e l q in
          unmet (window.1 (allowed.conditions, allowed.ceilings)))

      -- Where it is, it follows.
      module _ (met : InRow rs x.at.mode hs) (to : ℕ)
          (to_is : to ≡ node_number (take delayed.timers s.ceilings) (node_of x.at.mode (view delayed) 0)) where
        pub delays-ready : DelayReady s.nodes x to (ltb new old) rate ws'
        unfolding waits-ready
        delays-ready = record {
          wait = wait-again waits-ready (hold-again r.holding (one r.goal r.holding));
          conditions = (window.0 met).0;
          ceilings = (window.0 met).1;
          to_is = to_is ∙ delayed-number r.setting r.corner delayed k.is;
        }

        pub waits-done :
            {ws'' : List ℕ}
            → ((d : DelayReady s.nodes x to (ltb new old) rate ws') → WaitDone IsDelay d.wait ws'')
            → EdgesDone IsWait t s x ws ws''
        unfolding delays-ready waits-ready
        waits-done delays goal held =
            let kept = one goal held in
            relaxes-then IsWait kept (delays delays-ready goal (hold-again held kept)) (λ e l w. ⊎_elim (λ q. inr q) (λ q. inl q) (label goal e l w))
