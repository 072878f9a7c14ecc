-- The offers of the edges of linger and of delay: they can be made, and after them these edges are relaxed.
-- Assumes nothing.
use mathlib.Core.Path.{◌≡◌, sym, ap, ◌∙◌}
use mathlib.Core.Bool.{Bool, true, false}
use mathlib.Core.Logic.{◌⊎◌, inl, inr, ◌≢◌, ⊎_elim}
use mathlib.Core.List.{List}
use Prim.Native.Nat.{ℕ, ◌+◌, ◌-◌, ◌<◌}
use native.Mathlib.Omega.{arith}
use Rattle.semantics.specs.Automata.Proper.{Proper}
use Rattle.semantics.specs.Region.{top, no_zero}
use Rattle.semantics.specs.Chain.{Place}
use Rattle.semantics.specs.Graph.Path.{Edge, Leaves, infinity}
use Rattle.semantics.specs.Graph.Near.{turn, turned}
use Rattle.semantics.specs.Bounds.Steps.{rate_at}
use Rattle.semantics.specs.Paths.Lower.{relaxed-loop}
use Rattle.table.specs.Held.{automaton_of}
use Rattle.regions.specs.Held.{view}
use Rattle.queue.specs.Queue.{RelaxReady, RelaxDone}
use Rattle.space.specs.Space.{graph_of, place_at, IsCorner}
use Rattle.space.proofs.Settings.{setting-proper}
use Rattle.space.proofs.WaitEdges.{linger_edge, linger-leaves, linger-cases, delay_edge, drop-leaves, drop-edges, keep-leaves, keep-edges, new-leaves}
use Rattle.search.specs.declared.edges.Source.{Source}
use Rattle.search.specs.Exploring.{costs_in, Rooted, InHand, Relaxes, relaxes-already, relaxes-none, relaxes-then}
use Rattle.search.specs.Edges.{node_in, Holding}
use Rattle.search.specs.Waits.{IsDelay, IsLinger, WaitReady, WaitDone, DelayReady}
use Rattle.search.proofs.Offers.{edge-sum, edge-ready, edge-relaxes, hold-again}

-- Edges that lead to the node itself are relaxed from the first.
relaxes-loops :
    {r : Rooted} {nodes u : ℕ} {ws : List ℕ} (h : InHand r nodes u ws) (Fits : Edge → Type 0)
    → ((e : Edge) → Leaves r.graph u e → Fits e → e.to ≡ u) → Relaxes r nodes u Fits ws ws
relaxes-loops {r} {nodes} {u} {ws} h Fits loops =
    relaxes-already h Fits (λ e l f. relaxed-loop (turned r.graph r.start) (costs_in nodes ws) e.to (turn u e) (sym (loops e l f)))

-- What was done for more edges than asked.
pub relaxes-fewer :
    {r : Rooted} {nodes u : ℕ} {P : Edge → Type 0} {ws ws' : List ℕ} (Fits : Edge → Type 0) → Relaxes r nodes u P ws ws'
    → ((e : Edge) → Leaves r.graph u e → Fits e → P e) → Relaxes r nodes u Fits ws ws'
relaxes-fewer Fits p fewer =
    record {
      hand = p.hand;
      same = p.same;
      low = p.low;
      edges = λ e l f. p.edges e l (fewer e l f);
      unsettled = p.unsettled;
      rest = p.rest;
      kept = p.kept;
    }

module _ {nodes : ℕ} {x : Source} {empty : Bool} {rate : ℕ} {ws : List ℕ} (w : WaitReady nodes x empty rate ws) where
  corner : IsCorner w.table x.at
  corner = w.edges.corner

  -- The node is still in hand when the words have changed.
  abbrev pub wait-again : {ws' : List ℕ} → Holding w.table w.space x ws' w.edges.goal → WaitReady nodes x empty rate ws'
  wait-again holding = record {
    table = w.table;
    rules = w.rules;
    space = w.space;
    edges = record { setting = w.edges.setting; corner = w.edges.corner; goal = w.edges.goal; holding = holding };
    short = w.short;
    nodes-are = w.nodes-are;
    empty-is = w.empty-is;
    rate-is = w.rate-is;
  }

  -- An edge of the node, for every goal.
  wait-ready :
      (e : Edge) → ((goal : ℕ) → Leaves (graph_of w.table goal) (node_in x) e) → (charge : ℕ) → charge ≡ e.weight + x.charge
      → RelaxReady nodes e.to charge x.steps ws
  wait-ready e leaves charge charged =
      rw (w.nodes-are, charged)
      (edge-ready w.edges.setting w.edges.goal w.edges.holding e (leaves w.edges.goal) w.short)

  wait-sum :
      (e : Edge) → ((goal : ℕ) → Leaves (graph_of w.table goal) (node_in x) e) → (charge : ℕ) → charge ≡ e.weight + x.charge → charge < infinity
  wait-sum e leaves charge charged =
      rw charged (edge-sum w.edges.setting w.edges.goal w.edges.holding e (leaves w.edges.goal))

  wait-relaxes :
      (e : Edge) → ((goal : ℕ) → Leaves (graph_of w.table goal) (node_in x) e) → (charge : ℕ) → charge ≡ e.weight + x.charge
      → {ws' : List ℕ} → RelaxDone nodes e.to charge x.steps ws ws' → WaitDone (λ y. y ≡ e) w ws'
  wait-relaxes e leaves charge charged {ws'} done goal h =
      edge-relaxes w.edges.setting goal h e (leaves goal) w.short ws' (rw (w.nodes-are, charged) at done)

  -- Linger, where there is its edge.
  module _ (yes : empty ≡ true) (first : x.at.index ≡ 0) (last : ℕ) (last-is : last ≡ top (view x.at.region)) where
    leaves : (goal : ℕ) → Leaves (graph_of w.table goal) (node_in x) (linger_edge corner)
    leaves goal = linger-leaves corner goal (sym w.empty-is ∙ yes) first

    charged : rate + x.charge ≡ rate_at (automaton_of w.table) (place_at x.at) + x.charge
    charged = ap (λ (n : ℕ). n + x.charge) w.rate-is

    pub linger-ready : RelaxReady nodes (x.at.first + last) (rate + x.charge) x.steps ws
    linger-ready = rw last-is (wait-ready (linger_edge corner) leaves (rate + x.charge) charged)

    pub linger-sum : rate + x.charge < infinity
    linger-sum = wait-sum (linger_edge corner) leaves (rate + x.charge) charged

    pub linger-done :
        {ws' : List ℕ} → RelaxDone nodes (x.at.first + last) (rate + x.charge) x.steps ws ws' → WaitDone IsLinger w ws'
    linger-done {ws'} done goal h =
        let one = wait-relaxes (linger_edge corner) leaves (rate + x.charge) charged (rw last-is at done) goal h in
        let loops = relaxes-loops one.hand (λ e. e.to ≡ node_in x) (λ e l f. f) in
        relaxes-then IsLinger one loops (λ e l q. ⊎_elim (λ f. inr f) (λ f. inl f.2) (linger-cases corner goal e l q))

  -- Where there is not.
  pub linger-none : (empty ≡ true → x.at.index ≡ 0 → ⊥) → WaitDone IsLinger w ws
  linger-none none goal h =
      relaxes-loops h.hand IsLinger
      (λ e l q. ⊎_elim (λ f. f) (λ f. absurd (none (w.empty-is ∙ f.0) f.1)) (linger-cases corner goal e l q))

-- A delay that is allowed.
module _ {nodes : ℕ} {x : Source} {to : ℕ} {empty : Bool} {rate : ℕ} {ws : List ℕ} (d : DelayReady nodes x to empty rate ws) where
  abbrev t : List ℕ
  t = d.wait.table

  abbrev p : Place
  p = place_at x.at

  cornered : IsCorner t x.at
  cornered = d.wait.edges.corner

  ok : Proper (automaton_of t)
  ok = setting-proper d.wait.edges.setting

  -- Where r0 is empty.
  module _ (yes : empty ≡ true) where
    is-empty : no_zero (view x.at.region) ≡ true
    is-empty = sym d.wait.empty-is ∙ yes

    abbrev drops : Edge
    drops = delay_edge cornered 0 (to + x.at.index - 1)

    drop-out : 0 < x.at.index → (goal : ℕ) → Leaves (graph_of t goal) (node_in x) drops
    drop-out some goal = drop-leaves cornered goal ok d.conditions d.ceilings to d.to_is is-empty some

    pub drop-ready : 0 < x.at.index → RelaxReady nodes (to + x.at.index - 1) x.charge x.steps ws
    drop-ready some = wait-ready d.wait drops (drop-out some) x.charge (omega arith)

    pub drop-done :
        0 < x.at.index → {ws' : List ℕ} → RelaxDone nodes (to + x.at.index - 1) x.charge x.steps ws ws' → WaitDone IsDelay d.wait ws'
    drop-done some done goal h =
        relaxes-fewer IsDelay (wait-relaxes d.wait drops (drop-out some) x.charge (omega arith) done goal h)
        (λ e l q. (drop-edges cornered goal ok d.conditions d.ceilings to d.to_is is-empty e l q).1)

    pub drop-none : x.at.index ≡ 0 → WaitDone IsDelay d.wait ws
    drop-none first goal h =
        relaxes-none h.hand IsDelay
        (λ e l q. omega (arith, (drop-edges cornered goal ok d.conditions d.ceilings to d.to_is is-empty e l q).0))

  -- Where it is not.
  module _ (no : empty ≡ false) where
    not-empty : no_zero (view x.at.region) ≡ false
    not-empty = sym d.wait.empty-is ∙ no

    abbrev keeps : Edge
    keeps = delay_edge cornered 0 (to + x.at.index)

    abbrev news : Edge
    news = delay_edge cornered (rate_at (automaton_of t) p) (to + top (view x.at.region) + 1)

    keep_out : (goal : ℕ) → Leaves (graph_of t goal) (node_in x) keeps
    keep_out goal = keep-leaves cornered goal ok d.conditions d.ceilings to d.to_is not-empty

    cases : (goal : ℕ) (e : Edge) → Leaves (graph_of t goal) (node_in x) e → IsDelay e → (e ≡ keeps) ⊎ ((x.at.index ≡ 0) × (e ≡ news))
    cases goal e l q = keep-edges cornered goal ok d.conditions d.ceilings to d.to_is not-empty e l q

    pub keep-ready : RelaxReady nodes (to + x.at.index) x.charge x.steps ws
    keep-ready = wait-ready d.wait keeps keep_out x.charge (omega arith)

    module _ {ws' : List ℕ} (kept : RelaxDone nodes (to + x.at.index) x.charge x.steps ws ws') where
      one : WaitDone (λ y. y ≡ keeps) d.wait ws'
      one = wait-relaxes d.wait keeps keep_out x.charge (omega arith) kept

      pub keep-done : x.at.index ≢ 0 → WaitDone IsDelay d.wait ws'
      keep-done other goal h =
          relaxes-fewer IsDelay (one goal h) (λ e l q. ⊎_elim (λ f. f) (λ f. absurd (other f.0)) (cases goal e l q))

      abbrev again : WaitReady nodes x empty rate ws'
      again = wait-again d.wait (hold-again d.wait.edges.holding (one d.wait.edges.goal d.wait.edges.holding))

      module _ (first : x.at.index ≡ 0) (last : ℕ) (last-is : last ≡ top (view x.at.region)) where
        new-out : (goal : ℕ) → Leaves (graph_of t goal) (node_in x) news
        new-out goal = new-leaves cornered goal ok d.conditions d.ceilings to d.to_is not-empty first

        new-charged : rate + x.charge ≡ rate_at (automaton_of t) p + x.charge
        new-charged = ap (λ (n : ℕ). n + x.charge) d.wait.rate-is

        pub new-ready : RelaxReady nodes (to + last + 1) (rate + x.charge) x.steps ws'
        new-ready = rw last-is (wait-ready again news new-out (rate + x.charge) new-charged)

        pub new-sum : rate + x.charge < infinity
        new-sum = wait-sum again news new-out (rate + x.charge) new-charged

        pub new-done :
            {ws'' : List ℕ} → RelaxDone nodes (to + last + 1) (rate + x.charge) x.steps ws' ws'' → WaitDone IsDelay d.wait ws''
        new-done added goal h =
            let two = wait-relaxes again news new-out (rate + x.charge) new-charged (rw last-is at added) goal (hold-again h (one goal h)) in
            relaxes-then IsDelay (one goal h) two (λ e l q. ⊎_elim (λ f. inl f) (λ f. inr f.1) (cases goal e l q))
