-- The edges of linger and of delay from the corner that a struct is of: which there are, and where they lead.
-- Assumes nothing.
use mathlib.Core.Path.{◌≡◌, refl, sym, ap, ap₂, ◌∙◌, subst₂}
use mathlib.Core.Bool.{true, false, cond}
use mathlib.Core.Logic.{◌⊎◌, inl, inr, ⊎_elim}
use mathlib.Core.List.{List}
use Prim.Native.Nat.{ℕ, suc, ◌+◌, ◌-◌, ◌≤◌, ◌<◌}
use native.Mathlib.Decide.{ℕ_discrete}
use native.Mathlib.Omega.{arith}
use borrow.Author.Tests.{eqb-true, eqb-false, lt-ltb, le-ltb}
use lib.Dec.{ltb}
use Rattle.semantics.specs.Automata.Proper.{Proper}
use Rattle.semantics.specs.Automaton.{Automaton, mode_at}
use Rattle.semantics.specs.Region.{PricedRegion, WellFormed, count, top, no_zero, leave, arrive, delay, within, meets_all}
use Rattle.semantics.specs.Chain.{Place}
use Rattle.semantics.specs.Graph.Path.{Edge, Leaves}
use Rattle.semantics.specs.Graph.CornerGraph.{number_of}
use Rattle.semantics.specs.Regions.Cases.{zero-cases, delay-arrive, delay-leave}
use Rattle.semantics.specs.Regions.Lengths.{leave-top}
use Rattle.semantics.proofs.Regions.Lengths.{arrive-top}
use Rattle.semantics.specs.Regions.Groups.{top_pos}
use Rattle.semantics.specs.Bounds.Prices.{price, leave-price, leave-last, arrive-price}
use Rattle.semantics.specs.Bounds.Steps.{rate_at}
use Rattle.semantics.specs.Answers.Waiting.{Indexed, delayed_to}
use Rattle.semantics.proofs.Answers.Waiting.{DelayEdge, edge-delay, delay-edge}
use Rattle.semantics.proofs.Answers.WaitingNodes.{edge-linger, linger-edge, delayed-place}
use Rattle.table.specs.Held.{automaton_of}
use Rattle.regions.specs.declared.nodes.NodeRegion.{NodeRegion}
use Rattle.regions.specs.Held.{view}
use Rattle.space.specs.Space.{graph_of, place_at, IsCorner}
use Rattle.space.proofs.Settings.{place-row, corner-number, corner-leaves}

-- A delay at the rate 0 of a region whose prices are indices: they say from which corner each comes.
module _ (r : PricedRegion) (w : WellFormed r) (indexed : Indexed r) where
  -- Where r0 is empty, corner i comes from the one after it.
  drop-price : no_zero r ≡ true → (i : ℕ) → i ≤ top (delay 0 r) → (price (delay 0 r) i ≡ suc i) × (i < top r)
  drop-price e i b =
      let z = eqb-true (count 0 r.group) 0 e in
      let q = delay-arrive 0 r z in
      let there : i ≤ top (arrive r) = rw q at b in
      let below : suc i ≤ top r = omega (arith, arrive-top r w, top_pos r w z) in
      rw q (arrive-price r i ∙ indexed (suc i) below, below)

  drop-there : no_zero r ≡ true → (i : ℕ) → i < top r → i ≤ top (delay 0 r)
  drop-there e i b =
      let z = eqb-true (count 0 r.group) 0 e in
      rw (delay-arrive 0 r z) (omega (arith, arrive-top r w))

  -- Where it is not, each corner comes from itself, and a new one at the end from corner 0.
  filled : no_zero r ≡ false → 0 < count 0 r.group
  filled e = ⊎_elim (λ z. absurd (eqb-false (count 0 r.group) 0 e z)) (λ z. z) (zero-cases r)

  pub keep-top : no_zero r ≡ false → top (delay 0 r) ≡ suc (top r)
  keep-top e = ap top (delay-leave 0 r (filled e)) ∙ leave-top r w 0

  keep-price : no_zero r ≡ false → (i : ℕ) → i ≤ top r → price (delay 0 r) i ≡ i
  keep-price e i b = ap (λ (s : PricedRegion). price s i) (delay-leave 0 r (filled e)) ∙ leave-price r w 0 i b ∙ indexed i b

  new-price : no_zero r ≡ false → price (delay 0 r) (suc (top r)) ≡ 0
  new-price e =
      let last : price (leave 0 r) (suc (top r)) ≡ 0 = omega (arith, leave-last r w 0, indexed 0 (omega arith)) in
      ap (λ (s : PricedRegion). price s (suc (top r))) (delay-leave 0 r (filled e)) ∙ last

module _ {t : List ℕ} {z : NodeRegion} (k : IsCorner t z) where
  abbrev a : Automaton
  a = automaton_of t

  abbrev p : Place
  p = place_at z

  abbrev r : PricedRegion
  r = view z.region

  -- The edge of linger.
  abbrev pub linger_edge : Edge
  linger_edge = record { label = 65; weight = rate_at a p; to = z.first + top r }

  linger-same : ◌≡◌ {A = Edge} (record { label = 65; weight = rate_at a p; to = number_of a p (top r) }) linger_edge
  linger-same = ap (λ (w : ℕ). record { label = 65; weight = rate_at a p; to = w }) (corner-number k (top r) (omega arith))

  -- An edge of delay to a node.
  abbrev pub delay_edge : ℕ → ℕ → Edge
  delay_edge weight w = record { label = 64; weight = weight; to = w }

  module _ (goal : ℕ) where
    pub linger-leaves : no_zero r ≡ true → z.index ≡ 0 → Leaves (graph_of t goal) (z.first + z.index) linger_edge
    linger-leaves empty first =
        let u : number_of a p 0 ≡ z.first + z.index = omega (arith, corner-number k 0 (omega arith)) in
        subst₂ (λ (v : ℕ) (e : Edge). Leaves (graph_of t goal) v e) u linger-same (linger-edge a goal p k.place empty)

    -- Any other edge with its label leads to the node itself.
    pub linger-cases :
        (e : Edge) → Leaves (graph_of t goal) (z.first + z.index) e → e.label ≡ 65
        → (e.to ≡ z.first + z.index) ⊎ ((no_zero r ≡ true) × (z.index ≡ 0) × (e ≡ linger_edge))
    linger-cases e m q =
        ⊎_elim (λ loop. inl (loop ∙ corner-number k z.index k.inside)) (λ o. inr (o.0, o.1, o.2 ∙ linger-same))
        (edge-linger a goal p k.place z.index k.inside e (corner-leaves k goal e m) q)

    -- A delay has edges only if it is allowed.
    pub delay-allowed : (e : Edge) → Leaves (graph_of t goal) (z.first + z.index) e → e.label ≡ 64 → DelayEdge a p z.index e
    delay-allowed e m q = edge-delay a goal p k.place k.indexed z.index k.inside e (corner-leaves k goal e m) q

  -- A delay that is allowed, to the region whose corner 0 is the node `to`.
  module _ (goal : ℕ) (ok : Proper a) (conditions : meets_all (mode_at a z.mode).conditions (delayed_to p).region ≡ true)
      (ceilings : within a.ceilings (delayed_to p).region ≡ true) (to : ℕ) (to_is : to ≡ number_of a (delayed_to p) 0) where
    row : (i : ℕ) → i ≤ top (delayed_to p).region → number_of a (delayed_to p) i ≡ to + i
    row = place-row a (delayed_to p) (delayed-place a ok p k.place ceilings) to to_is

    -- Its edge to corner i.
    to-corner :
        (i weight w : ℕ) → i ≤ top (delayed_to p).region → price (delayed_to p).region i ≡ z.index → cond (ltb (top r) i) (rate_at a p) 0 ≡ weight
        → to + i ≡ w → Leaves (graph_of t goal) (z.first + z.index) (delay_edge weight w)
    to-corner i weight w b comes weighs end =
        subst₂ (λ (v : ℕ) (e : Edge). Leaves (graph_of t goal) v e) (ap (number_of a p) comes ∙ corner-number k z.index k.inside)
        (ap₂ delay_edge weighs (row i b ∙ end)) (delay-edge a goal p k.place k.indexed conditions ceilings i b)

    -- Any edge leads to a corner.
    from-corner :
        (e : Edge) (d : DelayEdge a p z.index e) (weight w : ℕ) → cond (ltb (top r) d.corner) (rate_at a p) 0 ≡ weight → to + d.corner ≡ w
        → e ≡ delay_edge weight w
    from-corner e d weight w weighs end = d.is ∙ ap₂ delay_edge weighs (row d.corner d.there ∙ end)

    old-weight : (i : ℕ) → i ≤ top r → cond (ltb (top r) i) (rate_at a p) 0 ≡ 0
    old-weight i b = rw (le-ltb (top r) i b) refl

    new-weight : cond (ltb (top r) (suc (top r))) (rate_at a p) 0 ≡ rate_at a p
    new-weight = rw (lt-ltb (top r) (suc (top r)) (omega arith)) refl

    -- Where r0 is empty it drops corner 0, and each other one becomes the one before it.
    module _ (empty : no_zero r ≡ true) where
      pub drop-leaves : 0 < z.index → Leaves (graph_of t goal) (z.first + z.index) (delay_edge 0 (to + z.index - 1))
      drop-leaves some =
          let i = z.index - 1 in
          let there : i ≤ top (delay 0 r) = drop-there r k.place.well-formed k.indexed empty i (omega (arith, k.inside)) in
          let comes = drop-price r k.place.well-formed k.indexed empty i there in
          to-corner i 0 (to + z.index - 1) there (omega (arith, comes.0)) (old-weight i (omega (arith, k.inside))) (omega arith)

      pub drop-edges :
          (e : Edge) → Leaves (graph_of t goal) (z.first + z.index) e → e.label ≡ 64 → (0 < z.index) × (e ≡ delay_edge 0 (to + z.index - 1))
      drop-edges e m q =
          let d = delay-allowed goal e m q in
          let comes = drop-price r k.place.well-formed k.indexed empty d.corner d.there in
          let next : suc d.corner ≡ z.index = omega (arith, comes.0, d.comes) in
          (omega arith, from-corner e d 0 (to + z.index - 1) (old-weight d.corner (omega (arith, comes.1))) (omega (arith, next)))

    -- Where it is not, each corner stays, and corner 0 also leads to a new last one.
    module _ (some : no_zero r ≡ false) where
      pub keep-leaves : Leaves (graph_of t goal) (z.first + z.index) (delay_edge 0 (to + z.index))
      keep-leaves =
          to-corner z.index 0 (to + z.index) (omega (arith, keep-top r k.place.well-formed k.indexed some, k.inside))
          (keep-price r k.place.well-formed k.indexed some z.index k.inside) (old-weight z.index k.inside) refl

      pub new-leaves : z.index ≡ 0 → Leaves (graph_of t goal) (z.first + z.index) (delay_edge (rate_at a p) (to + top r + 1))
      new-leaves first =
          to-corner (suc (top r)) (rate_at a p) (to + top r + 1) (omega (arith, keep-top r k.place.well-formed k.indexed some))
          (new-price r k.place.well-formed k.indexed some ∙ sym first) new-weight (omega arith)

      pub keep-edges :
          (e : Edge) → Leaves (graph_of t goal) (z.first + z.index) e → e.label ≡ 64
          → (e ≡ delay_edge 0 (to + z.index)) ⊎ ((z.index ≡ 0) × (e ≡ delay_edge (rate_at a p) (to + top r + 1)))
      keep-edges e m q = at (delay-allowed goal e m q)
        where
          at : DelayEdge a p z.index e → (e ≡ delay_edge 0 (to + z.index)) ⊎ ((z.index ≡ 0) × (e ≡ delay_edge (rate_at a p) (to + top r + 1)))
          at d = go (ℕ_discrete d.corner (suc (top r)))
            where
              go :
                  Dec (d.corner ≡ suc (top r))
                  → (e ≡ delay_edge 0 (to + z.index)) ⊎ ((z.index ≡ 0) × (e ≡ delay_edge (rate_at a p) (to + top r + 1)))
              go (yes last) =
                  let comes : price (delay 0 r) (suc (top r)) ≡ z.index = ap (price (delay 0 r)) (sym last) ∙ d.comes in
                  let weighs : cond (ltb (top r) d.corner) (rate_at a p) 0 ≡ rate_at a p =
                  ap (λ (i : ℕ). cond (ltb (top r) i) (rate_at a p) 0) last ∙ new-weight in
                  inr (
                    sym comes ∙ new-price r k.place.well-formed k.indexed some,
                    from-corner e d (rate_at a p) (to + top r + 1) weighs (omega (arith, last)),
                  )
              go (no old) =
                  let below : d.corner ≤ top r = omega (arith, d.there, keep-top r k.place.well-formed k.indexed some) in
                  let same = keep-price r k.place.well-formed k.indexed some d.corner below in
                  inl (from-corner e d 0 (to + z.index) (old-weight d.corner below) (omega (arith, same, d.comes)))
