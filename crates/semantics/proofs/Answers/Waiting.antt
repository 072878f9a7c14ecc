-- The edges of delay in the corner graph: from which corner to which they lead, and what they weigh. With the indices of its corners as the
-- prices of a region, the prices after a delay say from which corner each comes.
-- Assumes nothing.
use Rattle.std.specs.Prelude.{◌≡◌, true, cond, ℕ, suc, ◌≤◌, ltb}
use Rattle.std.proofs.Math.Path.{refl}
use Rattle.std.proofs.Common.{ap, ap₂, ◌∙◌, sym, subst, subst₂, ⊎_elim, arith, eq-eqb, ne_eqb, lt-ltb, le-ltb}
use mathlib.Core.List.{List, Memᴰ}
use Rattle.std.proofs.Math.Decide.{ℕ_discrete}
use Rattle.semantics.specs.Automaton.{Automaton, mode_at}
use Rattle.semantics.specs.Region.{PricedRegion, WellFormed, count, top, leave, arrive, delay, meets_all, within}
use Rattle.semantics.specs.Graph.Path.{Edge, Leaves}
use Rattle.semantics.specs.Chain.{Place}
use Rattle.semantics.specs.Corners.Edges.{Edge as CornerEdge, pass_edges, drop_edges, delay_edges, edges, SamePlace}
use Rattle.semantics.specs.Graph.CornerGraph.{number_of, numbered, corner_graph}
use Rattle.semantics.specs.Regions.Cases.{zero-cases, delay-arrive, delay-leave}
use Rattle.semantics.specs.Regions.Lengths.{leave-top}
use Rattle.semantics.proofs.Regions.Lengths.{arrive-top}
use Rattle.semantics.specs.Regions.Groups.{top_pos}
use Rattle.semantics.specs.Bounds.Prices.{price, leave-price, leave-last, arrive-price}
use Rattle.semantics.proofs.Bounds.Flow.{pass-keeps, pass-passes, pass-cases, drop-cases}
use Rattle.semantics.proofs.Bounds.Stays.{Admits}
use Rattle.semantics.specs.Bounds.Steps.{rate_at}
use Rattle.semantics.proofs.Bounds.Steps.{Stepped, leaves, arrives, lingers, idles, moves, delayed, step-view, view-step}
use Rattle.semantics.proofs.Bounds.Shapes.{shape-delay, shape-admits}
use Rattle.semantics.specs.Answers.Places.{IsPlace, corner-top}
use Rattle.semantics.proofs.Answers.Graph.{PlaceEdge, step-listed, listed-step, numbered-alike, graph-edges}
use Rattle.semantics.specs.Answers.Waiting.{delayed_to, Indexed}

-- An edge of a delay from corner j of a place whose prices are indices.
pub record DelayEdge (a : Automaton) (p : Place) (j : ℕ) (x : Edge) : Type 0 where
  pub conditions : meets_all (mode_at a p.mode).conditions (delayed_to p).region ≡ true
  pub ceilings : within a.ceilings (delayed_to p).region ≡ true
  pub corner : ℕ
  pub there : corner ≤ top (delayed_to p).region
  pub comes : price (delayed_to p).region corner ≡ j
  pub is : x ≡ record { label = 64; weight = cond (ltb (top p.region) corner) (rate_at a p) 0; to = number_of a (delayed_to p) corner }

-- The edge to corner i of the region after a delay: it weighs the rate where the corner is new.
abbrev edge_to : PricedRegion → ℕ → ℕ → CornerEdge
edge_to r rate i = record { corner = i; weight = cond (ltb (top r) i) rate 0 }

-- The edge e, from corner j of a region to the region s after a delay: it leads to a corner whose price says where it comes from.
record Out (r s : PricedRegion) (rate j : ℕ) (e : CornerEdge) : Type 0 where
  there : e.corner ≤ top s
  comes : price s e.corner ≡ j
  is : e ≡ edge_to r rate e.corner

-- Corner i of the region s after a delay has an edge from the corner that its price says.
record In (r s : PricedRegion) (rate : ℕ) (out : ℕ → List CornerEdge) (i : ℕ) : Type 0 where
  there : price s i ≤ top r
  listed : Memᴰ (edge_to r rate i) (out (price s i))

module _ (r : PricedRegion) (w : WellFormed r) (indexed : Indexed r) (rate : ℕ) where
  -- The edges to old corners, and to the new one.
  old-edge : (i : ℕ) → i ≤ top r → ◌≡◌ {A = CornerEdge} (record { corner = i; weight = 0 }) (edge_to r rate i)
  old-edge i h = rw (le-ltb (top r) i h) refl

  new-edge : ◌≡◌ {A = CornerEdge} (record { corner = suc (top r); weight = rate }) (edge_to r rate (suc (top r)))
  new-edge = rw (lt-ltb (top r) (suc (top r)) (omega arith)) refl

  leave-old : (j : ℕ) → j ≤ top r → Out r (leave 0 r) rate j (record { corner = j; weight = 0 })
  leave-old j h = record {
    there = omega (arith, leave-top r w 0);
    comes = leave-price r w 0 j h ∙ indexed j h;
    is = old-edge j h;
  }

  leave-new : Out r (leave 0 r) rate 0 (record { corner = suc (top r); weight = rate })
  leave-new = record {
    there = omega (arith, leave-top r w 0);
    comes = omega (arith, leave-last r w 0, indexed 0 (omega arith));
    is = new-edge;
  }

  leave-out : (j : ℕ) → j ≤ top r → (e : CornerEdge) → Memᴰ e (pass_edges (suc (top r)) rate j) → Out r (leave 0 r) rate j e
  leave-out j h e m =
      ⊎_elim (λ q. subst (Out r (leave 0 r) rate j) (sym q) (leave-old j h))
      (λ q. subst₂ (Out r (leave 0 r) rate) (sym q.0) (sym q.1) leave-new)
      (pass-cases (suc (top r)) rate j e m)

  arrive-out : (j : ℕ) → j ≤ top r → (e : CornerEdge) → Memᴰ e (drop_edges j) → Out r (arrive r) rate j e
  arrive-out j h e m =
      let o = drop-cases j e m in
      let i = o.0 in
      subst₂ (Out r (arrive r) rate) (sym o.1) (sym o.2)
      (record {
        there = omega (arith, arrive-top r w, o.1);
        comes = arrive-price r i ∙ indexed (suc i) (omega (arith, o.1));
        is = old-edge i (omega (arith, o.1));
      })

  delay-out : (j : ℕ) → j ≤ top r → (e : CornerEdge) → Memᴰ e (delay_edges rate r j) → Out r (delay 0 r) rate j e
  delay-out j h e m =
      ⊎_elim (λ z. rw (delay-arrive 0 r z) (arrive-out j h e (rw (eq-eqb (count 0 r.group) 0 z) at m)))
      (λ z. rw (delay-leave 0 r z) (leave-out j h e (rw (ne_eqb (count 0 r.group) 0 (λ e. omega arith)) at m)))
      (zero-cases r)

  leave-in : (i : ℕ) → i ≤ suc (top r) → In r (leave 0 r) rate (pass_edges (suc (top r)) rate) i
  leave-in i h = go (ℕ_discrete i (suc (top r)))
    where
      go : Dec (i ≡ suc (top r)) → In r (leave 0 r) rate (pass_edges (suc (top r)) rate) i
      go (yes q) =
          let e : price (leave 0 r) (suc (top r)) ≡ 0 = omega (arith, leave-last r w 0, indexed 0 (omega arith)) in
          rw q (record { there = rw e (omega arith); listed = rw (e, ← new-edge) (pass-passes (suc (top r)) rate) })
      go (no n) =
          let e : price (leave 0 r) i ≡ i = leave-price r w 0 i (omega arith) ∙ indexed i (omega arith) in
          record { there = rw e (omega arith); listed = rw (e, ← old-edge i (omega arith)) (pass-keeps (suc (top r)) rate i) }

  arrive-in : count 0 r.group ≡ 0 → (i : ℕ) → i ≤ top (arrive r) → In r (arrive r) rate drop_edges i
  arrive-in z i h =
      let l : suc i ≤ top r = omega (arith, arrive-top r w, top_pos r w z) in
      let e : price (arrive r) i ≡ suc i = arrive-price r i ∙ indexed (suc i) l in
      record { there = rw e l; listed = rw (e, ← old-edge i (omega arith)) (Memᴰ.head refl) }

  delay-in : (i : ℕ) → i ≤ top (delay 0 r) → In r (delay 0 r) rate (delay_edges rate r) i
  delay-in i h =
      ⊎_elim
      (λ z.
      let o = arrive-in z i (rw (delay-arrive 0 r z) at h) in
      rw (delay-arrive 0 r z) (record { there = o.there; listed = rw (eq-eqb (count 0 r.group) 0 z) o.listed }))
      (λ z.
      let o = leave-in i (rw (delay-leave 0 r z, leave-top r w 0) at h) in
      rw (delay-leave 0 r z) (record { there = o.there; listed = rw (ne_eqb (count 0 r.group) 0 (λ e. omega arith)) o.listed }))
      (zero-cases r)

pub delay-comes :
    (p : Place) → WellFormed p.region → Indexed p.region → (i : ℕ) → i ≤ top (delayed_to p).region
    → price (delayed_to p).region i ≤ top p.region
delay-comes p w indexed i h = (delay-in p.region w indexed 0 i h).there

module _ (a : Automaton) (p : Place) where
  -- The place after a delay at the mode's own rate has the shape of `delayed_to`.
  abbrev pub after : Place
  after = record { mode = p.mode; region = delay (rate_at a p) p.region }

  pub after_same : SamePlace after (delayed_to p)
  after_same = record { mode = refl; region = shape-delay (rate_at a p) 0 p.region }

  after-numbered : (e : CornerEdge) → numbered a 64 after e ≡ numbered a 64 (delayed_to p) e
  after-numbered e = ap (λ (f : CornerEdge → Edge). f e) (numbered-alike a 64 after (delayed_to p) after_same)

  -- The step of a delay is the one to `after`.
  pub after-step : {byte : ℕ} {p' : Place} → Stepped a p byte p' → byte ≡ 64 → Admits a p.mode after.region × (p' ≡ after)
  after-step (leaves z t) e = let q = delay-leave (rate_at a p) p.region z in (rw q t, rw q refl)
  after-step (arrives z t) e = let q = delay-arrive (rate_at a p) p.region z in (rw q t, rw q refl)
  after-step (lingers z) e = absurd (omega arith)
  after-step (idles z) e = absurd (omega arith)
  after-step (moves i b c o g m) e = absurd (omega arith)

  -- Its edges.
  pub delay-edges : (j : ℕ) → edges a 64 p j ≡ delay_edges (rate_at a p) p.region j
  unfolding edges
  delay-edges j = refl

-- What an edge of the graph with the label 64 is.
record Delayed (a : Automaton) (p : Place) (j : ℕ) (x : Edge) : Type 0 where
  admits : Admits a p.mode (delayed_to p).region
  edge : CornerEdge
  listed : Memᴰ edge (delay_edges (rate_at a p) p.region j)
  is : x ≡ numbered a 64 (delayed_to p) edge

module _ (a : Automaton) (p : Place) (j : ℕ) (x : Edge) where
  place-delayed : PlaceEdge a p j x → x.label ≡ 64 → Delayed a p j x
  place-delayed d q =
      let o = after-step a p (step-view a p d.next x.label d.step) q in
      record {
        admits = shape-admits _ _ (shape-delay (rate_at a p) 0 p.region) a p.mode o.0;
        edge = d.edge;
        listed = subst (Memᴰ d.edge) (ap (λ (b : ℕ). edges a b p j) q ∙ delay-edges a p j) d.listed;
        is = d.is ∙ ap₂ (λ (b : ℕ) (s : Place). numbered a b s d.edge) q o.1 ∙ after-numbered a p d.edge;
      }

module _ (a : Automaton) (l : ℕ) (p : Place) (h : IsPlace a p) where
  -- An edge of a node, as an edge of the corner of the place.
  pub place-edge : (j : ℕ) → j ≤ top p.region → (x : Edge) → Leaves (corner_graph a l) (number_of a p j) x → PlaceEdge a p j x
  place-edge j b x m = listed-step a p j x (rw (graph-edges a l p h j ((corner-top p.region h.well-formed j).1 b)) at m)

  pub edge-delay :
      Indexed p.region → (j : ℕ) → j ≤ top p.region → (x : Edge) → Leaves (corner_graph a l) (number_of a p j) x → x.label ≡ 64
      → DelayEdge a p j x
  edge-delay indexed j b x m q =
      let d = place-delayed a p j x (place-edge j b x m) q in
      let o = delay-out p.region h.well-formed indexed (rate_at a p) j b d.edge d.listed in
      record {
        conditions = d.admits.conditions;
        ceilings = d.admits.ceilings;
        corner = d.edge.corner;
        there = o.there;
        comes = o.comes;
        is = d.is ∙ ap (numbered a 64 (delayed_to p)) o.is;
      }

  pub delay-edge :
      Indexed p.region → meets_all (mode_at a p.mode).conditions (delayed_to p).region ≡ true
      → within a.ceilings (delayed_to p).region ≡ true → (i : ℕ) → i ≤ top (delayed_to p).region
      → Leaves (corner_graph a l) (number_of a p (price (delayed_to p).region i))
      (record { label = 64; weight = cond (ltb (top p.region) i) (rate_at a p) 0; to = number_of a (delayed_to p) i })
  delay-edge indexed conditions ceilings i b =
      let j = price (delayed_to p).region i in
      let o = delay-in p.region h.well-formed indexed (rate_at a p) i b in
      let t = shape-admits _ _ (shape-delay 0 (rate_at a p) p.region) a p.mode (record { conditions = conditions; ceilings = ceilings }) in
      let m = step-listed a p j 64 (after a p) (view-step a p (delayed a p t)) (edge_to p.region (rate_at a p) i) (rw (delay-edges a p j) o.listed) in
      rw (graph-edges a l p h j ((corner-top p.region h.well-formed j).1 o.there), ← after-numbered a p (edge_to p.region (rate_at a p) i)) m
