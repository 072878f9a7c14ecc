-- Where the tight edges of waiting lead: those of a delay by prices that are the indices of the corners, and those of linger.
-- Assumes nothing.
use Rattle.std.specs.Prelude.{◌≡◌, refl, true, false, cond, ◌↔◌, ◌⊎◌, ℕ, suc, ◌+◌, ◌≤◌, ◌<◌, ltb, length}
use Rattle.std.proofs.Common.{sym, ap, subst, ◌∙◌, inl, inr, arith}
use mathlib.Core.List.Memᴰ
use Rattle.std.proofs.Math.Option.{some}
use Rattle.semantics.specs.Automata.Proper.{Proper}
use Rattle.semantics.specs.Automaton.{Automaton}
use Rattle.semantics.specs.Region.{PricedRegion, top, no_zero}
use Rattle.semantics.specs.Order.{Cost, cost}
use Rattle.semantics.specs.Graph.Path.{Edge, Entry}
use Rattle.semantics.specs.Chain.{Place, step}
use Rattle.semantics.specs.Corners.Edges.{Edge as CornerEdge, pass_edges, edges, SamePlace}
use Rattle.semantics.specs.Graph.CornerGraph.{number_of}
use Rattle.semantics.specs.Bounds.Prices.{price}
use Rattle.semantics.proofs.Bounds.Stays.{Admits}
use Rattle.semantics.specs.Bounds.Steps.{rate_at}
use Rattle.semantics.proofs.Bounds.Steps.{step-view}
use Rattle.semantics.proofs.Bounds.Shapes.{shape-admits}
use Rattle.semantics.proofs.Bounds.Flow.{keeps, passes, pass-keeps, pass-passes, pass-cases}
use Rattle.semantics.specs.Answers.Places.{IsPlace, corner-top}
use Rattle.semantics.proofs.Answers.Graph.{number-alike}
use Rattle.semantics.specs.Answers.Waiting.{delayed_to, Indexed}
use Rattle.semantics.proofs.Answers.Waiting.{after_same, after-step, edge-delay, delay-edge}
use Rattle.semantics.proofs.Answers.WaitingNodes.{delayed-place, linger-same, linger-edges}
use Rattle.semantics.specs.Answers.Marks.{Grows, Led}
use Rattle.semantics.proofs.Answers.Marks.{corners-differ}
use Rattle.semantics.proofs.Answers.Led.{LedAlong, led-along, along-led}

-- The places to which waiting leads have the corners of `delayed_to`, and those that they had.
module _ (a : Automaton) (p z : Place) where
  delayed-same : step a 64 p ≡ some z → SamePlace z (delayed_to p)
  delayed-same f = subst (λ (q : Place). SamePlace q (delayed_to p)) (sym (after-step a p (step-view a p z 64 f) refl).1) (after_same a p)

  pub delayed-number : step a 64 p ≡ some z → (i : ℕ) → number_of a z i ≡ number_of a (delayed_to p) i
  delayed-number f i = number-alike a z (delayed_to p) (delayed-same f) i

  pub lingered-number : step a 65 p ≡ some z → (i : ℕ) → number_of a z i ≡ number_of a p i
  lingered-number f i = number-alike a z p (linger-same a p (step-view a p z 65 f) refl) i

-- No edge from a node to itself is tight.
grows-on : (d : ℕ → Entry) (n weight v : ℕ) → Grows d n weight v v → ⊥
grows-on d n weight v t =
    let x = t.from in
    let y = t.to in
    let z : cost t.charge n ≡ cost (t.charge + weight) (suc n) = cc in
    omega (arith, ap (λ (c : Cost). c.steps) z)

-- A step after which all corners stay, and the first has an edge to a last one too.
module _ (a : Automaton) (ok : Proper a) (l : ℕ) (d : ℕ → Entry) (n : ℕ) {p : Place} (h : IsPlace a p) (S : ℕ → Type 0)
    (among : (j : ℕ) → S j → j < length p.region.prices) (k : ℕ) {z : Place} (f : step a k p ≡ some z)
    (last rate : ℕ) (out : (j : ℕ) → edges a k p j ≡ pass_edges last rate j) (i : ℕ) where
  led-pass :
      Led a l d p n S k z i
      → (S i × Grows d n 0 (number_of a p i) (number_of a z i)) ⊎ ((i ≡ last) × S 0 × Grows d n rate (number_of a p 0) (number_of a z i))
  led-pass t = let o = led-along a ok l d n h S among k f i t in at o (pass-cases last rate o.corner o.edge (rw (out o.corner) at o.listed))
    where
      at :
          (o : LedAlong a d p n S k z i) → (o.edge ≡ keeps o.corner) ⊎ ((o.corner ≡ 0) × (o.edge ≡ passes last rate))
          → (S i × Grows d n 0 (number_of a p i) (number_of a z i)) ⊎ ((i ≡ last) × S 0 × Grows d n rate (number_of a p 0) (number_of a z i))
      at o (inl y) =
          let j : o.corner ≡ i = sym (ap (λ (e : CornerEdge). e.corner) y) ∙ o.leads in
          inl (subst S j o.marked, rw (y, j) at o.grows)
      at o (inr y) =
          inr (sym o.leads ∙ ap (λ (e : CornerEdge). e.corner) y.1, subst S y.0 o.marked, rw (y.1, y.0) at o.grows)

  pass-led :
      (S i × Grows d n 0 (number_of a p i) (number_of a z i)) ⊎ ((i ≡ last) × S 0 × Grows d n rate (number_of a p 0) (number_of a z i))
      → Led a l d p n S k z i
  pass-led (inl o) =
      along-led a ok l d n h S among k f i
      (record { corner = i; marked = o.0; edge = keeps i; listed = rw (out i) (pass-keeps last rate i); leads = refl; grows = o.1 })
  pass-led (inr o) =
      along-led a ok l d n h S among k f i (record {
        corner = 0;
        marked = o.1;
        edge = passes last rate;
        listed = rw (out 0) (pass-passes last rate);
        leads = sym o.0;
        grows = o.2;
      })

module _ (a : Automaton) (ok : Proper a) (l : ℕ) (d : ℕ → Entry) (n : ℕ) {p : Place} (h : IsPlace a p) (S : ℕ → Type 0)
    (among : (j : ℕ) → S j → j < length p.region.prices) {z : Place} (f : step a 64 p ≡ some z) where
  -- A delay, with the indices of the corners as prices: each corner is led to from the one that its price says, at the rate where it is new.
  pub led-delay :
      Indexed p.region → (i : ℕ) → i ≤ top (delayed_to p).region
      → Led a l d p n S 64 z i
      ↔ (S (price (delayed_to p).region i)
      × Grows d n (cond (ltb (top p.region) i) (rate_at a p) 0) (number_of a p (price (delayed_to p).region i)) (number_of a (delayed_to p) i))
  led-delay indexed i c = (λ t. from t ((corner-top p.region h.well-formed t.corner).0 (among t.corner t.marked)), to)
    where
      r : PricedRegion
      r = (delayed_to p).region

      weight : ℕ
      weight = cond (ltb (top p.region) i) (rate_at a p) 0

      same : SamePlace z (delayed_to p)
      same = delayed-same a p z f

      number : number_of a z i ≡ number_of a (delayed_to p) i
      number = delayed-number a p z f i

      admits : Admits a p.mode r
      admits = shape-admits _ _ (after_same a p).region a p.mode (after-step a p (step-view a p z 64 f) refl).0

      after : IsPlace a (delayed_to p)
      after = delayed-place a ok p h admits.ceilings

      from : (t : Led a l d p n S 64 z i) → t.corner ≤ top p.region → S (price r i) × Grows d n weight (number_of a p (price r i)) (number_of a (delayed_to p) i)
      from t b =
          let o = edge-delay a l p h indexed t.corner b t.tight.edge t.tight.leaves t.tight.labelled in
          let leads = sym (ap (λ (x : Edge). x.to) o.is) ∙ t.tight.leads ∙ number in
          let e : o.corner ≡ i =
          corners-differ a (delayed_to p) after o.corner i ((corner-top r after.well-formed o.corner).1 o.there)
          ((corner-top r after.well-formed i).1 c) leads in
          let j : t.corner ≡ price r i = sym o.comes ∙ ap (price r) e in
          let w : t.tight.edge.weight ≡ weight =
          ap (λ (x : Edge). x.weight) o.is ∙ ap (λ (u : ℕ). cond (ltb (top p.region) u) (rate_at a p) 0) e in
          (subst S j t.marked, rw (w, j, number) at t.tight.grows)

      to : S (price r i) × Grows d n weight (number_of a p (price r i)) (number_of a (delayed_to p) i) → Led a l d p n S 64 z i
      to o = record {
        there = rw same.region.corners ((corner-top r after.well-formed i).1 c);
        corner = price r i;
        marked = o.0;
        tight = record {
          edge = record { label = 64; weight = weight; to = number_of a (delayed_to p) i };
          leaves = delay-edge a l p h indexed admits.conditions admits.ceilings i c;
          labelled = refl;
          leads = sym number;
          grows = rw number o.1;
        };
      }

module _ (a : Automaton) (ok : Proper a) (l : ℕ) (d : ℕ → Entry) (n : ℕ) {p : Place} (h : IsPlace a p) (S : ℕ → Type 0)
    (among : (j : ℕ) → S j → j < length p.region.prices) {z : Place} (f : step a 65 p ≡ some z) where
  -- Linger leads from the first corner to the last, where r0 is empty, and else nowhere.
  pub led-linger :
      no_zero p.region ≡ true → (i : ℕ)
      → Led a l d p n S 65 z i ↔ ((i ≡ top p.region) × S 0 × Grows d n (rate_at a p) (number_of a p 0) (number_of a p i))
  led-linger e i = (
    λ t. at (led-pass a ok l d n h S among 65 f (top p.region) (rate_at a p) out i t),
    λ o. pass-led a ok l d n h S among 65 f (top p.region) (rate_at a p) out i (inr (o.0, o.1, rw number o.2)),
  )
    where
      out : (j : ℕ) → edges a 65 p j ≡ pass_edges (top p.region) (rate_at a p) j
      out j = linger-edges a p j ∙ rw e refl

      number : number_of a z i ≡ number_of a p i
      number = lingered-number a p z f i

      at :
          (S i × Grows d n 0 (number_of a p i) (number_of a z i)) ⊎ ((i ≡ top p.region) × S 0 × Grows d n (rate_at a p) (number_of a p 0) (number_of a z i))
          → (i ≡ top p.region) × S 0 × Grows d n (rate_at a p) (number_of a p 0) (number_of a p i)
      at (inl o) = absurd (grows-on d n 0 (number_of a p i) (rw number at o.1))
      at (inr o) = (o.0, o.1, rw number at o.2)

  pub led-idle : no_zero p.region ≡ false → (i : ℕ) → Led a l d p n S 65 z i → ⊥
  led-idle e i t =
      let o = led-along a ok l d n h S among 65 f i t in
      let out = linger-edges a p o.corner in
      let y : o.edge ≡ keeps o.corner = Memᴰ.eq_of_singleton (rw (out, e) at o.listed) in
      let j : o.corner ≡ i = sym (ap (λ (e : CornerEdge). e.corner) y) ∙ o.leads in
      let number = lingered-number a p z f i in
      grows-on d n o.edge.weight (number_of a p i) (rw (j, number) at o.grows)
