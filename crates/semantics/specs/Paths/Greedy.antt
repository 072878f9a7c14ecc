-- The greedy reading of the best route as a function: at each state it tries the labels from 0 up and takes the first that leads to a state
-- from which the cost can be completed. It can be computed, and it gives the first labels of least cost.
-- Assumes nothing.
use Rattle.std.specs.Prelude.{◌≡◌, refl, Bool, true, false, ◌&&◌, ◌||◌, List, [], ◌∷◌, ℕ, zero, suc, ◌+◌, ◌≤◌, ◌<◌, eqb}
use Rattle.std.proofs.Common.{sym, ap, ◌∙◌, subst, true≢false, arith, eq-eqb, eqb-true}
use Rattle.std.proofs.Math.Bool.{or-true}
use Rattle.std.proofs.Math.Option.{Option, none, some}
use Rattle.std.proofs.Math.Decide.{ℕ_discrete}
use Rattle.semantics.specs.Distinct.{distinct}
use Rattle.semantics.specs.Order.{Cost, cost}
use Rattle.semantics.specs.Graph.Path.{Graph, Entry, unreached, reached}
use Rattle.semantics.specs.Regions.Compare.{and-true-iff}
use Rattle.semantics.specs.Paths.FirstSome.{first_some, Found, first_some-found}
use Rattle.semantics.specs.Paths.System.{System}
use Rattle.semantics.specs.Paths.Route.{Completes, LowerBound, Picks, Onward, FirstFrom, Routing, bound-step, completes-onward, first_more, first-none}

-- Whether a price and an entry add up to c.
abbrev pub adds : ℕ → Entry → Cost → Bool
adds price unreached c = false
adds price (reached b) c = eqb (price + b.charge) c.charge && eqb b.steps c.steps

module _ (s : System) (d : ℕ → Entry) where
  -- Whether those of one of the first n corners of x do.
  abbrev pub some_adds : s.State → Cost → ℕ → Bool
  some_adds x c zero = false
  some_adds x c (suc j) = adds (s.price x j) (d (s.node x j)) c || some_adds x c j

  -- The test of Completes.
  unfoldable pub completes : s.State → Cost → Bool
  completes x c = some_adds x c (s.corners x)

  -- The state, if c can be completed from it.
  abbrev pub kept : Cost → s.State → Option s.State
  kept c y = elim (completes y c) [ true ↦ some y | false ↦ none ]

  -- The state that label l leads to from x, if the label is allowed and c can be completed from there.
  abbrev pub tried : s.State → Cost → ℕ → Option s.State
  tried x c l = elim (s.step l x) [ none ↦ none | some y ↦ kept c y ]

  -- n labels, all below L, read off from x at the charge C.
  abbrev pub greedy : ℕ → ℕ → ℕ → s.State → List ℕ
  greedy L C zero x = []
  greedy L C (suc n) x = elim (first_some (tried x (cost C n)) L 0) [ none ↦ [] | some p ↦ p.0 ∷ greedy L C n p.1 ]

adds-true :
    (c : Cost) (price : ℕ) (e : Entry) → adds price e c ≡ true
    → (left : ℕ) × (e ≡ reached (cost left c.steps)) × (price + left ≡ c.charge)
adds-true c price unreached t = absurd (true≢false cc)
adds-true c price (reached b) t =
    let p = (and-true-iff (eqb (price + b.charge) c.charge) (eqb b.steps c.steps)).0 t in
    let n = eqb-true b.steps c.steps p.1 in
    (b.charge, ap (λ (n : ℕ). reached (cost b.charge n)) n, eqb-true (price + b.charge) c.charge p.0)

true-adds :
    (c : Cost) (price left : ℕ) (e : Entry) → e ≡ reached (cost left c.steps) → price + left ≡ c.charge → adds price e c ≡ true
true-adds c price left e q h = rw (q, eq-eqb (price + left) c.charge h) (eq-eqb c.steps c.steps refl)

module _ (s : System) (d : ℕ → Entry) (x : s.State) (c : Cost) where
  -- The test of corner j.
  abbrev adds-at : ℕ → Bool
  adds-at j = adds (s.price x j) (d (s.node x j)) c

  some-true : (n : ℕ) → n ≤ s.corners x → some_adds s d x c n ≡ true → Completes s d x c
  some-true zero h t = absurd (true≢false cc)
  some-true (suc j) h t = go (adds-at j) refl t (some-true j (omega arith))
    where
      go :
          (b : Bool) → adds-at j ≡ b → (b || some_adds s d x c j) ≡ true → (some_adds s d x c j ≡ true → Completes s d x c)
          → Completes s d x c
      go true e u ih =
          let a = adds-true c (s.price x j) (d (s.node x j)) e in
          record { corner = j; among = h; left = a.0; entry = a.1; sum = a.2 }
      go false e u ih = ih u

  true-some : (t : Completes s d x c) (n : ℕ) → t.corner < n → some_adds s d x c n ≡ true
  true-some t zero h = absurd (omega arith)
  true-some t (suc j) h = at (ℕ_discrete t.corner j) (true-some t j)
    where
      here : t.corner ≡ j → adds-at j ≡ true
      here e = rw e at (true-adds c (s.price x t.corner) t.left (d (s.node x t.corner)) t.entry t.sum)

      at : Dec (t.corner ≡ j) → (t.corner < j → some_adds s d x c j ≡ true) → (adds-at j || some_adds s d x c j) ≡ true
      at (yes e) ih = rw (here e)
      at (no ne) ih = rw (ih (omega arith)) (or-true (adds-at j))

  completes-true : completes s d x c ≡ true → Completes s d x c
  unfolding completes
  completes-true t = some-true (s.corners x) (omega arith) t

  true-completes : Completes s d x c → completes s d x c ≡ true
  unfolding completes
  true-completes t = true-some t (s.corners x) t.among

module _ (s : System) (d : ℕ → Entry) (x : s.State) (c : Cost) (l : ℕ) where
  tried-step : (y : s.State) → tried s d x c l ≡ some y → (s.step l x ≡ some y) × Completes s d y c
  tried-step y t = go (s.step l x) refl t
    where
      test :
          (z : s.State) (b : Bool) → completes s d z c ≡ b → (elim b [ true ↦ some z | false ↦ none ]) ≡ some y
          → (z ≡ y) × Completes s d z c
      test z true q e = (cc, completes-true s d z c q)
      test z false q e = distinct cc

      go :
          (o : Option s.State) → s.step l x ≡ o → (elim o [ none ↦ none | some z ↦ kept s d c z ]) ≡ some y
          → (s.step l x ≡ some y) × Completes s d y c
      go none f e = distinct cc
      go (some z) f e = let p = test z (completes s d z c) refl e in (rw p.0 at f, rw p.0 at p.1)

  step-tried : (y : s.State) → s.step l x ≡ some y → Completes s d y c → tried s d x c l ≡ some y
  step-tried y e t =
      ap {B = Option s.State} (λ (o : Option s.State). elim o [ none ↦ none | some z ↦ kept s d c z ]) e
      ∙ ap {B = Option s.State} (λ (b : Bool). elim b [ true ↦ some y | false ↦ none ]) (true-completes s d y c t)

-- All labels that are allowed at a valid state are below L.
abbrev pub LabelsBelow : (s : System) → (s.State → Type 0) → ℕ → Type 0
LabelsBelow s Valid L = (x y : s.State) (l : ℕ) → Valid x → s.step l x ≡ some y → l < L

module _ {g : Graph} {s : System} {Valid : s.State → Type 0} {d : ℕ → Entry} (r : Routing g s Valid d)
    (L : ℕ) (below : LabelsBelow s Valid L) where
  greedy-found : (x : s.State) (c : Cost) → Valid x → Onward s d x c → Found (tried s d x c) (first_some (tried s d x c) L 0)
  greedy-found x c ok o =
      first_some-found (tried s d x c) L 0 o.label o.next (λ j h. absurd (omega arith)) (omega arith)
      (omega (arith, below x o.next o.label ok o.step))
      (step-tried s d x c o.label o.next o.step o.completes)

  -- What was found is by the greedy rule.
  greedy-picks :
      (x : s.State) (c : Cost) (o : Option (ℕ × s.State)) (f : Found (tried s d x c) o) → Picks s d x c f.place f.value
  greedy-picks x c o f =
      let t = tried-step s d x c f.place f.value f.at_place in
      record { step = t.0; completes = t.1; least = λ m z h e u. both m z (f.earlier m h) (step-tried s d x c m z e u) }
    where
      both : (m : ℕ) (z : s.State) → tried s d x c m ≡ none → tried s d x c m ≡ some z → ⊥
      both m z p q = distinct cc

  -- The labels after a choice.
  abbrev after : ℕ → ℕ → Option (ℕ × s.State) → List ℕ
  after C n o = elim o [ none ↦ [] | some p ↦ p.0 ∷ greedy s d L C n p.1 ]

  pub greedy-first :
      (C n : ℕ) (x : s.State) → Valid x → LowerBound s d x (cost C n) → Completes s d x (cost C n)
      → FirstFrom g s x (cost C n) (greedy s d L C n x)
  greedy-first C zero x ok bound t = first-none r x C ok bound t
  greedy-first C (suc n) x ok bound t =
      let o = completes-onward r x C n ok bound t in
      at (first_some (tried s d x (cost C n)) L 0) (greedy-found x (cost C n) ok o) (greedy-first C n)
    where
      at :
          (o : Option (ℕ × s.State)) → Found (tried s d x (cost C n)) o
          → ((y : s.State) → Valid y → LowerBound s d y (cost C n) → Completes s d y (cost C n)
          → FirstFrom g s y (cost C n) (greedy s d L C n y))
          → FirstFrom g s x (cost C (suc n)) (after C n o)
      at o f ih =
          let p = greedy-picks x (cost C n) o f in
          let y = f.value in
          let valid = r.laws.valid x y f.place ok p.step in
          let rest = ih y valid (bound-step r x C n ok bound y f.place p.step) p.completes in
          subst (λ (k : Option (ℕ × s.State)). FirstFrom g s x (cost C (suc n)) (after C n k)) (sym f.is)
          (first_more r x C n ok bound f.place y (greedy s d L C n y) p rest)
