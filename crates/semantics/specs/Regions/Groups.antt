-- How many groups there can be: k is at most the number of timers, below it where r0 holds a timer, and not 0 where r0 is empty.
-- Assumes nothing.
use Rattle.std.specs.Prelude.{◌≡◌, refl, Bool, true, false, cond, List, [], ◌∷◌, ℕ, zero, suc, pred, ◌<◌, ◌≤◌, eqb, length, get_or}
use Rattle.std.proofs.Common.{ap, ◌∙◌, sym, subst, zero-le, not-suc-le-zero, le_refl, arith, ne_eqb, eqb-true}
use Rattle.std.proofs.Math.Decide.{dec_lt}
use Rattle.std.proofs.Math.Dec.{eqb-zero-suc}
use Rattle.semantics.specs.Region.{PricedRegion, WellFormed, count, top}
use Rattle.semantics.specs.Regions.Count.{count-pos}
use Rattle.semantics.specs.Regions.Lengths.{prices-top}

-- The list without its first x.
without : ℕ → List ℕ → List ℕ
without x [] = []
without x (y ∷ ys) = cond (eqb y x) ys (y ∷ without x ys)

length_without : (x : ℕ) (l : List ℕ) → 0 < count x l → length l ≡ suc (length (without x l))
unfolding without
length_without x [] h = absurd (not-suc-le-zero h)
length_without x (y ∷ ys) h = go (length_without x ys) (eqb y x) h
  where
    go :
        (0 < count x ys → length ys ≡ suc (length (without x ys))) → (b : Bool) → 0 < cond b (suc (count x ys)) (count x ys)
        → suc (length ys) ≡ suc (length (cond b ys (y ∷ without x ys)))
    go ih true h = refl
    go ih false h = ap suc (ih h)

count-without : (x g : ℕ) (l : List ℕ) → (g ≡ x → ⊥) → count g (without x l) ≡ count g l
unfolding without
count-without x g [] n = refl
count-without x g (y ∷ ys) n = go (count-without x g ys n) (eqb y x) refl
  where
    go :
        count g (without x ys) ≡ count g ys → (b : Bool) → eqb y x ≡ b
        → count g (cond b ys (y ∷ without x ys)) ≡ cond (eqb y g) (suc (count g ys)) (count g ys)
    go ih true e = simp (ne_eqb y g (λ p. n (sym p ∙ eqb-true y x e)))
    go ih false e = ap (λ (k : ℕ). cond (eqb y g) (suc k) k) ih

-- A list that holds each number below m has at least m entries.
pub at_least : (m : ℕ) (l : List ℕ) → ((g : ℕ) → g < m → 0 < count g l) → m ≤ length l
at_least zero l h = zero-le
at_least (suc m) l h =
    let rest : m ≤ length (without m l) =
    at_least m (without m l) (λ g p. rw (count-without m g l (λ e. omega arith)) (h g (omega arith))) in
    rw (length_without m l (h m (le_refl _))) (omega arith)

module _ (r : PricedRegion) (w : WellFormed r) where
  pub groups-few : length r.prices ≤ suc (length r.whole)
  groups-few = subst (λ (n : ℕ). length r.prices ≤ suc n) w.paired (at_least (length r.prices) (0 ∷ r.group) each)
    where
      each : (g : ℕ) → g < length r.prices → 0 < count g (0 ∷ r.group)
      each zero h = omega arith
      each (suc g) h = rw (eqb-zero-suc g) (w.full (suc g) (omega arith) h)

  -- Each group below the number of prices has a timer, where r0 has one.
  pub zero-full : 0 < count 0 r.group → (g : ℕ) → g < length r.prices → 0 < count g r.group
  zero-full z zero h = z
  zero-full z (suc g) h = w.full (suc g) (omega arith) h

  pub groups-fewer : 0 < count 0 r.group → length r.prices ≤ length r.whole
  groups-fewer z = subst (λ (n : ℕ). length r.prices ≤ n) w.paired (at_least (length r.prices) r.group (zero-full z))

  -- Where r0 is empty there is another group.
  pub top_pos : count 0 r.group ≡ 0 → 0 < top r
  top_pos z = go (dec_lt 1 (length r.prices))
    where
      go : Dec (1 < length r.prices) → 0 < pred (length r.prices)
      go (yes p) = omega arith
      go (no p) =
          let e : get_or r.group 0 0 ≡ 0 = omega (arith, w.below 0) in
          absurd (omega (arith, count-pos 0 0 r.group (omega (arith, w.some, w.paired)) e))

  -- The highest group has a timer, where it is not r0.
  pub top-full : 0 < top r → 0 < count (top r) r.group
  top-full p = w.full (top r) p (omega (arith, prices-top r w.priced))
