-- The answers that the page Answer puts together are the best of what they are put together from: the better of two answers, a step in front
-- of an answer, and the least price.
-- Assumes nothing.
use Rattle.std.specs.Prelude.{◌≡◌, refl, Bool, true, false, cond, ◌⊎◌, ℕ, min, ◌<◌, ◌≤◌, ltb, eqb, length}
use Rattle.std.proofs.Common.{sym, ap, subst, true≢false, inl, inr, ⊎_elim, arith, ltb-true, ltb-false, eqb-true}
use Rattle.std.proofs.lemmas.Bool.{false≢true, eqb-false}
use mathlib.Core.List.Memᴰ
use mathlib.Core.List.{List, [], ◌∷◌, Memᴰ}
use Rattle.std.proofs.Math.Decide.{dec_le}
use Rattle.semantics.specs.Order.{Cost, cost, ◌≼◌, ◌≺◌, ◌⊑◌, earlier, Best}
use Rattle.semantics.specs.Answer.{Answer, no_route, route, is_better, better, behind, least}
use Rattle.semantics.specs.Paths.Cost.{cost-antisymm, cost-total, less-true, less-false}
use Rattle.semantics.specs.Paths.Labels.{best-map}
use Rattle.semantics.specs.Paths.Better.{Either, Before, NoLater, best-left, best-only, best-swap, best-cons}

-- What an answer says of all that comes: nothing does, or the route is the best of it.
abbrev pub IsBest : (List ℕ → ℕ → Type 0) → Answer → Type 0
IsBest Comes no_route = (ks : List ℕ) (C : ℕ) → Comes ks C → ⊥
IsBest Comes (route C ks) = Best Comes (cost C (length ks)) ks

-- What comes, said another way.
pub is-best-map :
    {P Q : List ℕ → ℕ → Type 0} (x : Answer) → ((ks : List ℕ) (C : ℕ) → P ks C → Q ks C) → ((ks : List ℕ) (C : ℕ) → Q ks C → P ks C)
    → IsBest P x → IsBest Q x
is-best-map no_route to from b = λ ks C k. b ks C (from ks C k)
is-best-map (route C ks) to from b = best-map (cost C (length ks)) ks to from b

-- The test of byte order.
earlier-true : (js ks : List ℕ) → earlier js ks ≡ true → js ⊑ ks
earlier-true [] ks t = tt
earlier-true (j ∷ js) [] t = absurd (false≢true t)
earlier-true (j ∷ js) (k ∷ ks) t = go (ltb j k) refl (eqb j k) refl (earlier-true js ks) t
  where
    go :
        (b : Bool) → ltb j k ≡ b → (c : Bool) → eqb j k ≡ c → (earlier js ks ≡ true → js ⊑ ks)
        → cond b true (cond c (earlier js ks) false) ≡ true → (j ∷ js) ⊑ (k ∷ ks)
    go true p c q ih t = inl (ltb-true j k p)
    go false p true q ih t = inr (eqb-true j k q, ih t)
    go false p false q ih t = absurd (false≢true t)

earlier-false : (js ks : List ℕ) → length js ≡ length ks → earlier js ks ≡ false → ks ⊑ js
earlier-false [] [] n t = tt
earlier-false [] (k ∷ ks) n t = absurd (omega arith)
earlier-false (j ∷ js) [] n t = tt
earlier-false (j ∷ js) (k ∷ ks) n t = go (ltb j k) refl (eqb j k) refl (earlier-false js ks (omega arith)) t
  where
    go :
        (b : Bool) → ltb j k ≡ b → (c : Bool) → eqb j k ≡ c → (earlier js ks ≡ false → ks ⊑ js)
        → cond b true (cond c (earlier js ks) false) ≡ false → (k ∷ ks) ⊑ (j ∷ js)
    go true p c q ih t = absurd (true≢false t)
    go false p true q ih t = inr (sym (eqb-true j k q), ih t)
    go false p false q ih t = inl (omega (arith, ltb-false j k p, eqb-false j k q))

-- The test of what is better. Costs that are not the same decide; of the same cost, byte order does.
module _ (C : ℕ) (js : List ℕ) (D : ℕ) (ks : List ℕ) where
  abbrev c : Cost
  c = cost C (length js)

  abbrev d : Cost
  d = cost D (length ks)

  better-true : is_better C js D ks ≡ true → NoLater c js d ks
  better-true t = go (cost-total d c) (cost-total c d)
    where
      go : (d ≼ c) ⊎ (c ≺ d) → (c ≼ d) ⊎ (d ≺ c) → NoLater c js d ks
      go (inr h) k = inl h
      go (inl h) (inr k) = absurd (false≢true (rw (less-false c d h, less-true d c k) at t))
      go (inl h) (inl k) = inr (cost-antisymm c d k h, earlier-true js ks (rw (less-false c d h, less-false d c k) at t))

  better-false : is_better C js D ks ≡ false → NoLater d ks c js
  better-false t = go (cost-total d c) (cost-total c d)
    where
      go : (d ≼ c) ⊎ (c ≺ d) → (c ≼ d) ⊎ (d ≺ c) → NoLater d ks c js
      go h (inr k) = inl k
      go (inr h) (inl k) = absurd (true≢false (rw (less-true c d h) at t))
      go (inl h) (inl k) =
          let e = cost-antisymm c d k h in
          inr (sym e, earlier-false js ks (ap (λ (x : Cost). x.steps) e) (rw (less-false c d h, less-false d c k) at t))

module _ (P Q : List ℕ → ℕ → Type 0) where
  -- The better of two answers is the best of both kinds.
  pub is-best-better : (x y : Answer) → IsBest P x → IsBest Q y → IsBest (Either P Q) (better x y)
  is-best-better no_route no_route p q = λ ks C k. ⊎_elim (p ks C) (q ks C) k
  is-best-better no_route (route D ks) p q = best-swap (cost D (length ks)) ks (best-only (cost D (length ks)) ks q p)
  is-best-better (route C js) no_route p q = best-only (cost C (length js)) js p q
  is-best-better (route C js) (route D ks) p q = go (is_better D ks C js) refl
    where
      c : Cost
      c = cost C (length js)

      d : Cost
      d = cost D (length ks)

      go : (b : Bool) → is_better D ks C js ≡ b → IsBest (Either P Q) (cond b (route D ks) (route C js))
      go true t = best-swap d ks (best-left d c ks js q p (better-true D ks C js t))
      go false t = best-left c d js ks p q (better-false D ks C js t)

-- A step in front of the best.
pub is-best-behind : (P : List ℕ → ℕ → Type 0) (byte : ℕ) (x : Answer) → IsBest P x → IsBest (Before byte P) (behind byte x)
is-best-behind P byte no_route p = λ ks C k. p k.rest C k.comes
is-best-behind P byte (route C ks) p = best-cons byte (cost C (length ks)) ks p

-- The least price is one of the prices, and none is less.
pub least-listed : (cs : List ℕ) → 0 < length cs → Memᴰ (least cs) cs
least-listed [] h = absurd (omega arith)
least-listed (c ∷ []) h = Memᴰ.head refl
least-listed (c ∷ d ∷ cs) h = go (dec_le c (least (d ∷ cs))) (least-listed (d ∷ cs) (omega arith))
  where
    go : Dec (c ≤ least (d ∷ cs)) → Memᴰ (least (d ∷ cs)) (d ∷ cs) → Memᴰ (min c (least (d ∷ cs))) (c ∷ d ∷ cs)
    go (yes l) m = let e : min c (least (d ∷ cs)) ≡ c = omega arith in Memᴰ.head e
    go (no l) m =
        let e : least (d ∷ cs) ≡ min c (least (d ∷ cs)) = omega arith in
        Memᴰ.tail (subst (λ (n : ℕ). Memᴰ n (d ∷ cs)) e m)

pub least-most : (cs : List ℕ) (c : ℕ) → Memᴰ c cs → least cs ≤ c
least-most [] c m = absurd (Memᴰ.not-nil m)
least-most (d ∷ []) c m = let e = Memᴰ.eq_of_singleton m in omega arith
least-most (d ∷ e ∷ cs) c m = ⊎_elim (λ i. omega arith) (λ k. omega (arith, least-most (e ∷ cs) c k)) (Memᴰ.cases_cons m)
