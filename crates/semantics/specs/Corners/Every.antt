-- A test that is computed over a whole list holds at each entry: how a constant table is proved right.
-- Assumes nothing.
use Rattle.std.specs.Prelude.{◌≡◌, Bool, true, ◌&&◌, ℕ, zero, suc, ◌+◌, ◌<◌, length, get_or}
use Rattle.std.proofs.Common.{sym, subst, ⊎_elim, le_of_suc-le-suc, not-suc-le-zero, add-zero, zero-add, arith}
use mathlib.Core.List.Memᴰ
use mathlib.Core.List.{List, [], ◌∷◌, Memᴰ}
use Rattle.semantics.specs.Regions.Compare.{and-true-iff}

abbrev pub every : {A : Type 0} → (A → Bool) → List A → Bool
every f [] = true
every f (a ∷ l) = f a && every f l

-- The same of a test that is told the place of the entry, counted from i.
abbrev pub every_from : {A : Type 0} → (ℕ → A → Bool) → ℕ → List A → Bool
every_from f i [] = true
every_from f i (a ∷ l) = f i a && every_from f (suc i) l

module _ {A : Type 0} where
  pub every-mem : (f : A → Bool) (l : List A) → every f l ≡ true → (a : A) → Memᴰ a l → f a ≡ true
  every-mem f [] t a m = absurd (Memᴰ.not-nil m)
  every-mem f (b ∷ l) t a m =
      let p = (and-true-iff (f b) (every f l)).0 t in
      ⊎_elim (λ e. subst (λ (x : A). f x ≡ true) (sym e) p.0) (every-mem f l p.1 a) (Memᴰ.cases_cons m)

  every_from-at :
      (f : ℕ → A → Bool) (l : List A) (i : ℕ) → every_from f i l ≡ true → (j : ℕ) (d : A) → j < length l
      → f (i + j) (get_or l j d) ≡ true
  every_from-at f [] i t j d h = absurd (not-suc-le-zero h)
  every_from-at f (a ∷ l) i t zero d h = rw (add-zero i) ((and-true-iff (f i a) (every_from f (suc i) l)).0 t).0
  every_from-at f (a ∷ l) i t (suc j) d h =
      let e : suc i + j ≡ i + suc j = omega arith in
      rw (← e) (every_from-at f l (suc i) ((and-true-iff (f i a) (every_from f (suc i) l)).0 t).1 j d (le_of_suc-le-suc h))

  pub every-at : (f : ℕ → A → Bool) (l : List A) → every_from f 0 l ≡ true → (i : ℕ) (d : A) → i < length l → f i (get_or l i d) ≡ true
  every-at f l t i d h = rw zero-add at (every_from-at f l 0 t i d h)
