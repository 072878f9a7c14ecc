-- Lists of any things: what is in them, and that nothing is in them twice, after append, map and flat_map.
-- Assumes nothing.
use Rattle.std.specs.Prelude.{◌≡◌, refl, ◌⊎◌, ℕ, zero, suc, ◌+◌, ◌<◌, ◌≤◌, length, get_or}
use Rattle.std.proofs.Common.{ap, ◌∙◌, sym, subst, inl, inr, ⊎_elim, suc-le-suc, le_of_suc-le-suc, not-suc-le-zero, zero-add, add-zero, arith}
use mathlib.Core.List.Memᴰ
use mathlib.Core.List.{List, [], ◌∷◌, ◌++◌, map, Memᴰ}
use Rattle.semantics.specs.Answer.{count_from}
use Rattle.semantics.specs.Corners.Corner.{flat_map}

-- The numbers from i on.
pub length-count_from : (i n : ℕ) → length (count_from i n) ≡ n
length-count_from i zero = refl
length-count_from i (suc n) = ap suc (length-count_from (suc i) n)

pub get_or-count_from : (i n j d : ℕ) → j < n → get_or (count_from i n) j d ≡ i + j
get_or-count_from i zero j d h = absurd (not-suc-le-zero h)
get_or-count_from i (suc n) zero d h = sym (add-zero i)
get_or-count_from i (suc n) (suc j) d h = get_or-count_from (suc i) n j d (le_of_suc-le-suc h) ∙ omega arith

mem-count_from : (i n j : ℕ) → j < n → Memᴰ (i + j) (count_from i n)
mem-count_from i zero j h = absurd (not-suc-le-zero h)
mem-count_from i (suc n) zero h = Memᴰ.head (add-zero i)
mem-count_from i (suc n) (suc j) h =
    let e : suc i + j ≡ i + suc j = omega arith in
    Memᴰ.tail (subst (λ (x : ℕ). Memᴰ x (count_from (suc i) n)) e (mem-count_from (suc i) n j (le_of_suc-le-suc h)))

pub mem_below : (n x : ℕ) → x < n → Memᴰ x (count_from 0 n)
mem_below n x h = subst (λ (y : ℕ). Memᴰ y (count_from 0 n)) (zero-add x) (mem-count_from 0 n x h)

count_from-bounds : (i n x : ℕ) → Memᴰ x (count_from i n) → (i ≤ x) × (x < i + n)
count_from-bounds i zero x m = absurd (Memᴰ.not-nil m)
count_from-bounds i (suc n) x m = go (count_from-bounds (suc i) n x) (Memᴰ.cases_cons m)
  where
    go :
        (Memᴰ x (count_from (suc i) n) → (suc i ≤ x) × (x < suc i + n)) → (x ≡ i) ⊎ Memᴰ x (count_from (suc i) n)
        → (i ≤ x) × (x < i + suc n)
    go ih (inl e) = omega arith
    go ih (inr k) = let o = ih k in omega arith

pub below-bound : (n x : ℕ) → Memᴰ x (count_from 0 n) → x < n
below-bound n x m = let b = count_from-bounds 0 n x m in omega arith

pub mem-get_or : {A : Type 0} (l : List A) (i : ℕ) (d : A) → i < length l → Memᴰ (get_or l i d) l
mem-get_or [] i d h = absurd (not-suc-le-zero h)
mem-get_or (a ∷ l) zero d h = Memᴰ.head refl
mem-get_or (a ∷ l) (suc i) d h = Memᴰ.tail (mem-get_or l i d (le_of_suc-le-suc h))

-- What is in a list stands at some place.
pub mem-place : {A : Type 0} (l : List A) (a : A) → Memᴰ a l → (i : ℕ) × (i < length l) × ((d : A) → get_or l i d ≡ a)
mem-place [] a m = absurd (Memᴰ.not-nil m)
mem-place {A} (b ∷ l) a m = go (mem-place l a) (Memᴰ.cases_cons m)
  where
    go :
        (Memᴰ a l → (i : ℕ) × (i < length l) × ((d : A) → get_or l i d ≡ a)) → (a ≡ b) ⊎ Memᴰ a l
        → (i : ℕ) × (i < suc (length l)) × ((d : A) → get_or (b ∷ l) i d ≡ a)
    go ih (inl e) = (0, omega arith, λ d. sym e)
    go ih (inr k) = let o = ih k in (suc o.0, suc-le-suc o.1, o.2)

module _ {A B : Type 0} (f : A → List B) where
  pub mem-flat_map : {a : A} {b : B} {l : List A} → Memᴰ a l → Memᴰ b (f a) → Memᴰ b (flat_map f l)
  mem-flat_map {l = []} d m = absurd (Memᴰ.not-nil d)
  mem-flat_map {b = b} {l = x ∷ xs} (Memᴰ.head e) m = Memᴰ.append_left (flat_map f xs) (subst (λ (c : A). Memᴰ b (f c)) e m)
  mem-flat_map {l = x ∷ xs} (Memᴰ.tail d) m = Memᴰ.append_right (f x) (mem-flat_map d m)

  pub mem-of-flat_map : (l : List A) (b : B) → Memᴰ b (flat_map f l) → (a : A) × Memᴰ a l × Memᴰ b (f a)
  mem-of-flat_map [] b m = absurd (Memᴰ.not-nil m)
  mem-of-flat_map (a ∷ l) b m = go (mem-of-flat_map l b) (Memᴰ.append_cases (f a) m)
    where
      go :
          (Memᴰ b (flat_map f l) → (c : A) × Memᴰ c l × Memᴰ b (f c)) → Memᴰ b (f a) ⊎ Memᴰ b (flat_map f l)
          → (c : A) × Memᴰ c (a ∷ l) × Memᴰ b (f c)
      go ih (inl k) = (a, Memᴰ.head refl, k)
      go ih (inr k) = let o = ih k in (o.0, Memᴰ.tail o.1, o.2)

-- Nothing is in the list twice.
abbrev pub Distinct : {A : Type 0} → List A → Type 0
Distinct [] = Unit {0}
Distinct (a ∷ l) = (Memᴰ a l → ⊥) × Distinct l

pub distinct_append : {A : Type 0} (l r : List A) → Distinct l → Distinct r → ((a : A) → Memᴰ a l → Memᴰ a r → ⊥) → Distinct (l ++ r)
distinct_append [] r d e n = e
distinct_append (a ∷ l) r d e n = (
  λ m. ⊎_elim d.0 (n a (Memᴰ.head refl)) (Memᴰ.append_cases l m),
  distinct_append l r d.1 e (λ b m k. n b (Memᴰ.tail m) k),
)

pub distinct-count_from : (i n : ℕ) → Distinct (count_from i n)
distinct-count_from i zero = tt
distinct-count_from i (suc n) = ((λ m. let b = count_from-bounds (suc i) n i m in omega arith), distinct-count_from (suc i) n)

module _ {A B : Type 0} where
  pub distinct-map : (f : A → B) → ((a b : A) → f a ≡ f b → a ≡ b) → (l : List A) → Distinct l → Distinct (map f l)
  distinct-map f inj [] d = tt
  distinct-map f inj (a ∷ l) d = (
    λ m.
        let o = Memᴰ.of_map f l m in
        d.0 (subst (λ (b : A). Memᴰ b l) (inj o.0 a o.2) o.1),
    distinct-map f inj l d.1,
  )

  -- Each entry gives a list of its own.
  pub distinct-flat_map :
      (f : A → List B) (l : List A) → Distinct l → ((a : A) → Memᴰ a l → Distinct (f a))
      → ((a c : A) (b : B) → Memᴰ a l → Memᴰ c l → Memᴰ b (f a) → Memᴰ b (f c) → a ≡ c) → Distinct (flat_map f l)
  distinct-flat_map f [] d each one = tt
  distinct-flat_map f (a ∷ l) d each one =
      distinct_append (f a) (flat_map f l) (each a (Memᴰ.head refl))
      (distinct-flat_map f l d.1 (λ c m. each c (Memᴰ.tail m)) (λ p c b m k. one p c b (Memᴰ.tail m) (Memᴰ.tail k)))
      (λ b m k.
      let o = mem-of-flat_map f l b k in
      d.0 (subst (λ (c : A). Memᴰ c l) (one o.0 a b (Memᴰ.tail o.1) (Memᴰ.head refl) o.2 m) o.1))
