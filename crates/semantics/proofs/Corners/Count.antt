-- How many corners a cell of n timers has: `corner_count n 1`, which is 3, 13, 75 for one, two, three timers.
-- Assumes nothing.
use Rattle.std.specs.Prelude.{◌≡◌, refl, List, [], ◌∷◌, ◌++◌, map, ℕ, zero, suc, ◌+◌, ◌*◌, length}
use Rattle.std.proofs.Common.{ap, ◌∙◌, sym, ap₂, mul-one, one-mul, suc-mul, zero-mul, zero-add, add-zero, add-suc, suc-add, add-one, arith, length-append}
use Rattle.std.proofs.lemmas.List.{length-map}
use Rattle.semantics.specs.Answer.{count_from}
use Rattle.semantics.specs.NodeCount.{corner_count}
use Rattle.semantics.specs.Corners.Corner.{WeakOrder, flat_map, joining, opening, extended, weak_orders, zero_corners, open_corners, corners}
use Rattle.semantics.specs.Corners.Lists.{length-count_from}

-- The sum of a number for each entry.
total : {A : Type 0} → (A → ℕ) → List A → ℕ
total w [] = 0
total w (a ∷ l) = w a + total w l

total-append : {A : Type 0} (w : A → ℕ) (l r : List A) → total w (l ++ r) ≡ total w l + total w r
unfolding total
total-append w [] r = sym (zero-add (total w r))
total-append w (a ∷ l) r = ap (λ (n : ℕ). w a + n) (total-append w l r) ∙ omega arith

total-flat_map : {A B : Type 0} (w : B → ℕ) (f : A → List B) (l : List A) → total w (flat_map f l) ≡ total (λ (a : A). total w (f a)) l
unfolding total
total-flat_map w f [] = refl
total-flat_map w f (a ∷ l) = total-append w (f a) (flat_map f l) ∙ ap (λ (n : ℕ). total w (f a) + n) (total-flat_map w f l)

-- The same number for each entry.
total-map : {A B : Type 0} (w : B → ℕ) (f : A → B) (c : ℕ) → ((a : A) → w (f a) ≡ c) → (l : List A) → total w (map f l) ≡ length l * c
unfolding total
total-map w f c h [] = sym (zero-mul c)
total-map w f c h (a ∷ l) = ap (λ (n : ℕ). w (f a) + n) (total-map w f c h l) ∙ omega (arith, h a, suc-mul (length l) c)

total-sum : {A : Type 0} (v w : A → ℕ) (l : List A) → total v l + total w l ≡ total (λ (a : A). v a + w a) l
unfolding total
total-sum v w [] = refl
total-sum v w (a ∷ l) = omega (arith, total-sum v w l)

total-same : {A : Type 0} (v w : A → ℕ) → ((a : A) → v a ≡ w a) → (l : List A) → total v l ≡ total w l
unfolding total
total-same v w h [] = refl
total-same v w h (a ∷ l) = omega (arith, h a, total-same v w h l)

length-flat_map : {A B : Type 0} (f : A → List B) (l : List A) → length (flat_map f l) ≡ total (λ (a : A). length (f a)) l
unfolding total
length-flat_map f [] = refl
length-flat_map f (a ∷ l) = length-append (f a) (flat_map f l) ∙ ap (λ (n : ℕ). length (f a) + n) (length-flat_map f l)

-- One more timer.
extended-count : (n : ℕ) (w : WeakOrder) → total (λ (v : WeakOrder). corner_count n v.blocks) (extended w) ≡ corner_count (suc n) w.blocks
extended-count n w =
    let b = w.blocks in
    let f : WeakOrder → ℕ = λ v. corner_count n v.blocks in
    total-append f (map (joining w) (count_from 0 b)) (map (opening w) (count_from 0 (suc b)))
    ∙ omega (
      arith,
      total-map f (joining w) (corner_count n b) (λ x. refl) (count_from 0 b),
      total-map f (opening w) (corner_count n (suc b)) (λ x. refl) (count_from 0 (suc b)),
      ap (λ (m : ℕ). m * corner_count n b) (length-count_from 0 b),
      ap (λ (m : ℕ). m * corner_count n (suc b)) (length-count_from 0 (suc b)),
    )

weak_orders-count : (n m : ℕ) → total (λ (w : WeakOrder). corner_count m w.blocks) (weak_orders n) ≡ corner_count (n + m) 0
unfolding total
weak_orders-count zero m = rw (zero-add m, add-zero (corner_count m 0))
weak_orders-count (suc n) m =
    total-flat_map (λ (w : WeakOrder). corner_count m w.blocks) extended (weak_orders n)
    ∙ total-same _ (λ (w : WeakOrder). corner_count (suc m) w.blocks) (extended-count m) (weak_orders n)
    ∙ weak_orders-count n (suc m)
    ∙ ap (λ (k : ℕ). corner_count k 0) (add-suc n m ∙ sym (suc-add n m))

-- The index is one more mark.
index-count : (w : WeakOrder) → length (zero_corners w) + length (open_corners w) ≡ corner_count 1 w.blocks
index-count w =
    let b = w.blocks in
    let z : length (zero_corners w) ≡ b = length-map (count_from 0 b) _ ∙ length-count_from 0 b in
    let o : length (open_corners w) ≡ suc b = length-map (count_from 0 (suc b)) _ ∙ length-count_from 0 (suc b) in
    omega (arith, z, o, mul-one b, mul-one (suc b))

-- The number of corners, for any number of timers.
pub corners-length : (n : ℕ) → length (corners n) ≡ corner_count n 1
corners-length n =
    length-append (flat_map zero_corners (weak_orders n)) (flat_map open_corners (weak_orders n))
    ∙ ap₂ ◌+◌ (length-flat_map zero_corners (weak_orders n)) (length-flat_map open_corners (weak_orders n))
    ∙ total-sum (λ (w : WeakOrder). length (zero_corners w)) (λ (w : WeakOrder). length (open_corners w)) (weak_orders n)
    ∙ total-same _ _ index-count (weak_orders n)
    ∙ weak_orders-count n 1
    ∙ ap (λ (k : ℕ). corner_count k 0) (add-one n)
    ∙ omega (arith, zero-mul (corner_count n 0), one-mul (corner_count n 1))
