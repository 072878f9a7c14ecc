-- The pigeonhole principle: a function with values below E takes some value at two of any E + 1 places.
-- Assumes nothing.
use Rattle.std.specs.Prelude.{◌≡◌, refl, ◌⊎◌, ◌≢◌, ℕ, zero, suc, ◌-◌, ◌<◌}
use Rattle.std.proofs.Common.{sym, ◌∙◌, inl, inr, le_refl, arith}
use Rattle.std.proofs.Math.Decide.{ℕ_discrete, dec_lt}

-- Two places below n at which f has the same value.
pub record Repeat (f : ℕ → ℕ) (n : ℕ) : Type 0 where
  pub early : ℕ
  pub late : ℕ
  pub early-lt : early < late
  pub late-lt : late < n
  pub same : f early ≡ f late

-- A place below n at which f has the value x.
record Place (f : ℕ → ℕ) (x n : ℕ) : Type 0 where
  index : ℕ
  index-lt : index < n
  value : f index ≡ x

-- There is such a place, or none.
find : (f : ℕ → ℕ) (x n : ℕ) → Place f x n ⊎ ((i : ℕ) → i < n → f i ≢ x)
find f x zero = inr (λ i h. absurd (omega arith))
find f x (suc n) = at (find f x n) (ℕ_discrete (f n) x)
  where
    last : ((i : ℕ) → i < n → f i ≢ x) → f n ≢ x → (i : ℕ) → i < suc n → Dec (i ≡ n) → f i ≢ x
    last none other i h (yes e) = rw e other
    last none other i h (no ne) = none i (omega arith)

    at : Place f x n ⊎ ((i : ℕ) → i < n → f i ≢ x) → Dec (f n ≡ x) → Place f x (suc n) ⊎ ((i : ℕ) → i < suc n → f i ≢ x)
    at (inl w) d = inl (record { index = w.index; index-lt = omega arith; value = w.value })
    at (inr none) (yes e) = inl (record { index = n; index-lt = le_refl (suc n); value = e })
    at (inr none) (no ne) = inr (λ i h. last none ne i h (ℕ_discrete i n))

-- The numbers other than x, renumbered to leave no gap.
abbrev skip : (x y : ℕ) → Dec (x < y) → ℕ
skip x y (yes h) = y - 1
skip x y (no h) = y

abbrev skipping : ℕ → (ℕ → ℕ) → ℕ → ℕ
skipping x f i = skip x (f i) (dec_lt x (f i))

skip_below : (x y k : ℕ) (d : Dec (x < y)) → y ≢ x → x < suc k → y < suc k → skip x y d < k
skip_below x y k (yes h) ne hx hy = omega arith
skip_below x y k (no h) ne hx hy = omega arith

skip-same : (x y z : ℕ) (d : Dec (x < y)) (e : Dec (x < z)) → y ≢ x → z ≢ x → skip x y d ≡ skip x z e → y ≡ z
skip-same x y z (yes h) (yes k) ny nz p = omega arith
skip-same x y z (yes h) (no k) ny nz p = omega arith
skip-same x y z (no h) (yes k) ny nz p = omega arith
skip-same x y z (no h) (no k) ny nz p = p

-- A repeat among the values so renumbered is a repeat.
unskip : (f : ℕ → ℕ) (x n : ℕ) → ((i : ℕ) → i < n → f i ≢ x) → Repeat (skipping x f) n → Repeat f (suc n)
unskip f x n none r = record {
  early = r.early;
  late = r.late;
  early-lt = r.early-lt;
  late-lt = omega arith;
  same =
      skip-same x (f r.early) (f r.late) (dec_lt x (f r.early)) (dec_lt x (f r.late))
      (none r.early (omega arith)) (none r.late r.late-lt) r.same;
}

-- Either the last value stands at an earlier place too, or the others are so renumbered.
pub pigeonhole : (E : ℕ) (f : ℕ → ℕ) → ((i : ℕ) → i < suc E → f i < E) → Repeat f (suc E)
pigeonhole zero f below = absurd (omega (arith, below 0 (omega arith)))
pigeonhole (suc k) f below = at (f (suc k)) refl (find f (f (suc k)) (suc k)) (pigeonhole k (skipping (f (suc k)) f))
  where
    at :
        (x : ℕ) → f (suc k) ≡ x → Place f x (suc k) ⊎ ((i : ℕ) → i < suc k → f i ≢ x)
        → (((i : ℕ) → i < suc k → skipping x f i < k) → Repeat (skipping x f) (suc k)) → Repeat f (suc (suc k))
    at x e (inl p) ih =
        record { early = p.index; late = suc k; early-lt = p.index-lt; late-lt = le_refl (suc (suc k)); same = p.value ∙ sym e }
    at x e (inr none) ih =
        unskip f x (suc k) none
        (ih (λ i h. skip_below x (f i) k (dec_lt x (f i)) (none i h) (omega (arith, below (suc k) (omega arith))) (below i (omega arith))))
