-- The first number at which a function has a value.
-- Assumes nothing.
use Rattle.std.specs.Prelude.{◌≡◌, refl, ℕ, zero, suc, ◌+◌, ◌≤◌, ◌<◌}
use Rattle.std.proofs.Common.{true≢false, arith}
use Rattle.std.proofs.Math.Option.{Option, none, some}
use Rattle.std.proofs.Math.Decide.{ℕ_discrete}

-- The first of the n numbers from i on at which f has a value, and that value.
abbrev pub first_some : {A : Type 0} → (ℕ → Option A) → ℕ → ℕ → Option (ℕ × A)
first_some f zero i = none
first_some f (suc n) i = elim (f i) [ none ↦ first_some f n (suc i) | some a ↦ some (i, a) ]

-- The first place at which f has a value was found.
pub record Found {A : Type 0} (f : ℕ → Option A) (o : Option (ℕ × A)) : Type 0 where
  pub place : ℕ
  pub value : A
  pub is : o ≡ some (place, value)
  pub at_place : f place ≡ some value
  pub earlier : (i : ℕ) → i < place → f i ≡ none

-- If f has a value at k, from i on, and none below i, the first one is found.
pub first_some-found :
    {A : Type 0} (f : ℕ → Option A) (n i k : ℕ) (a : A) → ((j : ℕ) → j < i → f j ≡ none) → i ≤ k → k < i + n → f k ≡ some a
    → Found f (first_some f n i)
first_some-found f zero i k a passed low high e = absurd (omega arith)
first_some-found {A} f (suc n) i k a passed low high e = go (f i) refl (first_some-found f n (suc i) k a)
  where
    above : f i ≡ none → Dec (k ≡ i) → suc i ≤ k
    above q (yes h) =
        let x : f i ≡ some a = rw h at e in
        absurd (true≢false cc)
    above q (no h) = omega arith

    earlier : f i ≡ none → (j : ℕ) → j < suc i → Dec (j ≡ i) → f j ≡ none
    earlier q j h (yes x) = rw x q
    earlier q j h (no x) = passed j (omega arith)

    go :
        (o : Option A) → f i ≡ o
        → (((j : ℕ) → j < suc i → f j ≡ none) → suc i ≤ k → k < suc i + n → f k ≡ some a → Found f (first_some f n (suc i)))
        → Found f (elim o [ none ↦ first_some f n (suc i) | some b ↦ some (i, b) ])
    go none q ih = ih (λ j h. earlier q j h (ℕ_discrete j i)) (above q (ℕ_discrete k i)) (omega arith) e
    go (some b) q ih = record { place = i; value = b; is = refl; at_place = q; earlier = passed }
