-- Sets of corners as the bits of a number below 16.
-- Assumes nothing.
use mathlib.Core.Path.{◌≡◌, refl, sym, ap, ◌∙◌}
use mathlib.Core.Bool.{Bool, true, false, cond, ◌&&◌, ◌||◌, true≢false}
use Rattle.std.proofs.Common.{bit_or}
use mathlib.Core.Logic.{◌↔◌, ◌⊎◌, ◌≢◌, inl, inr}
use Prim.Native.Nat.{ℕ, zero, suc, ◌*◌, ◌/◌, ◌%◌, ◌^◌, ◌≤◌, ◌<◌}
use native.Mathlib.Nat.{pow-le-pow_right, div-eq_of_lt, zero-div}
use native.Mathlib.Decide.{ℕ_discrete, dec_lt}
use native.Mathlib.Omega.{arith}
use borrow.Author.Tests.{eq-eqb, ne_eqb, eqb-true, ltb-true}
use lib.Dec.{eqb, ltb}
use lib.ListN.{replicate, length-replicate}
use Rattle.semantics.specs.Regions.Compare.{and-true-iff}
use Rattle.semantics.specs.Corners.Every.{every_from, every-at}
use Rattle.steps.specs.Steps.{Marked}
use Rattle.steps.specs.Leading.{Adds}

-- A test that fails says that what it tests does not hold.
pub refused : {A : Type 0} {b : Bool} → (b ≡ true) ↔ A → b ≡ false → A → ⊥
refused t e a = true≢false (sym (t.1 a) ∙ e)

-- A test that is computed for each number below n.
abbrev every_below : ℕ → (ℕ → Bool) → Bool
every_below n f = every_from {A = ℕ} (λ i z. f i) 0 (replicate n 0)

every-below : (n : ℕ) (f : ℕ → Bool) → every_below n f ≡ true → (i : ℕ) → i < n → f i ≡ true
every-below n f t i h = every-at {A = ℕ} (λ j z. f j) (replicate n 0) t i 0 (rw (length-replicate {A = ℕ} n 0) h)

-- A corner added to a set: what it makes is below 16, has the bit of the corner, and the other bits as before.
added_at : ℕ → ℕ → ℕ → Bool
added_at set corner i = eqb (bit_or set (2 ^ corner) / 2 ^ i % 2) (cond (eqb i corner) 1 (set / 2 ^ i % 2))

added : ℕ → ℕ → Bool
added set corner = ltb (bit_or set (2 ^ corner)) 16 && every_below 4 (added_at set corner)

all-added : every_below 16 (λ set. every_below 4 (added set)) ≡ true
unfolding added added_at
all-added = refl

-- A set below 16 has no corner from 4 on, and the set 0 has none.
pub marked-few : (set i : ℕ) → set < 16 → Marked set i → i < 4
marked-few set i h m = at (dec_lt i 4)
  where
    at : Dec (i < 4) → i < 4
    at (yes l) = l
    at (no n) =
        let far : 2 ^ 4 ≤ 2 ^ i = pow-le-pow_right (omega arith) {i = 4} {j = i} (omega arith) in
        let low : set < 2 ^ i = omega arith in
        let none : set / 2 ^ i ≡ 0 = div-eq_of_lt low in
        absurd (omega (arith, ap (λ (q : ℕ). q % 2) none))

pub none-marked : (i : ℕ) → Marked 0 i → ⊥
none-marked i m = omega (arith, ap (λ (q : ℕ). q % 2) (zero-div (2 ^ i)))

-- A set other than 0 has one.
some_bit : ℕ → Bool
some_bit set = eqb set 0 || (eqb (set / 2 ^ 0 % 2) 1 || (eqb (set / 2 ^ 1 % 2) 1 || (eqb (set / 2 ^ 2 % 2) 1 || eqb (set / 2 ^ 3 % 2) 1)))

all-some : every_below 16 some_bit ≡ true
unfolding some_bit
all-some = refl

pub some-marked : (set : ℕ) → set < 16 → set ≢ 0 → (i : ℕ) × Marked set i
unfolding some_bit
some-marked set h n = at _ refl _ refl _ refl (rw (ne_eqb set 0 n) at (every-below 16 some_bit all-some set h))
  where
    at :
        (a : Bool) → eqb (set / 2 ^ 0 % 2) 1 ≡ a → (b : Bool) → eqb (set / 2 ^ 1 % 2) 1 ≡ b → (c : Bool) → eqb (set / 2 ^ 2 % 2) 1 ≡ c
        → (a || (b || (c || eqb (set / 2 ^ 3 % 2) 1))) ≡ true → (i : ℕ) × Marked set i
    at true e b f c g t = (0, eqb-true _ _ e)
    at false e true f c g t = (1, eqb-true _ _ f)
    at false e false f true g t = (2, eqb-true _ _ g)
    at false e false f false g t = (3, eqb-true _ _ t)

-- A shift in 32 bits.
pub shifted : (corner : ℕ) → corner < 4 → 1 * 2 ^ corner % 2 ^ 32 ≡ 2 ^ corner
shifted zero h = refl
shifted (suc zero) h = refl
shifted (suc (suc zero)) h = refl
shifted (suc (suc (suc zero))) h = refl
shifted (suc (suc (suc (suc n)))) h = absurd (omega arith)

-- The set with a corner.
module _ (set corner : ℕ) (h : set < 16) (few : corner < 4) where
  tested : (ltb (bit_or set (2 ^ corner)) 16 ≡ true) × (every_below 4 (added_at set corner) ≡ true)
  unfolding added
  tested = (and-true-iff _ _).0 (every-below 4 (added set) (every-below 16 (λ s. every_below 4 (added s)) all-added set h) corner few)

  below : bit_or set (2 ^ corner) < 16
  below = ltb-true _ 16 tested.0

  bit : (i : ℕ) → i < 4 → bit_or set (2 ^ corner) / 2 ^ i % 2 ≡ cond (eqb i corner) 1 (set / 2 ^ i % 2)
  unfolding added_at
  bit i l = eqb-true _ _ (every-below 4 (added_at set corner) tested.1 i l)

  pub with-corner : Adds (Unit {0}) set corner (bit_or set (2 ^ corner))
  with-corner = record { sixteen = below; marks = λ i. (λ m. to i m (ℕ_discrete i corner), from i (ℕ_discrete i corner)) }
    where
      to : (i : ℕ) → Marked (bit_or set (2 ^ corner)) i → Dec (i ≡ corner) → Marked set i ⊎ ((i ≡ corner) × Unit {0})
      to i m (yes e) = inr (e, tt)
      to i m (no n) = inl (sym (rw (ne_eqb i corner n) at (bit i (marked-few _ i below m))) ∙ m)

      from : (i : ℕ) → Dec (i ≡ corner) → Marked set i ⊎ ((i ≡ corner) × Unit {0}) → Marked (bit_or set (2 ^ corner)) i
      from i (yes e) _ = rw (eq-eqb i corner e) at (bit i (rw e few))
      from i (no n) (inl m) = (rw (ne_eqb i corner n) at (bit i (marked-few set i h m))) ∙ m
      from i (no n) (inr o) = absurd (n o.0)
