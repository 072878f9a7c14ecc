-- Sets of corners as numbers: a set below 16 has only the corners below 4, and its lowest is in it.
-- Assumes nothing.
use mathlib.Core.Path.{◌≡◌, refl, sym, subst}
use mathlib.Core.Bool.{Bool, true, false, cond}
use mathlib.Core.Logic.{◌↔◌}
use Prim.Native.Nat.{ℕ, ◌/◌, ◌%◌, ◌^◌, ◌≤◌, ◌<◌}
use native.Mathlib.Nat.{div-eq_of_lt, pow-le-pow_right}
use native.Mathlib.Decide.{ℕ_discrete, dec_lt}
use native.Mathlib.Omega.{arith}
use borrow.Author.Tests.{eq-eqb, ne_eqb, eqb-true, eqb-false}
use Rattle.std.specs.Prelude.{Option, Some, None}
use Rattle.std.specs.Option.{MatchOption, unwrap_or}
use Rattle.steps.specs.Steps.{Marked}
use Rattle.route.specs.Walk.{is_marked, lowest}

pub marked-few : (set j : ℕ) → set < 16 → Marked set j → j < 4
marked-few set j h m = at (dec_lt j 4)
  where
    at : Dec (j < 4) → j < 4
    at (yes b) = b
    at (no b) =
        let high : 2 ^ 4 ≤ 2 ^ j = pow-le-pow_right {n = 2} (omega arith) {i = 4} {j = j} (omega arith) in
        let none : set / 2 ^ j ≡ 0 = div-eq_of_lt {n = set} {m = 2 ^ j} (omega arith) in
        absurd (omega arith)

-- 1 is the set of corner 0.
pub marked-one : (j : ℕ) → Marked 1 j ↔ (j ≡ 0)
marked-one j = (λ m. at m (dec_lt 0 j), λ e. subst (Marked 1) (sym e) refl)
  where
    at : Marked 1 j → Dec (0 < j) → j ≡ 0
    at m (no b) = omega arith
    at m (yes b) =
        let high : 2 ^ 1 ≤ 2 ^ j = pow-le-pow_right {n = 2} (omega arith) {i = 1} {j = j} b in
        let none : 1 / 2 ^ j ≡ 0 = div-eq_of_lt {n = 1} {m = 2 ^ j} (omega arith) in
        absurd (omega arith)

-- The first of the corners 0, 1 and 2 that is in the set is its lowest; 3 is, if none of them is.
pub lowest-is : (set j : ℕ) → j ≤ 3 → (j < 3 → Marked set j) → ((i : ℕ) → i < j → Marked set i → ⊥) → j ≡ lowest set
unfolding lowest
lowest-is set j few here none = at (dec_lt 0 j) (dec_lt 1 j) (dec_lt 2 j)
  where
    unmarked : (i : ℕ) → i < j → is_marked set i ≡ false
    unmarked i b = ne_eqb (set / 2 ^ i % 2) 1 (none i b)

    is : (i : ℕ) → j ≡ i → i < 3 → is_marked set i ≡ true
    is i e b = eq-eqb (set / 2 ^ i % 2) 1 (subst (Marked set) e (here (omega arith)))

    at : Dec (0 < j) → Dec (1 < j) → Dec (2 < j) → j ≡ cond (is_marked set 0) 0 (cond (is_marked set 1) 1 (cond (is_marked set 2) 2 3))
    at (no a) b c = let e : j ≡ 0 = omega arith in rw (is 0 e (omega arith)) e
    at (yes a) (no b) c = let e : j ≡ 1 = omega arith in rw (unmarked 0 a, is 1 e (omega arith)) e
    at (yes a) (yes b) (no c) = let e : j ≡ 2 = omega arith in rw (unmarked 0 a, unmarked 1 b, is 2 e (omega arith)) e
    at (yes a) (yes b) (yes c) = rw (unmarked 0 a, unmarked 1 b, unmarked 2 c) (omega arith)

-- So it is what `find` gives among them, or 3.
pub lowest-found :
    (set : ℕ) (r : Option ℕ)
    → MatchOption r ((k : ℕ) → 0 ≤ k → k < 3 → Marked set k → ⊥)
    (λ i. (0 ≤ i) × (i < 3) × Marked set i × ((k : ℕ) → 0 ≤ k → k < i → Marked set k → ⊥))
    → unwrap_or r 3 ≡ lowest set
lowest-found set None none = lowest-is set 3 (omega arith) (λ h. absurd (omega arith)) (λ k. none k (omega arith))
lowest-found set (Some i) f = lowest-is set i (omega (arith, f.1)) (λ _. f.2) (λ k. f.3 k (omega arith))

-- The lowest corner is in the set, if any is.
pub lowest-marked : (set j : ℕ) → set < 16 → Marked set j → Marked set (lowest set)
unfolding lowest
lowest-marked set j h m = at (is_marked set 0) (is_marked set 1) (is_marked set 2) refl refl refl
  where
    none : (i : ℕ) → is_marked set i ≡ false → i ≡ j → ⊥
    none i e q = eqb-false (set / 2 ^ i % 2) 1 e (subst (Marked set) (sym q) m)

    at :
        (x y z : Bool) → is_marked set 0 ≡ x → is_marked set 1 ≡ y → is_marked set 2 ≡ z → Marked set (cond x 0 (cond y 1 (cond z 2 3)))
    at true y z e f g = eqb-true (set / 2 ^ 0 % 2) 1 e
    at false true z e f g = eqb-true (set / 2 ^ 1 % 2) 1 f
    at false false true e f g = eqb-true (set / 2 ^ 2 % 2) 1 g
    at false false false e f g =
        let few = marked-few set j h m in
        let last : j ≡ 3 = third (ℕ_discrete 0 j) (ℕ_discrete 1 j) (ℕ_discrete 2 j) in
        subst (Marked set) last m
      where
        third : Dec (0 ≡ j) → Dec (1 ≡ j) → Dec (2 ≡ j) → j ≡ 3
        third (yes a) b c = absurd (none 0 e a)
        third (no a) (yes b) c = absurd (none 1 f b)
        third (no a) (no b) (yes c) = absurd (none 2 g c)
        third (no a) (no b) (no c) = let few = marked-few set j h m in omega arith
