-- Sums of the values of a function below a number.
-- Assumes nothing.
use Rattle.std.specs.Prelude.{◌≡◌, refl, ℕ, zero, suc, ◌+◌, ◌*◌, ◌<◌, ◌≤◌}
use Rattle.std.proofs.Common.{arith}

pub sum_below : (ℕ → ℕ) → ℕ → ℕ
sum_below f zero = 0
sum_below f (suc n) = sum_below f n + f n

pub sum-zero : (n : ℕ) → sum_below (λ x. 0) n ≡ 0
unfolding sum_below
sum-zero zero = refl
sum-zero (suc n) = omega (arith, sum-zero n)

pub sum-add : (f : ℕ → ℕ) (c n : ℕ) → sum_below (λ x. f x + c) n ≡ sum_below f n + n * c
unfolding sum_below
sum-add f c zero = omega arith
sum-add f c (suc n) = omega (arith, sum-add f c n)

pub sum-at-least : (f : ℕ → ℕ) (c n : ℕ) → ((x : ℕ) → x < n → c ≤ f x) → n * c ≤ sum_below f n
unfolding sum_below
sum-at-least f c zero h = omega arith
sum-at-least f c (suc n) h = omega (arith, sum-at-least f c n (λ x l. h x (omega arith)), h n (omega arith))

-- n + 1 values one place on: the last comes first, with r added to it.
abbrev pub turn : ℕ → ℕ → (ℕ → ℕ) → ℕ → ℕ
turn n r f zero = f n + r
turn n r f (suc x) = f x

turn_below : (n r : ℕ) (f : ℕ → ℕ) (m : ℕ) → sum_below (turn n r f) (suc m) ≡ f n + r + sum_below f m
unfolding sum_below
turn_below n r f zero = omega arith
turn_below n r f (suc m) = omega (arith, turn_below n r f m)

-- Their sum grows by r.
pub sum-turn : (n r : ℕ) (f : ℕ → ℕ) → sum_below (turn n r f) (suc n) ≡ sum_below f (suc n) + r
unfolding sum_below
sum-turn n r f = omega (arith, turn_below n r f n)
