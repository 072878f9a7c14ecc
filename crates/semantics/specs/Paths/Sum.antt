-- Sums over the numbers below n.
-- Assumes nothing.
use Rattle.std.specs.Prelude.{◌≡◌, refl, ◌≢◌, ℕ, zero, suc, ◌+◌, ◌<◌}
use Rattle.std.proofs.Math.Decide.{ℕ_discrete}
use Rattle.std.proofs.Common.{arith}

unfoldable pub sum : (ℕ → ℕ) → ℕ → ℕ
sum f zero = 0
sum f (suc n) = sum f n + f n

pub sum_same : (f g : ℕ → ℕ) (n : ℕ) → ((u : ℕ) → u < n → f u ≡ g u) → sum f n ≡ sum g n
unfolding sum
sum_same f g zero same = refl
sum_same f g (suc n) same = omega (arith, same n (omega arith), sum_same f g n (λ u h. same u (omega arith)))

-- A sum is less where one of its terms is less and the others are the same.
pub sum_less : (f g : ℕ → ℕ) (n v : ℕ) → v < n → f v < g v → ((u : ℕ) → u < n → u ≢ v → f u ≡ g u) → sum f n < sum g n
unfolding sum
sum_less f g zero v h less same = absurd (omega arith)
sum_less f g (suc n) v h less same = at (ℕ_discrete v n) (sum_less f g n v)
  where
    at :
        Dec (v ≡ n) → (v < n → f v < g v → ((u : ℕ) → u < n → u ≢ v → f u ≡ g u) → sum f n < sum g n)
        → sum f n + f n < sum g n + g n
    at (yes e) ih =
        let l : f n < g n = rw e at less in
        omega (arith, sum_same f g n (λ u k. same u (omega arith) (omega arith)))
    at (no ne) ih = omega (arith, same n (omega arith) (omega arith), ih (omega arith) less (λ u k. same u (omega arith)))
