-- A number of two digits, a * k + b with b below k, and its digits.
-- Assumes nothing.
use Rattle.std.specs.Prelude.{◌≡◌, ℕ, zero, suc, ◌+◌, ◌*◌, ◌/◌, ◌%◌, ◌<◌}
use Rattle.std.proofs.Common.{ap, ◌∙◌, mul-le-mul_right, suc-mul, mul-zero, mod-eq_of_lt, add-zero, div-lt_iff_lt-mul, arith}
use Rattle.std.proofs.Math.Nat.{mul-add-div_right, mul-add-mod_self_right, div-eq_of_lt}

-- A first digit below m makes a number below m * k, whatever the second.
pub pair-below : (k : ℕ) {a m b : ℕ} → a < m → b < k → a * k + b < m * k
pair-below k {a} {m} {b} h l = omega (arith, mul-le-mul_right k h, suc-mul a k)

-- A number below a product has digits below its factors.
pub factor-pos : (m k : ℕ) {i : ℕ} → i < m * k → 0 < k
factor-pos m zero h = omega (arith, mul-zero m)
factor-pos m (suc k) h = omega arith

pub quotient-below : (m k : ℕ) {i : ℕ} → i < m * k → i / k < m
quotient-below m k h = (div-lt_iff_lt-mul (factor-pos m k h)).1 h

module _ (k a b : ℕ) (h : b < k) where
  pub pair-quotient : (a * k + b) / k ≡ a
  pair-quotient = mul-add-div_right {m = k} (omega arith) a b ∙ ap (λ (n : ℕ). a + n) (div-eq_of_lt h) ∙ add-zero a

  pub pair-remainder : (a * k + b) % k ≡ b
  pair-remainder = mul-add-mod_self_right a k b ∙ mod-eq_of_lt h
