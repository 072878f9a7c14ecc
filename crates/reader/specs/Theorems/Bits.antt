-- Three bits name none but n timers exactly if, as a number, they are below 2 ^ n.
-- Assumes nothing.
use Rattle.std.specs.Prelude.{ℕ, zero, suc, ◌+◌, ◌*◌, ◌/◌, ◌%◌, ◌^◌, ◌≤◌, ◌<◌, ◌≡◌, true}
use Rattle.std.proofs.Common.{div-one, arith, sym, ap, ◌∙◌, eq-eqb, eqb-true, pow-add}
use Rattle.std.proofs.Math.Nat.{div-div-eq-div-mul}
use Rattle.table.specs.Meaning.{stands}
use Rattle.reader.specs.Layout.{TimersThere}

-- Bit first + x of b is bit x of b / 2 ^ first.
bit-from : (b first x : ℕ) → b / 2 ^ (first + x) ≡ b / 2 ^ first / 2 ^ x
bit-from b first x = ap (λ (k : ℕ). b / k) (pow-add 2 first x) ∙ sym (div-div-eq-div-mul b (2 ^ first) (2 ^ x))

-- The three bits of m, whose number is m % 8.
pub record Below (n m : ℕ) : Type 0 where
  pub bit-0 : m % 2 ≡ 1 → 0 < n
  pub bit-1 : m / 2 % 2 ≡ 1 → 1 < n
  pub bit-2 : m / 4 % 2 ≡ 1 → 2 < n

-- The number of the three bits.
three-bits : (m : ℕ) → m % 8 ≡ m % 2 + 2 * (m / 2 % 2) + 4 * (m / 4 % 2)
three-bits m = omega (arith, div-div-eq-div-mul m 2 2, div-div-eq-div-mul m 4 2)

below-number : (n m : ℕ) → 1 ≤ n → n ≤ 3 → Below n m → m % 8 < 2 ^ n
below-number zero m h k b = absurd (omega arith)
below-number (suc zero) m h k b =
    let f : m / 2 % 2 ≡ 1 → ⊥ = λ e. omega (arith, b.bit-1 e) in
    let g : m / 4 % 2 ≡ 1 → ⊥ = λ e. omega (arith, b.bit-2 e) in
    omega (arith, three-bits m)
below-number (suc (suc zero)) m h k b = let g : m / 4 % 2 ≡ 1 → ⊥ = λ e. omega (arith, b.bit-2 e) in omega (arith, three-bits m)
below-number (suc (suc (suc zero))) m h k b = omega arith
below-number (suc (suc (suc (suc n)))) m h k b = absurd (omega arith)

number-below : (n m : ℕ) → 1 ≤ n → n ≤ 3 → m % 8 < 2 ^ n → Below n m
number-below zero m h k l = absurd (omega arith)
number-below (suc zero) m h k l = record { bit-0 = λ e. omega arith; bit-1 = λ e. omega (arith, three-bits m); bit-2 = λ e. omega (arith, three-bits m) }
number-below (suc (suc zero)) m h k l = record { bit-0 = λ e. omega arith; bit-1 = λ e. omega arith; bit-2 = λ e. omega (arith, three-bits m) }
number-below (suc (suc (suc zero))) m h k l = record { bit-0 = λ e. omega arith; bit-1 = λ e. omega arith; bit-2 = λ e. omega arith }
number-below (suc (suc (suc (suc n)))) m h k l = absurd (omega arith)

module _ (n first b : ℕ) (some : 1 ≤ n) (few : n ≤ 3) where
  stands_from : (x : ℕ) → b / 2 ^ first / 2 ^ x % 2 ≡ 1 → stands b (first + x) ≡ true
  stands_from x e = eq-eqb (b / 2 ^ (first + x) % 2) 1 (ap (λ (k : ℕ). k % 2) (bit-from b first x) ∙ e)

  from-stands : (x : ℕ) → stands b (first + x) ≡ true → b / 2 ^ first / 2 ^ x % 2 ≡ 1
  from-stands x e = ap (λ (k : ℕ). k % 2) (sym (bit-from b first x)) ∙ eqb-true (b / 2 ^ (first + x) % 2) 1 e

  pub there-below : TimersThere n first b → b / 2 ^ first % 8 < 2 ^ n
  there-below t = below-number n (b / 2 ^ first) some few (record {
    bit-0 = λ e. t 0 (omega arith) (stands_from 0 (ap (λ (k : ℕ). k % 2) (div-one (b / 2 ^ first)) ∙ e));
    bit-1 = λ e. t 1 (omega arith) (stands_from 1 e);
    bit-2 = λ e. t 2 (omega arith) (stands_from 2 e);
  })

  bit_at : Below n (b / 2 ^ first) → (x : ℕ) → x < 3 → b / 2 ^ first / 2 ^ x % 2 ≡ 1 → x < n
  bit_at k zero h e = k.bit-0 (ap (λ (m : ℕ). m % 2) (sym (div-one (b / 2 ^ first))) ∙ e)
  bit_at k (suc zero) h e = k.bit-1 e
  bit_at k (suc (suc zero)) h e = k.bit-2 e
  bit_at k (suc (suc (suc x))) h e = absurd (omega arith)

  pub below-there : b / 2 ^ first % 8 < 2 ^ n → TimersThere n first b
  below-there l x h e = bit_at (number-below n (b / 2 ^ first) some few l) x h (from-stands x e)
