-- How many digits a number has: `io::decimal` spells it as the definition does, and a number below 10 ^ k has at most k digits.
-- Assumes nothing.
use Rattle.std.specs.Prelude.{◌≡◌, refl, [], ◌∷◌, ℕ, zero, suc, ◌-◌, ◌/◌, ◌%◌, ◌^◌, ◌≤◌, ◌<◌, length}
use Rattle.std.proofs.Common.{sym, ap, ◌∙◌, pow-suc, le-div_iff_mul-le, div-lt_iff_lt-mul, arith, length-append, lt-ltb, le-ltb}
use Rattle.std.proofs.Math.Nat.{one-le-pow}
use Rattle.std.proofs.Math.Decide.{dec_lt}
use Rattle.io.specs.Digits.{last_digits, hex_digit_ascii, IsDigitCount}
use Rattle.report.specs.Lines.{count_digits, decimal}

-- A number below 10 has one digit, and another one more than its tenth.
count-one : (bound n : ℕ) → n < 10 → count_digits bound n ≡ 1
count-one zero n h = refl
count-one (suc bound) n h = rw lt-ltb

count-more : (bound n : ℕ) → 10 ≤ n → count_digits (suc bound) n ≡ suc (count_digits bound (n / 10))
count-more bound n h = rw le-ltb

positive : (k : ℕ) → 1 ≤ 10 ^ k
positive k = one-le-pow k 10 (omega arith)

-- Division by 10 takes one digit.
tenth-below : (k n : ℕ) → n < 10 ^ suc k → n / 10 < 10 ^ k
tenth-below k n h = (div-lt_iff_lt-mul {k = 10} {x = n} {y = 10 ^ k} (omega arith)).1 (rw (pow-suc 10 k) at h)

tenth-above : (k n : ℕ) → 10 ^ suc k ≤ n → 10 ^ k ≤ n / 10
tenth-above k n h = (le-div_iff_mul-le {k = 10} {x = 10 ^ k} {y = n} (omega arith)).1 (rw (pow-suc 10 k) at h)

fewest-above : (n j : ℕ) → IsDigitCount 10 1 n (suc (suc j)) → 10 ^ suc j ≤ n
fewest-above n j f =
    let e : suc (suc j) - 1 ≡ suc j = omega arith in
    rw e at (f.2 (omega arith))

-- The fewest digits are as many as are counted.
counted-fewest : (bound n k : ℕ) → n ≤ bound → IsDigitCount 10 1 n k → count_digits bound n ≡ k
counted-fewest bound n zero h f = absurd (omega (arith, f.0))
counted-fewest bound n (suc zero) h f = count-one bound n f.1
counted-fewest zero n (suc (suc j)) h f = absurd (omega (arith, fewest-above n j f, positive (suc j)))
counted-fewest (suc bound) n (suc (suc j)) h f =
    let more : 10 ^ suc j ≤ n = fewest-above n j f in
    let ten : 10 ≤ n = omega (arith, more, positive j, pow-suc 10 j) in
    let less : 10 ^ (suc j - 1) ≤ n / 10 = let e : suc j - 1 ≡ j = omega arith in rw e (tenth-above j n more) in
    count-more bound n ten
    ∙ ap suc (counted-fewest bound (n / 10) (suc j) (omega arith)
    (omega arith, tenth-below (suc j) n f.1, λ p. less))

pub fewest-decimal : (n k : ℕ) → IsDigitCount 10 1 n k → last_digits 10 k n ≡ decimal n
unfolding decimal
fewest-decimal n k f = ap (λ (j : ℕ). last_digits 10 j n) (sym (counted-fewest n n k (omega arith) f))

-- So many digits.
length_digits : (k n : ℕ) → length (last_digits 10 k n) ≡ k
length_digits zero n = refl
length_digits (suc k) n = omega (arith, length-append (last_digits 10 k (n / 10)) (hex_digit_ascii (n % 10) ∷ []), length_digits k (n / 10))

count-below : (bound k n : ℕ) → n < 10 ^ suc k → count_digits bound n ≤ suc k
count-below zero k n h = omega arith
count-below (suc bound) zero n h = omega (arith, count-one (suc bound) n h)
count-below (suc bound) (suc k) n h = by (dec_lt n 10) (count-below bound k (n / 10) (tenth-below (suc k) n h))
  where
    by : Dec (n < 10) → count_digits bound (n / 10) ≤ suc k → count_digits (suc bound) n ≤ suc (suc k)
    by (yes l) r = omega (arith, count-one (suc bound) n l)
    by (no l) r = omega (arith, count-more bound n (omega arith), r)

pub decimal-below : (k n : ℕ) → n < 10 ^ suc k → length (decimal n) ≤ suc k
unfolding decimal
decimal-below k n h = omega (arith, length_digits (count_digits n n) n, count-below n k n h)
