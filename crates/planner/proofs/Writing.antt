-- Numbers that stand for what writing and filling answer keep what holds of it.
-- Assumes nothing.
use mathlib.Core.Path.{◌≡◌, refl, sym, ap, subst, ◌∙◌}
use mathlib.Core.Logic.{◌⊎◌, inl, inr}
use mathlib.Core.Bool.{Bool, cond}
use mathlib.Core.List.{List}
use Prim.Native.Nat.{ℕ, ◌≤◌}
use native.Mathlib.Omega.{arith}
use borrow.Author.Tests.{ne_eqb}
use Rattle.reader.specs.Reading.{Verdict}
use Rattle.reader.specs.Reading.{Accepted, Refused as Verdict-as-Refused}
use Rattle.reader.specs.Read.{read}
use Rattle.reader.specs.Reading.{table_of, Reading}
use Rattle.reader.specs.Theorems.Accepted.{rejected-read}
use Rattle.reader.specs.Theorems.Refusals.{rejected-range}
use Rattle.form.specs.Filled.{outcome as Filled·outcome, filled}
use Rattle.writer.specs.Written.{Written}
use Rattle.writer.specs.Written.{Bytes, Refused}
use Rattle.writer.specs.Written.{outcome, written, Lays}
use Rattle.writer.specs.Theorems.Refusals.{refused-range}
use Rattle.planner.specs.Numbers.{decoded_written, decoded_verdict, Untouched}

-- The form, the destination before and after, and the answer.
module _ (form d d' : List ℕ) (r : Written) (e : outcome r d' ≡ written form d) (k : Lays form r d') where
  -- What is promised of numbers that stand for the answer s, with the number of bytes before and after the call.
  abbrev Told : Written → (number n n' : ℕ) → Type 0
  Told s number n n' = (outcome s d' ≡ written form d) × (Lays form s d' × Untouched number n n')

  nonzero : (m : ℕ) → ((2 ≤ m) × (m ≤ 5)) ⊎ (m ≡ 11) → m ≡ 0 → ⊥
  nonzero m (inl h) z = omega (arith, h)
  nonzero m (inr h) z = omega arith

  pub write-refused : (m n : ℕ) → r ≡ Refused m → Told (decoded_written m n) m n n
  unfolding decoded_written
  write-refused m n t =
      let other = nonzero m (refused-range form d m (ap (λ o. o.answer) (sym e) ∙ t)) in
      let is : decoded_written m n ≡ r = ap (λ (z : Bool). cond z (Bytes n) (Refused m)) (ne_eqb m 0 other) ∙ sym t in
      subst (λ s. Told s m n n) (sym is) (e, (k, λ o. refl))

  pub write_bytes : (n n' : ℕ) → r ≡ Bytes n' → Told (decoded_written 0 n') 0 n n'
  unfolding decoded_written
  write_bytes n n' t = subst (λ s. Told s 0 n n') t (e, (k, λ o. absurd (o refl)))

-- The bytes, the form before and after, and the verdict.
module _ (bytes t t' : List ℕ) (r : Verdict) (e : Filled·outcome r t' ≡ filled bytes t) where
  pub fill-accepted : r ≡ Accepted → Filled·outcome (decoded_verdict 0) t' ≡ filled bytes t
  unfolding decoded_verdict
  fill-accepted k = ap (λ v. Filled·outcome v t') (sym k) ∙ e

  pub fill-refused : (n : ℕ) → r ≡ Verdict-as-Refused n → Filled·outcome (decoded_verdict n) t' ≡ filled bytes t
  unfolding decoded_verdict filled
  fill-refused n k =
      let reading : Reading (read bytes) r (table_of (read bytes)) = record { verdict-is = ap (λ o. o.verdict) e; table_is = refl } in
      let range = rejected-range bytes n (rejected-read bytes (table_of (read bytes)) r reading n k) in
      ap (λ (z : Bool). Filled·outcome (cond z Accepted (Verdict-as-Refused n)) t') (ne_eqb n 0 (λ z. omega (arith, range))) ∙ ap (λ v. Filled·outcome v t')
      (sym k) ∙ e
