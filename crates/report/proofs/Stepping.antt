-- The text of one more step.
-- Assumes nothing.
use mathlib.Core.Path.{◌≡◌, refl, sym, ap, ◌∙◌}
use mathlib.Core.List.{List, [], ◌∷◌, ◌++◌, append_assoc, append-nil}
use Prim.Native.Nat.{ℕ, suc, ◌+◌, ◌-◌, ◌≤◌, ◌<◌, min}
use native.Mathlib.Decide.{dec_lt}
use native.Mathlib.Omega.{arith}
use lib.ListN.{length, get_or, take, drop, length-append}
use lib.Seq.{take-suc, take-add, take_all}
use Rattle.report.specs.Lines.{decimal, step_texts}

steps-append : (ks ls : List ℕ) → step_texts (ks ++ ls) ≡ step_texts ks ++ step_texts ls
steps-append [] ls = refl
steps-append (k ∷ ks) ls =
    ap (λ (l : List ℕ). 32 ∷ decimal k ++ l) (steps-append ks ls) ∙ ap (λ (l : List ℕ). 32 ∷ l) (sym (append_assoc (decimal k) (step_texts ks) (step_texts ls)))

pub steps-more : (i : ℕ) (rs : List ℕ) → i < length rs → step_texts (take (suc i) rs) ≡ step_texts (take i rs) ++ 32 ∷ decimal (get_or rs i 0)
steps-more i rs h =
    ap step_texts (take-suc rs i 0 h) ∙ steps-append (take i rs) (get_or rs i 0 ∷ [])
    ∙ ap (λ (l : List ℕ). step_texts (take i rs) ++ 32 ∷ l) (append-nil (decimal (get_or rs i 0)))

-- It fits where all do.
pub steps-room : (i n : ℕ) (rs : List ℕ) → i < n → i < length rs →
    length (step_texts (take i rs)) + length (32 ∷ decimal (get_or rs i 0)) ≤ length (step_texts (take n rs))
steps-room i n rs h l =
    let e : suc i + (n - suc i) ≡ n = omega arith in
    let rest : List ℕ = take (n - suc i) (drop (suc i) rs) in
    let all : take n rs ≡ take (suc i) rs ++ rest = ap (λ (k : ℕ). take k rs) (sym e) ∙ take-add (suc i) (n - suc i) rs in
    omega (
      arith,
      ap length (ap step_texts all ∙ steps-append (take (suc i) rs) rest),
      length-append (step_texts (take (suc i) rs)) (step_texts rest),
      ap length (steps-more i rs l),
      length-append (step_texts (take i rs)) (32 ∷ decimal (get_or rs i 0)),
    )

-- As many as there are, of n.
pub same-steps : (n i : ℕ) (rs : List ℕ) → i ≡ min n (length rs) → take i rs ≡ take n rs
same-steps n i rs e = at (dec_lt n (length rs))
  where
    at : Dec (n < length rs) → take i rs ≡ take n rs
    at (yes h) = let same : i ≡ n = omega (arith, e) in rw same refl
    at (no h) = take_all i rs (omega (arith, e)) ∙ sym (take_all n rs (omega arith))
