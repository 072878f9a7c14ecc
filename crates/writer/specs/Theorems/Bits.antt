-- The bits of a map: bit i stands exactly if the field at i is not 0.
-- Assumes nothing.
use Rattle.std.specs.Prelude.{ℕ, zero, suc, ◌+◌, ◌*◌, ◌/◌, ◌%◌, ◌^◌, ◌<◌, ◌≡◌, Bool, true, false, cond, not, List, [], ◌∷◌, ◌++◌, eqb, length, get_or}
use Rattle.std.proofs.Math.Nat.{zero-div, pow-succ', div-div-eq-div-mul}
use Rattle.std.proofs.Common.{arith, sym, ap, ◌∙◌, eq-eqb, ne_eqb}
use Rattle.std.proofs.Math.ListN.{get_or-append}
use Rattle.std.proofs.lemmas.List.{get_or_at}
use Rattle.table.specs.Meaning.{stands}
use Rattle.parts.specs.Format.{bits_of}

-- A number whose lowest bit stands where t is false: that bit.
lowest : (t : Bool) (k : ℕ) → eqb ((cond t 0 1 + 2 * k) / 1 % 2) 1 ≡ not t
lowest true k = ne_eqb ((0 + 2 * k) / 1 % 2) 1 (λ e. omega arith)
lowest false k = eq-eqb ((1 + 2 * k) / 1 % 2) 1 (omega arith)

-- The other bits.
others : (t : Bool) (k : ℕ) → (cond t 0 1 + 2 * k) / 2 ≡ k
others true k = omega arith
others false k = omega arith

further : (a k i : ℕ) → a / 2 ≡ k → stands a (suc i) ≡ stands k i
further a k i e = ap (λ (d : ℕ). eqb (d % 2) 1) (ap (λ (p : ℕ). a / p) (pow-succ' 2 i) ∙ sym (div-div-eq-div-mul a 2 (2 ^ i)) ∙ ap (λ (d : ℕ). d / 2 ^ i) e)

pub stands-bits : (l : List ℕ) (i : ℕ) → stands (bits_of l) i ≡ not (eqb (get_or l i 0) 0)
stands-bits [] i = ap (λ (d : ℕ). eqb (d % 2) 1) (zero-div (2 ^ i))
stands-bits (b ∷ bs) zero = lowest (eqb b 0) (bits_of bs)
stands-bits (b ∷ bs) (suc i) = further (bits_of (b ∷ bs)) (bits_of bs) i (others (eqb b 0) (bits_of bs)) ∙ stands-bits bs i

-- The map of a record: bit 0 for the low byte, bits 1 to 6 for the conditions, bit 7 for a last field.
module _ (low : ℕ) (cs : List ℕ) (last : ℕ) (six : length cs ≡ 6) where
  pub low_stands : stands (bits_of (low ∷ (cs ++ last ∷ []))) 0 ≡ not (eqb low 0)
  low_stands = stands-bits (low ∷ (cs ++ last ∷ [])) 0

  pub condition-stands : (j : ℕ) → j < length cs → stands (bits_of (low ∷ (cs ++ last ∷ []))) (suc j) ≡ not (eqb (get_or cs j 0) 0)
  condition-stands j h = stands-bits (low ∷ (cs ++ last ∷ [])) (suc j) ∙ ap (λ (b : ℕ). not (eqb b 0)) (get_or-append cs (last ∷ []) 0 j h)

  pub last-stands : stands (bits_of (low ∷ (cs ++ last ∷ []))) 7 ≡ not (eqb last 0)
  last-stands = stands-bits (low ∷ (cs ++ last ∷ [])) 7 ∙ ap (λ (b : ℕ). not (eqb b 0)) (get_or_at cs last [] 0 6 six)
