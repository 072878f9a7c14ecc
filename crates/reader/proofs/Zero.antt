-- Conditions with every timer at 0: a test of each condition byte.
-- Assumes nothing.
use Prim.Native.Nat.{ℕ, suc, ◌*◌, ◌/◌, ◌%◌}
use mathlib.Core.Path.{◌≡◌, refl, sym, ap₂, ◌∙◌}
use mathlib.Core.Bool.{Bool, true, false, cond, ◌&&◌, and-true}
use mathlib.Core.List.{List, [], ◌∷◌}
use lib.Dec.{eqb}
use Rattle.std.specs.List.{list_all}
use Rattle.semantics.specs.Condition.{compares, hold_at_zero}
use Rattle.table.specs.Meaning.{comparison_of, conditions_from}

-- A condition byte, or 0 for none, holds at 0.
abbrev zero_test : ℕ → Bool
zero_test b = cond (eqb b 0) true (compares (comparison_of (b / 16)) 0 (1 * (b % 16)))

zero-cons : (place b : ℕ) (l : List ℕ) → hold_at_zero (conditions_from place (b ∷ l)) ≡ zero_test b && hold_at_zero (conditions_from (suc place) l)
zero-cons place b l = go (eqb b 0) refl
  where
    go : (t : Bool) → eqb b 0 ≡ t → hold_at_zero (conditions_from place (b ∷ l)) ≡ zero_test b && hold_at_zero (conditions_from (suc place) l)
    go true e = rw e
    go false e = rw e

zero_one : (b : ℕ) → hold_at_zero (conditions_from 0 (b ∷ [])) ≡ zero_test b
zero_one b = zero-cons 0 b [] ∙ and-true (zero_test b)

-- The bytes one by one.
pub zero-each : (place : ℕ) (l : List ℕ) → list_all (λ b. hold_at_zero (conditions_from 0 (b ∷ []))) l ≡ hold_at_zero (conditions_from place l)
zero-each place [] = refl
zero-each place (b ∷ l) = ap₂ (λ (s t : Bool). s && t) (zero_one b) (zero-each (suc place) l) ∙ sym (zero-cons place b l)
