-- Conditions (clock constraints): document 01, "A condition byte is 16 × code + value, value 0 to 15; codes 1 to 5 are <, ≤, =, ≥, >."
-- Assumes nothing.
use Rattle.std.specs.Prelude.{ℕ, ◌*◌, ◌≤◌, ◌<◌, ◌≡◌, Bool, true, ◌&&◌, List, [], ◌∷◌, ltb, leb, eqb}

-- The five comparisons, in the order of their codes.
pub data Comparison : Type 0 where
  less at_most equal at_least greater : Comparison

-- A condition compares a timer (a clock) with a whole number of minutes.
pub record Condition : Type 0 where
  pub timer : ℕ
  pub comparison : Comparison
  pub value : ℕ

-- a compares so with b.
abbrev pub Compares : Comparison → ℕ → ℕ → Type 0
Compares less a b = a < b
Compares at_most a b = a ≤ b
Compares equal a b = a ≡ b
Compares at_least a b = b ≤ a
Compares greater a b = b < a

-- The test of it.
abbrev pub compares : Comparison → ℕ → ℕ → Bool
compares less a b = ltb a b
compares at_most a b = leb a b
compares equal a b = eqb a b
compares at_least a b = leb b a
compares greater a b = ltb b a

-- What a condition says of its timer at v q-ths of a minute: "delays and timers count q-ths, the value of a condition [..] taken q times".
abbrev pub Holds : ℕ → Condition → ℕ → Type 0
Holds q c v = Compares c.comparison v (q * c.value)

-- The test of it.
abbrev pub holds : ℕ → Condition → ℕ → Bool
holds q c v = compares c.comparison v (q * c.value)

-- "All conditions hold together": here with every timer at 0.
abbrev pub hold_at_zero : List Condition → Bool
hold_at_zero [] = true
hold_at_zero (c ∷ cs) = holds 1 c 0 && hold_at_zero cs
