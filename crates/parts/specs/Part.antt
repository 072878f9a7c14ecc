-- Writing bytes: document 02, N3, "Fields out of range get 2, 3, 4 or 5 in the order of the bytes".
-- Assumes nothing.
use Rattle.std.specs.Prelude.{ℕ, Bool, cond, List, [], ◌∷◌, ◌++◌, eqb}

infixr 5 ◌then◌
-- Bytes as they would be written, and the number of the refusal at the first of them that is out of range; 0 where none is.
pub record Part : Type 0 where
  pub bytes : List ℕ
  pub fault : ℕ

abbrev pub nothing : Part
nothing = record { bytes = []; fault = 0 }

-- A byte; where it does not pass its test it is refused by the number.
abbrev pub checked : Bool → ℕ → ℕ → Part
checked passes number b = record { bytes = b ∷ []; fault = cond passes 0 number }

-- A byte that is left out where it is 0.
abbrev pub unless_zero : Bool → ℕ → ℕ → Part
unless_zero passes number b = cond (eqb b 0) nothing (checked passes number b)

-- One part behind another: the first fault decides.
abbrev pub ◌then◌ : Part → Part → Part
◌then◌ p q = record { bytes = p.bytes ++ q.bytes; fault = cond (eqb p.fault 0) q.fault p.fault }

-- One after another.
abbrev pub each : {A : Type 0} → (A → Part) → List A → Part
each part [] = nothing
each part (a ∷ l) = part a then each part l
