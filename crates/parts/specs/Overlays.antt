-- The contract of each public function that writes a part from a place on: what it answers, and every byte that it leaves in the array.
-- Assumes nothing.
use Rattle.std.specs.Prelude.{ℕ, ◌+◌, ◌≡◌, cond, List, ◌++◌, eqb, length, take, drop, Result, Ok, Err}
use Rattle.table.specs.declared.refusals.Refusal.{Refusal}
use Rattle.table.specs.Refusals.{number}
use Rattle.parts.specs.declared.pens.Pen.{Pen}
use Rattle.parts.specs.Part.{Part}

-- Where the part has a fault the array stays as it is; otherwise the part's bytes stand from the place on. Every other byte stays.
abbrev pub overlaid : Part → List ℕ → ℕ → List ℕ
overlaid p t at = cond (eqb p.fault 0) (take at t ++ (p.bytes ++ drop (at + length p.bytes) t)) t

-- The number of the refusal by a numbering, 0 for none.
abbrev pub fault_by : {E : Type 0} → (E → ℕ) → Result (Unit {0}) E → ℕ
fault_by n (Ok a) = 0
fault_by n (Err e) = n e

-- By the refusals' own numbers.
abbrev pub fault_of : Result (Unit {0}) Refusal → ℕ
fault_of r = fault_by number r

-- The place of the next byte: behind the part, or the same where it has a fault.
abbrev pub next_place : Part → ℕ → ℕ
next_place p at = cond (eqb p.fault 0) (at + length p.bytes) at

-- The part's refusal by a numbering, or none; the place of the next byte; and the array.
pub record OverlaysBy {E : Type 0} (n : E → ℕ) (p : Part) (old : Pen) (r : Result (Unit {0}) E) (new : Pen) : Type 0 where
  pub fault : fault_by n r ≡ p.fault
  pub place : new.at ≡ next_place p old.at
  pub array : new.bytes ≡ overlaid p old.bytes old.at

-- By the refusals' own numbers.
abbrev pub Overlays : Part → Pen → Result (Unit {0}) Refusal → Pen → Type 0
Overlays p old r new = OverlaysBy number p old r new
