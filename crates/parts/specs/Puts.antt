-- The contract of each private function of the writer that writes a part from a place on.
-- Assumes nothing.
use Rattle.std.specs.Prelude.{ℕ, ◌+◌, ◌≤◌, ◌≡◌, ◌++◌, take, Result, OnOk}
use Rattle.table.specs.declared.refusals.Refusal.{Refusal}
use Rattle.parts.specs.declared.pens.Pen.{Pen}
use Rattle.parts.specs.Part.{Part}
use Rattle.parts.specs.Overlays.{fault_of}

-- The part's refusal; or none, the part's bytes behind those that were there, at most so many, and the place of the next byte.
pub record Puts (most : ℕ) (p : Part) (old : Pen) (r : Result (Unit {0}) Refusal) (new : Pen) : Type 0 where
  pub fault : fault_of r ≡ p.fault
  pub few : OnOk r (new.at ≤ old.at + most)
  pub put : OnOk r (take new.at new.bytes ≡ take old.at old.bytes ++ p.bytes)
