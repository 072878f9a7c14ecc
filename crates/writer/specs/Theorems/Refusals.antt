-- The numbers by which writing refuses: document 02, N3, "2, 3, 4 or 5", "The writer never gives 7 or 8", and 11.
-- Assumes nothing.
use Rattle.std.specs.Prelude.{ℕ, ◌≤◌, ◌≡◌, refl, ◌⊎◌, Bool, true, false, cond, List, ◌++◌, leb, eqb, length, drop}
use Rattle.std.proofs.Common.{inl, inr}
use Rattle.std.proofs.lemmas.Bool.{eqb-false}
use Rattle.semantics.specs.Distinct.{distinct}
use Rattle.form.specs.Form.{said}
use Rattle.parts.specs.Part.{Part}
use Rattle.parts.specs.Compact.{compacted}
use Rattle.writer.specs.Written.{Bytes, Refused, outcome, table_said, written}
use Rattle.writer.specs.Theorems.Reads.{fault-range}

abbrev Numbers : ℕ → Type 0
Numbers n = ((2 ≤ n) × (n ≤ 5)) ⊎ (n ≡ 11)

too_short : (t : Bool) (k n : ℕ) (d d' : List ℕ) → (cond t (outcome (Bytes k) d') (outcome (Refused 11) d)).answer ≡ Refused n → Numbers n
too_short true k n d d' e = distinct cc
too_short false k n d d' e = inr cc

at-fault : (t : Bool) (p : Part) (n : ℕ) (d : List ℕ) → eqb p.fault 0 ≡ t → ((p.fault ≡ 0) ⊎ ((2 ≤ p.fault) × (p.fault ≤ 5))) →
    (cond t
    (cond (leb (length p.bytes) (length d)) (outcome (Bytes (length p.bytes)) (p.bytes ++ drop (length p.bytes) d)) (outcome (Refused 11) d))
    (outcome (Refused p.fault) d)).answer ≡ Refused n → Numbers n
at-fault true p n d z r e = too_short (leb (length p.bytes) (length d)) (length p.bytes) n d _ e
at-fault false p n d z (inl y) e = absurd (eqb-false p.fault 0 z y)
at-fault false p n d z (inr y) e = let same : p.fault ≡ n = cc in inl (rw same at y)

pub refused-range : (form d : List ℕ) (n : ℕ) → (written form d).answer ≡ Refused n → ((2 ≤ n) × (n ≤ 5)) ⊎ (n ≡ 11)
unfolding written table_said
refused-range form d n e = at-fault _ (table_said form) n d refl (fault-range (compacted (said form))) e
