-- What writing answers and leaves in the destination, for every form and every number of bytes lent.
-- Assumes nothing.
use Rattle.std.specs.Prelude.{ℕ, cond, List, ◌++◌, leb, eqb, length, take, drop, Result, Ok, Err}
use Rattle.table.specs.declared.refusals.Refusal.{Refusal}
use Rattle.table.specs.Refusals.{number}
use Rattle.reader.specs.Layout.{Layout}
use Rattle.form.specs.Form.{said}
use Rattle.parts.specs.Part.{Part}
use Rattle.parts.specs.Format.{table}
use Rattle.parts.specs.Compact.{compacted}

-- The number of bytes that were written; or a refusal with its number.
pub data Written : Type 0 where
  Bytes : ℕ → Written
  Refused : ℕ → Written

-- What a call tells.
abbrev pub told : Result ℕ Refusal → Written
told (Ok n) = Bytes n
told (Err e) = Refused (number e)

-- The answer and the destination after a call.
pub record Outcome : Type 0 where
  pub answer : Written
  pub destination : List ℕ

abbrev pub outcome : Written → List ℕ → Outcome
outcome a d = record { answer = a; destination = d }

-- "a refusal leaves the destination untouched"; "11 if the destination is too short, after those"; "Bytes after the table are untouched".
abbrev pub placed : Part → List ℕ → Outcome
placed p d =
    cond (eqb p.fault 0)
    (cond (leb (length p.bytes) (length d)) (outcome (Bytes (length p.bytes)) (p.bytes ++ drop (length p.bytes) d))
    (outcome (Refused 11) d))
    (outcome (Refused p.fault) d)

-- The table that a form says.
unfoldable pub table_said : List ℕ → Part
table_said form = table (compacted (said form))

unfoldable pub written : List ℕ → List ℕ → Outcome
written form d = placed (table_said form) d

-- "What it writes is read as the same fields, conditions counted in order": the bytes are laid out as the fields.
abbrev pub Lays : List ℕ → Written → List ℕ → Type 0
Lays form (Bytes n) d = Layout (take n d) (compacted (said form))
Lays form (Refused n) d = Unit {0}
