-- What a reading gives, and what it leaves in the table.
-- Assumes nothing.
use Rattle.std.specs.Prelude.{ℕ, ◌≡◌, List, replicate, Result, Ok, Err, MatchResult}
use Rattle.table.specs.declared.Table.{Table}
use Rattle.table.specs.declared.refusals.Refusal.{Refusal}
use Rattle.table.specs.Held.{held, fields_of}
use Rattle.table.specs.Refusals.{number}
use Rattle.reader.specs.Read.{Judgement, accepted, rejected, read}

-- The bytes are a table, or they are refused by a number.
pub data Verdict : Type 0 where
  Accepted : Verdict
  Refused : ℕ → Verdict

-- A refusal has its number.
abbrev pub verdict_of : Judgement → Verdict
verdict_of (accepted f) = Accepted
verdict_of (rejected n) = Refused n

-- The verdict that a result tells.
abbrev pub told : Result (Unit {0}) Refusal → Verdict
told (Ok _) = Accepted
told (Err refusal) = Refused (number refusal)

-- What it leaves in the table: the fields are held, or every byte is 0.
abbrev pub table_of : Judgement → List ℕ
table_of (accepted f) = held f
table_of (rejected n) = replicate 904 0

pub record Reading (j : Judgement) (verdict : Verdict) (table : List ℕ) : Type 0 where
  pub verdict-is : verdict ≡ verdict_of j
  pub table_is : table ≡ table_of j

-- A table whose fields are those that the bytes have, or the refusal whose number the bytes are rejected by.
abbrev pub IsTableOf : List ℕ → Result Table Refusal → Type 0
IsTableOf bytes r = MatchResult r (λ t. read bytes ≡ accepted (fields_of t.bytes)) (λ e. read bytes ≡ rejected (number e))
