-- What filling a form from the bytes of a table answers, and what it leaves in the form.
-- Assumes nothing.
use Rattle.std.specs.Prelude.{ℕ, List}
use Rattle.reader.specs.Read.{Judgement, accepted, rejected, read}
use Rattle.reader.specs.Reading.{Verdict, verdict_of}
use Rattle.form.specs.Formed.{formed}

-- The verdict and the form after a call.
pub record Outcome : Type 0 where
  pub verdict : Verdict
  pub form : List ℕ

abbrev pub outcome : Verdict → List ℕ → Outcome
outcome v t = record { verdict = v; form = t }

-- An accepted table's fields; "A refusal returns its number only", and the form stays as it is.
abbrev pub form_of : Judgement → List ℕ → List ℕ
form_of (accepted f) t = formed f
form_of (rejected n) t = t

unfoldable pub filled : List ℕ → List ℕ → Outcome
filled bytes t = outcome (verdict_of (read bytes)) (form_of (read bytes) t)
