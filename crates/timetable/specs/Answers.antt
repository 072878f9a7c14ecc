-- What the call that gives a timetable answers.
-- Assumes nothing.
use Rattle.std.specs.Prelude.{ℕ, Result, Ok, Err, Option, Some, None}
use Rattle.table.specs.declared.refusals.Refusal.{Refusal}
use Rattle.table.specs.Refusals.{number}
use Rattle.near.specs.declared.Cost.{Cost}

-- A refusal with its number; no route; or a timetable with its charge and its number of pairs.
pub data Answer : Type 0 where
  Refused : ℕ → Answer
  NoRoute : Answer
  Timetable : ℕ → ℕ → Answer

-- What the code answers.
abbrev pub told_timetable : Result (Option Cost) Refusal → Answer
told_timetable (Ok (Some cost)) = Timetable cost.charge cost.steps
told_timetable (Ok None) = NoRoute
told_timetable (Err refusal) = Refused (number refusal)
