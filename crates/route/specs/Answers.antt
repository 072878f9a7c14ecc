-- What planning answers.
-- Assumes nothing.
use Rattle.std.specs.Prelude.{ℕ, Result, Ok, Err, Option, Some, None}
use Rattle.table.specs.declared.refusals.Refusal.{Refusal}
use Rattle.table.specs.Refusals.{number}
use Rattle.near.specs.declared.Cost.{Cost}

-- A refusal with its number; no route; or a route with its charge and its number of steps.
pub data Answer : Type 0 where
  Refused : ℕ → Answer
  NoRoute : Answer
  Route : ℕ → ℕ → Answer

-- What the code answers.
abbrev pub told : Result (Option Cost) Refusal → Answer
told (Ok (Some cost)) = Route cost.charge cost.steps
told (Ok None) = NoRoute
told (Err refusal) = Refused (number refusal)
