-- An answer in plain numbers, as include/planner.h documents it.
-- Assumes nothing.
use Rattle.std.specs.Prelude.{◌≡◌, ◌≢◌, cond, Option, Some, None, Result, Ok, Err, ℕ, eqb}
use Rattle.table.specs.declared.refusals.Refusal.{Refusal}
use Rattle.table.specs.Refusals.{number}
use Rattle.near.specs.declared.Cost.{Cost}
use Rattle.route.specs.Answers.{Answer}
use Rattle.route.specs.Answers.{Refused, NoRoute, Route}
use Rattle.route.specs.Lend.{Needs}
use Rattle.route.specs.Lend.{Refused as Needs-as-Refused, Memory}
use Rattle.timetable.specs.Answers.{Answer as Timetabled}
use Rattle.timetable.specs.Answers.{Refused as Timetabled-as-Refused, NoRoute as Timetabled-as-NoRoute, Timetable}
use Rattle.writer.specs.Written.{Written}
use Rattle.writer.specs.Written.{Bytes, Refused as Written-as-Refused}
use Rattle.reader.specs.Reading.{Verdict}
use Rattle.reader.specs.Reading.{Accepted, Refused as Verdict-as-Refused}

-- The answer that the numbers stand for: 0 is a route with its charge and its number of steps, 255 no route, and any other number the
-- refusal of that number.
unfoldable pub decoded : (number charge steps : ℕ) → Answer
decoded number charge steps = cond (eqb number 0) (Route charge steps) (cond (eqb number 255) NoRoute (Refused number))

-- 0 is a timetable with its charge and its number of pairs, 255 no route, and any other number the refusal of that number.
unfoldable pub decoded_timetable : (number charge pairs : ℕ) → Timetabled
decoded_timetable number charge pairs =
    cond (eqb number 0) (Timetable charge pairs) (cond (eqb number 255) Timetabled-as-NoRoute (Timetabled-as-Refused number))

-- How much to lend: 0 is memory that is enough, with its words and its route bytes, and any other number the refusal of that number.
unfoldable pub decoded_needs : (number words room : ℕ) → Needs
decoded_needs number words room = cond (eqb number 0) (Memory words room) (Needs-as-Refused number)

-- A table that was written: 0 is written, with the number of its bytes, and any other number the refusal of that number.
unfoldable pub decoded_written : (number length : ℕ) → Written
decoded_written number length = cond (eqb number 0) (Bytes length) (Written-as-Refused number)

-- A form that was filled: 0 is an accepted table, and any other number the refusal of that number.
unfoldable pub decoded_verdict : ℕ → Verdict
decoded_verdict number = cond (eqb number 0) Accepted (Verdict-as-Refused number)

-- The number that tells an answer, and what is told besides: a charge and a number of steps or pairs, where there are some.
abbrev pub number_of : Result (Option Cost) Refusal → ℕ
number_of (Ok (Some cost)) = 0
number_of (Ok None) = 255
number_of (Err refusal) = number refusal

abbrev pub charge_after : Result (Option Cost) Refusal → ℕ → ℕ
charge_after (Ok (Some cost)) before = cost.charge
charge_after (Ok None) before = before
charge_after (Err refusal) before = before

abbrev pub count_after : Result (Option Cost) Refusal → ℕ → ℕ
count_after (Ok (Some cost)) before = cost.steps
count_after (Ok None) before = before
count_after (Err refusal) before = before

-- "A refusal returns its number only", and so does no route: what was there stays.
abbrev pub Untouched : (number before after : ℕ) → Type 0
Untouched number before after = number ≢ 0 → after ≡ before
