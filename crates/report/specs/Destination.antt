-- What stands in a destination that lines are put into.
-- Assumes nothing.
use Rattle.std.specs.Prelude.{cond, Option, Some, None, List, ◌++◌, ℕ, ◌+◌, ◌*◌, leb, length, drop}
use Rattle.route.specs.Answers.{Answer, Refused, NoRoute, Route}
use Rattle.report.specs.declared.Answer.{Answer as Printed}
use Rattle.report.specs.declared.Answer.TheVariants.{Refused as Printed-as-Refused, NoRoute as Printed-as-NoRoute, Route as Printed-as-Route}
use Rattle.report.specs.Lines.{lines}

-- The answer that is printed.
abbrev pub told : Printed → Answer
told (Printed-as-Refused n) = Refused n
told Printed-as-NoRoute = NoRoute
told (Printed-as-Route C n) = Route C n

-- A text at the start, and behind it what was there.
abbrev pub overwritten : List ℕ → List ℕ → List ℕ
overwritten text d = text ++ drop (length text) d

-- The longest lines with so many route bytes: 24 bytes, and for each step a blank and three digits (`lines-short`).
abbrev pub room : ℕ → ℕ
room n = 24 + 4 * n

-- What is answered, and the destination afterwards.
pub record Filled : Type 0 where
  pub written : Option ℕ
  pub bytes : List ℕ

abbrev pub filled : Option ℕ → List ℕ → Filled
filled w d = record { written = w; bytes = d }

-- A destination that is shorter than the longest lines is refused, and untouched.
unfoldable pub lines_into : Answer → List ℕ → List ℕ → Filled
lines_into answer rs d =
    let text : List ℕ = lines answer rs in
    cond (leb (room (length rs)) (length d)) (filled (Some (length text)) (overwritten text d)) (filled None d)
