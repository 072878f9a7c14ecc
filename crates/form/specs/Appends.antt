-- Writing into an array from the left: the contract of each private function that puts bytes behind those that are there.
-- Assumes nothing.
use Rattle.std.specs.Prelude.{ℕ, ◌≡◌, List, ◌++◌, length, take, drop}
use Rattle.form.specs.Formed.{places}

-- What t' has before `next` is what t has before `at`, and xs. The array is as long as before.
pub record Appends (t : List ℕ) (at : ℕ) (xs t' : List ℕ) (next : ℕ) : Type 0 where
  pub is : take next t' ≡ take at t ++ xs
  pub long : length t' ≡ length t

-- The part of a form that a record of a table becomes: its conditions have two bytes each, its other bytes stay.
abbrev pub mode_widened : List ℕ → List ℕ
mode_widened u = take 2 u ++ places (take 6 (drop 2 u))

abbrev pub move_widened : List ℕ → List ℕ
move_widened u = take 4 u ++ (places (take 6 (drop 4 u)) ++ take 2 (drop 10 u))
