-- What `plan` prints: document 01, "The first line is the charge in nanoseconds, the second the step bytes, both decimal; with no steps it is
-- `route`. Otherwise the only line is `no route`, or `refused`, one blank and the decimal number".
-- Assumes nothing.
use Rattle.std.specs.Prelude.{cond, List, [], ◌∷◌, ◌++◌, ℕ, zero, suc, ◌/◌, ltb, take}
use Rattle.io.specs.Digits.{last_digits}
use Rattle.route.specs.Answers.{Answer}
use Rattle.route.specs.Answers.{Refused, NoRoute, Route}

-- How many decimal digits a number has, by division; the first argument bounds the recursion.
abbrev pub count_digits : ℕ → ℕ → ℕ
count_digits zero n = 1
count_digits (suc bound) n = cond (ltb n 10) 1 (suc (count_digits bound (n / 10)))

-- A number in decimal.
unfoldable pub decimal : ℕ → List ℕ
decimal n = last_digits 10 (count_digits n n) n

-- The words of the lines, in ASCII.
abbrev pub charge_text : List ℕ
charge_text = 99 ∷ 104 ∷ 97 ∷ 114 ∷ 103 ∷ 101 ∷ 32 ∷ []

abbrev pub route_text : List ℕ
route_text = 10 ∷ 114 ∷ 111 ∷ 117 ∷ 116 ∷ 101 ∷ []

abbrev pub no_route_text : List ℕ
no_route_text = 110 ∷ 111 ∷ 32 ∷ 114 ∷ 111 ∷ 117 ∷ 116 ∷ 101 ∷ []

abbrev pub refused_text : List ℕ
refused_text = 114 ∷ 101 ∷ 102 ∷ 117 ∷ 115 ∷ 101 ∷ 100 ∷ 32 ∷ []

-- Each step byte behind a blank.
abbrev pub step_texts : List ℕ → List ℕ
step_texts [] = []
step_texts (k ∷ ks) = 32 ∷ decimal k ++ step_texts ks

-- The lines of an answer, where the route bytes begin with the route.
unfoldable pub lines : Answer → List ℕ → List ℕ
lines (Refused n) rs = refused_text ++ decimal n ++ 10 ∷ []
lines NoRoute rs = no_route_text ++ 10 ∷ []
lines (Route C n) rs = charge_text ++ decimal C ++ route_text ++ step_texts (take n rs) ++ 10 ∷ []
