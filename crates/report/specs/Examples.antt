-- Document 01's lines, from the definition.
-- Assumes nothing.
use Rattle.std.specs.Prelude.{◌≡◌, refl, List, [], ◌∷◌, ◌++◌, ℕ}
use Rattle.std.proofs.Common.{sym, arith}
use Rattle.route.specs.Answers.{Refused, NoRoute, Route}
use Rattle.report.specs.Lines.{decimal, lines}
use Rattle.report.specs.Counting.{fewest-decimal}

-- `charge 7`, and under it `route`.
charge7 : List ℕ
charge7 = 99 ∷ 104 ∷ 97 ∷ 114 ∷ 103 ∷ 101 ∷ 32 ∷ 55 ∷ 10 ∷ 114 ∷ 111 ∷ 117 ∷ 116 ∷ 101 ∷ []

-- "charge 7\nroute 0 64 64 64 1\n"
with-steps : lines (Route 7 5) (0 ∷ 64 ∷ 64 ∷ 64 ∷ 1 ∷ 9 ∷ []) ≡
    charge7 ++ 32 ∷ 48 ∷ 32 ∷ 54 ∷ 52 ∷ 32 ∷ 54 ∷ 52 ∷ 32 ∷ 54 ∷ 52 ∷ 32 ∷ 49 ∷ 10 ∷ []
unfolding lines decimal charge7
with-steps = refl

-- "charge 7\nroute\n"
no_steps : lines (Route 7 0) (9 ∷ []) ≡ charge7 ++ 10 ∷ []
unfolding lines decimal charge7
no_steps = refl

-- "no route\n"
no-route : lines NoRoute [] ≡ 110 ∷ 111 ∷ 32 ∷ 114 ∷ 111 ∷ 117 ∷ 116 ∷ 101 ∷ 10 ∷ []
unfolding lines
no-route = refl

-- "refused 9\n", "refused 10\n"
refused-9 : lines (Refused 9) [] ≡ 114 ∷ 101 ∷ 102 ∷ 117 ∷ 115 ∷ 101 ∷ 100 ∷ 32 ∷ 57 ∷ 10 ∷ []
unfolding lines decimal
refused-9 = refl

refused-10 : lines (Refused 10) [] ≡ 114 ∷ 101 ∷ 102 ∷ 117 ∷ 115 ∷ 101 ∷ 100 ∷ 32 ∷ 49 ∷ 48 ∷ 10 ∷ []
unfolding lines decimal
refused-10 = refl

-- The greatest charge.
greatest : decimal 4294967295 ≡ 52 ∷ 50 ∷ 57 ∷ 52 ∷ 57 ∷ 54 ∷ 55 ∷ 50 ∷ 57 ∷ 53 ∷ []
greatest = sym (fewest-decimal 4294967295 10 (omega arith, omega arith, λ l. omega arith))
