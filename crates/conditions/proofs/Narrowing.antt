-- The windows of a row narrow with each condition of it.
-- Assumes nothing.
use mathlib.Core.Path.{◌≡◌, refl, sym, ap, ◌∙◌}
use mathlib.Core.Bool.{Bool, true, false}
use mathlib.Core.Logic.{◌≢◌}
use mathlib.Core.List.{List, [], ◌∷◌, ◌++◌}
use Prim.Native.Nat.{ℕ, zero, suc, ◌+◌, ◌%◌, ◌<◌, max, min}
use native.Mathlib.Decide.{ℕ_discrete}
use native.Mathlib.Nat.{add-zero}
use native.Mathlib.Numerals.{add-one}
use native.Mathlib.Omega.{arith}
use borrow.Author.Tests.{eq-eqb, ne_eqb}
use lib.Dec.{eqb}
use lib.ListN.{length, get_or, take}
use Rattle.semantics.specs.Condition.{Condition}
use Rattle.semantics.specs.Regions.Windows.{lowest, above}
use Rattle.table.specs.Meaning.{condition_of, conditions_from}
use Rattle.conditions.specs.Windows.{low_of, high_of, row_of, narrow}
use Rattle.conditions.specs.Narrow.{low-own, high-own, low-other, high-other}

-- A condition at the end narrows the window of its timer, and no other.
module _ (c : Condition) (x : ℕ) where
  low-last : (cs : List Condition) → c.timer ≡ x → low_of (cs ++ c ∷ []) x ≡ max (low_of cs x) (lowest c.comparison c.value)
  low-last [] e = omega (arith, low-own c [] x e)
  low-last (d ∷ cs) e = go (low-last cs e) (ℕ_discrete d.timer x)
    where
      go :
          low_of (cs ++ c ∷ []) x ≡ max (low_of cs x) (lowest c.comparison c.value) → Dec (d.timer ≡ x)
          → low_of (d ∷ (cs ++ c ∷ [])) x ≡ max (low_of (d ∷ cs) x) (lowest c.comparison c.value)
      go ih (yes o) = omega (arith, ih, low-own d cs x o, low-own d (cs ++ c ∷ []) x o)
      go ih (no o) = omega (arith, ih, low-other d cs x o, low-other d (cs ++ c ∷ []) x o)

  high-last : (cs : List Condition) → c.timer ≡ x → high_of (cs ++ c ∷ []) x ≡ min (high_of cs x) (above c.comparison c.value)
  high-last [] e = omega (arith, high-own c [] x e)
  high-last (d ∷ cs) e = go (high-last cs e) (ℕ_discrete d.timer x)
    where
      go :
          high_of (cs ++ c ∷ []) x ≡ min (high_of cs x) (above c.comparison c.value) → Dec (d.timer ≡ x)
          → high_of (d ∷ (cs ++ c ∷ [])) x ≡ min (high_of (d ∷ cs) x) (above c.comparison c.value)
      go ih (yes o) = omega (arith, ih, high-own d cs x o, high-own d (cs ++ c ∷ []) x o)
      go ih (no o) = omega (arith, ih, high-other d cs x o, high-other d (cs ++ c ∷ []) x o)

  low-kept : (cs : List Condition) → c.timer ≢ x → low_of (cs ++ c ∷ []) x ≡ low_of cs x
  low-kept [] n = low-other c [] x n
  low-kept (d ∷ cs) n = go (low-kept cs n) (ℕ_discrete d.timer x)
    where
      go : low_of (cs ++ c ∷ []) x ≡ low_of cs x → Dec (d.timer ≡ x) → low_of (d ∷ (cs ++ c ∷ [])) x ≡ low_of (d ∷ cs) x
      go ih (yes o) = omega (arith, ih, low-own d cs x o, low-own d (cs ++ c ∷ []) x o)
      go ih (no o) = omega (arith, ih, low-other d cs x o, low-other d (cs ++ c ∷ []) x o)

  high-kept : (cs : List Condition) → c.timer ≢ x → high_of (cs ++ c ∷ []) x ≡ high_of cs x
  high-kept [] n = high-other c [] x n
  high-kept (d ∷ cs) n = go (high-kept cs n) (ℕ_discrete d.timer x)
    where
      go : high_of (cs ++ c ∷ []) x ≡ high_of cs x → Dec (d.timer ≡ x) → high_of (d ∷ (cs ++ c ∷ [])) x ≡ high_of (d ∷ cs) x
      go ih (yes o) = omega (arith, ih, high-own d cs x o, high-own d (cs ++ c ∷ []) x o)
      go ih (no o) = omega (arith, ih, high-other d cs x o, high-other d (cs ++ c ∷ []) x o)

-- So the row of the conditions narrows.
row_last : (cs : List Condition) (c : Condition) → c.timer < 3 → row_of (cs ++ c ∷ []) ≡ narrow (row_of cs) c
row_last cs c h = at c.timer refl
  where
    at : (x : ℕ) → c.timer ≡ x → row_of (cs ++ c ∷ []) ≡ narrow (row_of cs) c
    at zero e = rw (
      low-last c 0 cs e,
      high-last c 0 cs e,
      low-kept c 1 cs (λ z. omega arith),
      high-kept c 1 cs (λ z. omega arith),
      low-kept c 2 cs (λ z. omega arith),
      high-kept c 2 cs (λ z. omega arith),
      e,
    )
    at (suc zero) e = rw (
      low-last c 1 cs e,
      high-last c 1 cs e,
      low-kept c 0 cs (λ z. omega arith),
      high-kept c 0 cs (λ z. omega arith),
      low-kept c 2 cs (λ z. omega arith),
      high-kept c 2 cs (λ z. omega arith),
      e,
    )
    at (suc (suc zero)) e = rw (
      low-last c 2 cs e,
      high-last c 2 cs e,
      low-kept c 0 cs (λ z. omega arith),
      high-kept c 0 cs (λ z. omega arith),
      low-kept c 1 cs (λ z. omega arith),
      high-kept c 1 cs (λ z. omega arith),
      e,
    )
    at (suc (suc (suc n))) e = absurd (omega arith)

-- One byte more is one condition more, or none if it is 0.
from-none :
    (place i : ℕ) (bytes : List ℕ) → i < length bytes → get_or bytes i 0 ≡ 0
    → conditions_from place (take (suc i) bytes) ≡ conditions_from place (take i bytes)
from-none place i [] h e = absurd (omega arith)
from-none place zero (b ∷ bs) h e = rw (eq-eqb b 0 e)
from-none place (suc i) (b ∷ bs) h e = rw (from-none (suc place) i bs (omega arith) e)

from_some :
    (place i : ℕ) (bytes : List ℕ) → i < length bytes → get_or bytes i 0 ≢ 0
    → conditions_from place (take (suc i) bytes) ≡ (conditions_from place (take i bytes) ++ condition_of ((place + i) % 3) (get_or bytes i 0) ∷ [])
from_some place i [] h n = absurd (omega arith)
from_some place zero (b ∷ bs) h n = rw (ne_eqb b 0 n, add-zero place)
from_some place (suc i) (b ∷ bs) h n = go (from_some (suc place) i bs (omega arith) n) (eqb b 0) refl
  where
    further : suc place + i ≡ place + suc i
    further = omega arith

    go :
        conditions_from (suc place) (take (suc i) bs)
        ≡ (conditions_from (suc place) (take i bs) ++ condition_of ((suc place + i) % 3) (get_or bs i 0) ∷ []) → (z : Bool) → eqb b 0 ≡ z
        → conditions_from place (b ∷ take (suc i) bs) ≡ (conditions_from place (b ∷ take i bs) ++ condition_of ((place + suc i) % 3) (get_or bs i 0) ∷ [])
    go ih true e = rw (e, ih, further)
    go ih false e = rw (e, ih, further)

-- The row after the first i bytes, and after one more.
module _ (bytes : List ℕ) (i : ℕ) (there : i < length bytes) (row : List ℕ) (is : row ≡ row_of (conditions_from 0 (take i bytes))) where
  pub row-none : get_or bytes i 0 ≡ 0 → row ≡ row_of (conditions_from 0 (take (i + 1) bytes))
  row-none e = is ∙ ap row_of (sym (from-none 0 i bytes there e) ∙ ap (λ (k : ℕ). conditions_from 0 (take k bytes)) (sym (add-one i)))

  pub row-some :
      (next : List ℕ) → get_or bytes i 0 ≢ 0 → next ≡ narrow row (condition_of (i % 3) (get_or bytes i 0))
      → next ≡ row_of (conditions_from 0 (take (i + 1) bytes))
  row-some next n e =
      let place : 0 + i ≡ i = omega arith in
      let more : conditions_from 0 (take (i + 1) bytes) ≡ (conditions_from 0 (take i bytes) ++ condition_of (i % 3) (get_or bytes i 0) ∷ []) =
      rw add-one (from_some 0 i bytes there n ∙ rw place) in
      e ∙ rw (is, more) (sym (row_last (conditions_from 0 (take i bytes)) (condition_of (i % 3) (get_or bytes i 0)) (omega arith)))
