-- What the chains into a mode say of its runs (Bounds.Lower): no price below C.
-- Assumes nothing.
use Rattle.std.specs.Prelude.{◌≡◌, List, ℕ, ◌≤◌, ◌<◌, length, get_or}
use Rattle.std.proofs.Math.Option.{some}
use Rattle.semantics.specs.Automaton.{Automaton}
use Rattle.semantics.specs.Chain.{Place, chain}

-- Every corner price of every chain into mode l is C or more.
abbrev pub Floor : Automaton → ℕ → ℕ → Type 0
Floor a l C =
    (bytes : List ℕ) (p : Place) → chain a bytes ≡ some p → p.mode ≡ l → (j : ℕ) → j < length p.region.prices
    → C ≤ get_or p.region.prices j 0
