-- Demand 3 in whole numbers: "Charged C or more is then S at least q × C, and charged less than C + 1/m is m × S below q × (m × C + 1)."
-- Assumes nothing.
use Rattle.std.specs.Prelude.{ℕ, ◌+◌, ◌*◌, ◌≤◌, ◌<◌, ◌≡◌, List}
use Rattle.semantics.specs.Automaton.{Automaton}
use Rattle.semantics.specs.Run.{Act, RunInto, moves_in, charge}

-- "every run from the start, timers at zero, into the goal, whatever its moves and whatever its delays, in fractions of a minute of any
-- denominator, is charged C or more".
abbrev pub AtLeast : Automaton → ℕ → ℕ → Type 0
AtLeast a l C = (q : ℕ) (ts : List Act) → RunInto a l q ts → q * C ≤ charge a q ts

-- "some such run, making exactly the route's moves in their order, is charged less than C + 1/m".
pub record Near (a : Automaton) (l : ℕ) (moves : List ℕ) (C m : ℕ) : Type 0 where
  pub q : ℕ
  pub acts : List Act
  pub run : RunInto a l q acts
  pub moves-made : moves_in acts ≡ moves
  pub charged : m * charge a q acts < q * (m * C + 1)

-- "for every whole m from 1".
abbrev pub Approached : Automaton → ℕ → List ℕ → ℕ → Type 0
Approached a l moves C = (m : ℕ) → 1 ≤ m → Near a l moves C m

-- "no run from the start comes into the goal".
abbrev pub NoRun : Automaton → ℕ → Type 0
NoRun a l = (q : ℕ) (ts : List Act) → RunInto a l q ts → ⊥
