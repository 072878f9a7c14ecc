-- Runs: document 01, "A run of the unit" (source document 001, section 2), in whole numbers: "delays and timers count q-ths, the value of a
-- condition, a ceiling and a price are taken q times".
-- Assumes nothing.
use Rattle.std.specs.Prelude.{ℕ, ◌+◌, ◌*◌, ◌≤◌, ◌<◌, ◌≡◌, Bool, false, cond, ◌||◌, eqb, length, get_or}
use mathlib.Core.List.{List, [], ◌∷◌, Memᴰ}
use Rattle.semantics.specs.Condition.{Condition, Holds}
use Rattle.semantics.specs.Automaton.{Automaton, mode_at, move_at}

-- "A state is a mode and a value from 0 for each timer": the value of timer x in q-ths of a minute.
pub record State : Type 0 where
  pub mode : ℕ
  pub value : ℕ → ℕ

-- "The start is mode 0 with every timer at 0."
abbrev pub initial : State
initial = record { mode = 0; value = λ x. 0 }

-- An act of a run: to wait so many q-ths (a delay), or to make the move of this number.
pub data Act : Type 0 where
  wait : ℕ → Act
  move : ℕ → Act

-- Timer x is among these.
abbrev pub among : ℕ → List ℕ → Bool
among x [] = false
among x (y ∷ ys) = eqb x y || among x ys

-- "with the reset timers at 0".
abbrev pub zeroed : List ℕ → (ℕ → ℕ) → ℕ → ℕ
zeroed resets v x = cond (among x resets) 0 (v x)

-- The state that an act leaves.
abbrev pub after : Automaton → Act → State → State
after a (wait d) s = record { mode = s.mode; value = λ x. s.value x + d }
after a (move e) s = record { mode = (move_at a e).target; value = zeroed (move_at a e).resets s.value }

-- What an act is charged in q-ths: "Waiting d minutes [..] is charged d × the mode's rate"; a move "is charged its price".
abbrev pub act_charge : Automaton → ℕ → Act → State → ℕ
act_charge a q (wait d) s = d * (mode_at a s.mode).rate
act_charge a q (move e) s = q * (move_at a e).price

-- Every condition holds.
abbrev pub AllHold : ℕ → List Condition → (ℕ → ℕ) → Type 0
AllHold q cs v = (c : Condition) → Memᴰ c cs → Holds q c (v c.timer)

-- "each timer must also stay at or below its ceiling".
abbrev pub BelowCeilings : ℕ → List ℕ → (ℕ → ℕ) → Type 0
BelowCeilings q ceilings v = (x : ℕ) → x < length ceilings → v x ≤ q * get_or ceilings x 0

-- A mode may be stayed in with these values.
abbrev pub Stays : Automaton → ℕ → ℕ → (ℕ → ℕ) → Type 0
Stays a q l v = AllHold q (mode_at a l).conditions v × BelowCeilings q a.ceilings v

-- Waiting "is allowed if the mode's conditions hold afterwards. A move is allowed if the state's mode is its from mode, its own conditions
-- hold, and the target mode's conditions hold after its resets".
abbrev pub Allowed : Automaton → ℕ → Act → State → Type 0
Allowed a q (wait d) s = Stays a q s.mode (after a (wait d) s).value
Allowed a q (move e) s =
    (e < length a.moves) × ((move_at a e).source ≡ s.mode) × AllHold q (move_at a e).conditions s.value
    × Stays a q (move_at a e).target (after a (move e) s).value

-- "A run is a list of allowed waits and moves, the first from the start, each other from the state that the one before it left".
abbrev pub AllAllowed : Automaton → ℕ → List Act → State → Type 0
AllAllowed a q [] s = Unit {0}
AllAllowed a q (t ∷ ts) s = Allowed a q t s × AllAllowed a q ts (after a t s)

-- The state that the acts leave, and "The charge is the sum", in q-ths.
abbrev pub final : Automaton → List Act → State → State
final a [] s = s
final a (t ∷ ts) s = final a ts (after a t s)

abbrev pub charge_from : Automaton → ℕ → List Act → State → ℕ
charge_from a q [] s = 0
charge_from a q (t ∷ ts) s = act_charge a q t s + charge_from a q ts (after a t s)

-- "A run's moves are the numbers of its moves in their order".
abbrev pub moves_in : List Act → List ℕ
moves_in [] = []
moves_in (wait d ∷ ts) = moves_in ts
moves_in (move e ∷ ts) = e ∷ moves_in ts

-- A run in q-ths from the start into a mode: "it comes into the goal if its last mode is the goal". "A run of no steps counts".
pub record RunInto (a : Automaton) (l q : ℕ) (ts : List Act) : Type 0 where
  pub from_one : 1 ≤ q
  pub allowed : AllAllowed a q ts initial
  pub arrives : (final a ts initial).mode ≡ l

-- S, the charge of a run in q-ths.
abbrev pub charge : Automaton → ℕ → List Act → ℕ
charge a q ts = charge_from a q ts initial
