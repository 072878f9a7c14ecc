-- Timetables: document 02, N5, "pairs of bytes, whole minutes waited and then a move, which from the start form a run into the goal. Among
-- timetables charged exactly C, take the fewest pairs, then the first in byte order."
-- Assumes nothing.
use Rattle.std.specs.Prelude.{ℕ, zero, suc, pred, ◌+◌, ◌*◌, ◌≡◌, Bool, true, cond, ◌&&◌, List, [], ◌∷◌, ◌++◌, map, eqb, ltb, leb, length, get_or}
use Rattle.std.proofs.Math.Option.{Option, none, some}
use Rattle.semantics.specs.Condition.{Condition, holds}
use Rattle.semantics.specs.Automaton.{Automaton, mode_at, move_at}
use Rattle.semantics.specs.Run.{State, initial, Act, wait, move, after, charge_from, RunInto, charge}
use Rattle.semantics.specs.NodeCount.{cell_count}
use Rattle.semantics.specs.Answer.{Answer, no_route, route, better, count_from}

-- "whole minutes waited and then a move".
pub record Pair : Type 0 where
  pub minutes : ℕ
  pub made : ℕ

-- What the pairs do, in minutes (q = 1). Nothing follows the last move.
abbrev pub acts : List Pair → List Act
acts [] = []
acts (p ∷ ps) = wait p.minutes ∷ move p.made ∷ acts ps

-- "pairs of bytes".
abbrev pub bytes_of : List Pair → List ℕ
bytes_of [] = []
bytes_of (p ∷ ps) = p.minutes ∷ p.made ∷ bytes_of ps

-- The bytes ks are those of a timetable into mode l that is charged C.
pub record Timetable (a : Automaton) (l : ℕ) (ks : List ℕ) (C : ℕ) : Type 0 where
  pub pairs : List Pair
  pub bytes : ks ≡ bytes_of pairs
  pub run : RunInto a l 1 (acts pairs)
  pub charged : charge a 1 (acts pairs) ≡ C

-- The tests of what a run asks, in whole minutes: every condition holds,
abbrev pub all_hold : List Condition → (ℕ → ℕ) → Bool
all_hold [] v = true
all_hold (c ∷ cs) v = holds 1 c (v c.timer) && all_hold cs v

-- and each timer, from timer x on, is at or below its ceiling.
abbrev pub below_ceilings : ℕ → List ℕ → (ℕ → ℕ) → Bool
below_ceilings x [] v = true
below_ceilings x (ceiling ∷ cs) v = leb (v x) ceiling && below_ceilings (suc x) cs v

abbrev pub stays : Automaton → ℕ → (ℕ → ℕ) → Bool
stays a l v = all_hold (mode_at a l).conditions v && below_ceilings 0 a.ceilings v

unfoldable pub allowed : Automaton → Act → State → Bool
allowed a (wait d) s = stays a s.mode (after a (wait d) s).value
allowed a (move e) s =
    ltb e (length a.moves) && eqb (move_at a e).source s.mode && all_hold (move_at a e).conditions s.value
    && stays a (move_at a e).target (after a (move e) s).value

-- The state that a pair leaves,
abbrev pub after_pair : Automaton → Pair → State → State
after_pair a p s = after a (move p.made) (after a (wait p.minutes) s)

-- if both of its acts are allowed.
unfoldable pub pair_step : Automaton → Pair → State → Option State
pair_step a p s =
    cond (allowed a (wait p.minutes) s && allowed a (move p.made) (after a (wait p.minutes) s)) (some (after_pair a p s)) none

-- What it is charged.
abbrev pub pair_charge : Automaton → Pair → State → ℕ
pair_charge a p s = charge_from a 1 (acts (p ∷ [])) s

-- All pairs that a state may allow: no wait goes beyond the ceiling of timer 0.
abbrev pub pairs_from : ℕ → List ℕ → List Pair
pairs_from e [] = []
pairs_from e (d ∷ ds) = map (λ k. record { minutes = d; made = k }) (count_from 0 e) ++ pairs_from e ds

unfoldable pub all_pairs : Automaton → List Pair
all_pairs a = pairs_from (length a.moves) (count_from 0 (suc (get_or a.ceilings 0 0)))

-- A pair, charged c, in front of a timetable.
abbrev pub behind_pair : Pair → ℕ → Answer → Answer
behind_pair p c no_route = no_route
behind_pair p c (route C ks) = route (c + C) (p.minutes ∷ p.made ∷ ks)

-- To stop at the state, if its mode is l.
abbrev pub stopping_at : ℕ → State → Answer
stopping_at l s = cond (eqb s.mode l) (route 0 []) no_route

-- The best of the allowed pairs, each with what `go` finds from the state that it leaves.
abbrev pub over_pairs : (State → Answer) → Automaton → State → List Pair → Answer
over_pairs go a s [] = no_route
over_pairs go a s (p ∷ ps) =
    better (elim (pair_step a p s) [ none ↦ no_route | some s' ↦ behind_pair p (pair_charge a p s) (go s') ]) (over_pairs go a s ps)

-- The best timetable from a state into mode l of at most n pairs: to stop there, or a pair and the best timetable behind it.
unfoldable pub best_pairs : Automaton → ℕ → ℕ → State → Answer
best_pairs a l zero s = stopping_at l s
best_pairs a l (suc n) s = better (stopping_at l s) (over_pairs (λ s'. best_pairs a l n s') a s (all_pairs a))

-- How many states there are in whole minutes: a mode, and for each timer a value up to its ceiling.
unfoldable pub state_count : Automaton → ℕ
state_count a = length a.modes * cell_count a.ceilings

-- The timetable for the goal l. No timetable comes to a state twice for the better (Timetables.Best), so that as many pairs as there are states,
-- less one, are enough.
unfoldable pub timetable : Automaton → ℕ → Answer
timetable a l = best_pairs a l (pred (state_count a)) initial
