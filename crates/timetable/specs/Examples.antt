-- The definitions, computed: document 01's table T with ≥ 1 and with = 2 in place of > 1, whose charges it gives as 7 and 8; T itself is not closed.
-- Assumes nothing.
use Rattle.std.specs.Prelude.{◌≡◌, refl, false, [], ◌∷◌, ℕ}
use Rattle.semantics.specs.Condition.{Comparison, equal, at_least, greater}
use Rattle.semantics.specs.Automaton.{Automaton}
use Rattle.semantics.specs.Answer.{route}
use Rattle.semantics.specs.Closed.{closed_table}
use Rattle.semantics.specs.Timetable.{allowed, pair_step, all_pairs, best_pairs, state_count, timetable}

-- T with another last byte.
abbrev T : Comparison → ℕ → Automaton
T comparison value = record {
  ceilings = 2 ∷ [];
  modes = record { rate = 3; conditions = [] } ∷ record { rate = 1; conditions = [] } ∷ record { rate = 0; conditions = [] } ∷ [];
  moves =
      record { source = 0; target = 1; price = 5; conditions = []; resets = [] }
      ∷ record { source = 1; target = 2; price = 1; conditions = record { timer = 0; comparison = comparison; value = value } ∷ []; resets = [] }
      ∷ [];
  goal = 2;
}

-- Move 0 at once, a minute, move 1.
at-least-1 : timetable (T at_least 1) 2 ≡ route 7 (0 ∷ 0 ∷ 1 ∷ 1 ∷ [])
unfolding timetable best_pairs all_pairs pair_step allowed state_count
at-least-1 = refl

-- Move 0 at once, two minutes, move 1.
equal-2 : timetable (T equal 2) 2 ≡ route 8 (0 ∷ 0 ∷ 2 ∷ 1 ∷ [])
unfolding timetable best_pairs all_pairs pair_step allowed state_count
equal-2 = refl

not-closed : closed_table (T greater 1) ≡ false
unfolding closed_table
not-closed = refl
