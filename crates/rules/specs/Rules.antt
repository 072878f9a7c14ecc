-- What a search looks at instead of a table's conditions, 560 bytes: for each mode and move the window of each timer in half minutes, and the moves
-- of each mode one after another.
-- Assumes nothing.
use Rattle.std.specs.Prelude.{◌≡◌, ◌≢◌, cond, List, ℕ, ◌+◌, ◌*◌, ◌≤◌, ◌<◌, eqb, Option, Some, None, length, get_or}
use Rattle.semantics.specs.Condition.{Condition}
use Rattle.semantics.specs.Automaton.{Automaton, mode_at, move_at}
use Rattle.semantics.specs.Run.{among}
use Rattle.table.specs.Held.{automaton_of}
use Rattle.conditions.specs.Windows.{low_of, high_of, joined_low, joined_high, capped}

-- Rows of three windows, the modes' from row 0 on and the moves' from row 16 on. A window has two bytes: the lowest place in it, and the first above
-- that is outside.
abbrev pub window_of : ℕ → ℕ → ℕ
window_of row x = 3 * row + x

abbrev pub low_at : List ℕ → ℕ → ℕ → ℕ
low_at rs row x = get_or rs (2 * window_of row x) 0

abbrev pub high_at : List ℕ → ℕ → ℕ → ℕ
high_at rs row x = get_or rs (2 * window_of row x + 1) 0

-- Timers that stand at these places are in the windows of a row.
abbrev pub InRow : List ℕ → ℕ → List ℕ → Type 0
InRow rs row hs = (x : ℕ) → x < 3 → (low_at rs row x ≤ get_or hs x 0) × (get_or hs x 0 < high_at rs row x)

-- Behind the rows the first move of each mode; and behind those, for each move, the next one from the same mode.
abbrev pub first_of : List ℕ → ℕ → ℕ
first_of rs m = get_or rs (480 + m) 0

abbrev pub after_of : List ℕ → ℕ → ℕ
after_of rs e = get_or rs (496 + e) 0

-- No move.
abbrev pub none : ℕ
none = 64

-- The move that a byte behind the rows names.
abbrev pub as_move : ℕ → Option ℕ
as_move r = cond (eqb r none) None (Some r)

-- Move r is the first from e on that leaves mode m, or none does and r is 64.
pub record FirstFrom (a : Automaton) (m e r : ℕ) : Type 0 where
  pub from : e ≤ r
  pub few : r ≤ none
  pub there : r < none → (r < length a.moves) × ((move_at a r).source ≡ m)
  pub none_before : (k : ℕ) → e ≤ k → k < r → k < length a.moves → (move_at a k).source ≢ m

-- The row of mode m has the windows of its conditions, with the ceilings.
pub record IsModeRow (a : Automaton) (m : ℕ) (rs : List ℕ) : Type 0 where
  pub low : (x : ℕ) → x < 3 → low_at rs m x ≡ low_of (mode_at a m).conditions x
  pub high : (x : ℕ) → x < 3 → high_at rs m x ≡ capped (high_of (mode_at a m).conditions x) (get_or a.ceilings x 0)

-- The conditions of the mode that a move leads to.
abbrev pub target_conditions : Automaton → ℕ → List Condition
target_conditions a e = (mode_at a (move_at a e).target).conditions

-- The row of move e has the windows of its conditions, those of its target's joined to them.
pub record IsMoveRow (a : Automaton) (e : ℕ) (rs : List ℕ) : Type 0 where
  pub low :
      (x : ℕ) → x < 3
      → low_at rs (16 + e) x ≡ joined_low (among x (move_at a e).resets) (low_of (move_at a e).conditions x) (low_of (target_conditions a e) x)
  pub high :
      (x : ℕ) → x < 3
      → high_at rs (16 + e) x
      ≡ joined_high (among x (move_at a e).resets) (high_of (move_at a e).conditions x) (low_of (target_conditions a e) x) (high_of (target_conditions a e) x)

-- The bytes are the rules of the table t. What is behind the last mode, and behind the last move, is 0.
pub record IsRules (t rs : List ℕ) : Type 0 where
  pub size : length rs ≡ 560
  pub invariants : (m : ℕ) → m < length (automaton_of t).modes → IsModeRow (automaton_of t) m rs
  pub guards : (e : ℕ) → e < length (automaton_of t).moves → IsMoveRow (automaton_of t) e rs
  pub first : (m : ℕ) → m < length (automaton_of t).modes → FirstFrom (automaton_of t) m 0 (first_of rs m)
  pub after : (e : ℕ) → e < length (automaton_of t).moves → FirstFrom (automaton_of t) (move_at (automaton_of t) e).source (e + 1) (after_of rs e)
  pub spare-modes : (m i : ℕ) → length (automaton_of t).modes ≤ m → m < 16 → i < 6 → (get_or rs (6 * m + i) 0 ≡ 0) × (first_of rs m ≡ 0)
  pub spare-moves : (e i : ℕ) → length (automaton_of t).moves ≤ e → e < 64 → i < 6 → (get_or rs (6 * (16 + e) + i) 0 ≡ 0) × (after_of rs e ≡ 0)
