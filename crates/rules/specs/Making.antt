-- What the private functions that make the rules do.
-- Assumes nothing.
use Rattle.std.specs.Prelude.{◌≡◌, Bool, List, ℕ, ◌+◌, ◌*◌, ◌≤◌, ◌<◌, length, get_or, take, drop}
use Rattle.semantics.specs.Condition.{Condition}
use Rattle.semantics.specs.Automaton.{Automaton, move_at}
use Rattle.semantics.specs.Run.{among}
use Rattle.table.specs.Meaning.{stands, conditions_from}
use Rattle.conditions.specs.Windows.{low_of, high_of, joined_low, joined_high, capped}
use Rattle.rules.specs.Rules.{low_at, high_at, first_of, after_of, FirstFrom}

-- So many bytes from `at` on are those of f, and all else is as in rs.
pub record Wrote (f : ℕ → ℕ) (at count : ℕ) (rs rs' : List ℕ) : Type 0 where
  pub size : length rs' ≡ length rs
  pub there : (i : ℕ) → i < count → get_or rs' (at + i) 0 ≡ f i
  pub before : (j : ℕ) → j < at → get_or rs' j 0 ≡ get_or rs j 0
  pub behind : (j : ℕ) → at + count ≤ j → get_or rs' j 0 ≡ get_or rs j 0

-- The six condition bytes of record k, of those whose conditions begin at a place and stand so far apart.
abbrev pub condition_bytes : List ℕ → ℕ → ℕ → ℕ → List ℕ
condition_bytes t at stride k = take 6 (drop (at + stride * k) t)

-- The row has the windows of the conditions.
pub record IsRow (rs : List ℕ) (row : ℕ) (cs : List Condition) : Type 0 where
  pub low : (x : ℕ) → x < 3 → low_at rs row x ≡ low_of cs x
  pub high : (x : ℕ) → x < 3 → high_at rs row x ≡ high_of cs x

-- The rows from `row` on have the windows of so many records' bytes, and all else is as in rs.
pub record FilledRows (bytes : ℕ → List ℕ) (count row : ℕ) (rs rs' : List ℕ) : Type 0 where
  pub size : length rs' ≡ length rs
  pub there : (k : ℕ) → k < count → IsRow rs' (row + k) (conditions_from 0 (bytes k))
  pub before : (j : ℕ) → j < 6 * row → get_or rs' j 0 ≡ get_or rs j 0
  pub behind : (j : ℕ) → 6 * (row + count) ≤ j → get_or rs' j 0 ≡ get_or rs j 0

-- To the windows of a row those of another one, the target's, are joined, of the timers before `count`.
pub record Joins (is_reset : ℕ → Bool) (row target count : ℕ) (rs rs' : List ℕ) : Type 0 where
  pub low : (x : ℕ) → x < count → low_at rs' row x ≡ joined_low (is_reset x) (low_at rs row x) (low_at rs target x)
  pub high : (x : ℕ) → x < count → high_at rs' row x ≡ joined_high (is_reset x) (high_at rs row x) (low_at rs target x) (high_at rs target x)

-- The byte names the timers that are reset, and all else is as in rs.
pub record JoinedRow (resets row target count : ℕ) (rs rs' : List ℕ) : Type 0 where
  pub size : length rs' ≡ length rs
  pub there : Joins (stands resets) row target count rs rs'
  pub before : (j : ℕ) → j < 6 * row → get_or rs' j 0 ≡ get_or rs j 0
  pub behind : (j : ℕ) → 6 * row + 2 * count ≤ j → get_or rs' j 0 ≡ get_or rs j 0

-- To the rows of so many moves those of their targets are joined, and all else is as in rs.
pub record JoinedRows (a : Automaton) (count : ℕ) (rs rs' : List ℕ) : Type 0 where
  pub size : length rs' ≡ length rs
  pub there : (e : ℕ) → e < count → Joins (λ x. among x (move_at a e).resets) (16 + e) (move_at a e).target 3 rs rs'
  pub before : (j : ℕ) → j < 96 → get_or rs' j 0 ≡ get_or rs j 0
  pub behind : (j : ℕ) → 6 * (16 + count) ≤ j → get_or rs' j 0 ≡ get_or rs j 0

-- The windows of a row end above the ceilings at the latest, of the timers before `count`.
pub record Caps (ceilings : List ℕ) (row count : ℕ) (rs rs' : List ℕ) : Type 0 where
  pub low : (x : ℕ) → x < count → low_at rs' row x ≡ low_at rs row x
  pub high : (x : ℕ) → x < count → high_at rs' row x ≡ capped (high_at rs row x) (get_or ceilings x 0)

-- And all else is as in rs.
pub record CappedRow (ceilings : List ℕ) (row count : ℕ) (rs rs' : List ℕ) : Type 0 where
  pub size : length rs' ≡ length rs
  pub there : Caps ceilings row count rs rs'
  pub before : (j : ℕ) → j < 6 * row → get_or rs' j 0 ≡ get_or rs j 0
  pub behind : (j : ℕ) → 6 * row + 2 * count ≤ j → get_or rs' j 0 ≡ get_or rs j 0

-- So do those of so many rows, and all else is as in rs.
pub record CappedRows (ceilings : List ℕ) (count : ℕ) (rs rs' : List ℕ) : Type 0 where
  pub size : length rs' ≡ length rs
  pub there : (m : ℕ) → m < count → Caps ceilings m 3 rs rs'
  pub behind : (j : ℕ) → 6 * count ≤ j → get_or rs' j 0 ≡ get_or rs j 0

-- The moves from e on stand in their order, and all else is as in rs.
pub record OrderedFrom (a : Automaton) (e : ℕ) (rs rs' : List ℕ) : Type 0 where
  pub size : length rs' ≡ length rs
  pub first : (m : ℕ) → m < length a.modes → FirstFrom a m e (first_of rs' m)
  pub after : (k : ℕ) → e ≤ k → k < length a.moves → FirstFrom a (move_at a k).source (k + 1) (after_of rs' k)
  pub before : (j : ℕ) → j < 480 → get_or rs' j 0 ≡ get_or rs j 0
  pub spare-modes : (m : ℕ) → length a.modes ≤ m → m < 16 → first_of rs' m ≡ first_of rs m
  pub earlier : (k : ℕ) → k < e → after_of rs' k ≡ after_of rs k
  pub behind : (k : ℕ) → length a.moves ≤ k → after_of rs' k ≡ after_of rs k
