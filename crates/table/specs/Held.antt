-- How the bytes of a table that was read hold its fields: 904 bytes at fixed offsets.
-- Assumes nothing.
use Rattle.std.specs.Prelude.{ℕ, zero, suc, ◌-◌, ◌/◌, ◌%◌, ◌≤◌, ◌≡◌, length, get_or, take, drop, replicate}
use mathlib.Core.List.{List, [], ◌∷◌, ◌++◌, map, Memᴰ}
use Rattle.semantics.specs.Automata.Proper.{Proper}
use Rattle.semantics.specs.Automaton.{Automaton}
use Rattle.table.specs.Fields.{amount_of, most_price, ModeFields, MoveFields, Fields}
use Rattle.table.specs.Meaning.{automaton}

-- An array of n entries: the list, and 0 behind it.
abbrev pub pad : ℕ → List ℕ → List ℕ
pad n l = l ++ replicate (n - length l) 0

-- The lists one after another.
abbrev pub flat : List (List ℕ) → List ℕ
flat [] = []
flat (l ∷ ls) = l ++ flat ls

-- A mode record, 8 bytes: the rate, its low byte first, and the six conditions.
abbrev pub mode_bytes : ModeFields → List ℕ
mode_bytes m = m.rate % 256 ∷ m.rate / 256 ∷ m.conditions

-- A move record, 12 bytes: the from mode, the to mode, the price, its low byte first, the six conditions, the byte of the resets, and 0.
abbrev pub move_bytes : MoveFields → List ℕ
move_bytes e = e.source ∷ e.target ∷ e.price % 256 ∷ e.price / 256 ∷ (e.conditions ++ e.resets ∷ 0 ∷ [])

-- The bytes that hold the fields: the counts and the goal, from 4 on the ceilings, from 8 on room for sixteen mode records, from 136 on for
-- sixty-four move records. What is behind the last of each is 0.
unfoldable pub held : Fields → List ℕ
held f =
    length f.modes ∷ length f.ceilings ∷ length f.moves ∷ f.goal
    ∷ (pad 4 f.ceilings ++ (pad 128 (flat (map mode_bytes f.modes)) ++ pad 768 (flat (map move_bytes f.moves))))

-- The record with which the bytes begin.
abbrev pub mode_from : List ℕ → ModeFields
mode_from t = record { rate = amount_of (get_or t 0 0) (get_or t 1 0); conditions = take 6 (drop 2 t) }

abbrev pub move_from : List ℕ → MoveFields
move_from t = record {
  source = get_or t 0 0;
  target = get_or t 1 0;
  price = amount_of (get_or t 2 0) (get_or t 3 0);
  conditions = take 6 (drop 4 t);
  resets = get_or t 10 0;
}

-- So many records of so many bytes each, one after another.
abbrev pub records_from : {A : Type 0} → (List ℕ → A) → ℕ → ℕ → List ℕ → List A
records_from one stride zero t = []
records_from one stride (suc n) t = one t ∷ records_from one stride n (drop stride t)

-- The fields that the bytes hold.
unfoldable pub fields_of : List ℕ → Fields
fields_of t = record {
  goal = get_or t 3 0;
  ceilings = take (get_or t 1 0) (drop 4 t);
  modes = records_from mode_from 8 (get_or t 0 0) (drop 8 t);
  moves = records_from move_from 12 (get_or t 2 0) (drop 136 t);
}

abbrev pub automaton_of : List ℕ → Automaton
automaton_of t = automaton (fields_of t)

-- The fields of a mode by its number, and of a move; past the last one no field is set.
abbrev pub mode_fields_at : Fields → ℕ → ModeFields
mode_fields_at f m = get_or f.modes m (record { rate = 0; conditions = [] })

abbrev pub move_fields_at : Fields → ℕ → MoveFields
move_fields_at f e = get_or f.moves e (record { source = 0; target = 0; price = 0; conditions = []; resets = 0 })

-- The fields are in the ranges that they have in a table, and what they name is there.
pub record InRange (f : Fields) : Type 0 where
  pub modes-range : (1 ≤ length f.modes) × (length f.modes ≤ 16)
  pub timers-range : (1 ≤ length f.ceilings) × (length f.ceilings ≤ 3)
  pub moves-range : length f.moves ≤ 64
  pub ceilings-range : (c : ℕ) → Memᴰ c f.ceilings → (1 ≤ c) × (c ≤ 15)
  pub rates-range : (m : ModeFields) → Memᴰ m f.modes → m.rate ≤ most_price
  pub prices-range : (e : MoveFields) → Memᴰ e f.moves → e.price ≤ most_price
  pub six-invariants : (m : ModeFields) → Memᴰ m f.modes → length m.conditions ≡ 6
  pub six-guards : (e : MoveFields) → Memᴰ e f.moves → length e.conditions ≡ 6
  pub proper : Proper (automaton f)

-- The bytes are a table: they hold fields that are in their ranges.
pub record IsTable (t : List ℕ) : Type 0 where
  pub holds : t ≡ held (fields_of t)
  pub range : InRange (fields_of t)
