-- The layout of a table as a relation between bytes and fields: document 01, "Bytes of a table", with the high bytes of document 02, N2. It says
-- nothing of how bytes are read.
-- Assumes nothing.
use Rattle.std.specs.Prelude.{ℕ, suc, ◌+◌, ◌/◌, ◌%◌, ◌≤◌, ◌<◌, ◌≡◌, Bool, true, false, length}
use mathlib.Core.List.{List, [], ◌∷◌, ◌++◌, Memᴰ}
use Rattle.table.specs.Fields.{amount_of, ModeFields, MoveFields, Fields}
use Rattle.table.specs.Meaning.{stands}

-- "only the fields whose bit stands": one good byte, or no byte and 0.
pub data Optional (Good : ℕ → Type 0) : Bool → List ℕ → ℕ → Type 0 where
  present : {b : ℕ} → Good b → Optional Good true (b ∷ []) b
  absent : Optional Good false [] 0

-- One after another, each laid out by R at its place.
pub data InRow {A : Type 0} (R : ℕ → List ℕ → A → Type 0) : ℕ → List ℕ → List A → Type 0 where
  none : {i : ℕ} → InRow R i [] []
  more : {i : ℕ} {xs ys : List ℕ} {a : A} {l : List A} → R i xs a → InRow R (suc i) ys l → InRow R i (xs ++ ys) (a ∷ l)

-- Of three bits for timers 0, 1, 2, from bit `first` on, those that stand are for timers that are there.
abbrev pub TimersThere : ℕ → ℕ → ℕ → Type 0
TimersThere n first b = (x : ℕ) → x < 3 → stands b (first + x) ≡ true → x < n

-- A byte of a rate or price: the low one, "bit 0" of the map, or the high one, bit 7 of the byte that announces it.
abbrev pub AmountByte : ℕ → ℕ → List ℕ → ℕ → Type 0
AmountByte announcing bit = Optional (λ b. Unit {0}) (stands announcing bit)

-- "A condition byte is 16 × code + value, value 0 to 15; codes 1 to 5".
abbrev pub IsCondition : ℕ → Type 0
IsCondition b = (1 ≤ b / 16) × (b / 16 ≤ 5)

-- Bits 1 to 6: six conditions, each at its place.
pub record SixConditions (map : ℕ) (bytes : List ℕ) (cs : List ℕ) : Type 0 where
  pub six : length cs ≡ 6
  pub row : InRow (λ bit. Optional IsCondition (stands map bit)) 1 bytes cs

-- "a byte whose bits 0 to 2 name timers". Bits 3 to 6 do not stand; bit 7 may.
pub record IsReset (n b : ℕ) : Type 0 where
  pub bits : b % 128 < 8
  pub there : TimersThere n 0 b

-- "A mode record is a bit map, then only the fields whose bit stands, by rising bit." The high byte "stands in a mode if map bit 7 stands".
pub record ModeLayout (n : ℕ) (bytes : List ℕ) (f : ModeFields) : Type 0 where
  pub map : ℕ
  pub low : ℕ
  pub high : ℕ
  pub low-bytes : List ℕ
  pub condition-bytes : List ℕ
  pub high-bytes : List ℕ
  pub split : bytes ≡ map ∷ (low-bytes ++ (condition-bytes ++ high-bytes))
  pub first : TimersThere n 1 map
  pub further : TimersThere n 4 map
  pub has-low : AmountByte map 0 low-bytes low
  pub conditions : SixConditions map condition-bytes f.conditions
  pub has-high : AmountByte map 7 high-bytes high
  pub rate : amount_of low high ≡ f.rate

-- "A move record is a bit map, the from mode, the to mode, then its fields likewise." "Bit 7, moves only: resets". The high byte stands "in a
-- move if bit 7 of the reset byte stands"; the reset byte's other bits name timers.
pub record MoveLayout (m n : ℕ) (bytes : List ℕ) (f : MoveFields) : Type 0 where
  pub map : ℕ
  pub low : ℕ
  pub reset : ℕ
  pub high : ℕ
  pub low-bytes : List ℕ
  pub condition-bytes : List ℕ
  pub reset-bytes : List ℕ
  pub high-bytes : List ℕ
  pub split : bytes ≡ map ∷ f.source ∷ f.target ∷ (low-bytes ++ (condition-bytes ++ (reset-bytes ++ high-bytes)))
  pub first : TimersThere n 1 map
  pub further : TimersThere n 4 map
  pub source : f.source < m
  pub target : f.target < m
  pub has-low : AmountByte map 0 low-bytes low
  pub conditions : SixConditions map condition-bytes f.conditions
  pub has-reset : Optional (IsReset n) (stands map 7) reset-bytes reset
  pub has-high : AmountByte reset 7 high-bytes high
  pub price : amount_of low high ≡ f.price
  pub resets : reset % 8 ≡ f.resets

-- "Byte 0: modes m, 1 to 16. Byte 1: timers n, 1 to 3. Byte 2: moves e, 0 to 64. Byte 3: goal, below m. Then n ceilings, 1 to 15. Then m mode
-- records, then e move records."
pub record Layout (bytes : List ℕ) (f : Fields) : Type 0 where
  pub mode-bytes : List ℕ
  pub move-bytes : List ℕ
  pub split : bytes ≡ length f.modes ∷ length f.ceilings ∷ length f.moves ∷ f.goal ∷ (f.ceilings ++ (mode-bytes ++ move-bytes))
  pub modes-range : (1 ≤ length f.modes) × (length f.modes ≤ 16)
  pub timers-range : (1 ≤ length f.ceilings) × (length f.ceilings ≤ 3)
  pub moves-range : length f.moves ≤ 64
  pub goal-range : f.goal < length f.modes
  pub ceilings-range : (c : ℕ) → Memᴰ c f.ceilings → (1 ≤ c) × (c ≤ 15)
  pub modes : InRow (λ i. ModeLayout (length f.ceilings)) 0 mode-bytes f.modes
  pub moves : InRow (λ i. MoveLayout (length f.modes) (length f.ceilings)) 0 move-bytes f.moves
