-- The reading of a table: document 01, "Bytes of a table", with refusals 1 to 5 of "Refusals in their order", and document 02, N2.
-- Assumes nothing.
use Rattle.std.specs.Prelude.{ℕ, ◌-◌, ◌/◌, ◌%◌, ◌^◌, Bool, true, false, cond, ◌&&◌, List, leb, ltb}
use Rattle.reader.specs.Parser.{Parser, done, refuse, byte, ◌>>=◌, in_order}
use Rattle.table.specs.Fields.{amount_of, ModeFields, MoveFields, Fields}
use Rattle.table.specs.Meaning.{stands}

-- "the longest table has 919 bytes".
abbrev pub longest : ℕ
longest = 919

-- Any byte.
abbrev pub any_byte : Parser ℕ
any_byte = byte done

-- A byte that passes a test; any other is refused by the number.
abbrev pub tested : (ℕ → Bool) → ℕ → Parser ℕ
tested passes number = byte (λ b. cond (passes b) (done b) (refuse number))

-- A byte from least to most.
abbrev pub between : ℕ → ℕ → ℕ → Bool
between least most b = leb least b && leb b most

unfoldable pub within : ℕ → ℕ → ℕ → Parser ℕ
within number least most = tested (between least most) number

-- "only the fields whose bit stands": a field whose bit does not stand takes no byte and is 0.
abbrev pub if_stands : Bool → Parser ℕ → Parser ℕ
if_stands true field = field
if_stands false field = done 0

-- Bits for timers 0, 1, 2, as a number, name none but the n timers that are there.
abbrev pub present : ℕ → ℕ → Bool
present n bits = ltb bits (2 ^ n)

-- A bit map: bits 1, 2, 3 and bits 4, 5, 6 are for timers 0, 1, 2. Refusal 3: "a map [..] bit for an absent timer".
abbrev pub map_present : ℕ → ℕ → Bool
map_present n b = present n (b / 2 % 8) && present n (b / 16 % 8)

unfoldable pub bit_map : ℕ → Parser ℕ
bit_map n = tested (map_present n) 3

-- A byte of a rate or price, if its bit stands in the byte that announces it: the low byte by bit 0 of the map, the high byte "in a mode if
-- map bit 7 stands, and in a move if bit 7 of the reset byte stands". "A missing low byte is 0."
unfoldable pub amount_byte : ℕ → ℕ → Parser ℕ
amount_byte announcing bit = if_stands (stands announcing bit) any_byte

-- Bits 1 to 6: conditions. Refusal 4: "condition code not 1 to 5" of 16 × code + value.
unfoldable pub conditions : ℕ → Parser (List ℕ)
conditions map = in_order (λ bit. if_stands (stands map bit) (within 4 16 95)) 1 6

-- A reset byte: bits 0 to 2 are for timers 0, 1, 2, and bit 7 announces a high byte. Refusal 3: "a [..] reset bit for an absent timer, [..] or
-- reset bits 3 to 7", of which bit 7 is free now.
abbrev pub reset_present : ℕ → ℕ → Bool
reset_present n b = present n (b % 128)

unfoldable pub reset_byte : ℕ → Parser ℕ
reset_byte n = tested (reset_present n) 3

-- A mode record: the high byte is "the last field of its record".
unfoldable pub mode_record : ℕ → Parser ModeFields
mode_record n = do
  map ← bit_map n
  low ← amount_byte map 0
  cs ← conditions map
  high ← amount_byte map 7
  done (record { rate = amount_of low high; conditions = cs })

-- A move record of a table with m modes. Refusal 5: "from or to not below m".
unfoldable pub move_record : ℕ → ℕ → Parser MoveFields
move_record m n = do
  map ← bit_map n
  source ← within 5 0 (m - 1)
  target ← within 5 0 (m - 1)
  low ← amount_byte map 0
  cs ← conditions map
  reset ← if_stands (stands map 7) (reset_byte n)
  high ← amount_byte reset 7
  done (record { source = source; target = target; price = amount_of low high; conditions = cs; resets = reset % 8 })

-- The first four bytes: the numbers of modes, timers and moves, and the goal.
pub record Header : Type 0 where
  pub modes : ℕ
  pub timers : ℕ
  pub moves : ℕ
  pub goal : ℕ

-- Refusal 2: "a count, goal or ceiling outside its range".
unfoldable pub header : Parser Header
header = do
  m ← within 2 1 16
  n ← within 2 1 3
  e ← within 2 0 64
  goal ← within 2 0 (m - 1)
  done (record { modes = m; timers = n; moves = e; goal = goal })

-- "Then n ceilings, 1 to 15. Then m mode records, then e move records."
unfoldable pub table : Parser Fields
table = do
  h ← header
  ceilings ← in_order (λ i. within 2 1 15) 0 h.timers
  modes ← in_order (λ i. mode_record h.timers) 0 h.modes
  moves ← in_order (λ i. move_record h.modes h.timers) 0 h.moves
  done (record { goal = h.goal; ceilings = ceilings; modes = modes; moves = moves })
