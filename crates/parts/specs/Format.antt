-- The bytes of a table made of its fields: document 01, "Bytes of a table", with document 02, N2 and N3. The tests are those of reading.
-- Assumes nothing.
use Rattle.std.specs.Prelude.{ℕ, ◌+◌, ◌*◌, ◌/◌, ◌%◌, true, cond, List, [], ◌∷◌, ◌++◌, ltb, leb, eqb, length}
use Rattle.table.specs.Fields.{ModeFields, MoveFields, Fields}
use Rattle.reader.specs.Format.{between, present, map_present}
use Rattle.parts.specs.Part.{Part, checked, unless_zero, ◌then◌, each}

-- 1 where the field is not 0.
abbrev pub bit_of : ℕ → ℕ
bit_of b = cond (eqb b 0) 0 1

-- A bit for each of the fields, the lowest for the first: those stand that are not 0.
abbrev pub bits_of : List ℕ → ℕ
bits_of [] = 0
bits_of (b ∷ bs) = bit_of b + 2 * bits_of bs

-- A bit map: refused by 3 where a condition is on an absent timer.
abbrev pub map_byte : ℕ → ℕ → Part
map_byte n map = checked (map_present n map) 3 map

-- "It leaves out every zero low or high byte."
abbrev pub amount_byte : ℕ → Part
amount_byte b = unless_zero true 0 b

-- Refused by 4: a "condition code not 1 to 5", and "a condition value above 15".
abbrev pub condition_part : ℕ → Part
condition_part b = unless_zero (between 16 95 b) 4 b

unfoldable pub mode_record : ℕ → ModeFields → Part
mode_record n f =
    map_byte n (bits_of (f.rate % 256 ∷ (f.conditions ++ f.rate / 256 ∷ []))) then amount_byte (f.rate % 256) then each condition_part f.conditions
    then amount_byte (f.rate / 256)

-- The bits that name timers, and bit 7 where there is a high byte.
abbrev pub reset_bits : ℕ → ℕ → ℕ
reset_bits resets high = resets + 128 * bit_of high

-- "A reset byte is written only if it names a timer or announces a high byte." Refused by 3: an absent timer, or bits 3 to 7.
abbrev pub reset_byte : ℕ → ℕ → ℕ → Part
reset_byte n resets high = unless_zero (present n resets) 3 (reset_bits resets high)

-- A mode that a move names, of m modes: refused by 5.
abbrev pub mode_byte : ℕ → ℕ → Part
mode_byte m b = checked (ltb b m) 5 b

unfoldable pub move_record : ℕ → ℕ → MoveFields → Part
move_record m n f =
    map_byte n (bits_of (f.price % 256 ∷ (f.conditions ++ reset_bits f.resets (f.price / 256) ∷ []))) then mode_byte m f.source
    then mode_byte m f.target then amount_byte (f.price % 256) then each condition_part f.conditions then reset_byte n f.resets (f.price / 256)
    then amount_byte (f.price / 256)

-- The counts m, n, e, the goal and the ceilings: refused by 2.
unfoldable pub header : ℕ → ℕ → ℕ → ℕ → Part
header m n e goal = checked (between 1 16 m) 2 m then checked (between 1 3 n) 2 n then checked (leb e 64) 2 e then checked (ltb goal m) 2 goal

abbrev pub ceiling_byte : ℕ → Part
ceiling_byte c = checked (between 1 15 c) 2 c

unfoldable pub table : Fields → Part
table f =
    let m = length f.modes in
    let n = length f.ceilings in
    header m n (length f.moves) f.goal then each ceiling_byte f.ceilings then each (mode_record n) f.modes then each (move_record m n) f.moves
