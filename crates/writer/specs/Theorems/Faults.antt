-- What the faults of all parts have in common, the fault of the whole has.
-- Assumes nothing.
use Rattle.std.specs.Prelude.{ℕ, ◌/◌, ◌%◌, ◌≤◌, ◌≡◌, refl, ◌⊎◌, Bool, true, false, cond, ltb, leb, eqb, length}
use Rattle.std.proofs.Common.{arith, inl, inr}
use mathlib.Core.List.{List, [], ◌∷◌, ◌++◌, Memᴰ}
use Rattle.table.specs.Fields.{ModeFields, MoveFields, Fields}
use Rattle.reader.specs.Format.{between, present, map_present}
use Rattle.parts.specs.Part.{Part, nothing, checked, unless_zero, each}
use Rattle.parts.specs.Format.{bits_of, map_byte, amount_byte, condition_part, mode_record, reset_bits, reset_byte, mode_byte, move_record, header, ceiling_byte, table}
use Rattle.writer.specs.Theorems.Mirrors.{first_fault}

module _ (P : ℕ → Type 0) where
  either : (t : Bool) (a b : ℕ) → P a → P b → P (cond t a b)
  either true a b h k = h
  either false a b h k = k

  pub fault-then : (a b : ℕ) → P a → P b → P (first_fault a b)
  fault-then a b h k = either (eqb a 0) b a k h

  pub fault-unless : (passes : Bool) (number b : ℕ) → P 0 → P (checked passes number b).fault → P (unless_zero passes number b).fault
  fault-unless passes number b h k = go (eqb b 0)
    where
      go : (t : Bool) → P (cond t nothing (checked passes number b)).fault
      go true = h
      go false = k

  pub fault-each : {A : Type 0} (part : A → Part) (l : List A) → P 0 → ((a : A) → Memᴰ a l → P (part a).fault) → P (each part l).fault
  fault-each part [] h k = h
  fault-each part (a ∷ l) h k =
      fault-then (part a).fault (each part l).fault (k a (Memᴰ.head refl)) (fault-each part l h (λ b m. k b (Memᴰ.tail m)))

-- No fault, or one of 2 to 5.
abbrev pub Numbered : ℕ → Type 0
Numbered k = (k ≡ 0) ⊎ ((2 ≤ k) × (k ≤ 5))

byte-numbered : (passes : Bool) (number b : ℕ) → 2 ≤ number → number ≤ 5 → Numbered (checked passes number b).fault
byte-numbered passes number b h k = either Numbered passes 0 number (inl refl) (inr (h, k))

amount-numbered : (b : ℕ) → Numbered (amount_byte b).fault
amount-numbered b = fault-unless Numbered true 0 b (inl refl) (inl refl)

conditions-numbered : (cs : List ℕ) → Numbered (each condition_part cs).fault
conditions-numbered cs = fault-each Numbered condition_part cs (inl refl) (λ b m.
    fault-unless Numbered (between 16 95 b) 4 b (inl refl) (byte-numbered (between 16 95 b) 4 b (omega arith) (omega arith)))

then-numbered : {a b : ℕ} → Numbered a → Numbered b → Numbered (first_fault a b)
then-numbered {a} {b} h k = fault-then Numbered a b h k

map-numbered : (n map : ℕ) → Numbered (map_byte n map).fault
map-numbered n map = byte-numbered (map_present n map) 3 map (omega arith) (omega arith)

mode-numbered : (n : ℕ) (f : ModeFields) → Numbered (mode_record n f).fault
unfolding mode_record
mode-numbered n f =
    then-numbered (map-numbered n (bits_of (f.rate % 256 ∷ (f.conditions ++ f.rate / 256 ∷ [])))) (then-numbered (amount-numbered (f.rate % 256))
    (then-numbered (conditions-numbered f.conditions) (amount-numbered (f.rate / 256))))

place-numbered : (m b : ℕ) → Numbered (mode_byte m b).fault
place-numbered m b = byte-numbered (ltb b m) 5 b (omega arith) (omega arith)

reset-numbered : (n : ℕ) (f : MoveFields) → Numbered (reset_byte n f.resets (f.price / 256)).fault
reset-numbered n f =
    fault-unless Numbered (present n f.resets) 3 (reset_bits f.resets (f.price / 256)) (inl refl)
    (byte-numbered (present n f.resets) 3 (reset_bits f.resets (f.price / 256)) (omega arith) (omega arith))

move-numbered : (m n : ℕ) (f : MoveFields) → Numbered (move_record m n f).fault
unfolding move_record
move-numbered m n f =
    then-numbered (map-numbered n (bits_of (f.price % 256 ∷ (f.conditions ++ reset_bits f.resets (f.price / 256) ∷ []))))
    (then-numbered (place-numbered m f.source)
    (then-numbered (place-numbered m f.target) (then-numbered (amount-numbered (f.price % 256)) (then-numbered (conditions-numbered f.conditions)
    (then-numbered (reset-numbered n f) (amount-numbered (f.price / 256)))))))

count-numbered : (passes : Bool) (b : ℕ) → Numbered (checked passes 2 b).fault
count-numbered passes b = byte-numbered passes 2 b (omega arith) (omega arith)

header-numbered : (m n e goal : ℕ) → Numbered (header m n e goal).fault
unfolding header
header-numbered m n e goal =
    then-numbered (count-numbered (between 1 16 m) m) (then-numbered (count-numbered (between 1 3 n) n)
    (then-numbered (count-numbered (leb e 64) e) (count-numbered (ltb goal m) goal)))

pub table-numbered : (f : Fields) → Numbered (table f).fault
unfolding table
table-numbered f =
    let m = length f.modes in
    let n = length f.ceilings in
    then-numbered (header-numbered m n (length f.moves) f.goal)
    (then-numbered (fault-each Numbered ceiling_byte f.ceilings (inl refl) (λ c k. count-numbered (between 1 15 c) c))
    (then-numbered (fault-each Numbered (mode_record n) f.modes (inl refl) (λ a k. mode-numbered n a))
    (fault-each Numbered (move_record m n) f.moves (inl refl) (λ a k. move-numbered m n a))))
