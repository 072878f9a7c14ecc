-- Mode and move records are read along what is written.
-- Assumes nothing.
use Rattle.std.specs.Prelude.{ℕ, suc, ◌+◌, ◌*◌, ◌-◌, ◌/◌, ◌%◌, ◌^◌, ◌≤◌, ◌<◌, ◌≡◌, refl, Bool, false, cond, not, List, [], ◌∷◌, ◌++◌, ltb, eqb, length}
use Rattle.std.proofs.Common.{one-add, pow_mono}
use native.Mathlib.Omega.{arith}
use Rattle.std.proofs.Math.Bool.{true}
use borrow.Author.Tests.{le-leb, lt-leb, ltb-true, ltb-false, eq-eqb, ne_eqb, eqb-true}
use Rattle.std.proofs.Math.Dec.{leb-zero}
use Rattle.std.proofs.Math.ListN.{get_or}
use Rattle.table.specs.Fields.{amount_of, ModeFields, MoveFields}
use Rattle.table.specs.Meaning.{stands}
use Rattle.reader.specs.Format as reader
use Rattle.reader.specs.Format.{between, present, reset_present}
use Rattle.parts.specs.Part.{nothing, checked, each}
use Rattle.parts.specs.Format.{bits_of, map_byte, amount_byte, condition_part, mode_record, reset_bits, reset_byte, move_record}
use Rattle.writer.specs.Theorems.Bits.{low_stands, condition-stands, last-stands}
use Rattle.writer.specs.Theorems.Mirrors.{Mirrors, passed, mirror-then, mirror-made, mirror-same, mirror-checked, mirror-tested, mirror-any, mirror-optional, mirror-each}

module _ {Fits : Type 0} where
  map-mirrors : (n map : ℕ) → Mirrors Fits (reader.bit_map n) (map_byte n map) map
  unfolding reader.bit_map
  map-mirrors n map = mirror-tested (reader.map_present n) 3 map (omega arith)

  amount-mirrors : (announcing bit b : ℕ) → stands announcing bit ≡ not (eqb b 0) → Mirrors Fits (reader.amount_byte announcing bit) (amount_byte b) b
  unfolding reader.amount_byte
  amount-mirrors announcing bit b e = mirror-optional true 0 b (stands announcing bit) e (mirror-any b)

  -- Six conditions, whose bits stand in the map where they are not 0.
  conditions-mirror : (map : ℕ) (cs : List ℕ) → length cs ≡ 6 → ((j : ℕ) → j < length cs → stands map (suc j) ≡ not (eqb (get_or cs j 0) 0)) →
      Mirrors Fits (reader.conditions map) (each condition_part cs) cs
  unfolding reader.conditions reader.within
  conditions-mirror map cs six bits =
      rw six at (mirror-each {Fits = Fits} (λ bit. reader.if_stands (stands map bit) (reader.within 4 16 95)) condition_part 0 cs 1 (λ j h.
      let b = get_or cs j 0 in
      mirror-optional (between 16 95 b) 4 b (stands map (1 + j)) (rw (one-add j) (bits j h)) (mirror-tested (between 16 95) 4 b (omega arith))))

  -- A byte below m, which is at least 1.
  pub below-mirrors : (number m b : ℕ) → 0 < number → 1 ≤ m → Mirrors Fits (reader.within number 0 (m - 1)) (checked (ltb b m) number b) b
  unfolding reader.within
  below-mirrors number m b some h =
      mirror-checked (between 0 (m - 1)) number b some (ltb b m) (λ e. rw (leb-zero b) (le-leb b (m - 1) (omega (arith, ltb-true b m e))))
      (λ fit e. rw (leb-zero b) (lt-leb b (m - 1) (omega (arith, ltb-false b m e))))

  pub mode-mirrors : (n : ℕ) (f : ModeFields) → length f.conditions ≡ 6 → Mirrors Fits (reader.mode_record n) (mode_record n f) f
  unfolding reader.mode_record mode_record
  mode-mirrors n f six =
      let low = f.rate % 256 in
      let high = f.rate / 256 in
      let cs = f.conditions in
      let map = bits_of (low ∷ (cs ++ high ∷ [])) in
      let rate : amount_of low high ≡ f.rate = omega arith in
      mirror-same (λ i. record { rate = rate i; conditions = cs })
      (mirror-then _ (map-mirrors n map) (λ e. mirror-then _ (amount-mirrors map 0 low (low_stands low cs high six)) (λ e.
      mirror-then _ (conditions-mirror map cs six (condition-stands low cs high six)) (λ e.
      mirror-made _ (amount-mirrors map 7 high (last-stands low cs high six))))))

-- The byte of the resets, with the bit that announces the price's high byte.
module _ (n : ℕ) (few : n ≤ 3) (f : MoveFields) where
  abbrev high : ℕ
  high = f.price / 256

  reset-same : f.resets < 128 → reset_bits f.resets (f.price / 256) % 128 ≡ f.resets
  reset-same h = omega arith

  present-small : present n f.resets ≡ true → f.resets < 8
  present-small e = omega (arith, ltb-true f.resets (2 ^ n) e, pow_mono few)

  -- Resets that are not refused name timers 0, 1, 2.
  reset-small : (reset_byte n f.resets (f.price / 256)).fault ≡ 0 → f.resets < 8
  reset-small e = go (eqb (reset_bits f.resets (f.price / 256)) 0) refl e
    where
      go : (t : Bool) → eqb (reset_bits f.resets (f.price / 256)) 0 ≡ t → (cond t nothing
          (checked (present n f.resets) 3 (reset_bits f.resets (f.price / 256)))).fault ≡ 0 → f.resets < 8
      go true h e = omega (arith, eqb-true (reset_bits f.resets (f.price / 256)) 0 h)
      go false h e = present-small (passed (present n f.resets) 3 (omega arith) e)

  reset-mirrors : (map : ℕ) → stands map 7 ≡ not (eqb (reset_bits f.resets (f.price / 256)) 0) →
      Mirrors (f.resets < 128) (reader.if_stands (stands map 7) (reader.reset_byte n)) (reset_byte n f.resets (f.price / 256))
      (reset_bits f.resets (f.price / 256))
  unfolding reader.reset_byte
  reset-mirrors map e =
      mirror-optional (present n f.resets) 3 (reset_bits f.resets (f.price / 256)) (stands map 7) e
      (mirror-checked (reset_present n) 3 (reset_bits f.resets (f.price / 256)) (omega arith) (present n f.resets)
      (λ p. let small = present-small p in rw (reset-same (omega arith)) p) (λ fit p. rw (reset-same fit) p))

  -- Bit 7 stands where there is a high byte.
  high-stands : f.resets < 8 → stands (reset_bits f.resets (f.price / 256)) 7 ≡ not (eqb high 0)
  high-stands h = go (eqb high 0)
    where
      go : (t : Bool) → eqb ((f.resets + 128 * cond t 0 1) / 128 % 2) 1 ≡ not t
      go true = ne_eqb ((f.resets + 128 * 0) / 128 % 2) 1 (λ e. omega arith)
      go false = eq-eqb ((f.resets + 128 * 1) / 128 % 2) 1 (omega arith)

  pub move-mirrors : (m : ℕ) → 1 ≤ m → length f.conditions ≡ 6 → Mirrors (f.resets < 128) (reader.move_record m n) (move_record m n f) f
  unfolding reader.move_record move_record
  move-mirrors m some six =
      let low = f.price % 256 in
      let cs = f.conditions in
      let map = bits_of (low ∷ (cs ++ reset_bits f.resets (f.price / 256) ∷ [])) in
      let price : amount_of low high ≡ f.price = omega arith in
      mirror-then _ (map-mirrors n map) (λ e. mirror-then _ (below-mirrors 5 m f.source (omega arith) some) (λ e.
      mirror-then _ (below-mirrors 5 m f.target (omega arith) some) (λ e.
      mirror-then _ (amount-mirrors map 0 low (low_stands low cs (reset_bits f.resets (f.price / 256)) six)) (λ e.
      mirror-then _ (conditions-mirror map cs six (condition-stands low cs (reset_bits f.resets (f.price / 256)) six)) (λ e.
      mirror-then _ (reset-mirrors map (last-stands low cs (reset_bits f.resets (f.price / 256)) six)) (λ e.
      let small = reset-small e in
      let resets : reset_bits f.resets (f.price / 256) % 8 ≡ f.resets = omega arith in
      mirror-same (λ i. record { source = f.source; target = f.target; price = price i; conditions = cs; resets = resets i })
      (mirror-made _ (amount-mirrors (reset_bits f.resets (f.price / 256)) 7 high (high-stands small)))))))))
