-- The fields of every table that is laid out are written without a fault.
-- Assumes nothing.
use Rattle.std.specs.Prelude.{ℕ, zero, suc, ◌+◌, ◌/◌, ◌%◌, ◌^◌, ◌≤◌, ◌<◌, ◌≡◌, refl, ◌⊎◌, Bool, true, false, cond, not, ◌&&◌, List, [], ◌∷◌, ◌++◌, map, ltb, leb, eqb, length, get_or}
use Rattle.std.proofs.Common.{add-zero, add-suc, suc-add, div-one, sym, ap, ◌∙◌, inl, inr, true≢false, lt-ltb, le-leb, eq-eqb, pow_pos}
use native.Mathlib.Omega.{arith}
use Rattle.std.proofs.lemmas.List.{length-map}
use Rattle.table.specs.Fields.{ModeFields, MoveFields, Fields}
use Rattle.table.specs.Meaning.{stands}
use Rattle.table.specs.Theorems.Access.{map-all}
use Rattle.reader.specs.Format.{between, present, map_present}
use Rattle.reader.specs.Layout.{Optional, InRow, none, more, TimersThere, IsCondition, SixConditions, IsReset, ModeLayout, MoveLayout, Layout}
use Rattle.reader.specs.Layout as layout
use Rattle.reader.specs.Theorems.Bits.{there-below}
use Rattle.reader.specs.Theorems.Rows.{row-all}
use Rattle.parts.specs.Part.{checked, each}
use Rattle.parts.specs.Format.{bits_of, map_byte, amount_byte, condition_part, mode_record, reset_bits, reset_byte, move_record, header, ceiling_byte, table}
use Rattle.parts.specs.Compact.{first_of, further_of, compact, compact_mode, compact_move, compacted}
use Rattle.writer.specs.Theorems.Bits.{stands-bits}
use Rattle.writer.specs.Theorems.Mirrors.{first_fault}
use Rattle.writer.specs.Theorems.Faults.{fault-then, fault-unless, fault-each}

-- No fault.
abbrev None : ℕ → Type 0
None k = k ≡ 0

then-none : {a b : ℕ} → a ≡ 0 → b ≡ 0 → first_fault a b ≡ 0
then-none {a} {b} h k = fault-then None a b h k

byte-none : (passes : Bool) (number b : ℕ) → passes ≡ true → (checked passes number b).fault ≡ 0
byte-none passes number b e = rw e

amount-none : (b : ℕ) → (amount_byte b).fault ≡ 0
amount-none b = fault-unless None true 0 b refl refl

-- A condition on timer x of n timers: none, or one with a code from 1 to 5 on a timer that is there.
abbrev OnTimer : ℕ → ℕ → ℕ → Type 0
OnTimer n x c = (c ≡ 0) ⊎ ((x < n) × ((16 ≤ c) × (c ≤ 95)))

condition-none : (n x c : ℕ) → OnTimer n x c → (condition_part c).fault ≡ 0
condition-none n x c (inl e) = rw (eq-eqb c 0 e)
condition-none n x c (inr h) = fault-unless None (between 16 95 c) 4 c refl
    (byte-none (between 16 95 c) 4 c (rw (le-leb 16 c h.1.0, le-leb c 95 h.1.1)))

-- Where there is one, its timer is there.
names : (n x c : ℕ) → OnTimer n x c → not (eqb c 0) ≡ true → x < n
names n x c (inl e) h = absurd (true≢false (sym h ∙ ap not (eq-eqb c 0 e)))
names n x c (inr k) h = k.0

-- The same of one that is chosen of two.
chosen : (n x : ℕ) (t : Bool) (a b : ℕ) → OnTimer n x a → OnTimer n x b → OnTimer n x (cond t a b)
chosen n x true a b h k = h
chosen n x false a b h k = k

-- The conditions of a record, on timers 0, 1, 2.
record Conditions (n : ℕ) (cs : List ℕ) : Type 0 where
  first : (x : ℕ) → x < 3 → OnTimer n x (get_or cs x 0)
  further : (x : ℕ) → x < 3 → OnTimer n x (get_or cs (3 + x) 0)

module _ (n : ℕ) (cs : List ℕ) (k : Conditions n cs) where
  -- The one in the first place and the one in the further place.
  at_first : (x : ℕ) → x < 3 → OnTimer n x (first_of (get_or cs x 0) (get_or cs (3 + x) 0))
  at_first x h = chosen n x (eqb (get_or cs x 0) 0) (get_or cs (3 + x) 0) (get_or cs x 0) (k.further x h) (k.first x h)

  at-further : (x : ℕ) → x < 3 → OnTimer n x (further_of (get_or cs x 0) (get_or cs (3 + x) 0))
  at-further x h = chosen n x (eqb (get_or cs x 0) 0) 0 (get_or cs (3 + x) 0) (inl refl) (k.further x h)

  conditions-none : (each condition_part (compact cs)).fault ≡ 0
  conditions-none =
      then-none (condition-none n 0 _ (at_first 0 (omega arith))) (then-none (condition-none n 1 _ (at_first 1 (omega arith)))
      (then-none (condition-none n 2 _ (at_first 2 (omega arith))) (then-none (condition-none n 0 _ (at-further 0 (omega arith)))
      (then-none (condition-none n 1 _ (at-further 1 (omega arith))) (then-none (condition-none n 2 _ (at-further 2 (omega arith))) refl)))))

  -- The map of a record with these conditions.
  module _ (low last : ℕ) where
    abbrev bits : ℕ
    bits = bits_of (low ∷ (compact cs ++ last ∷ []))

    first-there : TimersThere n 1 bits
    first-there zero h e = names n 0 _ (at_first 0 h) (sym (stands-bits (low ∷ (compact cs ++ last ∷ [])) 1) ∙ e)
    first-there (suc zero) h e = names n 1 _ (at_first 1 h) (sym (stands-bits (low ∷ (compact cs ++ last ∷ [])) 2) ∙ e)
    first-there (suc (suc zero)) h e = names n 2 _ (at_first 2 h) (sym (stands-bits (low ∷ (compact cs ++ last ∷ [])) 3) ∙ e)
    first-there (suc (suc (suc x))) h e = absurd (omega arith)

    further-there : TimersThere n 4 bits
    further-there zero h e = names n 0 _ (at-further 0 h) (sym (stands-bits (low ∷ (compact cs ++ last ∷ [])) 4) ∙ e)
    further-there (suc zero) h e = names n 1 _ (at-further 1 h) (sym (stands-bits (low ∷ (compact cs ++ last ∷ [])) 5) ∙ e)
    further-there (suc (suc zero)) h e = names n 2 _ (at-further 2 h) (sym (stands-bits (low ∷ (compact cs ++ last ∷ [])) 6) ∙ e)
    further-there (suc (suc (suc x))) h e = absurd (omega arith)

    map-none : 1 ≤ n → n ≤ 3 → (map_byte n bits).fault ≡ 0
    map-none some few =
        let a = lt-ltb (bits / 2 % 8) (2 ^ n) (there-below n 1 bits some few first-there) in
        let b = lt-ltb (bits / 16 % 8) (2 ^ n) (there-below n 4 bits some few further-there) in
        byte-none (map_present n bits) 3 bits (ap (λ (t : Bool). t && present n (bits / 16 % 8)) a ∙ b)

-- A condition of a layout: none, or one whose bit stands.
abbrev Stood : Bool → ℕ → Type 0
Stood t c = (c ≡ 0) ⊎ ((t ≡ true) × ((16 ≤ c) × (c ≤ 95)))

optional-stood : (t : Bool) (xs : List ℕ) (c : ℕ) → Optional IsCondition t xs c → Stood t c
optional-stood t xs c (layout.present g) = inr (refl, (omega arith, omega arith))
optional-stood t xs c layout.absent = inl refl

row-stood : (map i : ℕ) (xs l : List ℕ) → InRow (λ bit. Optional IsCondition (stands map bit)) i xs l → (j : ℕ) → Stood (stands map (i + j)) (get_or l j 0)
row-stood map i xs l none j = inl refl
row-stood map i xs l (more {xs = front} {a = a} r k) zero = rw add-zero (optional-stood (stands map i) front a r)
row-stood map i xs l (more {ys = back} {l = rest} r k) (suc j) = rw (add-suc, ← suc-add) (row-stood map (suc i) back rest k j)

-- They are on timers that are there.
conditions-there : (n map : ℕ) (xs cs : List ℕ) → TimersThere n 1 map → TimersThere n 4 map → SixConditions map xs cs → Conditions n cs
conditions-there n map xs cs first further k =
    let all = row-stood map 1 xs cs k.row in
    record {
      first = λ x h. elim (all x) [ inl e ↦ inl e | inr s ↦ inr (first x h s.0, s.1) ];
      further = λ x h.
          let same : 1 + (3 + x) ≡ 4 + x = omega arith in
          elim (all (3 + x)) [ inl e ↦ inl e | inr s ↦ inr (further x h (rw (← same) s.0), s.1) ];
    }

module _ (n : ℕ) (some : 1 ≤ n) (few : n ≤ 3) where
  mode-none : (xs : List ℕ) (f : ModeFields) → ModeLayout n xs f → (mode_record n (compact_mode f)).fault ≡ 0
  unfolding mode_record
  mode-none xs f k =
      let c = conditions-there n k.map k.condition-bytes f.conditions k.first k.further k.conditions in
      then-none (map-none n f.conditions c (f.rate % 256) (f.rate / 256) some few)
      (then-none (amount-none (f.rate % 256)) (then-none (conditions-none n f.conditions c) (amount-none (f.rate / 256))))

  -- Resets that are laid out are below 2 ^ n.
  reset-below : (t : Bool) (xs : List ℕ) (b : ℕ) → Optional (IsReset n) t xs b → b % 8 < 2 ^ n
  reset-below t xs b (layout.present g) = rw (div-one b) at (there-below n 0 b some few g.there)
  reset-below t xs b layout.absent = pow_pos n

  reset-none : (f : MoveFields) → f.resets < 2 ^ n → (reset_byte n f.resets (f.price / 256)).fault ≡ 0
  reset-none f h = fault-unless None (present n f.resets) 3 (reset_bits f.resets (f.price / 256)) refl
      (byte-none (present n f.resets) 3 (reset_bits f.resets (f.price / 256)) (lt-ltb f.resets (2 ^ n) h))

  -- Of a table with m modes, which the writer counts as m'.
  move-none : (m m' : ℕ) → m' ≡ m → (xs : List ℕ) (f : MoveFields) → MoveLayout m n xs f → (move_record m' n (compact_move f)).fault ≡ 0
  unfolding move_record
  move-none m m' same xs f k =
      let c = conditions-there n k.map k.condition-bytes f.conditions k.first k.further k.conditions in
      let below : f.resets < 2 ^ n = rw (← k.resets) (reset-below (stands k.map 7) k.reset-bytes k.reset k.has-reset) in
      let source : f.source < m' = omega arith in
      let target : f.target < m' = omega arith in
      then-none (map-none n f.conditions c (f.price % 256) (reset_bits f.resets (f.price / 256)) some few)
      (then-none (byte-none (ltb f.source m') 5 f.source (lt-ltb f.source m' source))
      (then-none (byte-none (ltb f.target m') 5 f.target (lt-ltb f.target m' target))
      (then-none (amount-none (f.price % 256)) (then-none (conditions-none n f.conditions c)
      (then-none (reset-none (compact_move f) below) (amount-none (f.price / 256)))))))

between-holds : (least most b : ℕ) → least ≤ b → b ≤ most → between least most b ≡ true
between-holds least most b h k = rw (le-leb least b h, le-leb b most k)

-- The header by what its counts are.
header-none : (m n e goal : ℕ) → (1 ≤ m) × (m ≤ 16) → (1 ≤ n) × (n ≤ 3) → e ≤ 64 → goal < m → (header m n e goal).fault ≡ 0
unfolding header
header-none m n e goal modes timers moves there =
    then-none (byte-none (between 1 16 m) 2 m (between-holds 1 16 m modes.0 modes.1))
    (then-none (byte-none (between 1 3 n) 2 n (between-holds 1 3 n timers.0 timers.1))
    (then-none (byte-none (leb e 64) 2 e (le-leb e 64 moves)) (byte-none (ltb goal m) 2 goal (lt-ltb goal m there))))

pub layout-no-fault : (bytes : List ℕ) (f : Fields) → Layout bytes f → (table (compacted f)).fault ≡ 0
unfolding table
layout-no-fault bytes f k =
    let n = length f.ceilings in
    let some = k.timers-range.0 in
    let few = k.timers-range.1 in
    let m = length f.modes in
    let m' = length (map compact_mode f.modes) in
    let same : m' ≡ m = length-map f.modes compact_mode in
    let moves : length (map compact_move f.moves) ≤ 64 = omega (arith, length-map f.moves compact_move, k.moves-range) in
    let goal : f.goal < m' = omega (arith, k.goal-range) in
    then-none (header-none m' n (length (map compact_move f.moves)) f.goal (omega (arith, k.modes-range), omega (arith, k.modes-range))
    k.timers-range moves goal)
    (then-none (fault-each None ceiling_byte f.ceilings refl (λ c h.
    let r = k.ceilings-range c h in byte-none (between 1 15 c) 2 c (between-holds 1 15 c r.0 r.1)))
    (then-none (fault-each None (mode_record n) (map compact_mode f.modes) refl
    (map-all compact_mode (λ a. (mode_record n a).fault ≡ 0) f.modes
    (row-all (λ a. (mode_record n (compact_mode a)).fault ≡ 0) (λ i. mode-none n some few) 0 k.mode-bytes f.modes k.modes)))
    (fault-each None (move_record m' n) (map compact_move f.moves) refl
    (map-all compact_move (λ a. (move_record m' n a).fault ≡ 0) f.moves
    (row-all (λ a. (move_record m' n (compact_move a)).fault ≡ 0) (λ i. move-none n some few m m' same) 0 k.move-bytes f.moves k.moves)))))
