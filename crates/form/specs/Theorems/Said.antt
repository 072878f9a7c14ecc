-- A form says the fields that it was made of.
-- Assumes nothing.
use Rattle.std.specs.Prelude.{ℕ, ◌/◌, ◌%◌, ◌≤◌, ◌<◌, ◌≡◌, refl, ◌⊎◌, Bool, length, drop}
use Rattle.std.proofs.Common.{arith, sym, ◌∙◌, inl, inr, ne_eqb, le-leb, length-append, drop-drop}
use Rattle.std.proofs.Math.Path.{ap}
use mathlib.Core.List.{List, [], ◌∷◌, ◌++◌, map, append_assoc, Memᴰ}
use Rattle.std.proofs.Math.ListN.{get_or}
use Rattle.std.proofs.Math.Seq.{drop_at}
use Rattle.std.proofs.lemmas.List.{get_or_at}
use Rattle.table.specs.Fields.{ModeFields, MoveFields, Fields}
use Rattle.table.specs.Held.{pad, flat, records_from}
use Rattle.table.specs.Theorems.Holding.{length-pad, flat-length, records-held, two_bytes, Shaped, ceilings-room}
use Rattle.reader.specs.Layout.{Optional, present, absent, IsCondition, SixConditions, Layout}
use Rattle.reader.specs.Theorems.Rows.{row-all}
use Rattle.form.specs.Form.{condition_byte, place_from, six_places, mode_said, move_said, said}
use Rattle.form.specs.Formed.{place, places, mode_form, move_form, formed}

-- A condition byte, or 0 for none.
abbrev pub IsPlaced : ℕ → Type 0
IsPlaced c = (c ≡ 0) ⊎ ((16 ≤ c) × (c < 256))

-- The fields can be said: the records are as many and as wide as there is room for, and their conditions are condition bytes.
pub record Sayable (f : Fields) : Type 0 where
  pub shaped : Shaped f
  pub invariants : (m : ModeFields) → Memᴰ m f.modes → (c : ℕ) → Memᴰ c m.conditions → IsPlaced c
  pub guards : (e : MoveFields) → Memᴰ e f.moves → (c : ℕ) → Memᴰ c e.conditions → IsPlaced c

-- A place says the byte that it was made of.
byte-again : (c : ℕ) → IsPlaced c → condition_byte (c / 16) (c % 16) ≡ c
byte-again c (inl e) = rw e
byte-again c (inr h) =
    let code : c / 16 ≤ 15 = omega arith in
    let value : c % 16 ≤ 15 = omega arith in
    rw (ne_eqb (c / 16) 0 (omega arith), le-leb (c / 16) 15 code, le-leb (c % 16) 15 value) (omega arith)

-- Six places say the six bytes.
six-again : (cs rest : List ℕ) → length cs ≡ 6 → ((c : ℕ) → Memᴰ c cs → IsPlaced c) → six_places (places cs ++ rest) ≡ cs
six-again cs rest h k =
    ap (λ (n : ℕ). records_from place_from 2 n (places cs ++ rest)) (sym h)
    ∙ records-held place 2 place_from cs rest (λ c m. refl) (λ c m rest. byte-again c (k c m))

places-wide : (cs : List ℕ) → length cs ≡ 6 → length (places cs) ≡ 12
places-wide cs h = omega (arith, flat-length place 2 cs (λ c m. refl))

-- A record of a form: how wide it is, and that it says the record that it was made of.
pub mode-form-wide : (m : ModeFields) → length m.conditions ≡ 6 → length (mode_form m) ≡ 14
mode-form-wide m h = omega (arith, places-wide m.conditions h)

pub move-form-wide : (e : MoveFields) → length e.conditions ≡ 6 → length (move_form e) ≡ 18
move-form-wide e h = omega (arith, places-wide e.conditions h, length-append (places e.conditions) (e.resets ∷ 0 ∷ []))

mode-again : (m : ModeFields) → length m.conditions ≡ 6 → ((c : ℕ) → Memᴰ c m.conditions → IsPlaced c) → (rest : List ℕ) →
    mode_said (mode_form m ++ rest) ≡ m
mode-again m h k rest = λ i. record { rate = two_bytes m.rate i; conditions = six-again m.conditions rest h k i }

move-again : (e : MoveFields) → length e.conditions ≡ 6 → ((c : ℕ) → Memᴰ c e.conditions → IsPlaced c) → (rest : List ℕ) →
    move_said (move_form e ++ rest) ≡ e
move-again e h k rest =
    let split = append_assoc (places e.conditions) (e.resets ∷ 0 ∷ []) rest in
    let cs : six_places ((places e.conditions ++ e.resets ∷ 0 ∷ []) ++ rest) ≡ e.conditions =
    ap six_places split ∙ six-again e.conditions (e.resets ∷ 0 ∷ rest) h k in
    let resets : get_or ((places e.conditions ++ e.resets ∷ 0 ∷ []) ++ rest) 12 0 ≡ e.resets =
    ap (λ (l : List ℕ). get_or l 12 0) split ∙ get_or_at (places e.conditions) e.resets (0 ∷ rest) 0 12 (places-wide e.conditions h) in
    λ i. record { source = e.source; target = e.target; price = two_bytes e.price i; conditions = cs i; resets = resets i }

-- The list is its entries, one after another.
flat-ones : (l : List ℕ) → flat (map (λ c. c ∷ []) l) ≡ l
flat-ones [] = refl
flat-ones (c ∷ l) = ap (λ (r : List ℕ). c ∷ r) (flat-ones l)

ones-again : (l rest : List ℕ) → records_from (λ u. get_or u 0 0) 1 (length l) (l ++ rest) ≡ l
ones-again l rest =
    ap (λ (r : List ℕ). records_from (λ u. get_or u 0 0) 1 (length l) (r ++ rest)) (sym (flat-ones l))
    ∙ records-held (λ c. c ∷ []) 1 (λ u. get_or u 0 0) l rest (λ c m. refl) (λ c m rest. refl)

module _ (f : Fields) (k : Sayable f) where
  abbrev mode_room : List ℕ
  mode_room = pad 224 (flat (map mode_form f.modes))

  abbrev move_room : List ℕ
  move_room = pad 1152 (flat (map move_form f.moves))

  modes-wide : (m : ModeFields) → Memᴰ m f.modes → length (mode_form m) ≡ 14
  modes-wide m h = mode-form-wide m (k.shaped.six-invariants m h)

  moves-wide : (e : MoveFields) → Memᴰ e f.moves → length (move_form e) ≡ 18
  moves-wide e h = move-form-wide e (k.shaped.six-guards e h)

  mode-room : length mode_room ≡ 224
  mode-room =
      length-pad 224 (flat (map mode_form f.modes)) (omega (arith, flat-length mode_form 14 f.modes modes-wide, k.shaped.few-modes))

  -- Where the records begin.
  modes-from : drop 8 (formed f) ≡ mode_room ++ move_room
  unfolding formed
  modes-from = drop_at (pad 4 f.ceilings) (mode_room ++ move_room) 4 (ceilings-room f k.shaped)

  moves_from : drop 232 (formed f) ≡ move_room
  moves_from = sym (drop-drop 224 8 (formed f)) ∙ ap (drop 224) modes-from ∙ drop_at mode_room move_room 224 mode-room

  pub said-formed : said (formed f) ≡ f
  unfolding said formed
  said-formed =
      let ceilings : records_from (λ u. get_or u 0 0) 1 (length f.ceilings) (pad 4 f.ceilings ++ (mode_room ++ move_room)) ≡ f.ceilings =
      ap (records_from (λ u. get_or u 0 0) 1 (length f.ceilings)) (append_assoc f.ceilings _ _) ∙ ones-again f.ceilings _ in
      let modes : records_from mode_said 14 (length f.modes) (drop 8 (formed f)) ≡ f.modes =
      ap (records_from mode_said 14 (length f.modes)) (modes-from ∙ append_assoc (flat (map mode_form f.modes)) _ _)
      ∙ records-held mode_form 14 mode_said f.modes _ modes-wide (λ m h. mode-again m (k.shaped.six-invariants m h) (k.invariants m h)) in
      let moves : records_from move_said 18 (length f.moves) (drop 232 (formed f)) ≡ f.moves =
      ap (records_from move_said 18 (length f.moves)) moves_from
      ∙ records-held move_form 18 move_said f.moves _ moves-wide (λ e h. move-again e (k.shaped.six-guards e h) (k.guards e h)) in
      λ i. record { goal = f.goal; ceilings = ceilings i; modes = modes i; moves = moves i }

-- The conditions of a row are condition bytes.
optional-placed : {t : Bool} (xs : List ℕ) (c : ℕ) → Optional IsCondition t xs c → IsPlaced c
optional-placed xs c (present g) = inr (omega arith)
optional-placed xs c absent = inl refl

six-placed : (map : ℕ) (xs cs : List ℕ) → SixConditions map xs cs → (c : ℕ) → Memᴰ c cs → IsPlaced c
six-placed map xs cs k = row-all IsPlaced (λ i. optional-placed) 1 xs cs k.row

-- The fields of a table can be said.
pub layout-sayable : (bytes : List ℕ) (f : Fields) → Layout bytes f → Sayable f
layout-sayable bytes f k = record {
  shaped = record {
    few-modes = k.modes-range.1;
    few-timers = k.timers-range.1;
    few-moves = k.moves-range;
    six-invariants = row-all (λ m. length m.conditions ≡ 6) (λ i xs m r. r.conditions.six) 0 k.mode-bytes f.modes k.modes;
    six-guards = row-all (λ e. length e.conditions ≡ 6) (λ i xs e r. r.conditions.six) 0 k.move-bytes f.moves k.moves;
  };
  invariants =
      row-all (λ m. (c : ℕ) → Memᴰ c m.conditions → IsPlaced c)
      (λ i xs m r. six-placed r.map r.condition-bytes m.conditions r.conditions) 0 k.mode-bytes f.modes k.modes;
  guards =
      row-all (λ e. (c : ℕ) → Memᴰ c e.conditions → IsPlaced c)
      (λ i xs e r. six-placed r.map r.condition-bytes e.conditions r.conditions) 0 k.move-bytes f.moves k.moves;
}
