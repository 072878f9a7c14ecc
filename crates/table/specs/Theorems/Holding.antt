-- The bytes that hold fields in their ranges are a table, and the fields are read from them again.
-- Assumes nothing.
use Rattle.std.specs.Prelude.{ℕ, ◌*◌, ◌-◌, ◌/◌, ◌%◌, ◌≤◌, ◌<◌, ◌≡◌, refl, length, get_or, drop, replicate}
use Rattle.std.proofs.Common.{suc-mul, zero-mul, sym, ap₂, ◌∙◌, take_at, drop-drop}
use native.Mathlib.Omega.{arith}
use Rattle.std.proofs.Math.Path.{ap}
use mathlib.Core.List.{List, [], ◌∷◌, ◌++◌, map, append_assoc, Memᴰ}
use Rattle.std.proofs.Math.ListN.{take, length-append}
use Rattle.std.proofs.lemmas.List.{length-replicate, get_or_at}
use Rattle.std.proofs.Math.Seq.{drop_at, take-append_seam}
use Rattle.table.specs.Fields.{amount_of, ModeFields, MoveFields, Fields}
use Rattle.table.specs.Held.{pad, flat, mode_bytes, move_bytes, held, mode_from, move_from, records_from, fields_of, InRange, IsTable}

pub length-pad : (n : ℕ) (l : List ℕ) → length l ≤ n → length (pad n l) ≡ n
length-pad n l h = let behind = n - length l in omega (arith, length-append l (replicate behind 0), length-replicate {A = ℕ} behind 0)

pub flat_append : (l m : List (List ℕ)) → flat (l ++ m) ≡ flat l ++ flat m
flat_append [] m = refl
flat_append (a ∷ l) m = ap (λ (k : List ℕ). a ++ k) (flat_append l m) ∙ sym (append_assoc a (flat l) (flat m))

-- Records of one width, one after another: how long they are, and that each is read again.
module _ {A : Type 0} (enc : A → List ℕ) (k : ℕ) where
  pub flat-length : (l : List A) → ((a : A) → Memᴰ a l → length (enc a) ≡ k) → length (flat (map enc l)) ≡ length l * k
  flat-length [] h = sym (zero-mul k)
  flat-length (a ∷ l) h =
      omega (
        arith,
        length-append (enc a) (flat (map enc l)),
        h a (Memᴰ.head refl),
        flat-length l (λ b m. h b (Memᴰ.tail m)),
        suc-mul (length l) k,
      )

  pub records-held : (one : List ℕ → A) (l : List A) (behind : List ℕ) → ((a : A) → Memᴰ a l → length (enc a) ≡ k) →
      ((a : A) → Memᴰ a l → (rest : List ℕ) → one (enc a ++ rest) ≡ a) → records_from one k (length l) (flat (map enc l) ++ behind) ≡ l
  records-held one [] behind h e = refl
  records-held one (a ∷ l) behind h e =
      let rest = flat (map enc l) ++ behind in
      let split = append_assoc (enc a) (flat (map enc l)) behind in
      ap₂ (λ (b : A) (m : List A). b ∷ m) (ap one split ∙ e a (Memᴰ.head refl) rest)
      (ap (records_from one k (length l)) (ap (drop k) split ∙ drop_at (enc a) rest k (h a (Memᴰ.head refl)))
      ∙ records-held one l behind (λ b m. h b (Memᴰ.tail m)) (λ b m. e b (Memᴰ.tail m)))

-- A mode record, and a move record.
mode-wide : (m : ModeFields) → length m.conditions ≡ 6 → length (mode_bytes m) ≡ 8
mode-wide m h = omega arith

move-wide : (e : MoveFields) → length e.conditions ≡ 6 → length (move_bytes e) ≡ 12
move-wide e h = omega (arith, length-append e.conditions (e.resets ∷ 0 ∷ []))

-- The two bytes of a rate or price.
pub two_bytes : (a : ℕ) → amount_of (a % 256) (a / 256) ≡ a
two_bytes a = omega arith

pub low_of : (low high : ℕ) → low < 256 → amount_of low high % 256 ≡ low
low_of low high h = omega arith

pub high-of : (low high : ℕ) → low < 256 → amount_of low high / 256 ≡ high
high-of low high h = omega arith

mode-again : (m : ModeFields) → length m.conditions ≡ 6 → (rest : List ℕ) → mode_from (mode_bytes m ++ rest) ≡ m
mode-again m h rest = λ i. record { rate = two_bytes m.rate i; conditions = take_at m.conditions rest 6 h i }

move-again : (e : MoveFields) → length e.conditions ≡ 6 → (rest : List ℕ) → move_from (move_bytes e ++ rest) ≡ e
move-again e h rest =
    let split = append_assoc e.conditions (e.resets ∷ 0 ∷ []) rest in
    let cs : take 6 ((e.conditions ++ e.resets ∷ 0 ∷ []) ++ rest) ≡ e.conditions =
    ap (take 6) split ∙ take_at e.conditions _ 6 h in
    let resets : get_or ((e.conditions ++ e.resets ∷ 0 ∷ []) ++ rest) 6 0 ≡ e.resets =
    ap (λ (l : List ℕ). get_or l 6 0) split ∙ get_or_at e.conditions e.resets (0 ∷ rest) 0 6 h in
    λ i. record { source = e.source; target = e.target; price = two_bytes e.price i; conditions = cs i; resets = resets i }

-- The records are as many and as wide as the bytes have room for.
pub record Shaped (f : Fields) : Type 0 where
  pub few-modes : length f.modes ≤ 16
  pub few-timers : length f.ceilings ≤ 3
  pub few-moves : length f.moves ≤ 64
  pub six-invariants : (m : ModeFields) → Memᴰ m f.modes → length m.conditions ≡ 6
  pub six-guards : (e : MoveFields) → Memᴰ e f.moves → length e.conditions ≡ 6

pub range-shaped : (f : Fields) → InRange f → Shaped f
range-shaped f k = record {
  few-modes = k.modes-range.1;
  few-timers = k.timers-range.1;
  few-moves = k.moves-range;
  six-invariants = k.six-invariants;
  six-guards = k.six-guards;
}

module _ (f : Fields) (k : Shaped f) where
  abbrev pub mode_room : List ℕ
  mode_room = pad 128 (flat (map mode_bytes f.modes))

  abbrev pub move_room : List ℕ
  move_room = pad 768 (flat (map move_bytes f.moves))

  pub modes-wide : (m : ModeFields) → Memᴰ m f.modes → length (mode_bytes m) ≡ 8
  modes-wide m h = mode-wide m (k.six-invariants m h)

  pub moves-wide : (e : MoveFields) → Memᴰ e f.moves → length (move_bytes e) ≡ 12
  moves-wide e h = move-wide e (k.six-guards e h)

  -- How long the parts are.
  pub ceilings-room : length (pad 4 f.ceilings) ≡ 4
  ceilings-room = length-pad 4 f.ceilings (omega (arith, k.few-timers))

  pub mode-room : length mode_room ≡ 128
  mode-room = length-pad 128 (flat (map mode_bytes f.modes)) (omega (arith, flat-length mode_bytes 8 f.modes modes-wide, k.few-modes))

  pub move-room : length move_room ≡ 768
  move-room = length-pad 768 (flat (map move_bytes f.moves)) (omega (arith, flat-length move_bytes 12 f.moves moves-wide, k.few-moves))

  pub held-length : length (held f) ≡ 904
  unfolding held
  held-length =
      omega (
        arith,
        length-append (pad 4 f.ceilings) (mode_room ++ move_room),
        length-append mode_room move_room,
        ceilings-room,
        mode-room,
        move-room,
      )

  -- Where the records begin.
  pub modes-from : drop 8 (held f) ≡ mode_room ++ move_room
  unfolding held
  modes-from = drop_at (pad 4 f.ceilings) (mode_room ++ move_room) 4 ceilings-room

  pub moves_from : drop 136 (held f) ≡ move_room
  moves_from = sym (drop-drop 128 8 (held f)) ∙ ap (drop 128) modes-from ∙ drop_at mode_room move_room 128 mode-room

  -- The bytes hold the fields that they were made of.
  pub fields-shaped : fields_of (held f) ≡ f
  unfolding fields_of held
  fields-shaped =
      let ceilings : take (length f.ceilings) (pad 4 f.ceilings ++ (mode_room ++ move_room)) ≡ f.ceilings =
      ap (take (length f.ceilings)) (append_assoc f.ceilings _ _) ∙ take-append_seam f.ceilings _ in
      let modes : records_from mode_from 8 (length f.modes) (drop 8 (held f)) ≡ f.modes =
      ap (records_from mode_from 8 (length f.modes)) (modes-from ∙ append_assoc (flat (map mode_bytes f.modes)) _ _)
      ∙ records-held mode_bytes 8 mode_from f.modes _ modes-wide (λ m h. mode-again m (k.six-invariants m h)) in
      let moves : records_from move_from 12 (length f.moves) (drop 136 (held f)) ≡ f.moves =
      ap (records_from move_from 12 (length f.moves)) moves_from
      ∙ records-held move_bytes 12 move_from f.moves _ moves-wide (λ e h. move-again e (k.six-guards e h)) in
      λ i. record { goal = f.goal; ceilings = ceilings i; modes = modes i; moves = moves i }

pub fields-held : (f : Fields) → InRange f → fields_of (held f) ≡ f
fields-held f k = fields-shaped f (range-shaped f k)

pub held-table : (f : Fields) → InRange f → IsTable (held f)
held-table f k = let e = fields-held f k in record { holds = sym (ap held e); range = rw e k }
