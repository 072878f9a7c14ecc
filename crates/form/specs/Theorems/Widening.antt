-- What a table's records become in a form.
-- Assumes nothing.
use Rattle.std.specs.Prelude.{ℕ, zero, suc, ◌+◌, ◌*◌, ◌-◌, ◌≤◌, ◌≡◌, refl, take, drop, replicate}
use Rattle.std.proofs.Common.{mul-zero, mul-suc, zero-add, suc-add, arith, sym, ◌∙◌, take_at, drop_at}
use Rattle.std.proofs.Math.Path.{ap, ap₂}
use mathlib.Core.List.{List, [], ◌∷◌, ◌++◌, map, append_assoc, append-nil, Memᴰ}
use Rattle.std.proofs.Math.ListN.{length}
use Rattle.std.proofs.lemmas.List.{length-replicate, replicate-append-replicate}
use Rattle.table.specs.Fields.{ModeFields, MoveFields, Fields}
use Rattle.table.specs.Held.{pad, flat, mode_bytes, move_bytes, held, records_from, fields_of, IsTable}
use Rattle.table.specs.Theorems.Holding.{flat-length, Shaped, range-shaped, mode_room, move_room, modes-wide, moves-wide, ceilings-room, modes-from, moves_from}
use Rattle.form.specs.Formed.{places, mode_form, move_form, formed}
use Rattle.form.specs.Appends.{mode_widened, move_widened}
use Rattle.form.specs.Theorems.Said.{mode-form-wide, move-form-wide}

one_more : (k j : ℕ) → k * suc j ≡ k + k * j
one_more k j = omega (arith, mul-suc k j)

-- Records of k bytes, each of which becomes one of w bytes; so do k bytes of 0.
module _ {A : Type 0} (enc form : A → List ℕ) (one : List ℕ → List ℕ) (k w : ℕ) (none : (rest : List ℕ) → one (replicate k 0 ++ rest) ≡ replicate w 0) where
  zeros : (j : ℕ) (rest : List ℕ) → flat (records_from one k j (replicate (k * j) 0 ++ rest)) ≡ replicate (w * j) 0
  zeros zero rest = rw (mul-zero w)
  zeros (suc j) rest =
      let behind = replicate (k * j) 0 ++ rest in
      let split : replicate (k * suc j) 0 ++ rest ≡ replicate k 0 ++ behind =
      ap (λ (n : ℕ). replicate n 0 ++ rest) (one_more k j) ∙ ap (λ (l : List ℕ). l ++ rest) (sym (replicate-append-replicate k (k * j) 0))
      ∙ append_assoc (replicate k 0) (replicate (k * j) 0) rest in
      ap (λ (l : List ℕ). flat (records_from one k (suc j) l)) split
      ∙ ap₂ (λ (l m : List ℕ). l ++ m) (none behind)
      (ap (λ (l : List ℕ). flat (records_from one k j l)) (drop_at (replicate k 0) behind k (length-replicate k 0)) ∙ zeros j rest)
      ∙ replicate-append-replicate w (w * j) 0 ∙ ap (λ (n : ℕ). replicate n 0) (sym (one_more w j))

  records : (l : List A) (j : ℕ) (rest : List ℕ) → ((a : A) → Memᴰ a l → length (enc a) ≡ k) →
      ((a : A) → Memᴰ a l → (rest : List ℕ) → one (enc a ++ rest) ≡ form a) →
      flat (records_from one k (length l + j) (flat (map enc l) ++ (replicate (k * j) 0 ++ rest))) ≡ flat (map form l) ++ replicate (w * j) 0
  records [] j rest h e = ap (λ (n : ℕ). flat (records_from one k n (replicate (k * j) 0 ++ rest))) (zero-add j) ∙ zeros j rest
  records (a ∷ l) j rest h e =
      let last = replicate (k * j) 0 ++ rest in
      let behind = flat (map enc l) ++ last in
      let split = append_assoc (enc a) (flat (map enc l)) last in
      ap₂ (λ (n : ℕ) (m : List ℕ). flat (records_from one k n m)) (suc-add (length l) j) split
      ∙ ap₂ (λ (m o : List ℕ). m ++ o) (e a (Memᴰ.head refl) behind)
      (ap (λ (m : List ℕ). flat (records_from one k (length l + j) m)) (drop_at (enc a) behind k (h a (Memᴰ.head refl)))
      ∙ records l j rest (λ b m. h b (Memᴰ.tail m)) (λ b m. e b (Memᴰ.tail m)))
      ∙ sym (append_assoc (form a) (flat (map form l)) (replicate (w * j) 0))

  -- Room for n records, those behind the last one 0.
  room-widened : (n : ℕ) (l : List A) (rest : List ℕ) → length l ≤ n → ((a : A) → Memᴰ a l → length (enc a) ≡ k) →
      ((a : A) → Memᴰ a l → (rest : List ℕ) → one (enc a ++ rest) ≡ form a) →
      flat (records_from one k n ((flat (map enc l) ++ replicate (k * (n - length l)) 0) ++ rest)) ≡ flat (map form l) ++ replicate (w * (n - length l)) 0
  room-widened n l rest h wide e =
      let j = n - length l in
      let all : n ≡ length l + j = omega arith in
      ap₂ (λ (i : ℕ) (m : List ℕ). flat (records_from one k i m)) all (append_assoc (flat (map enc l)) (replicate (k * j) 0) rest)
      ∙ records l j rest wide e

-- A record of each kind.
mode-widened : (m : ModeFields) → length m.conditions ≡ 6 → (rest : List ℕ) → mode_widened (mode_bytes m ++ rest) ≡ mode_form m
mode-widened m h rest = ap (λ (l : List ℕ). take 2 (mode_form m) ++ places l) (take_at m.conditions rest 6 h)

move-widened : (e : MoveFields) → length e.conditions ≡ 6 → (rest : List ℕ) → move_widened (move_bytes e ++ rest) ≡ move_form e
move-widened e h rest =
    let split = append_assoc e.conditions (e.resets ∷ 0 ∷ []) rest in
    let cs : take 6 ((e.conditions ++ e.resets ∷ 0 ∷ []) ++ rest) ≡ e.conditions =
    ap (take 6) split ∙ take_at e.conditions _ 6 h in
    let resets : take 2 (drop 6 ((e.conditions ++ e.resets ∷ 0 ∷ []) ++ rest)) ≡ e.resets ∷ 0 ∷ [] =
    ap (λ (l : List ℕ). take 2 (drop 6 l)) split ∙ ap (take 2) (drop_at e.conditions _ 6 h) in
    ap₂ (λ (l r : List ℕ). take 4 (move_form e) ++ (places l ++ r)) cs resets

module _ (f : Fields) (k : Shaped f) where
  modes-widened : flat (records_from mode_widened 8 16 (mode_room f k ++ move_room f k)) ≡ pad 224 (flat (map mode_form f.modes))
  modes-widened =
      let j = 16 - length f.modes in
      let before : 128 - length (flat (map mode_bytes f.modes)) ≡ 8 * j =
      omega (arith, flat-length mode_bytes 8 f.modes (modes-wide f k), k.few-modes) in
      let after : 14 * j ≡ 224 - length (flat (map mode_form f.modes)) =
      omega (arith, flat-length mode_form 14 f.modes (λ m h. mode-form-wide m (k.six-invariants m h)), k.few-modes) in
      ap (λ (n : ℕ). flat (records_from mode_widened 8 16 ((flat (map mode_bytes f.modes) ++ replicate n 0) ++ move_room f k))) before
      ∙ room-widened mode_bytes mode_form mode_widened 8 14 (λ rest. refl) 16 f.modes (move_room f k) k.few-modes (modes-wide f k)
      (λ m h. mode-widened m (k.six-invariants m h))
      ∙ ap (λ (n : ℕ). flat (map mode_form f.modes) ++ replicate n 0) after

  moves-widened : flat (records_from move_widened 12 64 (move_room f k)) ≡ pad 1152 (flat (map move_form f.moves))
  moves-widened =
      let j = 64 - length f.moves in
      let before : 768 - length (flat (map move_bytes f.moves)) ≡ 12 * j =
      omega (arith, flat-length move_bytes 12 f.moves (moves-wide f k), k.few-moves) in
      let after : 18 * j ≡ 1152 - length (flat (map move_form f.moves)) =
      omega (arith, flat-length move_form 18 f.moves (λ e h. move-form-wide e (k.six-guards e h)), k.few-moves) in
      ap (λ (l : List ℕ). flat (records_from move_widened 12 64 l)) (sym (append-nil (move_room f k)))
      ∙ ap (λ (n : ℕ). flat (records_from move_widened 12 64 ((flat (map move_bytes f.moves) ++ replicate n 0) ++ []))) before
      ∙ room-widened move_bytes move_form move_widened 12 18 (λ rest. refl) 64 f.moves [] k.few-moves (moves-wide f k)
      (λ e h. move-widened e (k.six-guards e h))
      ∙ ap (λ (n : ℕ). flat (map move_form f.moves) ++ replicate n 0) after

  -- The counts, the goal and the ceilings stay.
  abbrev front : List ℕ
  front = length f.modes ∷ length f.ceilings ∷ length f.moves ∷ f.goal ∷ pad 4 f.ceilings

  front-held : take 8 (held f) ≡ front
  unfolding held
  front-held =
      ap (λ (l : List ℕ). length f.modes ∷ length f.ceilings ∷ length f.moves ∷ f.goal ∷ l)
      (take_at (pad 4 f.ceilings) (mode_room f k ++ move_room f k) 4 (ceilings-room f k))

  held_widened : take 8 (held f) ++ (flat (records_from mode_widened 8 16 (drop 8 (held f))) ++ flat
      (records_from move_widened 12 64 (drop 136 (held f)))) ≡ formed f
  unfolding formed
  held_widened =
      ap₂ (λ (l m : List ℕ). l ++ m) front-held
      (ap₂ (λ (l m : List ℕ). l ++ m) (ap (λ (l : List ℕ). flat (records_from mode_widened 8 16 l)) (modes-from f k) ∙ modes-widened)
      (ap (λ (l : List ℕ). flat (records_from move_widened 12 64 l)) (moves_from f k) ∙ moves-widened))

pub widened : (t : List ℕ) → IsTable t →
    take 8 t ++ (flat (records_from mode_widened 8 16 (drop 8 t)) ++ flat (records_from move_widened 12 64 (drop 136 t))) ≡ formed (fields_of t)
widened t k =
    ap (λ (u : List ℕ). take 8 u ++ (flat (records_from mode_widened 8 16 (drop 8 u)) ++ flat (records_from move_widened 12 64 (drop 136 u)))) k.holds
    ∙ held_widened (fields_of t) (range-shaped (fields_of t) k.range)
