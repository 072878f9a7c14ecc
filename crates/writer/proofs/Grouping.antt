-- The parts of a record that a form says, grouped as the code writes them.
-- Assumes nothing.
use Prim.Native.Nat.{ℕ, ◌+◌, ◌*◌, ◌<◌}
use native.Mathlib.Nat.{add-zero}
use native.Mathlib.Omega.{arith}
use mathlib.Core.Path.{◌≡◌, refl, sym, ap, ◌∙◌}
use mathlib.Core.Bool.{Bool, true, false, cond}
use mathlib.Core.List.{List, [], ◌∷◌, ◌++◌}
use borrow.Author.Tests.{ne_eqb, eqb-true, eqb-false}
use lib.Dec.{eqb}
use lib.ListN.{get_or, drop}
use lib.Seq.{get_or-drop, drop-drop}
use Rattle.table.specs.Fields.{amount_of}
use Rattle.table.specs.Theorems.Holding.{low_of, high-of}
use Rattle.form.specs.Form.{six_places, mode_said, move_said}
use Rattle.parts.specs.Part.{Part, ◌then◌, each}
use Rattle.parts.specs.Format.{bit_of, bits_of, map_byte, amount_byte, condition_part, mode_record, reset_bits, reset_byte, mode_byte, move_record}
use Rattle.parts.specs.Compact.{first_of, compact, compact_mode, compact_move}
use Rattle.parts.specs.Theorems.Putting.{then-assoc}

-- The bit for a reset byte stands where there are resets or a high byte.
reset-bit : (r h : ℕ) → bit_of (first_of r h) ≡ bit_of (reset_bits r h)
reset-bit r h = go (eqb r 0) refl (eqb h 0) refl
  where
    go : (t : Bool) → eqb r 0 ≡ t → (u : Bool) → eqb h 0 ≡ u → bit_of (cond t h r) ≡ bit_of (r + 128 * cond u 0 1)
    go true e true k = rw (k, eqb-true r 0 e)
    go true e false k = rw (k, eqb-true r 0 e)
    go false e true k = rw (e, ne_eqb (r + 128 * 0) 0 (λ z. eqb-false r 0 e (omega arith)))
    go false e false k = rw (e, ne_eqb (r + 128 * 1) 0 (λ z. omega arith))

-- Of the last field only that matters.
pub bits-last : (l : List ℕ) (a b : ℕ) → bit_of a ≡ bit_of b → bits_of (l ++ a ∷ []) ≡ bits_of (l ++ b ∷ [])
bits-last [] a b e = ap (λ (k : ℕ). k + 2 * 0) e
bits-last (c ∷ l) a b e = ap (λ (k : ℕ). bit_of c + 2 * k) (bits-last l a b e)

-- A record with its fields one by one.
mode-fields : (n low high : ℕ) (cs : List ℕ) → low < 256 → mode_record n (record { rate = amount_of low high; conditions = cs })
    ≡ (map_byte n (bits_of (low ∷ (cs ++ high ∷ []))) then ((amount_byte low then each condition_part cs) then amount_byte high))
unfolding mode_record
mode-fields n low high cs h =
    rw (low_of low high h, high-of low high h)
    (ap (λ (p : Part). map_byte n (bits_of (low ∷ (cs ++ high ∷ []))) then p) (sym (then-assoc (amount_byte low) (each condition_part cs) (amount_byte high))))

move-fields : (m n low high resets : ℕ) (cs : List ℕ) (source target : ℕ) → low < 256 →
    move_record m n (record { source = source; target = target; price = amount_of low high; conditions = cs; resets = resets })
    ≡ (map_byte n (bits_of (low ∷ (cs ++ first_of resets high ∷ []))) then ((mode_byte m source then mode_byte m target)
    then ((amount_byte low then each condition_part cs) then (reset_byte n resets high then amount_byte high))))
unfolding move_record
move-fields m n low high resets cs source target h =
    let tail = reset_byte n resets high then amount_byte high in
    rw (low_of low high h, high-of low high h, bits-last (low ∷ cs) (first_of resets high) (reset_bits resets high) (reset-bit resets high))
    (ap (λ (p : Part). map_byte n (bits_of (low ∷ (cs ++ reset_bits resets high ∷ []))) then p)
    (ap (λ (p : Part). mode_byte m source then (mode_byte m target then p)) (sym (then-assoc (amount_byte low) (each condition_part cs) tail))
    ∙ sym (then-assoc (mode_byte m source) (mode_byte m target) ((amount_byte low then each condition_part cs) then tail))))

-- A byte of a record that begins at `from`.
module _ (form : List ℕ) (from : ℕ) where
  first-at : get_or (drop from form) 0 0 ≡ get_or form from 0
  first-at = get_or-drop from form 0 0 ∙ ap (λ (j : ℕ). get_or form j 0) (add-zero from)

  byte_at : (j : ℕ) → get_or (drop from form) j 0 ≡ get_or form (from + j) 0
  byte_at j = get_or-drop from form j 0

  conditions-at : (j : ℕ) → compact (six_places (drop j (drop from form))) ≡ compact (six_places (drop (from + j) form))
  conditions-at j = ap (λ (l : List ℕ). compact (six_places l)) (drop-drop j from form)

  abbrev pub ModeGrouped : ℕ → ℕ → List ℕ → Type 0
  ModeGrouped n map six =
      mode_record n (compact_mode (mode_said (drop from form)))
      ≡ (map_byte n map then ((amount_byte (get_or form from 0) then each condition_part six) then amount_byte (get_or form (from + 1) 0)))

  pub mode-grouped : {map : ℕ} {six : List ℕ} (n : ℕ) → get_or form from 0 < 256 → six ≡ compact (six_places (drop (from + 2) form)) →
      map ≡ bits_of (get_or form from 0 ∷ (six ++ get_or form (from + 1) 0 ∷ [])) → ModeGrouped n map six
  mode-grouped {six = six} n small s e =
      let cs = conditions-at 2 ∙ sym s in
      ap (mode_record n) (λ i. record { rate = amount_of (first-at i) (byte_at 1 i); conditions = cs i })
      ∙ mode-fields n (get_or form from 0) (get_or form (from + 1) 0) six small
      ∙ ap (λ (k : ℕ). map_byte n k then ((amount_byte (get_or form from 0) then each condition_part six) then amount_byte (get_or form (from + 1) 0))) (sym e)

  abbrev pub MoveGrouped : ℕ → ℕ → ℕ → List ℕ → Type 0
  MoveGrouped m n map six =
      move_record m n (compact_move (move_said (drop from form)))
      ≡ (map_byte n map then ((mode_byte m (get_or form from 0) then mode_byte m (get_or form (from + 1) 0))
      then ((amount_byte (get_or form (from + 2) 0) then each condition_part six)
      then (reset_byte n (get_or form (from + 16) 0) (get_or form (from + 2 + 1) 0) then amount_byte (get_or form (from + 2 + 1) 0)))))

  pub move-grouped : {map last : ℕ} {six : List ℕ} (m n : ℕ) → get_or form (from + 2) 0 < 256 → six ≡ compact (six_places (drop (from + 4) form)) →
      last ≡ first_of (get_or form (from + 16) 0) (get_or form (from + 2 + 1) 0) → map ≡ bits_of (get_or form (from + 2) 0 ∷ (six ++ last ∷ [])) →
      MoveGrouped m n map six
  move-grouped {six = six} m n small s l e =
      let low = get_or form (from + 2) 0 in
      let high = get_or form (from + 2 + 1) 0 in
      let reset = get_or form (from + 16) 0 in
      let cs = conditions-at 4 ∙ sym s in
      let third : from + 3 ≡ from + 2 + 1 = omega arith in
      let high-at = byte_at 3 ∙ ap (λ (j : ℕ). get_or form j 0) third in
      ap (move_record m n) (λ i. record {
        source = first-at i;
        target = byte_at 1 i;
        price = amount_of (byte_at 2 i)
            (high-at i);
        conditions = cs i;
        resets = byte_at 16 i;
      })
      ∙ move-fields m n low high reset six (get_or form from 0) (get_or form (from + 1) 0) small
      ∙ ap (λ (k : ℕ). map_byte n k then ((mode_byte m (get_or form from 0) then mode_byte m (get_or form (from + 1) 0))
      then ((amount_byte low then each condition_part six) then (reset_byte n reset high then amount_byte high))))
      (sym (e ∙ ap (λ (k : ℕ). bits_of (low ∷ (six ++ k ∷ []))) l))
