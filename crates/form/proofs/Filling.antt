-- The copies and the loops that fill a form.
-- Assumes nothing.
use Prim.Native.Nat.{ℕ, ◌+◌, ◌*◌, ◌≤◌, ◌<◌}
use native.Mathlib.Numerals.{add-one}
use native.Mathlib.Omega.{arith}
use mathlib.Core.Path.{◌≡◌, sym, ap, ◌∙◌}
use mathlib.Core.List.{List, [], ◌∷◌, ◌++◌, map, map-append}
use lib.ListN.{length, get_or, take, drop, length-drop}
use borrow.Rule.Slice.PartMut.{mid_of, put_mid, same_len_mid}
use Rattle.std.proofs.lemmas.Slice.{take-put_mid}
use lib.Seq.{length-take-le, take-suc, get_or-drop, drop-drop}
use Rattle.table.specs.Held.{flat, records_from, fields_of, IsTable}
use Rattle.reader.specs.Read.{accepted, rejected, read}
use Rattle.reader.specs.Reading.{Accepted, Refused}
use Rattle.form.specs.Formed.{place, places, formed}
use Rattle.form.specs.Filled.{outcome, filled}
use Rattle.form.specs.Appends.{Appends, mode_widened, move_widened}
use Rattle.form.specs.Theorems.Appending.{append-then, append-whole, flat-more}
use Rattle.form.specs.Theorems.Widening.{widened}

-- One byte more of those from a place on.
take_more : (table : List ℕ) (from i : ℕ) → from + i < length table →
    take (i + 1) (drop from table) ≡ take i (drop from table) ++ get_or table (from + i) 0 ∷ []
take_more table from i h =
    rw (add-one i)
    (take-suc (drop from table) i 0 (omega (arith, length-drop from table))
    ∙ ap (λ (b : ℕ). take i (drop from table) ++ b ∷ []) (get_or-drop from table i 0))

-- So many bytes from a place on, copied.
pub copied-slice : {ys : List ℕ} (t table : List ℕ) (at from n : ℕ) → from + n ≤ length table → at + n ≤ length t → ys ≡ take n (drop from table) →
    Appends t at (take n (drop from table)) (put_mid at n t ys) (at + n)
copied-slice {ys} t table at from n h k e =
    let part : length ys ≡ n = ap length e ∙ length-take-le n (drop from table) (omega (arith, length-drop from table)) in
    let there : length (mid_of at n t) ≡ n = length-take-le n (drop at t) (omega (arith, length-drop at t)) in
    record {
      is = take-put_mid at n t ys (at + n) (omega arith) (omega arith) ∙ ap (λ (l : List ℕ). take at t ++ l) e;
      long = same_len_mid at n t ys (part ∙ sym there);
    }

pub place-more : {t t' t'' : List ℕ} {at : ℕ} (table : List ℕ) (from i : ℕ) → from + i < length table →
    Appends t at (places (take i (drop from table))) t' (at + 2 * i) →
    Appends t' (at + 2 * i) (place (get_or table (from + i) 0)) t'' (at + 2 * i + 2) →
    Appends t at (places (take (i + 1) (drop from table))) t'' (at + 2 * (i + 1))
place-more {at = at} table from i h p q =
    let next : at + 2 * i + 2 ≡ at + 2 * (i + 1) = omega arith in
    let u = take i (drop from table) in
    let more : places u ++ place (get_or table (from + i) 0) ≡ places (take (i + 1) (drop from table)) =
    sym (ap places (take_more table from i h) ∙ ap flat (map-append place u _) ∙ flat-more (map place u) _) in
    rw (← next, ← more) (append-then p q)

-- The parts of a record.
module _ {t t₁ t₂ : List ℕ} (table : List ℕ) (from at : ℕ) where
  pub mode-filled : Appends t at (take 2 (drop from table)) t₁ (at + 2) → Appends t₁ (at + 2) (places (take 6 (drop (from + 2) table))) t₂ (at + 2 + 12) →
      Appends t at (mode_widened (drop from table)) t₂ (at + 14)
  mode-filled p q = let next : at + 2 + 12 ≡ at + 14 = omega arith in rw (drop-drop 2 from table, ← next) (append-then p q)

  pub move-filled : {t₃ : List ℕ} → Appends t at (take 4 (drop from table)) t₁ (at + 4) → Appends t₁ (at + 4) (places (take 6 (drop (from + 4) table))) t₂
      (at + 4 + 12) →
      Appends t₂ (at + 16) (take 2 (drop (from + 10) table)) t₃ (at + 16 + 2) → Appends t at (move_widened (drop from table)) t₃ (at + 18)
  move-filled p q r =
      let resets : at + 16 ≡ at + 4 + 12 = omega arith in
      let next : at + 16 + 2 ≡ at + 18 = omega arith in
      rw (drop-drop 4 from table, drop-drop 10 from table, ← next) (append-then p (append-then (rw (← resets) at q) r))

-- The parts of a form, put into an array that has room for no more.
pub form-filled : {t₀ t₁ t₂ t₃ : List ℕ} (table : List ℕ) → IsTable table → length t₀ ≡ 1384 → Appends t₀ 0 (take 8 table) t₁ 8 →
    Appends t₁ 8 (flat (records_from mode_widened 8 16 (drop 8 table))) t₂ 232 →
    Appends t₂ 232 (flat (records_from move_widened 12 64 (drop 136 table))) t₃ 1384 → t₃ ≡ formed (fields_of table)
form-filled {t₀} {t₁} {t₂} {t₃} table k long p q r =
    append-whole (omega (arith, long, p.long, q.long, r.long)) (append-then p (append-then q r)) ∙ widened table k

-- The bytes are refused, or they are a table.
module _ (bytes form : List ℕ) where
  pub filled-refused : (n : ℕ) → read bytes ≡ rejected n → outcome (Refused n) form ≡ filled bytes form
  unfolding filled
  filled-refused n e = rw e

  pub filled-accepted : {form' : List ℕ} (t : List ℕ) → read bytes ≡ accepted (fields_of t) → form' ≡ formed
      (fields_of t) → outcome Accepted form' ≡ filled bytes form
  unfolding filled
  filled-accepted t e k = rw (e, k)
