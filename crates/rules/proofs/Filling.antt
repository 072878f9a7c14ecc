-- Rows that are filled one after another.
-- Assumes nothing.
use mathlib.Core.Path.{◌≡◌, refl, ap, ◌∙◌}
use mathlib.Core.List.{List}
use Prim.Native.Nat.{ℕ, zero, suc, ◌+◌, ◌*◌, ◌≤◌, ◌<◌}
use native.Mathlib.Decide.{ℕ_discrete}
use native.Mathlib.Omega.{arith}
use lib.ListN.{get_or, take, drop}
use Rattle.semantics.specs.Condition.{Condition}
use Rattle.table.specs.Meaning.{conditions_from}
use Rattle.conditions.specs.Windows.{low_of, high_of, row_of}
use Rattle.rules.specs.Making.{Wrote, condition_bytes, IsRow, FilledRows}

-- What a row has, byte by byte.
low_byte : (cs : List Condition) (x : ℕ) → x < 3 → get_or (row_of cs) (2 * x) 0 ≡ low_of cs x
low_byte cs zero h = refl
low_byte cs (suc zero) h = refl
low_byte cs (suc (suc zero)) h = refl
low_byte cs (suc (suc (suc n))) h = absurd (omega arith)

high_byte : (cs : List Condition) (x : ℕ) → x < 3 → get_or (row_of cs) (2 * x + 1) 0 ≡ high_of cs x
high_byte cs zero h = refl
high_byte cs (suc zero) h = refl
high_byte cs (suc (suc zero)) h = refl
high_byte cs (suc (suc (suc n))) h = absurd (omega arith)

-- A row that was written.
row_made : (cs : List Condition) (row : ℕ) (bytes rs rs' : List ℕ) → bytes ≡ row_of cs → Wrote (λ i. get_or bytes i 0) (6 * row) 6 rs rs' → IsRow rs' row cs
row_made cs row bytes rs rs' e w = record {
  low = λ x h.
      let place : 2 * (3 * row + x) ≡ 6 * row + 2 * x = omega arith in
      ap (λ (j : ℕ). get_or rs' j 0) place ∙ w.there (2 * x) (omega arith) ∙ ap (λ (l : List ℕ). get_or l (2 * x) 0) e ∙ low_byte cs x h;
  high = λ x h.
      let next : 2 * (3 * row + x) + 1 ≡ 6 * row + (2 * x + 1) = omega arith in
      ap (λ (j : ℕ). get_or rs' j 0) next ∙ w.there (2 * x + 1) (omega arith) ∙ ap (λ (l : List ℕ). get_or l (2 * x + 1) 0) e ∙ high_byte cs x h;
}

-- A row whose bytes are as they were.
pub row_kept :
    (cs : List Condition) (row : ℕ) (rs rs' : List ℕ) → ((j : ℕ) → 6 * row ≤ j → j < 6 * row + 6 → get_or rs' j 0 ≡ get_or rs j 0) → IsRow rs row cs
    → IsRow rs' row cs
row_kept cs row rs rs' same is = record {
  low = λ x h. same (2 * (3 * row + x)) (omega arith) (omega arith) ∙ is.low x h;
  high = λ x h. same (2 * (3 * row + x) + 1) (omega arith) (omega arith) ∙ is.high x h;
}

module _ (t : List ℕ) (at stride row : ℕ) (rs : List ℕ) where
  pub filled_more :
      (i : ℕ) (rs' rs'' bytes : List ℕ) → bytes ≡ row_of (conditions_from 0 (take 6 (drop (at + stride * i) t)))
      → Wrote (λ k. get_or bytes k 0) (6 * (row + i)) 6 rs' rs'' → FilledRows (condition_bytes t at stride) i row rs rs' → FilledRows (condition_bytes t at stride) (i + 1) row rs rs''
  filled_more i rs' rs'' bytes e w f = record {
    size = w.size ∙ f.size;
    there = λ k l. here k l (ℕ_discrete k i);
    before = λ j l. w.before j (omega arith) ∙ f.before j l;
    behind = λ j l. w.behind j (omega arith) ∙ f.behind j (omega arith);
  }
    where
      here : (k : ℕ) → k < i + 1 → Dec (k ≡ i) → IsRow rs'' (row + k) (conditions_from 0 (take 6 (drop (at + stride * k) t)))
      here k l (yes o) = rw o (row_made (conditions_from 0 (take 6 (drop (at + stride * i) t))) (row + i) bytes rs' rs'' e w)
      here k l (no o) =
          row_kept (conditions_from 0 (take 6 (drop (at + stride * k) t))) (row + k) rs' rs'' (λ j a b. w.before j (omega arith)) (f.there k (omega arith))
