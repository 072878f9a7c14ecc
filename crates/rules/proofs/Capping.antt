-- The windows of the modes' rows end above the ceilings.
-- Assumes nothing.
use mathlib.Core.Path.{◌≡◌, ◌∙◌}
use mathlib.Core.List.{List}
use Prim.Native.Nat.{ℕ, ◌+◌, ◌*◌, ◌<◌}
use native.Mathlib.Decide.{ℕ_discrete}
use native.Mathlib.Omega.{arith}
use lib.ListN.{get_or}
use Rattle.rules.specs.Making.{Caps, CappedRow, CappedRows}

-- One row after another. What is read of the array of ceilings is read of the list.
module _ (cs : List ℕ) (rs : List ℕ) where
  module _ (array : List ℕ) (array-is : (x : ℕ) → get_or array x 0 ≡ get_or cs x 0) (m : ℕ) (rs' rs'' : List ℕ) (w : CappedRows cs m rs rs')
      (row : CappedRow array m 3 rs' rs'') where
    at : (k : ℕ) → k < m + 1 → Dec (k ≡ m) → Caps cs k 3 rs rs''
    at k l (yes o) =
        rw o
        (record {
          low = λ x h. row.there.low x h ∙ w.behind (2 * (3 * m + x)) (omega arith);
          high = λ x h. row.there.high x h ∙ rw (w.behind (2 * (3 * m + x) + 1) (omega arith), array-is x);
        })
    at k l (no o) = record {
      low = λ x h. row.before (2 * (3 * k + x)) (omega arith) ∙ (w.there k (omega arith)).low x h;
      high = λ x h. row.before (2 * (3 * k + x) + 1) (omega arith) ∙ (w.there k (omega arith)).high x h;
    }

    pub caps-more : CappedRows cs (m + 1) rs rs''
    caps-more = record {
      size = row.size ∙ w.size;
      there = λ k l. at k l (ℕ_discrete k m);
      behind = λ j l. row.behind j (omega arith) ∙ w.behind j (omega arith);
    }
