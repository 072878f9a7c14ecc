-- Counts of groups: of one more, and as a test of the library.
-- Assumes nothing.
use mathlib.Core.Path.{◌≡◌, refl, ap, sym, ◌∙◌}
use mathlib.Core.Bool.{Bool, true, false, cond, not, ◌||◌}
use mathlib.Core.List.{List, [], ◌∷◌}
use Prim.Native.Nat.{ℕ, zero, suc, ◌+◌, ◌<◌}
use native.Mathlib.Nat.{le_of_suc-le-suc, not-suc-le-zero}
use native.Mathlib.Numerals.{add-one}
use native.Mathlib.Omega.{arith}
use borrow.Author.Tests.{eq-eqb, ne_eqb}
use lib.Dec.{eqb}
use lib.ListN.{length, get_or, take}
use Rattle.std.specs.List.{list_any}
use Rattle.semantics.specs.Region.{count}

-- The order in which two entries are counted does not matter.
swap : (b e : Bool) (n : ℕ) → cond b (suc (cond e (suc n) n)) (cond e (suc n) n) ≡ cond e (suc (cond b (suc n) n)) (cond b (suc n) n)
swap true true n = refl
swap true false n = refl
swap false true n = refl
swap false false n = refl

module _ (g : ℕ) where
  count-suc :
      (i d : ℕ) (l : List ℕ) → i < length l
      → count g (take (suc i) l) ≡ cond (eqb (get_or l i d) g) (suc (count g (take i l))) (count g (take i l))
  count-suc i d [] h = absurd (not-suc-le-zero h)
  count-suc zero d (x ∷ l) h = refl
  count-suc (suc i) d (x ∷ l) h =
      ap (λ (n : ℕ). cond (eqb x g) (suc n) n) (count-suc i d l (le_of_suc-le-suc h))
      ∙ swap (eqb x g) (eqb (get_or l i d) g) (count g (take i l))

  -- The next entry is h: of one more it is g, or it is not.
  module _ (i h : ℕ) (l : List ℕ) (next : (i < length l) × (h ≡ get_or l i h)) where
    pub count-hit : h ≡ g → count g (take i l) + 1 ≡ count g (take (i + 1) l)
    count-hit e = simp (add-one, count-suc i h l next.0, eq-eqb (get_or l i h) g (sym next.1 ∙ e))

    pub count-miss : (h ≡ g → ⊥) → count g (take i l) ≡ count g (take (i + 1) l)
    count-miss n = simp (add-one, count-suc i h l next.0, ne_eqb (get_or l i h) g (λ e. n (next.1 ∙ e)))

  pub none-is : (l : List ℕ) → not (list_any (λ (x : ℕ). eqb x g) l) ≡ eqb (count g l) 0
  none-is [] = refl
  none-is (x ∷ l) = at (eqb x g) (none-is l)
    where
      at :
          (b : Bool) → not (list_any (λ (y : ℕ). eqb y g) l) ≡ eqb (count g l) 0
          → not (b || list_any (λ (y : ℕ). eqb y g) l) ≡ eqb (cond b (suc (count g l)) (count g l)) 0
      at true e = sym (ne_eqb (suc (count g l)) 0 (λ z. omega arith))
      at false e = e
