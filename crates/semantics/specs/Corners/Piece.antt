-- A list that stands in one piece in another.
-- Assumes nothing.
use Rattle.std.specs.Prelude.{◌≡◌, ◌⊎◌, ℕ, ◌+◌, ◌<◌, ◌≤◌, length, get_or}
use Rattle.std.proofs.Common.{◌∙◌, subst, inl, inr, zero-add, add_assoc, arith, length-append, get_or-append-add}
use mathlib.Core.List.Memᴰ
use mathlib.Core.List.{List, [], ◌∷◌, ◌++◌, Memᴰ}
use Rattle.std.proofs.Math.ListN.{get_or-append}
use Rattle.semantics.specs.Corners.Corner.{flat_map}

-- s stands in l from place p on.
pub record Piece {A : Type 0} (s l : List A) (p : ℕ) : Type 0 where
  pub fits : p + length s ≤ length l
  pub entry : (i : ℕ) (d : A) → i < length s → get_or l (p + i) d ≡ get_or s i d

module _ {A : Type 0} where
  piece-left : (s t : List A) → Piece s (s ++ t) 0
  piece-left s t = record {
    fits = omega (arith, length-append s t);
    entry = λ i d h. rw zero-add (get_or-append s t d i h);
  }

  pub piece-right : (t s l : List A) (p : ℕ) → Piece s l p → Piece s (t ++ l) (length t + p)
  piece-right t s l p e = record {
    fits = omega (arith, length-append t l, e.fits);
    entry = λ i d h. rw add_assoc (get_or-append-add t l (p + i) d ∙ e.entry i d h);
  }

  pub piece-append : (s l t : List A) (p : ℕ) → Piece s l p → Piece s (l ++ t) p
  piece-append s l t p e = record {
    fits = omega (arith, length-append l t, e.fits);
    entry = λ i d h. get_or-append l t d (p + i) (omega (arith, e.fits)) ∙ e.entry i d h;
  }

  -- What an entry gives.
  pub piece-flat_map : {B : Type 0} (f : B → List A) (l : List B) (b : B) → Memᴰ b l → (p : ℕ) × Piece (f b) (flat_map f l) p
  piece-flat_map f [] b m = absurd (Memᴰ.not-nil m)
  piece-flat_map {B} f (c ∷ l) b m = go (piece-flat_map f l b) (Memᴰ.cases_cons m)
    where
      go : (Memᴰ b l → (p : ℕ) × Piece (f b) (flat_map f l) p) → (b ≡ c) ⊎ Memᴰ b l → (p : ℕ) × Piece (f b) (f c ++ flat_map f l) p
      go ih (inl e) = (0, subst (λ (x : B). Piece (f b) (f x ++ flat_map f l) 0) e (piece-left (f b) (flat_map f l)))
      go ih (inr k) = let o = ih k in (length (f c) + o.0, piece-right (f c) (f b) (flat_map f l) o.0 o.1)
