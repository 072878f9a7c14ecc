-- The number of a corner is its place in the list of corners: the number of a corner and the corner with a number are inverse to each other.
-- Assumes nothing.
use Rattle.std.specs.Prelude.{◌≡◌, refl, Bool, true, false, ℕ, zero, suc, ◌<◌, eqb, length, get_or}
use Rattle.std.proofs.Math.Path.{ap}
use Rattle.std.proofs.Common.{ap₂, ◌∙◌, sym, subst, true≢false, le_of_suc-le-suc, not-suc-le-zero, eqb-true, eq-eqb}
use mathlib.Core.List.{List, [], ◌∷◌, Memᴰ}
use Rattle.semantics.specs.Corners.Corner.{Corner, corners, same_list, same_corner, place_in, corner_number, corner_at}
use Rattle.semantics.specs.Regions.Compare.{and-true-iff}
use Rattle.semantics.specs.Corners.Lists.{Distinct, mem-get_or, mem-place}
use Rattle.semantics.specs.Corners.Complete.{corners-distinct}

pub same_list-eq : (l m : List ℕ) → same_list l m ≡ true → l ≡ m
same_list-eq [] [] t = refl
same_list-eq [] (y ∷ ys) t = absurd (true≢false (sym t))
same_list-eq (x ∷ xs) [] t = absurd (true≢false (sym t))
same_list-eq (x ∷ xs) (y ∷ ys) t =
    let p = (and-true-iff (eqb x y) (same_list xs ys)).0 t in
    ap₂ (λ (a : ℕ) (l : List ℕ). a ∷ l) (eqb-true x y p.0) (same_list-eq xs ys p.1)

same_list-refl : (l : List ℕ) → same_list l l ≡ true
same_list-refl [] = refl
same_list-refl (x ∷ l) = (and-true-iff (eqb x x) (same_list l l)).1 (eq-eqb x x refl, same_list-refl l)

same_corner-eq : (c d : Corner) → same_corner c d ≡ true → c ≡ d
same_corner-eq c d t =
    let p = (and-true-iff (eqb c.index d.index) (same_list c.group d.group)).0 t in
    let g = same_list-eq c.group d.group p.1 in
    let i = eqb-true c.index d.index p.0 in
    λ k. record { group = g k; index = i k }

same_corner-refl : (c : Corner) → same_corner c c ≡ true
same_corner-refl c =
    (and-true-iff (eqb c.index c.index) (same_list c.group c.group)).1 (eq-eqb c.index c.index refl, same_list-refl c.group)

place-case :
    (l : List Corner) (c d : Corner) (b : Bool) → same_corner c d ≡ b
    → place_in (d ∷ l) c ≡ elim b as (λ x. ℕ) [ true ↦ 0 | false ↦ suc (place_in l c) ]
place-case l c d b e = ap (λ (t : Bool). elim t as (λ x. ℕ) [ true ↦ 0 | false ↦ suc (place_in l c) ]) e

-- The place of a corner that is not the first entry.
place-later : (l : List Corner) (c d : Corner) → (c ≡ d → ⊥) → place_in (d ∷ l) c ≡ suc (place_in l c)
place-later l c d n = go (same_corner c d) refl
  where
    go : (b : Bool) → same_corner c d ≡ b → place_in (d ∷ l) c ≡ suc (place_in l c)
    go true e = absurd (n (same_corner-eq c d e))
    go false e = place-case l c d false e

-- Nothing is in the list twice, so that the place of the entry at i is i.
place_at_lem : (l : List Corner) → Distinct l → (i : ℕ) (d : Corner) → i < length l → place_in l (get_or l i d) ≡ i
place_at_lem [] u i d h = absurd (not-suc-le-zero h)
place_at_lem (c ∷ l) u zero d h = place-case l c c true (same_corner-refl c)
place_at_lem (c ∷ l) u (suc i) d h =
    let k : i < length l = le_of_suc-le-suc h in
    place-later l (get_or l i d) c (λ e. u.0 (subst (λ (x : Corner). Memᴰ x l) e (mem-get_or l i d k))) ∙ ap suc (place_at_lem l u.1 i d k)

-- Two places hold different corners.
pub number-get_or : (n i : ℕ) (d : Corner) → i < length (corners n) → corner_number n (get_or (corners n) i d) ≡ i
unfolding corner_number
number-get_or n i d h = place_at_lem (corners n) (corners-distinct n) i d h

module _ (n : ℕ) where
  pub corner_at-number : (c : Corner) → Memᴰ c (corners n) → corner_at n (corner_number n c) ≡ c
  unfolding corner_at
  corner_at-number c m =
      let o = mem-place (corners n) c m in
      let e : corner_number n c ≡ o.0 = ap (corner_number n) (sym (o.2 c)) ∙ number-get_or n o.0 c o.1 in
      rw e (o.2 _)
