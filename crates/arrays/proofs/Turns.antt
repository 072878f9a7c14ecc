-- What the loops over a region's arrays have done after one turn more.
-- Assumes nothing.
use mathlib.Core.Path.{◌≡◌, refl, ap, ◌∙◌}
use mathlib.Core.List.{List, [], ◌∷◌}
use native.Mathlib.Omega.{arith}
use Prim.Native.Nat.{ℕ, zero, suc, ◌+◌, ◌≤◌, ◌<◌, min}
use native.Mathlib.Nat.{le_of_suc-le-suc, not-suc-le-zero}
use lib.ListN.{length, get_or, set}
use Rattle.std.proofs.lemmas.List.{set-get_or}
use Rattle.arrays.specs.Arrays.{map_to}

map_to-suc : (f : ℕ → ℕ) (i : ℕ) (l : List ℕ) → i < length l → set (map_to f i l) i (f (get_or l i 0)) ≡ map_to f (suc i) l
map_to-suc f i [] h = absurd (not-suc-le-zero h)
map_to-suc f zero (x ∷ l) h = refl
map_to-suc f (suc i) (x ∷ l) h = ap (λ (k : List ℕ). f x ∷ k) (map_to-suc f i l (le_of_suc-le-suc h))

map_to-get : (f : ℕ → ℕ) (i : ℕ) (l : List ℕ) → get_or (map_to f i l) i 0 ≡ get_or l i 0
map_to-get f zero l = refl
map_to-get f (suc i) [] = refl
map_to-get f (suc i) (x ∷ l) = map_to-get f i l

-- The loop over the entries of l has mapped the first n of those before i.
module _ (f : ℕ → ℕ) (i n : ℕ) (l items : List ℕ) (is : items ≡ map_to f (min i n) l) where
  -- The next one is as it was.
  pub map_to-here : i < n → get_or items i 0 ≡ get_or l i 0
  map_to-here h = let e : min i n ≡ i = omega arith in rw (is, e) (map_to-get f i l)

  -- One more is mapped.
  pub map_to-more : i < length l → i < n → set items i (f (get_or items i 0)) ≡ map_to f (min (i + 1) n) l
  map_to-more t h =
      let e : min i n ≡ i = omega arith in
      let d : min (i + 1) n ≡ suc i = omega arith in
      rw (is, e, d, map_to-get f i l) (map_to-suc f i l t)

  -- No more is to be mapped.
  pub map_to-past : n ≤ i → set items i (get_or items i 0) ≡ map_to f (min (i + 1) n) l
  map_to-past h = let d : min (i + 1) n ≡ min i n = omega arith in set-get_or items i 0 ∙ rw d is

  -- All are mapped.
  pub map_to-all : n ≤ i → items ≡ map_to f n l
  map_to-all h = let d : n ≡ min i n = omega arith in rw d is
