-- A list that is held in an array, with 0 behind it: what is done to the array is done to the list.
-- Assumes nothing.
use mathlib.Core.Path.{◌≡◌, refl, ap, ap₂, ◌∙◌, sym}
use mathlib.Core.Bool.{cond}
use mathlib.Core.List.{List, [], ◌∷◌, ◌++◌, map, append_assoc}
use Prim.Native.Nat.{ℕ, zero, suc, ◌+◌, ◌-◌, ◌<◌, ◌≤◌}
use native.Mathlib.Nat.{le_of_suc-le-suc, not-suc-le-zero}
use native.Mathlib.Omega.{arith}
use borrow.Author.Tests.{ne_eqb}
use lib.Dec.{eqb}
use lib.ListN.{length, drop, set, replicate, length-append, length-map, length-set, replicate-append-replicate}
use lib.Seq.{take_at, drop_at, set-append_left, set_at}
use Rattle.semantics.specs.Region.{risen, merge}
use Rattle.semantics.specs.Regions.Lengths.{length-risen, length-merge}
use Rattle.arrays.specs.Arrays.{map_to}
use Rattle.regions.specs.Held.{pad}

-- Zeros behind a list stay as they are.
map-zeros : (f : ℕ → ℕ) → f 0 ≡ 0 → (l : List ℕ) (k : ℕ) → map f (l ++ replicate k 0) ≡ map f l ++ replicate k 0
map-zeros f z [] zero = refl
map-zeros f z [] (suc k) = ap₂ (λ (x : ℕ) (l : List ℕ). x ∷ l) z (map-zeros f z [] k)
map-zeros f z (x ∷ l) k = ap (λ (m : List ℕ). f x ∷ m) (map-zeros f z l k)

set-zeros : (l : List ℕ) (k i : ℕ) → set (l ++ replicate k 0) i 0 ≡ set l i 0 ++ replicate k 0
set-zeros [] zero i = refl
set-zeros [] (suc k) zero = refl
set-zeros [] (suc k) (suc i) = ap (λ (l : List ℕ). 0 ∷ l) (set-zeros [] k i)
set-zeros (x ∷ l) k zero = refl
set-zeros (x ∷ l) k (suc i) = ap (λ (m : List ℕ). x ∷ m) (set-zeros l k i)

risen-zeros :
    (k : ℕ) → 0 < k → (gs ws : List ℕ) (m : ℕ) → length gs ≡ length ws
    → risen k (gs ++ replicate m 0) (ws ++ replicate m 0) ≡ risen k gs ws ++ replicate m 0
risen-zeros k p [] [] zero e = refl
risen-zeros k p [] [] (suc m) e = rw (ne_eqb 0 k (λ z. omega arith)) (ap (λ (l : List ℕ). 0 ∷ l) (risen-zeros k p [] [] m refl))
risen-zeros k p [] (w ∷ ws) m e = absurd (omega arith)
risen-zeros k p (g ∷ gs) [] m e = absurd (omega arith)
risen-zeros k p (g ∷ gs) (w ∷ ws) m e = ap (λ (l : List ℕ). cond (eqb g k) (suc w) w ∷ l) (risen-zeros k p gs ws m (omega arith))

merge-append : (i : ℕ) (cs r : List ℕ) → suc i < length cs → merge i (cs ++ r) ≡ merge i cs ++ r
merge-append i [] r h = absurd (not-suc-le-zero h)
merge-append i (c ∷ []) r h = absurd (not-suc-le-zero (le_of_suc-le-suc h))
merge-append zero (c ∷ d ∷ cs) r h = refl
merge-append (suc i) (c ∷ d ∷ cs) r h = ap (λ (l : List ℕ). c ∷ l) (merge-append i (d ∷ cs) r (le_of_suc-le-suc h))

-- One 0 more behind a list that is one shorter.
zero_more : (m : ℕ) (l : List ℕ) → length l < m → (l ++ replicate (m - suc (length l)) 0) ++ 0 ∷ [] ≡ pad m l
zero_more m l h =
    let j : (m - suc (length l)) + 1 ≡ m - length l = omega arith in
    append_assoc l (replicate (m - suc (length l)) 0) (0 ∷ [])
    ∙ ap (λ (k : List ℕ). l ++ k) (replicate-append-replicate (m - suc (length l)) 1 0 ∙ ap (λ (n : ℕ). replicate n 0) j)

module _ (m : ℕ) (l : List ℕ) where
  -- A list as long as l, with the zeros that are behind l.
  resized : (k : List ℕ) → length k ≡ length l → k ++ replicate (m - length l) 0 ≡ pad m k
  resized k e = ap (λ (n : ℕ). k ++ replicate (m - n) 0) (sym e)

  -- f at every entry of the array, where f keeps 0.
  pub map-pad : (f : ℕ → ℕ) → f 0 ≡ 0 → map f (pad m l) ≡ pad m (map f l)
  map-pad f z = map-zeros f z l (m - length l) ∙ resized (map f l) (length-map l f)

  -- f at the entries that the list has.
  pub map_to-pad : (f : ℕ → ℕ) (n : ℕ) → length l ≡ n → map_to f n (pad m l) ≡ pad m (map f l)
  map_to-pad f n e =
      ap₂ (λ (a b : List ℕ). map f a ++ b) (take_at l _ n e) (drop_at l (replicate (m - length l) 0) n e)
      ∙ resized (map f l) (length-map l f)

  -- A store of 0 at any place.
  pub clear-pad : (i : ℕ) → set (pad m l) i 0 ≡ pad m (set l i 0)
  clear-pad i = set-zeros l (m - length l) i ∙ resized (set l i 0) (length-set l i 0)

  -- A store to an entry of the list.
  pub set-pad : (i v : ℕ) → i < length l → set (pad m l) i v ≡ pad m (set l i v)
  set-pad i v h = set-append_left l (replicate (m - length l) 0) i v h ∙ resized (set l i v) (length-set l i v)

  -- A store behind the list.
  pub snoc-pad : (n v : ℕ) → length l ≡ n → n < m → set (pad m l) n v ≡ pad m (l ++ v ∷ [])
  snoc-pad n v e h =
      let j : m - length l ≡ suc (m - suc n) = omega arith in
      let f : length (l ++ v ∷ []) ≡ suc n = length-append l (v ∷ []) ∙ omega arith in
      ap (λ (k : ℕ). set (l ++ replicate k 0) n v) j
      ∙ set_at l 0 (replicate (m - suc n) 0) v n e
      ∙ sym (append_assoc l (v ∷ []) (replicate (m - suc n) 0))
      ∙ ap (λ (k : ℕ). (l ++ v ∷ []) ++ replicate (m - k) 0) (sym f)

-- Whole parts rise.
pub risen-pad :
    (m k : ℕ) → 0 < k → (gs ws : List ℕ) → length gs ≡ length ws → risen k (pad m gs) (pad m ws) ≡ pad m (risen k gs ws)
risen-pad m k p gs ws e =
    ap (λ (n : ℕ). risen k (gs ++ replicate (m - n) 0) (pad m ws)) e ∙ risen-zeros k p gs ws (m - length ws) e
    ∙ resized m ws (risen k gs ws) (length-risen k gs ws)

-- The first price is dropped.
pub tail-pad : (m : ℕ) (cs : List ℕ) → 0 < length cs → length cs ≤ m → drop 1 (pad m cs) ++ 0 ∷ [] ≡ pad m (drop 1 cs)
tail-pad m [] h b = absurd (not-suc-le-zero h)
tail-pad m (c ∷ cs) h b = zero_more m cs b

-- Two prices become one.
pub merge-pad : (m i : ℕ) (cs : List ℕ) → suc i < length cs → length cs ≤ m → merge i (pad m cs) ++ 0 ∷ [] ≡ pad m (merge i cs)
merge-pad m i cs h b =
    let e = length-merge i cs h in
    ap (λ (l : List ℕ). l ++ 0 ∷ [])
    (merge-append i cs (replicate (m - length cs) 0) h ∙ ap (λ (n : ℕ). merge i cs ++ replicate (m - n) 0) e)
    ∙ zero_more m (merge i cs) (omega arith)
