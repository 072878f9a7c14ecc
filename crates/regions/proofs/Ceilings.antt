-- What the loop over the ceilings has found after a turn: the tests that are left decide.
-- Assumes nothing.
use mathlib.Core.Path.{◌≡◌, refl, ap, ap₂, ◌∙◌}
use mathlib.Core.Bool.{Bool, true, false, ◌&&◌}
use mathlib.Core.List.{List, [], ◌∷◌}
use Prim.Native.Nat.{ℕ, suc, ◌+◌, ◌<◌, ◌≤◌}
use native.Mathlib.Numerals.{add-one}
use native.Mathlib.Omega.{arith}
use lib.Dec.{leb}
use lib.ListN.{length, get_or, take, drop, drop_of_length-le}
use lib.Seq.{length-take-le, get_or-take, drop-cons}
use Rattle.semantics.specs.Region.{PricedRegion, high, meets, within_from, within}
use Rattle.regions.specs.declared.Region.{Region}
use Rattle.regions.specs.Held.{view, Valid}
use Rattle.regions.specs.Laws.Fields.{holds, whole-at, group_at}

-- The test of one ceiling.
abbrev low : List ℕ → List ℕ → ℕ → ℕ → Bool
low ws gs x ceiling = leb (high (get_or ws x 0) (get_or gs x 0)) ceiling

-- The tests of the first n ceilings but the first x, on the arrays.
abbrev pub left : ℕ → ℕ → List ℕ → List ℕ → List ℕ → Bool
left n x cs ws gs = within_from x (drop x (take n cs)) (record { whole = ws; group = gs; prices = [] })

same_tests :
    (r s : PricedRegion) → ((i : ℕ) → get_or r.whole i 0 ≡ get_or s.whole i 0) → ((i : ℕ) → get_or r.group i 0 ≡ get_or s.group i 0)
    → (x : ℕ) (cs : List ℕ) → within_from x cs r ≡ within_from x cs s
unfolding meets
same_tests r s w g x [] = refl
same_tests r s w g x (c ∷ cs) = ap₂ ◌&&◌ (ap₂ (λ (a b : ℕ). leb (high a b) c) (w x) (g x)) (same_tests r s w g (suc x) cs)

module _ (n : ℕ) (cs ws gs : List ℕ) (many : n < suc (length cs)) where
  as_many : length (take n cs) ≡ n
  as_many = length-take-le n cs (omega arith)

  -- One test, and those behind it.
  next : (x : ℕ) → x < n → left n x cs ws gs ≡ (low ws gs x (get_or cs x 0) && left n (suc x) cs ws gs)
  unfolding meets
  next x b =
      ap (λ (l : List ℕ). within_from x l (record { whole = ws; group = gs; prices = [] })) (drop-cons (take n cs) x 0 (rw as_many b))
      ∙ ap (λ (c : ℕ). low ws gs x c && left n (suc x) cs ws gs) (get_or-take n cs x 0 b)

  pub passed : (x : ℕ) → x < n → low ws gs x (get_or cs x 0) ≡ true → left n (x + 1) cs ws gs ≡ left n x cs ws gs
  passed x b e = rw (add-one x, next x b, e) refl

  pub failed : (x : ℕ) → x < n → low ws gs x (get_or cs x 0) ≡ false → left n x cs ws gs ≡ false
  failed x b e = next x b ∙ rw e refl

  pub done : (x : ℕ) → x ≡ n → left n x cs ws gs ≡ true
  done x e =
      let none : length (take n cs) ≤ x = omega (arith, as_many) in
      ap (λ (l : List ℕ). within_from x l (record { whole = ws; group = gs; prices = [] })) (drop_of_length-le (take n cs) none)

-- All tests, on the region that the struct holds.
pub all_left : (s : Region) → Valid s → (cs : List ℕ) → left s.timers 0 cs s.whole s.group ≡ within (take s.timers cs) (view s)
unfolding within
all_left s v cs =
    let h = holds s v in
    same_tests (record { whole = s.whole; group = s.group; prices = [] }) (view s) (whole-at s (view s) h) (group_at s (view s) h) 0
    (take s.timers cs)
