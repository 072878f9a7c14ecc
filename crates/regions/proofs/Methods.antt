-- The struct that each method builds is the struct of the region that the definition gives.
-- Assumes nothing.
use mathlib.Core.Path.{◌≡◌, refl, ap, ◌∙◌, sym}
use mathlib.Core.Bool.{true, false}
use mathlib.Core.List.{List, [], ◌∷◌, ◌++◌, map}
use Prim.Native.Nat.{ℕ, suc, pred, ◌+◌, ◌-◌, ◌<◌, ◌≤◌, min}
use native.Mathlib.Omega.{arith}
use borrow.Author.Tests.{eqb-true, eqb-false}
use lib.ListN.{length, get_or, drop, set, length-replicate, length-set}
use Rattle.semantics.specs.Region.{PricedRegion, count, top, risen, merge, alone, no_zero, start, leave, arrive, delay, linger, reset, charge}
use Rattle.semantics.specs.Regions.Renumber.{wrapped, wrapped-other, lowered, lowered-low}
use Rattle.semantics.specs.Regions.Cases.{delay-arrive, delay-leave, lingered, linger-empty, linger-same, alone-true, reset_alone, reset_joined, reset-alone, reset-joined}
use Rattle.semantics.specs.Regions.Lengths.{leave-top, arrive-timers, charge-prices, merged-in, length-merge}
use Rattle.semantics.proofs.Regions.Lengths.{arrive-top}
use Rattle.regions.specs.declared.Region.{Region}
use Rattle.arrays.specs.Arrays.{map_to}
use Rattle.regions.specs.Held.{pack}
use Rattle.regions.specs.Laws.Fields.{packed, Holds, timers-is, group-length, top-is, whole_is, group-is, prices-is, prices-many, price-at, group_at, top-few, top-fewer, top_above}
use Rattle.regions.specs.Laws.Pads.{zeros-pad}
use Rattle.regions.proofs.Pads.{map-pad, map_to-pad, clear-pad, set-pad, snoc-pad, risen-pad, tail-pad, merge-pad}

-- A struct by its fields.
abbrev struct : ℕ → ℕ → List ℕ → List ℕ → List ℕ → Region
struct n k w g p = record { timers = n; top = k; whole = w; group = g; prices = p }

pub started-is : (n : ℕ) → n ≤ 3 → struct n 0 (0 ∷ 0 ∷ 0 ∷ []) (0 ∷ 0 ∷ 0 ∷ []) (0 ∷ 0 ∷ 0 ∷ 0 ∷ []) ≡ pack (start n)
unfolding start
started-is n h = packed _ (start n) (sym (length-replicate n 0)) refl (zeros-pad 3 n h) (zeros-pad 3 n h) refl

-- What the test for an empty r0 says.
pub zero-none : (r : PricedRegion) → no_zero r ≡ true → count 0 r.group ≡ 0
zero-none r e = eqb-true (count 0 r.group) 0 e

pub zero-some : (r : PricedRegion) → no_zero r ≡ false → 0 < count 0 r.group
zero-some r e = let n = eqb-false (count 0 r.group) 0 e in omega arith

module _ (r : PricedRegion) (rate : ℕ) where
  pub delay-arrives : no_zero r ≡ true → delay rate r ≡ arrive r
  delay-arrives e = delay-arrive rate r (zero-none r e)

  pub delay-leaves : no_zero r ≡ false → delay rate r ≡ leave rate r
  delay-leaves e = delay-leave rate r (zero-some r e)

module _ (s : Region) (r : PricedRegion) (h : Holds s r) where
  prices-few : length r.prices ≤ 4
  prices-few = omega (arith, prices-many s r h, top-few s r h)

  pub charged-is :
      (price : ℕ)
      → struct s.timers s.top s.whole s.group (map_to (λ c. c + price) (s.top + 1) s.prices) ≡ pack (charge price r)
  unfolding charge
  charged-is price =
      packed _ (charge price r) (timers-is s r h)
      (top-is s r h ∙ ap pred (sym (charge-prices r price)))
      (whole_is s r h)
      (group-is s r h)
      (rw (prices-is s r h) (map_to-pad 4 r.prices (λ c. c + price) (s.top + 1) (prices-many s r h)))

  pub lingered-is :
      (rate : ℕ) → no_zero r ≡ true
      → struct s.timers s.top s.whole s.group
      (set s.prices s.top (min (get_or s.prices s.top 0) (get_or s.prices 0 0 + rate)))
      ≡ pack (linger rate r)
  lingered-is rate z =
      let in-range : pred (length r.prices) < length r.prices = omega (arith, h.well_formed.priced) in
      packed _ (lingered rate r) (timers-is s r h)
      (top-is s r h ∙ ap pred (sym (length-set r.prices (top r) _)))
      (whole_is s r h)
      (group-is s r h)
      (rw (price-at s r h s.top, price-at s r h 0, prices-is s r h, top-is s r h) (set-pad 4 r.prices (top r) _ in-range))
      ∙ ap pack (sym (linger-empty rate r (zero-none r z)))

  pub unlingered-is : (rate : ℕ) → no_zero r ≡ false → s ≡ pack (linger rate r)
  unlingered-is rate z = h.is ∙ ap pack (sym (linger-same rate r (zero-some r z)))

  pub left_is :
      (rate : ℕ) → no_zero r ≡ false
      → struct s.timers (s.top + 1) s.whole (map_to suc s.timers s.group)
      (set s.prices (s.top + 1) (get_or s.prices 0 0 + rate))
      ≡ pack (leave rate r)
  unfolding leave
  left_is rate z =
      packed _ (leave rate r) (timers-is s r h)
      (omega (arith, leave-top r h.well_formed rate, top-is s r h))
      (whole_is s r h)
      (rw (group-is s r h) (map_to-pad 3 r.group suc s.timers (group-length s r h)))
      (rw (price-at s r h 0, prices-is s r h)
      (snoc-pad 4 r.prices (s.top + 1) _ (prices-many s r h) (omega (arith, top-fewer s r h (zero-some r z)))))

  pub arrived-is :
      no_zero r ≡ true
      → struct s.timers (s.top - 1) (risen s.top s.group s.whole) (map (wrapped s.top) s.group)
      (drop 1 s.prices ++ 0 ∷ [])
      ≡ pack (arrive r)
  unfolding arrive
  arrived-is z =
      let p : 0 < s.top = top_above s r h (zero-none r z) in
      packed _ (arrive r) (timers-is s r h ∙ sym (arrive-timers r).whole)
      (omega (arith, arrive-top r h.well_formed, top-is s r h))
      (rw (← top-is s r h, group-is s r h, whole_is s r h) (risen-pad 3 s.top p r.group r.whole h.well_formed.paired))
      (rw (← top-is s r h, group-is s r h) (map-pad 3 r.group (wrapped s.top) (wrapped-other s.top 0 (λ e. omega arith))))
      (rw (prices-is s r h) (tail-pad 4 r.prices h.well_formed.priced prices-few))

  module _ (x : ℕ) where
    pub reset-joined-is :
        alone x r.group ≡ false → struct s.timers s.top (set s.whole x 0) (set s.group x 0) s.prices ≡ pack (reset x r)
    reset-joined-is a =
        packed _ (reset_joined x r) (timers-is s r h ∙ sym (length-set r.whole x 0))
        (top-is s r h)
        (rw (whole_is s r h) (clear-pad 3 r.whole x))
        (rw (group-is s r h) (clear-pad 3 r.group x))
        (prices-is s r h)
        ∙ ap pack (sym (reset-joined x r a))

    pub alone-pos : alone x r.group ≡ true → 0 < get_or s.group x 0
    alone-pos a = omega (arith, group_at s r h x, (alone-true x r.group a).0)

    pub reset-alone-is :
        alone x r.group ≡ true
        → struct s.timers (s.top - 1) (set s.whole x 0) (set (map (lowered (get_or s.group x 0)) s.group) x 0)
        (merge (s.top - get_or s.group x 0) s.prices ++ 0 ∷ [])
        ≡ pack (reset x r)
    reset-alone-is a =
        let g = get_or r.group x 0 in
        let b : suc (top r - g) < length r.prices =
        merged-in (length r.prices) g (alone-true x r.group a).0 (h.well_formed.below x) in
        let k : s.top - 1 ≡ pred (length (merge (top r - g) r.prices)) =
        omega (arith, prices-many s r h, length-merge (top r - g) r.prices b) in
        packed _ (reset_alone x r) (timers-is s r h ∙ sym (length-set r.whole x 0))
        k
        (rw (whole_is s r h) (clear-pad 3 r.whole x))
        (rw (group_at s r h x, group-is s r h, map-pad 3 r.group (lowered g) (lowered-low g 0 (omega arith)))
        (clear-pad 3 (map (lowered g) r.group) x))
        (rw (group_at s r h x, top-is s r h, prices-is s r h) (merge-pad 4 (top r - g) r.prices b prices-few))
        ∙ ap pack (sym (reset-alone x r a))
