-- How much room the operations leave: what a caller needs for the bounds that `delay`, `linger` and `charge` require.
-- Assumes nothing.
use Rattle.std.specs.Prelude.{◌≡◌, Bool, true, false, cond, List, [], ◌∷◌, ◌++◌, map, ℕ, zero, suc, ◌+◌, ◌-◌, ◌<◌, ◌≤◌, ◌^◌, eqb, length, get_or, drop}
use Rattle.std.proofs.Common.{sym, arith}
use Rattle.std.proofs.Math.Path.{subst}
use Rattle.std.proofs.Math.Logic.{⊎_elim}
use Rattle.std.proofs.Math.Decide.{dec_lt}
use Rattle.std.proofs.Math.ListN.{get_or-eq_default}
use Rattle.semantics.specs.Region.{PricedRegion, WellFormed, top, risen, merge, start, leave, arrive, delay, linger, reset, reset_all, charge, within}
use Rattle.semantics.specs.Regions.Lists.{map_below, set_below, replicate-zero}
use Rattle.semantics.specs.Regions.Cases.{zero-cases, delay-arrive, delay-leave, lingered, linger-empty, linger-same, reset_alone, reset-alone, reset-joined, alone-cases}
use Rattle.semantics.proofs.Nodes.Regions.{within-whole}
use Rattle.regions.specs.Held.{PriceRoom, WholeRoom}

-- Every entry is below m; what is read past the end is 0.
abbrev pub Below : ℕ → List ℕ → Type 0
Below m l = (i : ℕ) → get_or l i 0 < m

drop-below : (m : ℕ) (l : List ℕ) → Below m l → Below m (drop 1 l)
drop-below m [] h i = h i
drop-below m (x ∷ l) h i = h (suc i)

append-below : (m : ℕ) (l k : List ℕ) → Below m l → Below m k → Below m (l ++ k)
append-below m [] k h g i = g i
append-below m (x ∷ l) k h g zero = h 0
append-below m (x ∷ l) k h g (suc i) = append-below m l k (λ j. h (suc j)) g i

one_below : (m x : ℕ) → x < m → Below m (x ∷ [])
one_below m x p zero = p
one_below m x p (suc i) = omega arith

merge-below : (m i : ℕ) (l : List ℕ) → Below m l → Below m (merge i l)
merge-below m i [] h j = h j
merge-below m i (c ∷ []) h j = h j
merge-below m zero (c ∷ d ∷ cs) h zero = omega (arith, h 0)
merge-below m zero (c ∷ d ∷ cs) h (suc j) = h (suc (suc j))
merge-below m (suc i) (c ∷ d ∷ cs) h zero = h 0
merge-below m (suc i) (c ∷ d ∷ cs) h (suc j) = merge-below m i (d ∷ cs) (λ k. h (suc k)) j

-- Room for an amount, as a bound of the prices.
below_of : (amount : ℕ) (l : List ℕ) → ((i : ℕ) → get_or l i 0 + amount < 2 ^ 32) → Below (2 ^ 32 - amount) l
below_of amount l h i = omega (arith, h i)

room_of : (amount : ℕ) (l : List ℕ) → Below (2 ^ 32 - amount) l → (i : ℕ) → get_or l i 0 + amount < 2 ^ 32
room_of amount l h i = omega (arith, h i)

pub start-price-room : (n amount : ℕ) → amount < 2 ^ 32 → PriceRoom amount (start n)
unfolding start
start-price-room n amount h = room_of amount (0 ∷ []) (one_below (2 ^ 32 - amount) 0 (omega arith))

module _ (r : PricedRegion) where
  pub less-room : (amount more : ℕ) → amount ≤ more → PriceRoom more r → PriceRoom amount r
  less-room amount more p h i = omega (arith, h i)

  -- A charge takes its price.
  pub charge-price-room : (price amount : ℕ) → PriceRoom (price + amount) r → PriceRoom amount (charge price r)
  unfolding charge
  charge-price-room price amount h =
      room_of amount (map (λ c. c + price) r.prices)
      (map_below (λ c. c + price) (2 ^ 32 - amount) (omega (arith, h 0)) r.prices (λ i b. omega (arith, h i)))

  -- A delay takes the rate.
  pub delay-price-room : (rate amount : ℕ) → PriceRoom (rate + amount) r → PriceRoom amount (delay rate r)
  unfolding arrive leave
  delay-price-room rate amount h =
      let kept = below_of amount r.prices (less-room amount (rate + amount) (omega arith) h) in
      ⊎_elim
      (λ z. subst (PriceRoom amount) (sym (delay-arrive rate r z))
      (room_of amount (drop 1 r.prices) (drop-below (2 ^ 32 - amount) r.prices kept)))
      (λ p. subst (PriceRoom amount) (sym (delay-leave rate r p))
      (room_of amount (r.prices ++ (get_or r.prices 0 0 + rate) ∷ [])
      (append-below (2 ^ 32 - amount) r.prices ((get_or r.prices 0 0 + rate) ∷ []) kept
      (one_below (2 ^ 32 - amount) _ (omega (arith, h 0))))))
      (zero-cases r)

  -- Linger and reset take none: a price becomes the smaller of two.
  pub linger-price-room : (rate amount : ℕ) → PriceRoom amount r → PriceRoom amount (linger rate r)
  linger-price-room rate amount h =
      let kept = below_of amount r.prices h in
      ⊎_elim
      (λ z. subst (PriceRoom amount) (sym (linger-empty rate r z))
      (room_of amount (lingered rate r).prices (set_below (2 ^ 32 - amount) _ (omega (arith, h (top r))) r.prices (top r) kept)))
      (λ p. subst (PriceRoom amount) (sym (linger-same rate r p)) h)
      (zero-cases r)

  pub reset-price-room : (x amount : ℕ) → PriceRoom amount r → PriceRoom amount (reset x r)
  reset-price-room x amount h =
      ⊎_elim
      (λ a. subst (PriceRoom amount) (sym (reset-alone x r a))
      (room_of amount (reset_alone x r).prices (merge-below (2 ^ 32 - amount) _ r.prices (below_of amount r.prices h))))
      (λ a. subst (PriceRoom amount) (sym (reset-joined x r a)) h)
      (alone-cases x r)

  pub linger-whole-room : (rate : ℕ) → WholeRoom r → WholeRoom (linger rate r)
  linger-whole-room rate h =
      ⊎_elim (λ z. subst WholeRoom (sym (linger-empty rate r z)) h) (λ p. subst WholeRoom (sym (linger-same rate r p)) h) (zero-cases r)

  pub charge-whole-room : (price : ℕ) → WholeRoom r → WholeRoom (charge price r)
  unfolding charge
  charge-whole-room price h = h

  pub reset-whole-room : (x : ℕ) → WholeRoom r → WholeRoom (reset x r)
  reset-whole-room x h =
      let cleared = set_below 255 0 (omega arith) r.whole x h in
      ⊎_elim (λ a. subst WholeRoom (sym (reset-alone x r a)) cleared) (λ a. subst WholeRoom (sym (reset-joined x r a)) cleared)
      (alone-cases x r)

-- A delay takes no whole part further than one minute.
risen-most : (k : ℕ) (gs ws : List ℕ) (i : ℕ) → get_or (risen k gs ws) i 0 ≤ suc (get_or ws i 0)
risen-most k [] ws i = omega arith
risen-most k (g ∷ gs) [] i = omega arith
risen-most k (g ∷ gs) (w ∷ ws) zero = most (eqb g k)
  where
    most : (b : Bool) → cond b (suc w) w ≤ suc w
    most true = omega arith
    most false = omega arith
risen-most k (g ∷ gs) (w ∷ ws) (suc i) = risen-most k gs ws i

pub delay-whole : (r : PricedRegion) (rate i : ℕ) → get_or (delay rate r).whole i 0 ≤ suc (get_or r.whole i 0)
unfolding arrive leave
delay-whole r rate i =
    ⊎_elim (λ z. rw (delay-arrive rate r z) (risen-most (top r) r.group r.whole i)) (λ p. rw (delay-leave rate r p) (omega arith)) (zero-cases r)

pub start-whole-room : (n : ℕ) → WholeRoom (start n)
unfolding start
start-whole-room n i = omega (arith, replicate-zero n i)

-- Several resets.
pub reset_all-price-room : (xs : List ℕ) (r : PricedRegion) (amount : ℕ) → PriceRoom amount r → PriceRoom amount (reset_all xs r)
unfolding reset_all
reset_all-price-room [] r amount h = h
reset_all-price-room (x ∷ xs) r amount h = reset_all-price-room xs (reset x r) amount (reset-price-room r x amount h)

pub reset_all-whole-room : (xs : List ℕ) (r : PricedRegion) → WholeRoom r → WholeRoom (reset_all xs r)
unfolding reset_all
reset_all-whole-room [] r h = h
reset_all-whole-room (x ∷ xs) r h = reset_all-whole-room xs (reset x r) (reset-whole-room r x h)

-- A region that is within its ceilings has room for whole parts, so that it can be delayed.
pub within-whole-room :
    (r : PricedRegion) → WellFormed r → (ceilings : List ℕ) → length ceilings ≡ length r.whole → Below 255 ceilings
    → within ceilings r ≡ true → WholeRoom r
within-whole-room r w ceilings e small t i = go (dec_lt i (length ceilings))
  where
    go : Dec (i < length ceilings) → get_or r.whole i 0 < 255
    go (yes b) = omega (arith, within-whole r w ceilings (omega arith) t i b, small i)
    go (no b) = omega (arith, get_or-eq_default r.whole 0 {n = i} (omega arith))
