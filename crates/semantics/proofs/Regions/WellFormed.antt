-- Each operation on a region gives a well-formed region again: k + 1 prices, groups 1 to k inhabited.
-- Assumes nothing.
use Rattle.std.specs.Prelude.{◌≡◌, true, false, length, set}
use Rattle.std.proofs.Math.Path.{refl, sym}
use Rattle.std.proofs.Common.{ap, ◌∙◌, subst, ⊎_elim, le_of_suc-le-suc, arith, length-set}
use mathlib.Core.List.{List, [], ◌∷◌, map, Memᴰ}
use Prim.Native.Nat.{ℕ, zero, suc, pred, ◌-◌, ◌<◌, ◌≤◌}
use Rattle.std.proofs.Math.Decide.{dec_lt, ℕ_discrete}
use Rattle.std.proofs.Math.ListN.{get_or}
use Rattle.semantics.specs.Region.{PricedRegion, WellFormed, count, top, start, charge, linger, delay, leave, arrive, reset, reset_all, alone, merge}
use Rattle.semantics.specs.Regions.Lists.{map-set, map_below, set_below, replicate-zero}
use Rattle.semantics.specs.Regions.Count.{count-pos, count_map, count-set-other, count-set-out}
use Rattle.semantics.specs.Regions.Renumber.{wrapped, wrapped-other, wrapped-below, lowered, lowered-low, lowered-high, lowered-below}
use Rattle.semantics.specs.Regions.Cases.{zero-cases, delay-arrive, delay-leave, linger-empty, linger-same, alone-true, alone-false, reset_alone, reset_joined, reset-alone, reset-joined, alone-cases}
use Rattle.semantics.specs.Regions.Lengths.{SameTimers, start-timers, leave-timers, leave-prices, arrive-timers, arrive-prices, charge-prices, reset-timers, length-merge, merged-in, prices-top}
use Rattle.semantics.proofs.Regions.Lengths.{linger-prices}
use Rattle.semantics.specs.Regions.Groups.{top_pos}

pub start-well-formed : (n : ℕ) → 0 < n → WellFormed (start n)
unfolding start
start-well-formed n p =
    let e = start-timers n in
    record {
      some = rw e.0 p;
      paired = refl;
      priced = omega arith;
      below = λ i. omega (arith, replicate-zero n i);
      full = λ g a b. absurd (omega arith);
    }

-- A region whose timers and groups are those of r, with as many prices.
repriced :
    (r s : PricedRegion) → WellFormed r → s.whole ≡ r.whole → s.group ≡ r.group → length s.prices ≡ length r.prices
    → WellFormed s
repriced r s w a b e =
    record {
      some = rw a w.some;
      paired = rw (a, b) w.paired;
      priced = rw e w.priced;
      below = λ i. rw (b, e) (w.below i);
      full = λ g p h. rw b (w.full g p (rw e at h));
    }

module _ (r : PricedRegion) (w : WellFormed r) where
  pub charge-well-formed : (price : ℕ) → WellFormed (charge price r)
  unfolding charge
  charge-well-formed price = repriced r (charge price r) w refl refl (charge-prices r price)

  pub linger-well-formed : (rate : ℕ) → WellFormed (linger rate r)
  linger-well-formed rate =
      ⊎_elim
      (λ z.
      let e = linger-empty rate r z in
      repriced r (linger rate r) w (ap (λ (s : PricedRegion). s.whole) e) (ap (λ (s : PricedRegion). s.group) e) (linger-prices r rate))
      (λ p. subst WellFormed (sym (linger-same rate r p)) w)
      (zero-cases r)

  -- Every group moves up one place.
  pub leave-well-formed : (rate : ℕ) → 0 < count 0 r.group → WellFormed (leave rate r)
  unfolding leave
  leave-well-formed rate z =
      let e = leave-prices r rate in
      record {
        some = w.some;
        paired = (leave-timers r rate).group ∙ w.paired;
        priced = rw e (omega arith);
        below = λ i. rw e (map_below suc _ (omega arith) r.group (λ j b. omega (arith, w.below j)) i);
        full = λ g a b. full g a (rw e at b);
      }
    where
      full : (g : ℕ) → 0 < g → g < suc (length r.prices) → 0 < count g (map suc r.group)
      full zero a b = absurd (omega arith)
      full (suc zero) a b = omega (arith, count_map suc 0 1 refl r.group)
      full (suc (suc g)) a b =
          omega (arith, count_map suc (suc g) (suc (suc g)) refl r.group, w.full (suc g) (omega arith) (le_of_suc-le-suc b))

  -- The highest group becomes r0.
  pub arrive-well-formed : count 0 r.group ≡ 0 → WellFormed (arrive r)
  unfolding arrive
  arrive-well-formed z =
      let e = arrive-prices r in
      let p = top_pos r w z in
      let t = arrive-timers r in
      record {
        some = rw t.whole w.some;
        paired = t.group ∙ w.paired ∙ sym t.whole;
        priced = rw e p;
        below = λ i. rw e (map_below (wrapped (top r)) (top r) p r.group (λ j b. wrapped-below (top r) (get_or r.group j 0) p (highest j)) i);
        full = λ g a b. full g a (rw e at b);
      }
    where
      highest : (j : ℕ) → get_or r.group j 0 ≤ top r
      highest j = omega (arith, w.below j, prices-top r w.priced)

      full : (g : ℕ) → 0 < g → g < pred (length r.prices) → 0 < count g (map (wrapped (top r)) r.group)
      full g a b =
          omega (arith, count_map (wrapped (top r)) g g (wrapped-other (top r) g (λ e. omega arith)) r.group, w.full g a (omega arith))

  pub delay-well-formed : (rate : ℕ) → WellFormed (delay rate r)
  delay-well-formed rate =
      ⊎_elim (λ z. subst WellFormed (sym (delay-arrive rate r z)) (arrive-well-formed z))
      (λ p. subst WellFormed (sym (delay-leave rate r p)) (leave-well-formed rate p))
      (zero-cases r)

  module _ (x : ℕ) (in-range : x < length r.whole) where
    x-in : x < length r.group
    x-in = rw w.paired in-range

    -- The timer leaves other timers in its group, or was in r0.
    joined-well-formed : alone x r.group ≡ false → WellFormed (reset_joined x r)
    joined-well-formed a =
        record {
          some = rw (length-set r.whole x 0) w.some;
          paired = length-set r.group x 0 ∙ w.paired ∙ sym (length-set r.whole x 0);
          priced = w.priced;
          below = set_below (length r.prices) 0 w.priced r.group x w.below;
          full = full;
        }
      where
        full : (g : ℕ) → 0 < g → g < length r.prices → 0 < count g (set r.group x 0)
        full g p b = go (ℕ_discrete (get_or r.group x 0) g)
          where
            go : Dec (get_or r.group x 0 ≡ g) → 0 < count g (set r.group x 0)
            go (no n) = omega (arith, count-set-other g 0 x r.group n, w.full g p b)
            go (yes e) =
                let n : (count g r.group ≡ 1 → ⊥) = rw e at (alone-false x r.group a (omega arith)) in
                omega (arith, count-set-out g 0 x r.group x-in e (λ q. omega arith), w.full g p b)

    -- The timer was alone in its group, which is gone.
    alone-well-formed : alone x r.group ≡ true → WellFormed (reset_alone x r)
    alone-well-formed a =
        record {
          some = rw (length-set r.whole x 0) w.some;
          paired = timers.group ∙ w.paired ∙ sym timers.whole;
          priced = omega (arith, fewer, gone-top, gone-pos);
          below = λ j. rw moved (map_below (lowered gone) (length prices') (omega (arith, fewer, gone-top, gone-pos)) group' below j);
          full = λ g p b. rw moved (full g p b);
        }
      where
        gone : ℕ
        gone = get_or r.group x 0

        group' : List ℕ
        group' = set r.group x 0

        prices' : List ℕ
        prices' = merge (top r - gone) r.prices

        timers : SameTimers r (reset_alone x r)
        timers = subst (SameTimers r) (reset-alone x r a) (reset-timers r x)

        gone-pos : 0 < gone
        gone-pos = (alone-true x r.group a).0

        gone-top : gone < length r.prices
        gone-top = w.below x

        fewer : length r.prices ≡ suc (length prices')
        fewer = length-merge (top r - gone) r.prices (merged-in (length r.prices) gone gone-pos gone-top)

        moved : set (map (lowered gone) r.group) x 0 ≡ map (lowered gone) group'
        moved =
            subst (λ (v : ℕ). set (map (lowered gone) r.group) x v ≡ map (lowered gone) group')
            (lowered-low gone 0 (omega arith))
            (map-set (lowered gone) r.group x 0)

        empty : count gone group' ≡ 0
        empty = omega (arith, (alone-true x r.group a).1, count-set-out gone 0 x r.group x-in refl (λ q. omega (arith, gone-pos)))

        below : (j : ℕ) → j < length group' → lowered gone (get_or group' j 0) < length prices'
        below j b =
            let n : (get_or group' j 0 ≡ gone → ⊥) = λ e. omega (arith, count-pos gone j group' b e, empty) in
            let m : get_or group' j 0 < length r.prices = set_below (length r.prices) 0 w.priced r.group x w.below j in
            lowered-below gone (get_or group' j 0) (length prices') n (omega (arith, m, fewer)) (omega (arith, gone-top, fewer))

        full : (g : ℕ) → 0 < g → g < length prices' → 0 < count g (map (lowered gone) group')
        full g p b = go (dec_lt g gone)
          where
            go : Dec (g < gone) → 0 < count g (map (lowered gone) group')
            go (yes h) =
                let m = count_map (lowered gone) g g (lowered-low gone g (omega arith)) group' in
                omega (arith, count-set-other g 0 x r.group (λ e. omega arith), w.full g p (omega (arith, fewer)))
            go (no h) =
                let m = count_map (lowered gone) (suc g) g (lowered-high gone g (omega arith)) group' in
                omega (arith, count-set-other (suc g) 0 x r.group (λ e. omega arith), w.full (suc g) (omega arith) (omega (arith, fewer)))

    pub reset-well-formed : WellFormed (reset x r)
    reset-well-formed =
        ⊎_elim (λ a. subst WellFormed (sym (reset-alone x r a)) (alone-well-formed a))
        (λ a. subst WellFormed (sym (reset-joined x r a)) (joined-well-formed a))
        (alone-cases x r)

-- Several timers, one after another.
pub reset_all-well-formed :
    (xs : List ℕ) (r : PricedRegion) → WellFormed r → ((x : ℕ) → Memᴰ x xs → x < length r.whole) → WellFormed (reset_all xs r)
unfolding reset_all
reset_all-well-formed [] r w h = w
reset_all-well-formed (x ∷ xs) r w h =
    reset_all-well-formed xs (reset x r) (reset-well-formed r w x (h x (Memᴰ.head refl)))
    (λ y m. rw (reset-timers r x).whole (h y (Memᴰ.tail m)))
