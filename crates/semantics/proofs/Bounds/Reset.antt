-- What the reset of one timer does to a region: the groups that are left keep their order, the timer comes to 0, each group that is left is
-- up at a corner exactly if it was up before, and each price is the least of those of the corners that become its corner.
-- Assumes nothing.
use Rattle.std.specs.Prelude.{◌≡◌, refl, Bool, true, false, cond, ◌&&◌, List, map, ℕ, suc, pred, min, ◌+◌, ◌-◌, ◌<◌, ◌≤◌, eqb, ltb, length, get_or, set}
use Rattle.std.proofs.Common.{ap, ◌∙◌, sym, subst, subst₂, ⊎_elim, le_refl, arith, eqb-true, lt-ltb, length-set, get_or-set_same, get_or-set_other}
use Rattle.std.proofs.Math.Path.{fun_ext}
use Rattle.std.proofs.Math.Decide.{dec_le}
use Rattle.std.proofs.lemmas.Bool.{eqb-false}
use Rattle.std.proofs.lemmas.List.{length-map}
use Rattle.semantics.specs.Region.{PricedRegion, WellFormed, count, top, alone, reset}
use Rattle.semantics.specs.Corners.Edges.{reset_corner}
use Rattle.semantics.specs.Regions.Lists.{get_or_map}
use Rattle.semantics.specs.Regions.Count.{count-pos, count-set-out}
use Rattle.semantics.specs.Regions.Renumber.{lowered}
use Rattle.semantics.specs.Regions.Cases.{alone-true, reset_alone, reset_joined, reset-alone, reset-joined, alone-cases}
use Rattle.semantics.specs.Regions.Lengths.{prices-top, reset-alone-prices, merged-in}
use Rattle.semantics.specs.Bounds.Gone.{skip, skip-rising, skip-lowered, skip-bounded, fallen, fallen-there, fallen-down, fallen-up, Fall, falls, stays, fall-up, fall-down, fall-cases}
use Rattle.semantics.specs.Bounds.Prices.{price, Merged, below, at, above, merged}

-- Corner i and its price come from a corner of r.
pub record Source (r : PricedRegion) (corner : ℕ → ℕ) (i c : ℕ) : Type 0 where
  pub from : ℕ
  pub there : from ≤ top r
  pub becomes : corner from ≡ i
  pub same : c ≡ price r from

-- The region s comes from r by resets of the timers that `gone` names, and its corner `corner j` from corner j. Group i of s was group
-- `old i` of r, and is up at `corner j` exactly if that was up at corner j.
pub record ResetTo (gone : ℕ → Bool) (r s : PricedRegion) (corner : ℕ → ℕ) : Type 0 where
  pub old : ℕ → ℕ
  pub timers : length s.whole ≡ length r.whole
  pub grounded : old 0 ≡ 0
  pub rising : (i j : ℕ) → i < j → j ≤ top s → old i < old j
  pub bounded : (i : ℕ) → i ≤ top s → old i ≤ top r
  pub zero-whole : (x : ℕ) → x < length r.whole → gone x ≡ true → get_or s.whole x 0 ≡ 0
  pub zero-group : (x : ℕ) → x < length r.whole → gone x ≡ true → get_or s.group x 0 ≡ 0
  pub same_whole : (x : ℕ) → x < length r.whole → gone x ≡ false → get_or s.whole x 0 ≡ get_or r.whole x 0
  pub old-group : (x : ℕ) → x < length r.whole → gone x ≡ false → old (get_or s.group x 0) ≡ get_or r.group x 0
  pub there : (j : ℕ) → j ≤ top r → corner j ≤ top s
  pub down : (i j : ℕ) → i ≤ top s → j ≤ top r → i + corner j ≤ top s → old i + j ≤ top r
  pub up : (i j : ℕ) → i ≤ top s → j ≤ top r → top s < i + corner j → top r < old i + j
  pub least : (j : ℕ) → j ≤ top r → price s (corner j) ≤ price r j
  pub source : (i : ℕ) → i ≤ top s → Source r corner i (price s i)

module _ (r : PricedRegion) (w : WellFormed r) (x : ℕ) (in-range : x < length r.whole) where
  there-group : (y : ℕ) → y < length r.whole → y < length r.group
  there-group y h = omega (arith, w.paired)

  -- The timer was not alone in its group, or was in r0: every group stays.
  joined_to : alone x r.group ≡ false → ResetTo (λ y. eqb y x) r (reset_joined x r) (λ j. j)
  joined_to a = record {
    old = λ i. i;
    timers = length-set r.whole x 0;
    grounded = refl;
    rising = λ i j h l. h;
    bounded = λ i h. h;
    zero-whole = λ y h e. rw (eqb-true y x e) (get_or-set_same r.whole x 0 0 in-range);
    zero-group = λ y h e. rw (eqb-true y x e) (get_or-set_same r.group x 0 0 (there-group x in-range));
    same_whole = λ y h e. get_or-set_other r.whole x y 0 0 (eqb-false y x e);
    old-group = λ y h e. get_or-set_other r.group x y 0 0 (eqb-false y x e);
    there = λ j h. h;
    down = λ i j h l k. k;
    up = λ i j h l k. k;
    least = λ j h. le_refl _;
    source = λ i h. record { from = i; there = h; becomes = refl; same = refl };
  }

  -- The timer was alone in its group, which is gone.
  module _ (a : alone x r.group ≡ true) where
    gone-raised : 0 < get_or r.group x 0
    gone-raised = (alone-true x r.group a).0

    gone-bounded : get_or r.group x 0 ≤ top r
    gone-bounded = omega (arith, w.below x, prices-top r w.priced)

    top-falls : top (reset_alone x r) ≡ pred (top r)
    top-falls =
        let e : length r.prices ≡ suc (length (reset_alone x r).prices) =
        subst (λ (s : PricedRegion). length r.prices ≡ suc (length s.prices)) (reset-alone x r a) (reset-alone-prices r w x a) in
        ap (λ (n : ℕ). pred (pred n)) (sym e)

    -- No other timer is in that group.
    other-group : (y : ℕ) → y < length r.whole → (y ≡ x → ⊥) → get_or r.group y 0 ≡ get_or r.group x 0 → ⊥
    other-group y h n e =
        let g = get_or r.group x 0 in
        let none : count g (set r.group x 0) ≡ 0 =
        omega (
          arith,
          (alone-true x r.group a).1,
          count-set-out g 0 x r.group (there-group x in-range) refl (λ z. omega (arith, gone-raised)),
        ) in
        let there : y < length (set r.group x 0) = omega (arith, length-set r.group x 0, there-group y h) in
        omega (arith, count-pos g y (set r.group x 0) there (get_or-set_other r.group x y 0 0 n ∙ e))

    -- The prices at k - g and k - g + 1 become one.
    merging : (i : ℕ) → Merged (top r - get_or r.group x 0) r.prices i
    merging i =
        merged (top r - get_or r.group x 0) r.prices i (merged-in (length r.prices) (get_or r.group x 0) gone-raised (w.below x))

    alone-least : (j : ℕ) → price (reset_alone x r) (fallen (top r) (get_or r.group x 0) j) ≤ price r j
    alone-least j = go _ refl (fall-cases (top r) (get_or r.group x 0) gone-raised gone-bounded j) (merging _)
      where
        go :
            (i : ℕ) → fallen (top r) (get_or r.group x 0) j ≡ i → Fall (top r) (get_or r.group x 0) j
            → Merged (top r - get_or r.group x 0) r.prices i → price (reset_alone x r) i ≤ price r j
        go i f (falls u e) (below l m) = absurd (omega (arith, gone-bounded))
        go i f (falls u e) (at l m) = let s : suc i ≡ j = omega (arith, gone-bounded) in omega (arith, ap (price r) s)
        go i f (falls u e) (above l m) = let s : suc i ≡ j = omega (arith, gone-bounded) in omega (arith, ap (price r) s)
        go i f (stays u e) (below l m) = let s : i ≡ j = omega arith in omega (arith, ap (price r) s)
        go i f (stays u e) (at l m) = let s : i ≡ j = omega arith in omega (arith, ap (price r) s)
        go i f (stays u e) (above l m) = absurd (omega (arith, gone-bounded))

    alone-source : (i : ℕ) → i ≤ pred (top r) → Source r (fallen (top r) (get_or r.group x 0)) i (price (reset_alone x r) i)
    alone-source i h = go (merging i)
      where
        g : ℕ
        g = get_or r.group x 0

        stay : g + i ≤ top r → price (reset_alone x r) i ≡ price r i → Source r (fallen (top r) g) i (price (reset_alone x r) i)
        stay l e = record { from = i; there = omega arith; becomes = fall-down (top r) g gone-raised gone-bounded i l; same = e }

        fall : top r < g + suc i → price (reset_alone x r) i ≡ price r (suc i) → Source r (fallen (top r) g) i (price (reset_alone x r) i)
        fall l e = record {
          from = suc i;
          there = omega (arith, gone-raised, gone-bounded);
          becomes = fall-up (top r) g gone-raised gone-bounded (suc i) l;
          same = e;
        }

        smaller :
            i ≡ top r - g → Dec (price r i ≤ price r (suc i)) → price (reset_alone x r) i ≡ min (price r i) (price r (suc i))
            → Source r (fallen (top r) g) i (price (reset_alone x r) i)
        smaller l (yes b) e = stay (omega (arith, gone-bounded)) (omega arith)
        smaller l (no b) e = fall (omega (arith, gone-bounded)) (omega arith)

        go : Merged (top r - g) r.prices i → Source r (fallen (top r) g) i (price (reset_alone x r) i)
        go (below l e) = stay (omega (arith, gone-bounded)) e
        go (at l e) = smaller l (dec_le (price r i) (price r (suc i))) e
        go (above l e) = fall (omega (arith, gone-bounded)) e

    alone-to : ResetTo (λ y. eqb y x) r (reset_alone x r) (fallen (top r) (get_or r.group x 0))
    alone-to = record {
      old = skip g;
      timers = length-set r.whole x 0;
      grounded = rw (lt-ltb 0 g gone-raised) refl;
      rising = λ i j h l. skip-rising g i j h;
      bounded = λ i h. skip-bounded (top r) g gone-raised gone-bounded i (rw top-falls at h);
      zero-whole = λ y h e. rw (eqb-true y x e) (get_or-set_same r.whole x 0 0 in-range);
      zero-group = λ y h e.
          rw (eqb-true y x e) (get_or-set_same moved x 0 0 (omega (arith, length-map r.group (lowered g), there-group x in-range)));
      same_whole = λ y h e. get_or-set_other r.whole x y 0 0 (eqb-false y x e);
      old-group = λ y h e.
          ap (skip g) (get_or-set_other moved x y 0 0 (eqb-false y x e) ∙ get_or_map (lowered g) r.group y (there-group y h))
          ∙ skip-lowered g (get_or r.group y 0) (other-group y h (eqb-false y x e));
      there = λ j h. rw top-falls (fallen-there (top r) g gone-raised gone-bounded j h);
      down = λ i j h l k. fallen-down (top r) g gone-raised gone-bounded i j (rw top-falls at k);
      up = λ i j h l k. fallen-up (top r) g gone-raised gone-bounded i j (rw top-falls at k);
      least = λ j h. alone-least j;
      source = λ i h. alone-source i (rw top-falls at h);
    }
      where
        g : ℕ
        g = get_or r.group x 0

        moved : List ℕ
        moved = map (lowered g) r.group

  pub reset-to : ResetTo (λ y. eqb y x) r (reset x r) (reset_corner x r)
  reset-to =
      ⊎_elim (λ a. subst₂ (ResetTo (λ y. eqb y x) r) (sym (reset-alone x r a)) (sym (corner-by a)) (alone-to a))
      (λ a. subst₂ (ResetTo (λ y. eqb y x) r) (sym (reset-joined x r a)) (sym (corner-by a)) (joined_to a))
      (alone-cases x r)
    where
      -- What a corner becomes goes by the test.
      corner-by : {b : Bool} → alone x r.group ≡ b → reset_corner x r ≡ (λ j. cond (b && ltb (top r - get_or r.group x 0) j) (pred j) j)
      corner-by e = fun_ext (λ j. ap (λ (c : Bool). cond (c && ltb (top r - get_or r.group x 0) j) (pred j) j) e)
