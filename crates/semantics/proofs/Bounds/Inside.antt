-- Points of a region by the fractions of its groups: the timers of group i are all f i q-ths past their whole minutes, f rises from 0 at r0,
-- and stays below q. What waiting does to such a point: it comes to the next region (leave, arrive) or stays in its own.
-- Assumes nothing.
use Rattle.std.specs.Prelude.{◌≡◌, refl, length, get_or}
use Rattle.std.proofs.Common.{ap, ◌∙◌, sym, mod-eq_of_lt}
use Prim.Native.Nat.{ℕ, zero, suc, pred, ◌+◌, ◌*◌, ◌/◌, ◌%◌, ◌<◌, ◌≤◌}
use Rattle.std.proofs.Math.Nat.{mul-add-div, div-eq_of_lt, mul-add-mod_self_left}
use Rattle.std.proofs.Math.Decide.{ℕ_discrete}
use native.Mathlib.Omega.{arith}
use Rattle.semantics.specs.Region.{PricedRegion, WellFormed, count, top, start, leave, arrive}
use Rattle.semantics.specs.Point.{Point}
use Rattle.semantics.specs.Corners.Edges.{SameShape}
use Rattle.semantics.specs.Regions.Lists.{replicate-zero}
use Rattle.semantics.specs.Regions.Lengths.{start-prices, leave-top, arrive-timers, prices-top}
use Rattle.semantics.proofs.Regions.Lengths.{arrive-top}
use Rattle.semantics.proofs.Regions.Points.{point_of}
use Rattle.semantics.specs.Bounds.Entries.{raised, leave-group, Arrived, on, off, arrived}

-- The values v, in q-ths, are a point of the region r, where the timers of group i have the fraction f i.
pub record Inside (q : ℕ) (v f : ℕ → ℕ) (r : PricedRegion) : Type 0 where
  pub grounded : f 0 ≡ 0
  pub rising : (i j : ℕ) → i < j → j ≤ top r → f i < f j
  pub small : (i : ℕ) → i ≤ top r → f i < q
  pub value : (x : ℕ) → x < length r.whole → v x ≡ q * get_or r.whole x 0 + f (get_or r.group x 0)

-- Prices do not matter.
pub inside-shape : (q : ℕ) (v f : ℕ → ℕ) (r s : PricedRegion) → SameShape r s → Inside q v f r → Inside q v f s
inside-shape q v f r s e p = record {
  grounded = p.grounded;
  rising = λ i j h l. p.rising i j h (omega (arith, ap pred e.corners));
  small = λ i l. p.small i (omega (arith, ap pred e.corners));
  value = λ x h. rw (← e.whole, ← e.group) (p.value x (rw e.whole h));
}

-- The fractions after a wait of d: 0 for r0, and for group i + 1 that of the group `was i` before, and d.
abbrev pub later : (ℕ → ℕ) → ℕ → (ℕ → ℕ) → ℕ → ℕ
later was d f zero = 0
later was d f (suc i) = f (was i) + d

module _ (r : PricedRegion) (w : WellFormed r) (q : ℕ) (v f : ℕ → ℕ) (p : Inside q v f r) where
  group-in : (x : ℕ) → get_or r.group x 0 ≤ top r
  group-in x = omega (arith, w.below x, prices-top r w.priced)

  -- No fraction is above that of the highest group.
  below_top : (i : ℕ) → i ≤ top r → f i ≤ f (top r)
  below_top i h = go (ℕ_discrete i (top r))
    where
      go : Dec (i ≡ top r) → f i ≤ f (top r)
      go (yes e) = omega (arith, ap f e)
      go (no n) = omega (arith, p.rising i (top r) (omega arith) (omega arith))

  -- Such values are a point of the region as it is defined.
  pub inside-point : Point q v r
  inside-point = record {
    from_one = omega (arith, p.small 0 (omega arith));
    integer = λ x h. sym (integer x h);
    at_zero = λ x h. (λ e. fraction x h ∙ ap f e ∙ p.grounded, λ e. at-ground (get_or r.group x 0) (group-in x) (sym (fraction x h) ∙ e));
    same = λ x y h l e. fraction x h ∙ ap f e ∙ sym (fraction y l);
    rising = λ x y h l e. rw (fraction x h, fraction y l) (p.rising (get_or r.group x 0) (get_or r.group y 0) e (group-in y));
  }
    where
      some-q : 0 < q
      some-q = omega (arith, p.small 0 (omega arith))

      integer : (x : ℕ) → x < length r.whole → v x / q ≡ get_or r.whole x 0
      integer x h =
          ap (λ (n : ℕ). n / q) (p.value x h)
          ∙ mul-add-div {m = q} some-q (get_or r.whole x 0) (f (get_or r.group x 0))
          ∙ omega (arith, div-eq_of_lt (p.small (get_or r.group x 0) (group-in x)))

      fraction : (x : ℕ) → x < length r.whole → v x % q ≡ f (get_or r.group x 0)
      fraction x h =
          ap (λ (n : ℕ). n % q) (p.value x h)
          ∙ mul-add-mod_self_left q (get_or r.whole x 0) (f (get_or r.group x 0))
          ∙ mod-eq_of_lt (p.small (get_or r.group x 0) (group-in x))

      at-ground : (g : ℕ) → g ≤ top r → f g ≡ 0 → g ≡ 0
      at-ground zero h e = refl
      at-ground (suc g) h e = absurd (omega (arith, p.rising 0 (suc g) (omega arith) h))

  module _ (d : ℕ) (v' : ℕ → ℕ) (waited : (x : ℕ) → v' x ≡ v x + d) where
    -- Waiting d q-ths, not 0, out of r0, while no timer comes to a whole minute.
    pub inside-leave : (rate : ℕ) → 0 < d → f (top r) + d < q → Inside q v' (later (λ i. i) d f) (leave rate r)
    unfolding leave
    inside-leave rate pos short = record {
      grounded = refl;
      rising = λ i j h l. rising i j h (omega (arith, leave-top r w rate));
      small = λ i l. small i (omega (arith, leave-top r w rate));
      value = λ x h. value x h;
    }
      where
        rising : (i j : ℕ) → i < j → j ≤ suc (top r) → later (λ i. i) d f i < later (λ i. i) d f j
        rising i zero h l = absurd (omega arith)
        rising zero (suc j) h l = omega arith
        rising (suc i) (suc j) h l = omega (arith, p.rising i j (omega arith) (omega arith))

        small : (i : ℕ) → i ≤ suc (top r) → later (λ i. i) d f i < q
        small zero l = omega arith
        small (suc i) l = omega (arith, below_top i (omega arith))

        value : (x : ℕ) → x < length r.whole → v' x ≡ q * get_or r.whole x 0 + later (λ i. i) d f (get_or (leave rate r).group x 0)
        value x h = rw (leave-group r w x h rate) (omega (arith, waited x, p.value x h))

    module _ (empty : count 0 r.group ≡ 0) where
      later-rising : (i j : ℕ) → i < j → j ≤ top r → later suc d f i < later suc d f j
      later-rising i zero h l = absurd (omega arith)
      later-rising zero (suc j) h l = omega (arith, p.rising 0 (suc j) (omega arith) l)
      later-rising (suc i) (suc j) h l = omega (arith, p.rising (suc i) (suc j) h l)

      later-raised : (i : ℕ) → 0 < i → later suc d f i ≡ f i + d
      later-raised zero h = absurd (omega arith)
      later-raised (suc i) h = refl

      -- Waiting in a region with r0 empty, while no timer comes to a whole minute.
      pub inside-stay : f (top r) + d < q → Inside q v' (later suc d f) r
      inside-stay short = record {
        grounded = refl;
        rising = later-rising;
        small = small;
        value = λ x h. omega (arith, waited x, p.value x h, later-raised (get_or r.group x 0) (raised r w x h empty));
      }
        where
          small : (i : ℕ) → i ≤ top r → later suc d f i < q
          small zero l = omega arith
          small (suc i) l = omega (arith, below_top (suc i) l)

      -- Waiting until the highest group comes to its whole minute.
      pub inside-arrive : f (top r) + d ≡ q → Inside q v' (later suc d f) (arrive r)
      inside-arrive due = record {
        grounded = refl;
        rising = λ i j h l. later-rising i j h (omega (arith, arrive-top r w));
        small = λ i l. small i (omega (arith, arrive-top r w));
        value = λ x h. value x (omega (arith, (arrive-timers r).whole)) (arrived r w x (omega (arith, (arrive-timers r).whole)));
      }
        where
          small : (i : ℕ) → i ≤ pred (top r) → later suc d f i < q
          small zero l = omega (arith, p.small 0 (omega arith))
          small (suc i) l = omega (arith, p.rising (suc i) (top r) (omega arith) (omega arith))

          value :
              (x : ℕ) → x < length r.whole → Arrived r x
              → v' x ≡ q * get_or (arrive r).whole x 0 + later suc d f (get_or (arrive r).group x 0)
          value x h (on e g u) = rw (g, u) (omega (arith, waited x, p.value x h, ap f e))
          value x h (off n g u) =
              rw (g, u) (omega (arith, waited x, p.value x h, later-raised (get_or r.group x 0) (raised r w x h empty)))

-- Every well-formed region has a point: the group's number as the fraction.
pub inside-own : (r : PricedRegion) → WellFormed r → Inside (suc (top r)) (point_of r) (λ i. i) r
inside-own r w = record {
  grounded = refl;
  rising = λ i j h l. h;
  small = λ i l. omega arith;
  value = λ x h. refl;
}

-- The one point of the start region.
pub start-inside : (n q : ℕ) → 0 < q → Inside q (λ x. 0) (λ i. i) (start n)
unfolding start
start-inside n q h = record {
  grounded = refl;
  rising = λ i j h l. h;
  small = λ i l. omega (arith, start-prices n);
  value = λ x h. rw (replicate-zero n x) (omega arith);
}
