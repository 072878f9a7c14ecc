-- What goes by the shape of a region, and not by its prices: whether it is well-formed and meets conditions, and the shapes to which the
-- operations lead.
-- Assumes nothing.
use Rattle.std.specs.Prelude.{◌≡◌, ◌&&◌, List, [], ◌∷◌, map, length}
use Rattle.std.proofs.Math.Path.{refl, ap, sym}
use Rattle.std.proofs.Common.{ap₂, ◌∙◌, ⊎_elim, arith, length-set}
use Prim.Native.Nat.{ℕ, zero, suc, pred}
use Rattle.std.proofs.Math.Nat.{suc_inj}
use Rattle.semantics.specs.Condition.{Condition}
use Rattle.semantics.specs.Automaton.{Automaton, mode_at, move_at}
use Rattle.semantics.specs.Region.{PricedRegion, WellFormed, top, merge, leave, arrive, delay, reset, reset_all, charge, meets, meets_all, within_from, within}
use Rattle.semantics.specs.Corners.Edges.{SameShape}
use Rattle.semantics.specs.Regions.Cases.{zero-cases, delay-arrive, delay-leave, lingered, reset_alone, reset_joined, reset-alone, reset-joined, alone-cases}
use Rattle.semantics.specs.Regions.Lengths.{leave-prices, arrive-prices, charge-prices}
use Rattle.semantics.proofs.Bounds.Stays.{Admits}
use Rattle.semantics.proofs.Bounds.Steps.{moved_by}

-- How many prices are left where two become one.
merge-same : (i : ℕ) (cs ds : List ℕ) → length cs ≡ length ds → length (merge i cs) ≡ length (merge i ds)
merge-same i [] [] e = refl
merge-same i [] (d ∷ ds) e = absurd (omega arith)
merge-same i (c ∷ cs) [] e = absurd (omega arith)
merge-same i (c ∷ []) (d ∷ []) e = refl
merge-same i (c ∷ []) (d ∷ d' ∷ ds) e = absurd (omega arith)
merge-same i (c ∷ c' ∷ cs) (d ∷ []) e = absurd (omega arith)
merge-same zero (c ∷ c' ∷ cs) (d ∷ d' ∷ ds) e = suc_inj e
merge-same (suc i) (c ∷ c' ∷ cs) (d ∷ d' ∷ ds) e = ap suc (merge-same i (c' ∷ cs) (d' ∷ ds) (suc_inj e))

pub shape-sym : (r s : PricedRegion) → SameShape r s → SameShape s r
shape-sym r s e = record { whole = sym e.whole; group = sym e.group; corners = sym e.corners }

pub shape-trans : (r s t : PricedRegion) → SameShape r s → SameShape s t → SameShape r t
shape-trans r s t e f = record { whole = e.whole ∙ f.whole; group = e.group ∙ f.group; corners = e.corners ∙ f.corners }

pub shape-linger : (rate : ℕ) (r : PricedRegion) → SameShape r (lingered rate r)
shape-linger rate r = record { whole = refl; group = refl; corners = sym (length-set r.prices (top r) _) }

-- The rate of a delay shows only in the prices.
leave-rates : (rate rate' : ℕ) (r : PricedRegion) → SameShape (leave rate r) (leave rate' r)
unfolding leave
leave-rates rate rate' r = record { whole = refl; group = refl; corners = leave-prices r rate ∙ sym (leave-prices r rate') }

pub shape-delay : (rate rate' : ℕ) (r : PricedRegion) → SameShape (delay rate r) (delay rate' r)
shape-delay rate rate' r =
    ⊎_elim (λ z. rw (delay-arrive rate r z, delay-arrive rate' r z) (record { whole = refl; group = refl; corners = refl }))
    (λ z. rw (delay-leave rate r z, delay-leave rate' r z) (leave-rates rate rate' r))
    (zero-cases r)

pub shape-charge : (price : ℕ) (r : PricedRegion) → SameShape r (charge price r)
unfolding charge
shape-charge price r = record { whole = refl; group = refl; corners = sym (charge-prices r price) }

pub shape-well-formed : (r s : PricedRegion) → SameShape r s → WellFormed r → WellFormed s
shape-well-formed r s e w = record {
  some = rw (← e.whole) w.some;
  paired = rw (← e.whole, ← e.group) w.paired;
  priced = rw (← e.corners) w.priced;
  below = λ i. rw (← e.group, ← e.corners) (w.below i);
  full = λ g h l. rw (← e.group) (w.full g h (rw (← e.corners) at l));
}

module _ (r s : PricedRegion) (e : SameShape r s) where
  pub shape-top : top r ≡ top s
  shape-top = ap pred e.corners

  pub shape-leave : (rate : ℕ) → SameShape (leave rate r) (leave rate s)
  unfolding leave
  shape-leave rate = record {
    whole = e.whole;
    group = ap (map suc) e.group;
    corners = leave-prices r rate ∙ ap suc e.corners ∙ sym (leave-prices s rate);
  }

  pub shape-arrive : SameShape (arrive r) (arrive s)
  unfolding arrive
  shape-arrive = record {
    whole = rw (e.whole, e.group, e.corners) refl;
    group = rw (e.group, e.corners) refl;
    corners = arrive-prices r ∙ ap pred e.corners ∙ sym (arrive-prices s);
  }

  -- The tests go by the whole parts and the groups.
  shape-meets : (c : Condition) → meets c r ≡ meets c s
  unfolding meets
  shape-meets c = rw (e.whole, e.group) refl

  pub shape-meets_all : (cs : List Condition) → meets_all cs r ≡ meets_all cs s
  shape-meets_all [] = refl
  shape-meets_all (c ∷ cs) = ap₂ ◌&&◌ (shape-meets c) (shape-meets_all cs)

  shape-within_from : (x : ℕ) (cs : List ℕ) → within_from x cs r ≡ within_from x cs s
  shape-within_from x [] = refl
  shape-within_from x (c ∷ cs) = ap₂ ◌&&◌ (shape-meets _) (shape-within_from (suc x) cs)

  shape-within : (cs : List ℕ) → within cs r ≡ within cs s
  unfolding within
  shape-within cs = shape-within_from 0 cs

  pub shape-admits : (a : Automaton) (l : ℕ) → Admits a l r → Admits a l s
  shape-admits a l t = record {
    conditions = sym (shape-meets_all (mode_at a l).conditions) ∙ t.conditions;
    ceilings = sym (shape-within a.ceilings) ∙ t.ceilings;
  }

  pub shape-reset : (x : ℕ) → SameShape (reset x r) (reset x s)
  shape-reset x =
      ⊎_elim (λ a. rw (reset-alone x r a, reset-alone x s (rw e.group at a)) closes)
      (λ a. rw (reset-joined x r a, reset-joined x s (rw e.group at a)) joins)
      (alone-cases x r)
    where
      closes : SameShape (reset_alone x r) (reset_alone x s)
      closes = record {
        whole = rw e.whole refl;
        group = rw e.group refl;
        corners = rw (e.group, shape-top) (merge-same _ r.prices s.prices e.corners);
      }

      joins : SameShape (reset_joined x r) (reset_joined x s)
      joins = record { whole = rw e.whole refl; group = rw e.group refl; corners = e.corners }

shape-resets : (xs : List ℕ) (r s : PricedRegion) → SameShape r s → SameShape (reset_all xs r) (reset_all xs s)
unfolding reset_all
shape-resets [] r s e = e
shape-resets (x ∷ xs) r s e = shape-resets xs (reset x r) (reset x s) (shape-reset r s e x)

pub shape-move : (a : Automaton) (e : ℕ) (r s : PricedRegion) → SameShape r s → SameShape (moved_by a e r) (moved_by a e s)
shape-move a e r s h =
    shape-trans _ _ _ (shape-sym _ _ (shape-charge (move_at a e).price (reset_all (move_at a e).resets r)))
    (shape-trans _ _ _ (shape-resets (move_at a e).resets r s h) (shape-charge (move_at a e).price (reset_all (move_at a e).resets s)))
