-- Lengths after each operation: the timers stay as many, and how many prices there are.
-- Assumes nothing.
use Rattle.std.specs.Prelude.{◌≡◌, true, List, [], ◌∷◌, map, length, get_or}
use Rattle.std.proofs.Math.Path.{refl}
use Rattle.std.proofs.Common.{ap, ◌∙◌, sym, subst, ⊎_elim, le_of_suc-le-suc, not-suc-le-zero, length-set}
use Prim.Native.Nat.{ℕ, zero, suc, pred, ◌+◌, ◌-◌, ◌<◌}
use native.Mathlib.Omega.{arith}
use Rattle.std.proofs.Math.ListN.{length-append, length-map, length-drop}
use Rattle.std.proofs.lemmas.List.{length-replicate}
use Rattle.semantics.specs.Region.{PricedRegion, WellFormed, top, risen, merge, alone, start, leave, arrive, delay, reset, reset_all, charge}
use Rattle.semantics.specs.Regions.Renumber.{lowered}
use Rattle.semantics.specs.Regions.Cases.{zero-cases, delay-arrive, delay-leave, alone-true, reset_alone, reset_joined, reset-alone, reset-joined, alone-cases}

pub length-risen : (k : ℕ) (gs ws : List ℕ) → length (risen k gs ws) ≡ length ws
length-risen k [] ws = refl
length-risen k (g ∷ gs) [] = refl
length-risen k (g ∷ gs) (w ∷ ws) = ap suc (length-risen k gs ws)

pub length-merge : (i : ℕ) (cs : List ℕ) → suc i < length cs → length cs ≡ suc (length (merge i cs))
length-merge i [] h = absurd (not-suc-le-zero h)
length-merge i (c ∷ []) h = absurd (not-suc-le-zero (le_of_suc-le-suc h))
length-merge zero (c ∷ d ∷ cs) h = refl
length-merge (suc i) (c ∷ d ∷ cs) h = ap suc (length-merge i (d ∷ cs) (le_of_suc-le-suc h))

-- s has as many timers as r.
pub record SameTimers (r s : PricedRegion) : Type 0 where
  pub whole : length s.whole ≡ length r.whole
  pub group : length s.group ≡ length r.group

pub same_refl : (r : PricedRegion) → SameTimers r r
same_refl r = record { whole = refl; group = refl }

same-trans : {r s t : PricedRegion} → SameTimers r s → SameTimers s t → SameTimers r t
same-trans a b = record { whole = b.whole ∙ a.whole; group = b.group ∙ a.group }

pub start-timers : (n : ℕ) → (length (start n).whole ≡ n) × (length (start n).group ≡ n)
unfolding start
start-timers n = (length-replicate n 0, length-replicate n 0)

pub start-prices : (n : ℕ) → length (start n).prices ≡ 1
unfolding start
start-prices n = refl

module _ (r : PricedRegion) where
  pub leave-timers : (rate : ℕ) → SameTimers r (leave rate r)
  unfolding leave
  leave-timers rate = record { whole = refl; group = length-map r.group suc }

  pub arrive-timers : SameTimers r (arrive r)
  unfolding arrive
  arrive-timers = record { whole = length-risen (top r) r.group r.whole; group = length-map r.group _ }

  pub delay-timers : (rate : ℕ) → SameTimers r (delay rate r)
  delay-timers rate =
      ⊎_elim (λ z. subst (SameTimers r) (sym (delay-arrive rate r z)) arrive-timers)
      (λ p. subst (SameTimers r) (sym (delay-leave rate r p)) (leave-timers rate))
      (zero-cases r)

  pub charge-timers : (price : ℕ) → SameTimers r (charge price r)
  unfolding charge
  charge-timers price = record { whole = refl; group = refl }

  pub reset-timers : (x : ℕ) → SameTimers r (reset x r)
  reset-timers x =
      ⊎_elim (λ a. subst (SameTimers r) (sym (reset-alone x r a)) alone-timers)
      (λ a. subst (SameTimers r) (sym (reset-joined x r a)) joined-timers)
      (alone-cases x r)
    where
      alone-timers : SameTimers r (reset_alone x r)
      alone-timers = record {
        whole = length-set r.whole x 0;
        group = length-set (map (lowered (get_or r.group x 0)) r.group) x 0 ∙ length-map r.group (lowered (get_or r.group x 0));
      }

      joined-timers : SameTimers r (reset_joined x r)
      joined-timers = record { whole = length-set r.whole x 0; group = length-set r.group x 0 }

  pub leave-prices : (rate : ℕ) → length (leave rate r).prices ≡ suc (length r.prices)
  unfolding leave
  leave-prices rate = length-append r.prices _ ∙ omega arith

  pub arrive-prices : length (arrive r).prices ≡ pred (length r.prices)
  unfolding arrive
  arrive-prices = length-drop 1 r.prices ∙ omega arith

  pub charge-prices : (price : ℕ) → length (charge price r).prices ≡ length r.prices
  unfolding charge
  charge-prices price = length-map r.prices (λ c. c + price)

pub reset_all-timers : (xs : List ℕ) (r : PricedRegion) → SameTimers r (reset_all xs r)
unfolding reset_all
reset_all-timers [] r = same_refl r
reset_all-timers (x ∷ xs) r = same-trans (reset-timers r x) (reset_all-timers xs (reset x r))

-- The two prices that become one are there.
pub merged-in : (n i : ℕ) → 0 < i → i < n → suc (pred n - i) < n
merged-in n i p h = omega arith

-- "Each region has k + 1 prices".
pub prices-top : (r : PricedRegion) → 0 < length r.prices → length r.prices ≡ suc (top r)
prices-top r p = let e : length r.prices ≡ suc (pred (length r.prices)) = omega arith in e

module _ (r : PricedRegion) (w : WellFormed r) where
  pub leave-top : (rate : ℕ) → top (leave rate r) ≡ suc (top r)
  leave-top rate = ap pred (leave-prices r rate) ∙ prices-top r w.priced

  -- A reset of a timer that is alone in its group leaves one price fewer.
  pub reset-alone-prices : (x : ℕ) → alone x r.group ≡ true → length r.prices ≡ suc (length (reset x r).prices)
  reset-alone-prices x a =
      length-merge (top r - get_or r.group x 0) r.prices
      (merged-in (length r.prices) (get_or r.group x 0) (alone-true x r.group a).0 (w.below x))
      ∙ ap (λ (s : PricedRegion). suc (length s.prices)) (sym (reset-alone x r a))
