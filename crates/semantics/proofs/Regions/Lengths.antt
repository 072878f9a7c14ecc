-- Lengths after a linger and after an arrival: the timers stay as many, and how many prices there are.
-- Assumes nothing.
use Rattle.std.specs.Prelude.{◌≡◌, length}
use Rattle.std.proofs.Math.Path.{refl}
use Rattle.std.proofs.Common.{ap, ◌∙◌, sym, subst, ⊎_elim, length-set}
use Prim.Native.Nat.{ℕ, pred}
use Rattle.semantics.specs.Region.{PricedRegion, WellFormed, top, arrive, linger}
use Rattle.semantics.specs.Regions.Cases.{zero-cases, linger-empty, linger-same}
use Rattle.semantics.specs.Regions.Lengths.{SameTimers, same_refl, arrive-prices}

module _ (r : PricedRegion) where
  pub linger-timers : (rate : ℕ) → SameTimers r (linger rate r)
  linger-timers rate =
      ⊎_elim (λ z. subst (SameTimers r) (sym (linger-empty rate r z)) (record { whole = refl; group = refl }))
      (λ p. subst (SameTimers r) (sym (linger-same rate r p)) (same_refl r))
      (zero-cases r)

  pub linger-prices : (rate : ℕ) → length (linger rate r).prices ≡ length r.prices
  linger-prices rate =
      ⊎_elim (λ z. ap (λ (s : PricedRegion). length s.prices) (linger-empty rate r z) ∙ length-set r.prices (top r) _)
      (λ p. ap (λ (s : PricedRegion). length s.prices) (linger-same rate r p))
      (zero-cases r)

module _ (r : PricedRegion) (w : WellFormed r) where
  pub arrive-top : top (arrive r) ≡ pred (top r)
  arrive-top = ap pred (arrive-prices r)
