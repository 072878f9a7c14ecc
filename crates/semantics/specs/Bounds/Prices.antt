-- The price of each corner after each operation on a region.
-- Assumes nothing.
use Rattle.std.specs.Prelude.{◌≡◌, refl, ℕ, zero, suc, min, ◌+◌, ◌<◌, ◌≤◌, length, get_or}
use Rattle.std.proofs.Common.{ap, ◌∙◌, le_of_suc-le-suc, not-suc-le-zero, arith, get_or-drop, get_or-set_same, get_or-set_other}
use mathlib.Core.List.{List, [], ◌∷◌}
use Rattle.std.proofs.Math.Decide.{dec_le, ℕ_discrete}
use Rattle.std.proofs.Math.ListN.{get_or-append}
use Rattle.std.proofs.Math.Seq.{get_or_at}
use Rattle.semantics.specs.Region.{PricedRegion, WellFormed, top, merge, leave, arrive, charge}
use Rattle.semantics.specs.Regions.Lists.{get_or_map}
use Rattle.semantics.specs.Regions.Cases.{lingered}
use Rattle.semantics.specs.Regions.Lengths.{prices-top}

-- cj, the price of corner j.
abbrev pub price : PricedRegion → ℕ → ℕ
price r j = get_or r.prices j 0

module _ (r : PricedRegion) (w : WellFormed r) (rate : ℕ) where
  pub leave-price : (j : ℕ) → j ≤ top r → price (leave rate r) j ≡ price r j
  unfolding leave
  leave-price j h = get_or-append r.prices _ 0 j (omega (arith, prices-top r w.priced))

  pub leave-last : price (leave rate r) (suc (top r)) ≡ price r 0 + rate
  unfolding leave
  leave-last = get_or_at r.prices _ [] 0 (suc (top r)) (prices-top r w.priced)

  linger-price : (j : ℕ) → (j ≡ top r → ⊥) → price (lingered rate r) j ≡ price r j
  linger-price j n = get_or-set_other r.prices (top r) j _ 0 n

  pub linger-last : price (lingered rate r) (top r) ≡ min (price r (top r)) (price r 0 + rate)
  linger-last = get_or-set_same r.prices (top r) _ 0 (omega (arith, prices-top r w.priced))

-- A price of s is that of its corner in r, or that of corner 0 and the rate, at a last corner.
pub data PassedFrom (r s : PricedRegion) (last rate i : ℕ) : Type 0 where
  kept : i ≤ top r → price s i ≡ price r i → PassedFrom r s last rate i
  passed : i ≡ last → price s i ≡ price r 0 + rate → PassedFrom r s last rate i

module _ (r : PricedRegion) (w : WellFormed r) (rate : ℕ) where
  pub leave-source : (i : ℕ) → i ≤ suc (top r) → PassedFrom r (leave rate r) (suc (top r)) rate i
  leave-source i h = go (ℕ_discrete i (suc (top r)))
    where
      go : Dec (i ≡ suc (top r)) → PassedFrom r (leave rate r) (suc (top r)) rate i
      go (yes e) = passed e (ap (price (leave rate r)) e ∙ leave-last r w rate)
      go (no n) = kept (omega arith) (leave-price r w rate i (omega arith))

  pub linger-source : (i : ℕ) → i ≤ top r → PassedFrom r (lingered rate r) (top r) rate i
  linger-source i h = go (ℕ_discrete i (top r)) (dec_le (price r (top r)) (price r 0 + rate))
    where
      go : Dec (i ≡ top r) → Dec (price r (top r) ≤ price r 0 + rate) → PassedFrom r (lingered rate r) (top r) rate i
      go (no n) d = kept h (linger-price r w rate i n)
      go (yes e) (yes d) = kept h (rw e (omega (arith, linger-last r w rate)))
      go (yes e) (no d) = passed e (rw e (omega (arith, linger-last r w rate)))

  pub linger-least : (j : ℕ) → price (lingered rate r) j ≤ price r j
  linger-least j = go (ℕ_discrete j (top r))
    where
      go : Dec (j ≡ top r) → price (lingered rate r) j ≤ price r j
      go (yes e) = rw e (omega (arith, linger-last r w rate))
      go (no n) = omega (arith, linger-price r w rate j n)

pub arrive-price : (r : PricedRegion) (j : ℕ) → price (arrive r) j ≡ price r (suc j)
unfolding arrive
arrive-price r j = get_or-drop 1 r.prices j 0 ∙ ap (price r) (omega arith)

pub charge-price : (r : PricedRegion) → WellFormed r → (c j : ℕ) → j ≤ top r → price (charge c r) j ≡ price r j + c
unfolding charge
charge-price r w c j h = get_or_map (λ n. n + c) r.prices j (omega (arith, prices-top r w.priced))

-- Corner i after the prices at m and m + 1 have become one.
pub data Merged (m : ℕ) (cs : List ℕ) (i : ℕ) : Type 0 where
  below : i < m → get_or (merge m cs) i 0 ≡ get_or cs i 0 → Merged m cs i
  at : i ≡ m → get_or (merge m cs) i 0 ≡ min (get_or cs i 0) (get_or cs (suc i) 0) → Merged m cs i
  above : m < i → get_or (merge m cs) i 0 ≡ get_or cs (suc i) 0 → Merged m cs i

pub merged : (m : ℕ) (cs : List ℕ) (i : ℕ) → suc m < length cs → Merged m cs i
merged m [] i h = absurd (not-suc-le-zero h)
merged m (c ∷ []) i h = absurd (not-suc-le-zero (le_of_suc-le-suc h))
merged zero (c ∷ d ∷ cs) zero h = at refl refl
merged zero (c ∷ d ∷ cs) (suc i) h = above (omega arith) refl
merged (suc m) (c ∷ d ∷ cs) zero h = below (omega arith) refl
merged (suc m) (c ∷ d ∷ cs) (suc i) h = further (merged m (d ∷ cs) i (le_of_suc-le-suc h))
  where
    further : Merged m (d ∷ cs) i → Merged (suc m) (c ∷ d ∷ cs) (suc i)
    further (below l e) = below (omega arith) e
    further (at l e) = at (ap suc l) e
    further (above l e) = above (omega arith) e
