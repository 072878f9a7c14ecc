-- The cases of delay, linger and reset: one equation for each.
-- Assumes nothing.
use Rattle.std.specs.Prelude.{◌≡◌, refl, Bool, true, false, ◌&&◌, ◌⊎◌, List, map, ℕ, zero, suc, min, ◌+◌, ◌-◌, ◌<◌, eqb, ltb, get_or, set}
use Rattle.std.proofs.Common.{sym, true≢false, inl, inr, arith, eq-eqb, ne_eqb, eqb-true, lt-ltb, ltb-true}
use Rattle.semantics.specs.Region.{PricedRegion, count, top, delay, leave, arrive, linger, alone, merge, reset}
use Rattle.semantics.specs.Regions.Renumber.{lowered}

-- r0 is empty or holds a timer.
pub zero-cases : (r : PricedRegion) → (count 0 r.group ≡ 0) ⊎ (0 < count 0 r.group)
zero-cases r = go (count 0 r.group)
  where
    go : (n : ℕ) → (n ≡ 0) ⊎ (0 < n)
    go zero = inl refl
    go (suc n) = inr (omega arith)

pub delay-arrive : (rate : ℕ) (r : PricedRegion) → count 0 r.group ≡ 0 → delay rate r ≡ arrive r
unfolding delay
delay-arrive rate r z = rw (eq-eqb _ _ z)

pub delay-leave : (rate : ℕ) (r : PricedRegion) → 0 < count 0 r.group → delay rate r ≡ leave rate r
unfolding delay
delay-leave rate r p = rw (ne_eqb (count 0 r.group) 0 (λ e. omega arith))

-- Linger where r0 is empty.
abbrev pub lingered : ℕ → PricedRegion → PricedRegion
lingered rate r = record {
  whole = r.whole;
  group = r.group;
  prices = set r.prices (top r) (min (get_or r.prices (top r) 0) (get_or r.prices 0 0 + rate));
}

pub linger-empty : (rate : ℕ) (r : PricedRegion) → count 0 r.group ≡ 0 → linger rate r ≡ lingered rate r
unfolding linger
linger-empty rate r z = rw (eq-eqb _ _ z)

pub linger-same : (rate : ℕ) (r : PricedRegion) → 0 < count 0 r.group → linger rate r ≡ r
unfolding linger
linger-same rate r p = rw (ne_eqb (count 0 r.group) 0 (λ e. omega arith))

-- What the test `alone` says.
pub alone-true : (x : ℕ) (gs : List ℕ) → alone x gs ≡ true → (0 < get_or gs x 0) × (count (get_or gs x 0) gs ≡ 1)
alone-true x gs = go (ltb 0 (get_or gs x 0)) refl
  where
    go : (b : Bool) → ltb 0 (get_or gs x 0) ≡ b → (b && eqb (count (get_or gs x 0) gs) 1) ≡ true → (0 < get_or gs x 0) × (count (get_or gs x 0) gs ≡ 1)
    go true p e = (ltb-true 0 _ p, eqb-true _ 1 e)
    go false p e = absurd (true≢false (sym e))

pub alone-false : (x : ℕ) (gs : List ℕ) → alone x gs ≡ false → 0 < get_or gs x 0 → count (get_or gs x 0) gs ≡ 1 → ⊥
alone-false x gs a p o = true≢false (rw (lt-ltb 0 _ p, eq-eqb _ 1 o) at a)

-- Reset of a timer that is alone in its group: the group is gone.
abbrev pub reset_alone : ℕ → PricedRegion → PricedRegion
reset_alone x r = record {
  whole = set r.whole x 0;
  group = set (map (lowered (get_or r.group x 0)) r.group) x 0;
  prices = merge (top r - get_or r.group x 0) r.prices;
}

-- Reset of any other timer: the groups stay.
abbrev pub reset_joined : ℕ → PricedRegion → PricedRegion
reset_joined x r = record { whole = set r.whole x 0; group = set r.group x 0; prices = r.prices }

pub reset-alone : (x : ℕ) (r : PricedRegion) → alone x r.group ≡ true → reset x r ≡ reset_alone x r
unfolding reset
reset-alone x r a = rw a

pub reset-joined : (x : ℕ) (r : PricedRegion) → alone x r.group ≡ false → reset x r ≡ reset_joined x r
unfolding reset
reset-joined x r a = rw a

-- The two cases of a reset.
pub alone-cases : (x : ℕ) (r : PricedRegion) → (alone x r.group ≡ true) ⊎ (alone x r.group ≡ false)
alone-cases x r = go (alone x r.group)
  where
    go : (b : Bool) → (b ≡ true) ⊎ (b ≡ false)
    go true = inl refl
    go false = inr refl
