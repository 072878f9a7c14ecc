-- What a struct that holds a region has in its fields.
-- Assumes nothing.
use Rattle.std.specs.Prelude.{◌≡◌, List, ℕ, suc, ◌+◌, ◌<◌, ◌≤◌, length, get_or}
use Rattle.std.proofs.Math.Path.{ap}
use Rattle.std.proofs.Common.{◌∙◌, sym, add-one, arith}
use Rattle.semantics.specs.Region.{PricedRegion, WellFormed, count, top}
use Rattle.semantics.specs.Regions.Lengths.{prices-top}
use Rattle.semantics.specs.Regions.Groups.{groups-few, groups-fewer, top_pos}
use Rattle.regions.specs.declared.Region.{Region}
use Rattle.regions.specs.Held.{most_timers, most_corners, pad, pack, view, Valid}
use Rattle.table.specs.Theorems.Access.{get_or-pad}

-- The struct of a region, by its fields.
pub packed :
    (s : Region) (r : PricedRegion) → s.timers ≡ length r.whole → s.top ≡ top r → s.whole ≡ pad most_timers r.whole
    → s.group ≡ pad most_timers r.group → s.prices ≡ pad most_corners r.prices → s ≡ pack r
unfolding pack
packed s r n k w g p = λ i. record { timers = n i; top = k i; whole = w i; group = g i; prices = p i }

-- The struct s holds the region r. Here r stands for itself, so that an equation of a field of s does not touch it.
pub record Holds (s : Region) (r : PricedRegion) : Type 0 where
  pub is : s ≡ pack r
  pub well_formed : WellFormed r
  pub few : s.timers ≤ most_timers

pub holds : (s : Region) → Valid s → Holds s (view s)
holds s v = record { is = v.held; well_formed = v.well_formed; few = v.few }

module _ (s : Region) (r : PricedRegion) (h : Holds s r) where
  pub timers-is : s.timers ≡ length r.whole
  unfolding pack
  timers-is = ap (λ (t : Region). t.timers) h.is

  pub group-length : length r.group ≡ s.timers
  group-length = h.well_formed.paired ∙ sym timers-is

  pub top-is : s.top ≡ top r
  unfolding pack
  top-is = ap (λ (t : Region). t.top) h.is

  pub whole_is : s.whole ≡ pad most_timers r.whole
  unfolding pack
  whole_is = ap (λ (t : Region). t.whole) h.is

  pub group-is : s.group ≡ pad most_timers r.group
  unfolding pack
  group-is = ap (λ (t : Region). t.group) h.is

  pub prices-is : s.prices ≡ pad most_corners r.prices
  unfolding pack
  prices-is = ap (λ (t : Region). t.prices) h.is

  pub prices-many : length r.prices ≡ s.top + 1
  prices-many = prices-top r h.well_formed.priced ∙ ap suc (sym top-is) ∙ sym (add-one s.top)

  -- What is read from an array is what is read from the list.
  pub whole-at : (i : ℕ) → get_or s.whole i 0 ≡ get_or r.whole i 0
  whole-at i = ap (λ (l : List ℕ). get_or l i 0) whole_is ∙ get_or-pad most_timers r.whole i

  pub group_at : (i : ℕ) → get_or s.group i 0 ≡ get_or r.group i 0
  group_at i = ap (λ (l : List ℕ). get_or l i 0) group-is ∙ get_or-pad most_timers r.group i

  pub price-at : (i : ℕ) → get_or s.prices i 0 ≡ get_or r.prices i 0
  price-at i = ap (λ (l : List ℕ). get_or l i 0) prices-is ∙ get_or-pad most_corners r.prices i

  -- There is an entry for the price of each corner, and one more where r0 holds a timer.
  pub top-few : s.top ≤ 3
  top-few = omega (arith, groups-few r h.well_formed, prices-many, timers-is, h.few)

  pub top-fewer : 0 < count 0 r.group → s.top < 3
  top-fewer z = omega (arith, groups-fewer r h.well_formed z, prices-many, timers-is, h.few)

  -- Where r0 is empty there is another group.
  pub top_above : count 0 r.group ≡ 0 → 0 < s.top
  top_above z = omega (arith, top_pos r h.well_formed z, top-is)

  -- No group's number is above the highest one's.
  pub group-top : (i : ℕ) → get_or s.group i 0 ≤ s.top
  group-top i = omega (arith, group_at i, prices-many, h.well_formed.below i)

  pub group-few : (i : ℕ) → get_or s.group i 0 ≤ 3
  group-few i = omega (arith, group-top i, top-few)
