-- Each method hands back a struct that is valid again and holds the region of the definition, so that methods can be chained from
-- their contracts alone.
-- Assumes nothing.
use Rattle.std.specs.Prelude.{◌≡◌, refl, List, ℕ, suc, ◌<◌, ◌≤◌, length}
use Rattle.std.proofs.Common.{ap, ◌∙◌, sym, subst}
use Rattle.semantics.specs.Region.{PricedRegion, WellFormed, top, start, delay, linger, reset, reset_all, charge}
use Rattle.semantics.specs.Regions.Lengths.{SameTimers, prices-top, start-timers, delay-timers, charge-timers, reset_all-timers, reset-timers}
use Rattle.semantics.proofs.Regions.Lengths.{linger-timers}
use Rattle.semantics.proofs.Regions.WellFormed.{start-well-formed, delay-well-formed, linger-well-formed, charge-well-formed}
use Rattle.semantics.proofs.Regions.Absent.{reset-any-well-formed, reset_all-any-well-formed}
use Rattle.regions.specs.declared.Region.{Region}
use Rattle.regions.specs.Held.{most_timers, most_corners, pack, view, Valid}
use Rattle.regions.specs.Laws.Pads.{take-pad}
use Rattle.regions.specs.Laws.Fields.{holds, timers-is}

-- What a struct holds is the region that it was made of.
pub view-pack : (r : PricedRegion) → WellFormed r → view (pack r) ≡ r
unfolding view pack
view-pack r w =
    let whole = take-pad most_timers r.whole (length r.whole) refl in
    let group = take-pad most_timers r.group (length r.whole) w.paired in
    let prices = take-pad most_corners r.prices (suc (top r)) (prices-top r w.priced) in
    λ i. record { whole = whole i; group = group i; prices = prices i }

timers-pack : (r : PricedRegion) → (pack r).timers ≡ length r.whole
unfolding pack
timers-pack r = refl

pub valid-pack : (r : PricedRegion) → WellFormed r → length r.whole ≤ most_timers → Valid (pack r)
valid-pack r w few =
    let e = sym (view-pack r w) in
    record { few = rw (timers-pack r) few; held = ap pack e; well_formed = subst WellFormed e w }

-- The struct t is valid, has n timers and holds r.
pub record Gives (n : ℕ) (t : Region) (r : PricedRegion) : Type 0 where
  pub valid : Valid t
  pub timers : t.timers ≡ n
  pub seen : view t ≡ r

gives : (n : ℕ) (t : Region) (r : PricedRegion) → n ≤ most_timers → WellFormed r → length r.whole ≡ n → t ≡ pack r → Gives n t r
gives n t r few w l e =
    subst (λ (s : Region). Gives n s r) (sym e)
    (record { valid = valid-pack r w (rw l few); timers = timers-pack r ∙ l; seen = view-pack r w })

pub start_gives : (n : ℕ) (t : Region) → 0 < n → n ≤ most_timers → t ≡ pack (start n) → Gives n t (start n)
start_gives n t p few e = gives n t (start n) few (start-well-formed n p) (start-timers n).0 e

module _ (s t : Region) (v : Valid s) where
  after : (r : PricedRegion) → WellFormed r → SameTimers (view s) r → t ≡ pack r → Gives s.timers t r
  after r w same e = gives s.timers t r v.few w (same.whole ∙ sym (timers-is s (view s) (holds s v))) e

  pub delay-gives : (rate : ℕ) → t ≡ pack (delay rate (view s)) → Gives s.timers t (delay rate (view s))
  delay-gives rate = after _ (delay-well-formed (view s) v.well_formed rate) (delay-timers (view s) rate)

  pub linger-gives : (rate : ℕ) → t ≡ pack (linger rate (view s)) → Gives s.timers t (linger rate (view s))
  linger-gives rate = after _ (linger-well-formed (view s) v.well_formed rate) (linger-timers (view s) rate)

  pub charge-gives : (price : ℕ) → t ≡ pack (charge price (view s)) → Gives s.timers t (charge price (view s))
  charge-gives price = after _ (charge-well-formed (view s) v.well_formed price) (charge-timers (view s) price)

  pub reset-gives : (x : ℕ) → t ≡ pack (reset x (view s)) → Gives s.timers t (reset x (view s))
  reset-gives x = after _ (reset-any-well-formed (view s) v.well_formed x) (reset-timers (view s) x)

  pub reset_all-gives : (xs : List ℕ) → t ≡ pack (reset_all xs (view s)) → Gives s.timers t (reset_all xs (view s))
  reset_all-gives xs = after _ (reset_all-any-well-formed xs (view s) v.well_formed) (reset_all-timers xs (view s))
