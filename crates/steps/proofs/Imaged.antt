-- The images of reset bytes: how they are packed.
-- Assumes nothing.
use mathlib.Core.Path.{◌≡◌, refl, sym, ap, ap₂, subst, ◌∙◌}
use mathlib.Core.List.{List}
use Prim.Native.Nat.{ℕ, zero, suc, ◌+◌, ◌*◌, ◌/◌, ◌%◌, ◌<◌}
use native.Mathlib.Omega.{arith}
use lib.ListN.{get_or, take}
use Rattle.semantics.specs.Region.{PricedRegion, top, reset_all}
use Rattle.semantics.specs.Nodes.Node.{node_of, node_number}
use Rattle.semantics.specs.Graph.CornerGraph.{number_of}
use Rattle.table.specs.Meaning.{named_timers}
use Rattle.table.specs.Held.{automaton_of, pad}
use Rattle.regions.specs.declared.Region.{Region}
use Rattle.regions.specs.declared.nodes.NodeRegion.{NodeRegion}
use Rattle.regions.specs.Held.{pack, view}
use Rattle.space.specs.declared.Space.{Space}
use Rattle.space.specs.Images.{LastAtMost, ImageReady}
use Rattle.steps.specs.Images.{corner_of, RegionReady, Goes, IsImage}
use Rattle.space.proofs.Settings.{padded-at, top_below, region-number}
use Rattle.space.proofs.Imaging.{last-like, moved-gives, moved-timers, moved-seen, moved-first, moved-few}

-- Four corners of two bits each.
module _ (c₀ c₁ c₂ c₃ : ℕ) (few : (c₀ < 4) × (c₁ < 4) × (c₂ < 4) × (c₃ < 4)) where
  abbrev packed : ℕ
  packed = c₀ + 4 * c₁ + 16 * c₂ + 64 * c₃

  packed-0 : corner_of (c₀ + 4 * c₁ + 16 * c₂ + 64 * c₃) 0 ≡ c₀
  packed-0 = let e : packed / 1 % 4 ≡ c₀ = omega (arith, few) in e

  packed-1 : corner_of (c₀ + 4 * c₁ + 16 * c₂ + 64 * c₃) 1 ≡ c₁
  packed-1 = let e : packed / 4 % 4 ≡ c₁ = omega (arith, few) in e

  packed-2 : corner_of (c₀ + 4 * c₁ + 16 * c₂ + 64 * c₃) 2 ≡ c₂
  packed-2 = let e : packed / 16 % 4 ≡ c₂ = omega (arith, few) in e

  packed-3 : corner_of (c₀ + 4 * c₁ + 16 * c₂ + 64 * c₃) 3 ≡ c₃
  packed-3 = let e : packed / 64 % 4 ≡ c₃ = omega (arith, few) in e

-- The corners that `last_at_most` finds by the prices of the region after the resets.
module _ (moved : Region) (ready : RegionReady moved) (prices : List ℕ) (prices-are : prices ≡ pad 4 (view moved).prices) (last : ℕ)
    (last-is : last ≡ top (view moved)) where
  pub after-ready : (last < 4) × (get_or prices 0 0 ≡ 0)
  after-ready =
      (omega (arith, last-is, top_below moved ready.valid), padded-at 4 (view moved).prices prices-are 0 ∙ ready.first-price)

  two-bits : {j r : ℕ} → LastAtMost prices last j r → r < 4
  two-bits l = omega (arith, l.within, after-ready.0)

  seen : {j r : ℕ} → LastAtMost prices last j r → LastAtMost (view moved).prices (top (view moved)) j r
  seen = last-like prices (view moved).prices (padded-at 4 (view moved).prices prices-are) last-is

  module _ {c₀ c₁ c₂ c₃ : ℕ} (l₀ : LastAtMost prices last 0 c₀) (l₁ : LastAtMost prices last 1 c₁) (l₂ : LastAtMost prices last 2 c₂)
      (l₃ : LastAtMost prices last 3 c₃) where
    pub after-few : (c₀ < 4) × (c₁ < 4) × (c₂ < 4) × (c₃ < 4)
    after-few = (two-bits l₀, two-bits l₁, two-bits l₂, two-bits l₃)

    pub after-goes : Goes (view moved) (c₀ + 4 * c₁ + 16 * c₂ + 64 * c₃)
    after-goes = record { few = omega (arith, after-few); each = each }
      where
        at : (j : ℕ) {r k : ℕ} → k ≡ r → LastAtMost prices last j r → LastAtMost (view moved).prices (top (view moved)) j k
        at j e l = rw e (seen l)

        each : (j : ℕ) → j < 4 → LastAtMost (view moved).prices (top (view moved)) j (corner_of (c₀ + 4 * c₁ + 16 * c₂ + 64 * c₃) j)
        each zero h = at 0 (packed-0 c₀ c₁ c₂ c₃ after-few) l₀
        each (suc zero) h = at 1 (packed-1 c₀ c₁ c₂ c₃ after-few) l₁
        each (suc (suc zero)) h = at 2 (packed-2 c₀ c₁ c₂ c₃ after-few) l₂
        each (suc (suc (suc zero))) h = at 3 (packed-3 c₀ c₁ c₂ c₃ after-few) l₃
        each (suc (suc (suc (suc j)))) h = absurd (omega arith)

-- The image of a byte that a move has.
module _ {s : Space} {z : NodeRegion} {byte : ℕ} (i : ImageReady s z byte) (moved : Region)
    (is : moved ≡ pack (reset_all (named_timers byte) (view z.region))) where
  pub image-region : RegionReady moved
  image-region =
      record { valid = (moved-gives i is).valid; first-price = sym (padded-at 4 (view moved).prices refl 0) ∙ moved-first i is refl }

  -- The node has 16 bits, so that the map stands above it.
  module _ (first : ℕ) (first-is : first ≡ node_number (take moved.timers s.ceilings) (node_of 0 (view moved) 0)) where
    pub image-few : first < 65536
    image-few =
        let set = i.setting in
        let a = automaton_of i.table in
        let number = region-number set.is-table set.is-space moved (moved-timers i is) 0 0 in
        let seen = ap (λ (r : PricedRegion). number_of a (record { mode = 0; region = r }) 0) (moved-seen i is) in
        omega (arith, first-is ∙ number ∙ seen, moved-few i 0 (omega arith))

    pub image-made : (map : ℕ) → Goes (view moved) map → IsImage s z (named_timers byte) (first + 65536 * map)
    image-made map goes =
        let low : (first + 65536 * map) % 65536 ≡ first = omega (arith, image-few) in
        let high : (first + 65536 * map) / 65536 ≡ map = omega (arith, image-few) in
        let given = moved-gives i is in
        let r = reset_all (named_timers byte) (view z.region) in
        let goes_on : Goes r map = subst (λ (p : PricedRegion). Goes p map) given.seen goes in
        record {
          first =
              low ∙ first-is ∙ ap₂ (λ (n : ℕ) (p : PricedRegion). node_number (take n s.ceilings) (node_of 0 p 0)) given.timers given.seen;
          map = subst (Goes r) (sym high) goes_on;
        }
