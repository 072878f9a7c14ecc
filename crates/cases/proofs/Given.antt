-- A region that is given by its parts: of a valid struct the whole parts and the prices may be any others.
-- Assumes nothing.
use mathlib.Core.Path.{◌≡◌, ap, ◌∙◌, sym, subst}
use mathlib.Core.List.{List}
use Prim.Native.Nat.{ℕ, suc, ◌≤◌}
use native.Mathlib.Omega.{arith}
use lib.ListN.{length, take, length-take}
use lib.Seq.{length-take-le}
use Rattle.semantics.specs.Region.{PricedRegion, WellFormed}
use Rattle.semantics.specs.Regions.Lengths.{prices-top}
use Rattle.table.specs.Theorems.Holding.{length-pad}
use Rattle.regions.specs.declared.Region.{Region}
use Rattle.regions.specs.Held.{most_timers, most_corners, pad, pack, view, Valid}
use Rattle.regions.specs.Nodes.{Padded}
use Rattle.regions.specs.Laws.Fields.{packed, holds, timers-is, group-length, group-is, top-few, prices-many}
use Rattle.regions.specs.Laws.Chain.{valid-pack}

-- An array that is 0 behind its first n entries has these n.
front : (m n : ℕ) (l : List ℕ) → n ≤ m → l ≡ pad m (take n l) → length (take n l) ≡ n
front m n l h e = length-take-le n l (omega (arith, ap length e, length-pad m (take n l) (omega (arith, length-take n l))))

module _ (s t : Region) (v : Valid s) (timers : t.timers ≡ s.timers) (top : t.top ≡ s.top) (group : t.group ≡ s.group)
    (whole : Padded s.timers t.whole) (prices : t.prices ≡ pad most_corners (take (suc s.top) t.prices)) where
  abbrev r : PricedRegion
  r = record { whole = take s.timers t.whole; group = (view s).group; prices = take (suc s.top) t.prices }

  many : length r.whole ≡ s.timers
  many = front most_timers s.timers t.whole v.few whole

  priced : length r.prices ≡ length (view s).prices
  priced =
      let h = holds s v in
      omega (arith, front most_corners (suc s.top) t.prices (omega (arith, top-few s (view s) h)) prices, prices-many s (view s) h)

  well-formed : WellFormed r
  well-formed =
      let w = v.well_formed in
      let h = holds s v in
      record {
        some = omega (arith, many, w.some, timers-is s (view s) h);
        paired = group-length s (view s) h ∙ sym many;
        priced = omega (arith, priced, w.priced);
        below = λ i. omega (arith, priced, w.below i);
        full = λ g p l. w.full g p (omega (arith, priced));
      }

  pub given-valid : Valid t
  given-valid =
      let h = holds s v in
      let is : t ≡ pack r =
      packed t r (timers ∙ sym many) (omega (arith, top, priced, prices-many s (view s) h, prices-top r well-formed.priced)) whole (group ∙ group-is s (view s) h) prices in
      subst Valid (sym is) (valid-pack r well-formed (omega (arith, many, v.few)))
