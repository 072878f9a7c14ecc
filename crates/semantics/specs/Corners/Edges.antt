-- Corner edges: how prices pass from corner to corner along a chain. Document 01, "Priced regions", lets delay, linger, reset and charge
-- drop a price, keep it, add to it, or take the smaller of two. So a step has edges from the corners of a region to the corners of the next,
-- each with a weight, and a price after the step is the least sum of a price before it and the weight of an edge (Bounds.Flow).
-- Edges go by the mode, the whole parts, the groups and the number of the prices, and not by the prices (Bounds.Alike).
-- Assumes nothing.
use Rattle.std.specs.Prelude.{◌≡◌, cond, ◌&&◌, List, [], ◌∷◌, ℕ, zero, suc, pred, ◌-◌, ltb, eqb, length, get_or}
use Rattle.semantics.specs.Automaton.{Move, Automaton, mode_at, move_at}
use Rattle.semantics.specs.Region.{PricedRegion, top, no_zero, alone, reset}
use Rattle.semantics.specs.Chain.{Place}

-- An edge from a corner: the corner of the next region to which it leads, and its weight.
pub record Edge : Type 0 where
  pub corner : ℕ
  pub weight : ℕ

-- Every corner keeps its price, and c0 + rate comes to a last corner.
abbrev pub pass_edges : ℕ → ℕ → ℕ → List Edge
pass_edges last rate zero = record { corner = 0; weight = 0 } ∷ record { corner = last; weight = rate } ∷ []
pass_edges last rate (suc j) = record { corner = suc j; weight = 0 } ∷ []

-- "c0 is dropped."
abbrev pub drop_edges : ℕ → List Edge
drop_edges zero = []
drop_edges (suc j) = record { corner = j; weight = 0 } ∷ []

-- Delay: where r0 is not empty "c0 + rate is added at the end", and where it is empty "c0 is dropped".
abbrev pub delay_edges : ℕ → PricedRegion → ℕ → List Edge
delay_edges rate r j = cond (no_zero r) (drop_edges j) (pass_edges (suc (top r)) rate j)

-- "Linger, r0 empty: ck becomes the smaller of ck and c0 + rate. Otherwise nothing changes."
abbrev pub linger_edges : ℕ → PricedRegion → ℕ → List Edge
linger_edges rate r j = cond (no_zero r) (pass_edges (top r) rate j) (record { corner = j; weight = 0 } ∷ [])

-- Reset of one timer: "If it was alone in ri, i at least 1, the prices c(k-i) and c(k-i+1) become one": the corners above k - i go down by one.
abbrev pub reset_corner : ℕ → PricedRegion → ℕ → ℕ
reset_corner x r j = cond (alone x r.group && ltb (top r - get_or r.group x 0) j) (pred j) j

-- "Several timers are reset one after another."
unfoldable pub reset_all_corner : List ℕ → PricedRegion → ℕ → ℕ
reset_all_corner [] r j = j
reset_all_corner (x ∷ xs) r j = reset_all_corner xs (reset x r) (reset_corner x r j)

-- A move resets and then charges: "the move's price is added to every corner".
abbrev pub move_edges : Move → PricedRegion → ℕ → List Edge
move_edges m r j = record { corner = reset_all_corner m.resets r j; weight = m.price } ∷ []

-- The edges of a step from corner j of a place.
unfoldable pub edges : Automaton → ℕ → Place → ℕ → List Edge
edges a byte p j =
    cond (ltb byte 64) (move_edges (move_at a byte) p.region j)
    (cond (eqb byte 64) (delay_edges (mode_at a p.mode).rate p.region j)
    (cond (eqb byte 65) (linger_edges (mode_at a p.mode).rate p.region j) []))

-- Two regions that differ at most in what their prices are.
pub record SameShape (r s : PricedRegion) : Type 0 where
  pub whole : r.whole ≡ s.whole
  pub group : r.group ≡ s.group
  pub corners : length r.prices ≡ length s.prices

-- Two places that differ at most in what their prices are.
pub record SamePlace (p s : Place) : Type 0 where
  pub mode : p.mode ≡ s.mode
  pub region : SameShape p.region s.region
