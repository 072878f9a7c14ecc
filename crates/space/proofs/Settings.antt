-- A table that is searched: its graph, its places, and the corner that a struct is of. What the functions of the search and of the steps share.
-- Assumes nothing.
use mathlib.Core.Path.{◌≡◌, refl, sym, ap, ◌∙◌}
use mathlib.Core.Bool.{Bool, true, false, cond}
use mathlib.Core.List.{List, [], ◌∷◌}
use Prim.Native.Nat.{ℕ, zero, suc, ◌+◌, ◌≤◌, ◌<◌}
use native.Mathlib.Decide.{dec_lt}
use native.Mathlib.Omega.{arith}
use lib.Dec.{eqb}
use lib.ListN.{length, get_or, take, get_or-eq_default}
use Rattle.semantics.specs.Automata.Proper.{Proper}
use Rattle.semantics.specs.Automaton.{Automaton, timers}
use Rattle.semantics.specs.Region.{PricedRegion, WellFormed, top}
use Rattle.semantics.specs.NodeCount.{node_count}
use Rattle.semantics.specs.Nodes.Node.{node_of, node_number}
use Rattle.semantics.specs.Chain.{Place}
use Rattle.semantics.specs.Graph.Path.{Edge, Leaves}
use Rattle.semantics.specs.Graph.CornerGraph.{number_of}
use Rattle.semantics.specs.Regions.Windows.{half, free}
use Rattle.semantics.specs.Answers.Places.{IsPlace, corner-top}
use Rattle.semantics.proofs.Answers.Places.{number-below}
use Rattle.semantics.proofs.Answers.Moving.{number-row}
use Rattle.semantics.specs.Answers.Waiting.{delayed_to}
use Rattle.table.specs.Held.{pad, automaton_of, IsTable}
use Rattle.table.specs.Theorems.Access.{table-proper, get_or-all, get_or-pad}
use Rattle.regions.specs.declared.Region.{Region}
use Rattle.regions.specs.declared.nodes.NodeRegion.{NodeRegion}
use Rattle.regions.specs.Held.{view, Valid, WholeRoom, HalfRoom}
use Rattle.regions.specs.Nodes.{most_modes, CeilingsFew, Padded}
use Rattle.regions.specs.Laws.Fields.{holds, top-is, top-few}
use Rattle.regions.specs.Laws.Room.{delay-whole}
use Rattle.space.specs.declared.Space.{Space}
use Rattle.space.specs.Space.{graph_of, IsSpace, Setting, place_at, IsCorner}
use Rattle.space.specs.Laws.Shares.{few-modes}
use Rattle.space.specs.Laws.NodeRegion.{space-few, space-padded, space-ceilings}

-- Where the timers of a region stand in half minutes,
pub room-halves : (r : PricedRegion) → HalfRoom r → (x : ℕ) → half r x < free
room-halves r room x = omega (arith, room x, high-few (eqb (get_or r.group x 0) 0) (get_or r.whole x 0))
  where
    high-few : (b : Bool) (w : ℕ) → cond b w (suc w) ≤ suc w
    high-few true w = omega arith
    high-few false w = omega arith

-- and those that it does not have.
pub halves-behind : (r : PricedRegion) → WellFormed r → (x : ℕ) → length r.whole ≤ x → half r x ≡ 0
halves-behind r w x l = rw (get_or-eq_default r.whole 0 {n = x} l, get_or-eq_default r.group 0 {n = x} (omega (arith, w.paired))) refl

-- The places of a table: whole parts are at most the ceilings, so that they have room.
module _ (t : List ℕ) (is : IsTable t) (p : Place) (place : IsPlace (automaton_of t) p) where
  pub place-mode : p.mode < most_modes
  place-mode = omega (arith, place.in-modes, few-modes t is)

  place-whole : (i : ℕ) → get_or p.region.whole i 0 ≤ 15
  place-whole i = go (dec_lt i (length (automaton_of t).ceilings))
    where
      few : get_or (automaton_of t).ceilings i 0 ≤ 15
      few = get_or-all (λ c. c ≤ 15) (automaton_of t).ceilings (λ c m. (is.range.ceilings-range c m).1) (omega arith) i

      go : Dec (i < length (automaton_of t).ceilings) → get_or p.region.whole i 0 ≤ 15
      go (yes b) = omega (arith, place.cell.below i b, few)
      go (no b) = omega (arith, get_or-eq_default p.region.whole 0 {n = i} (omega (arith, place.cell.sized)))

  pub place-whole-room : WholeRoom p.region
  place-whole-room i = omega (arith, place-whole i)

  pub place-half-room : HalfRoom p.region
  place-half-room i = omega (arith, place-whole i)

  -- Where its timers stand in half minutes.
  pub place-halves : (x : ℕ) → half p.region x < free
  place-halves = room-halves p.region place-half-room

  -- After a delay too.
  pub delayed-half-room : HalfRoom (delayed_to p).region
  delayed-half-room i = omega (arith, place-whole i, delay-whole p.region 0 i)

-- The list of these, as `halves` gives it.
abbrev pub halves_of : PricedRegion → List ℕ
halves_of r = half r 0 ∷ half r 1 ∷ half r 2 ∷ []

pub halves-at : (r : PricedRegion) (x : ℕ) → x < 3 → get_or (halves_of r) x 0 ≡ half r x
halves-at r zero h = refl
halves-at r (suc zero) h = refl
halves-at r (suc (suc zero)) h = refl
halves-at r (suc (suc (suc x))) h = absurd (omega arith)

-- The corners of a place have their numbers in a row, and are nodes.
module _ (a : Automaton) (p : Place) (place : IsPlace a p) where
  pub place-row : (first : ℕ) → first ≡ number_of a p 0 → (j : ℕ) → j ≤ top p.region → number_of a p j ≡ first + j
  place-row first is j h = omega (arith, is, number-row a p place j h)

  pub place-below : (j : ℕ) → j ≤ top p.region → number_of a p j < node_count a
  place-below j h = number-below a p place j ((corner-top p.region place.well-formed j).1 h)

-- What is read of an array that holds a list, with zeros behind it.
pub padded-at : (n : ℕ) (l : List ℕ) {ps : List ℕ} → ps ≡ pad n l → (i : ℕ) → get_or ps i 0 ≡ get_or l i 0
padded-at n l is i = ap (λ (u : List ℕ). get_or u i 0) is ∙ get_or-pad n l i

-- The highest group, as `top` gives it: a region has at most four corners.
module _ (g : Region) (valid : Valid g) where
  pub top_seen : g.top ≡ top (view g)
  top_seen = top-is g (view g) (holds g valid)

  pub top_below : top (view g) < 4
  top_below = omega (arith, top-few g (view g) (holds g valid), top_seen)

-- A region with the table's timers.
module _ {t : List ℕ} {s : Space} (table : IsTable t) (space : IsSpace t s) (region : Region) (timers-are : region.timers ≡ timers (automaton_of t)) where
  pub region-ceilings : take region.timers s.ceilings ≡ (automaton_of t).ceilings
  region-ceilings = ap (λ (n : ℕ). take n s.ceilings) (timers-are ∙ sym space.timers-are) ∙ space-ceilings table space

  -- What `node_of` asks,
  pub node-ready :
      (mode index : ℕ) → Valid region → index ≤ region.top → mode < most_modes
      → Valid region × (index ≤ region.top) × (mode < most_modes) × CeilingsFew s.ceilings × Padded region.timers s.ceilings
  node-ready mode index valid inside few =
      (valid, inside, few, space-few table space, rw (timers-are ∙ sym space.timers-are) (space-padded table space))

  -- and what it gives is the number of the corner.
  pub region-number :
      (mode index : ℕ)
      → node_number (take region.timers s.ceilings) (node_of mode (view region) index)
      ≡ number_of (automaton_of t) (record { mode = mode; region = view region }) index
  region-number mode index = ap (λ (cs : List ℕ). node_number cs (node_of mode (view region) index)) region-ceilings

module _ {t rs : List ℕ} {s : Space} (z : Setting t rs s) where
  pub setting-proper : Proper (automaton_of t)
  setting-proper = table-proper t z.is-table

-- The corner that a struct is of, and the others of its place.
module _ {t : List ℕ} {z : NodeRegion} (k : IsCorner t z) where
  pub corner-number : (j : ℕ) → j ≤ top (view z.region) → number_of (automaton_of t) (place_at z) j ≡ z.first + j
  corner-number = place-row (automaton_of t) (place_at z) k.place z.first k.first-is

  pub corner-below : (j : ℕ) → j ≤ top (view z.region) → z.first + j < node_count (automaton_of t)
  corner-below j h = omega (arith, corner-number j h, place-below (automaton_of t) (place_at z) k.place j h)

  -- An edge of the node is one of the corner.
  pub corner-leaves :
      (goal : ℕ) (e : Edge) → Leaves (graph_of t goal) (z.first + z.index) e
      → Leaves (graph_of t goal) (number_of (automaton_of t) (place_at z) z.index) e
  corner-leaves goal e m = rw (corner-number z.index k.inside) m
