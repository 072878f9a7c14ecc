-- The edges of an allowed step: each leads to a corner of the next region, and weighs at most the greatest rate or price.
-- Assumes nothing.
use Rattle.std.proofs.Common.{inl, inr, arith, eq-eqb, ne_eqb, lt-ltb}
use mathlib.Core.List.Memᴰ
use mathlib.Core.List.{Memᴰ}
use Rattle.std.specs.Prelude.{ℕ, suc, ◌≤◌}
use Rattle.semantics.specs.Automata.Proper.{Proper}
use Rattle.semantics.specs.Automaton.{Automaton, mode_at, move_at}
use Rattle.semantics.specs.Region.{count, top}
use Rattle.semantics.specs.Chain.{Place}
use Rattle.semantics.specs.Corners.Edges.{Edge, pass_edges, drop_edges, edges}
use Rattle.semantics.specs.Graph.CornerGraph.{PricesWithin}
use Rattle.semantics.specs.Corners.Lists.{mem-get_or}
use Rattle.semantics.specs.Bounds.Steps.{rate_at}
use Rattle.semantics.proofs.Bounds.Steps.{Stepped, leaves, arrives, lingers, idles, moves}
use Rattle.semantics.proofs.Bounds.Flow.{pass-cases, drop-cases, step-flow}
use Rattle.semantics.specs.Answers.Places.{IsPlace}

-- Where an edge of a step to p leads, and what it weighs.
pub record StepEdge (a : Automaton) (p : Place) (e : Edge) : Type 0 where
  pub there : e.corner ≤ top p.region
  pub light : (w : ℕ) → PricesWithin a w → e.weight ≤ w

-- The edges that keep a price weigh nothing, and those that wait weigh the rate.
pass-light : (last rate j w : ℕ) → rate ≤ w → (e : Edge) → Memᴰ e (pass_edges last rate j) → e.weight ≤ w
pass-light last rate j w h e m = elim (pass-cases last rate j e m) [ inl q ↦ rw q (omega arith) | inr q ↦ rw q.1 h ]

drop-light : (j w : ℕ) (e : Edge) → Memᴰ e (drop_edges j) → e.weight ≤ w
drop-light j w e m = rw (drop-cases j e m).2 (omega arith)

module _ (a : Automaton) (ok : Proper a) (p : Place) (h : IsPlace a p) where
  rate-light : (w : ℕ) → PricesWithin a w → rate_at a p ≤ w
  rate-light w k = k.rates (mode_at a p.mode) (mem-get_or a.modes p.mode _ h.in-modes)

  edge-light :
      {byte : ℕ} {p' : Place} → Stepped a p byte p' → (j : ℕ) (e : Edge) → Memᴰ e (edges a byte p j) → (w : ℕ) → PricesWithin a w
      → e.weight ≤ w
  unfolding edges
  edge-light (leaves z t) j e m w k =
      pass-light (suc (top p.region)) (rate_at a p) j w (rate-light w k) e (rw (ne_eqb (count 0 p.region.group) 0 (λ e. omega arith)) at m)
  edge-light (arrives z t) j e m w k = drop-light j w e (rw (eq-eqb (count 0 p.region.group) 0 z) at m)
  edge-light (lingers z) j e m w k =
      pass-light (top p.region) (rate_at a p) j w (rate-light w k) e (rw (eq-eqb (count 0 p.region.group) 0 z) at m)
  edge-light (idles z) j e m w k =
      rw (Memᴰ.eq_of_singleton (rw (ne_eqb (count 0 p.region.group) 0 (λ e. omega arith)) at m)) (omega arith)
  edge-light (moves i l c o g t) j e m w k =
      rw (Memᴰ.eq_of_singleton (rw (lt-ltb i 64 l) at m)) (k.prices (move_at a i) (mem-get_or a.moves i _ c))

  pub step-edge :
      {byte : ℕ} {p' : Place} → Stepped a p byte p' → (j : ℕ) → j ≤ top p.region → (e : Edge) → Memᴰ e (edges a byte p j)
      → StepEdge a p' e
  step-edge s j b e m = record {
    there = ((step-flow a ok p h.well-formed h.cell.sized s).least j b e m).there;
    light = edge-light s j e m;
  }
