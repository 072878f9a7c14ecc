-- The laws of the corner graph: the edges that leave a corner of a place go by the place's own steps, whatever its prices; edges lead to
-- nodes; and none weighs more than the greatest rate or price.
-- Assumes nothing.
use Rattle.std.specs.Prelude.{◌≡◌, ℕ, ◌<◌, ◌≤◌, length}
use Rattle.std.proofs.Math.Path.{refl, ap, subst, fun_ext}
use Rattle.std.proofs.Common.{◌∙◌, sym, arith}
use mathlib.Core.List.Memᴰ
use mathlib.Core.List.{List, [], map, Memᴰ}
use Rattle.std.proofs.Math.Option.{Option, none, some, some-injective, none-ne-some}
use Rattle.std.proofs.Math.Dec.{eqb}
use Rattle.semantics.specs.Automata.Proper.{Proper}
use Rattle.semantics.specs.Automaton.{Automaton}
use Rattle.semantics.specs.Corners.Corner.{flat_map}
use Rattle.semantics.specs.Graph.Path.{Edge, Leaves, Closed, WeightsWithin}
use Rattle.semantics.specs.NodeCount.{node_count}
use Rattle.semantics.specs.Nodes.Node.{Node, node_of, node_number, node_at}
use Rattle.semantics.specs.Chain.{Place, step}
use Rattle.semantics.specs.Corners.Edges.{Edge as CornerEdge, edges, SamePlace}
use Rattle.semantics.specs.Answer.{step_bytes}
use Rattle.semantics.specs.Graph.CornerGraph.{node_place, number_of, numbered, step_edges, place_edges, corner_graph, PricesWithin}
use Rattle.semantics.specs.Corners.Lists.{mem_below, mem-flat_map, mem-of-flat_map}
use Rattle.semantics.proofs.Nodes.Number.{node_at-node}
use Rattle.semantics.proofs.Bounds.Steps.{Stepped, leaves, arrives, lingers, idles, moves, step-view, view-step}
use Rattle.semantics.proofs.Bounds.Shapes.{shape-sym}
use Rattle.semantics.proofs.Bounds.Alike.{edges-alike, step-alike}
use Rattle.semantics.specs.Answers.Places.{IsPlace, corner-top}
use Rattle.semantics.proofs.Answers.Places.{number-below, number-node, node-same, node-is-place, node-index, place-step}
use Rattle.semantics.proofs.Answers.Edges.{step-edge}

pub same-sym : (p s : Place) → SamePlace p s → SamePlace s p
same-sym p s e = record { mode = sym e.mode; region = shape-sym _ _ e.region }

-- The edges of a step do not go by the prices.
module _ (a : Automaton) where
  -- The corners of two places of one shape have the same numbers.
  pub number-alike : (p s : Place) → SamePlace p s → (j : ℕ) → number_of a p j ≡ number_of a s j
  number-alike p s e j =
      let node : node_of p.mode p.region j ≡ node_of s.mode s.region j =
      λ i. record { mode = e.mode i; whole = e.region.whole i; corner = record { group = e.region.group i; index = j } } in
      ap (node_number a.ceilings) node

  pub numbered-alike : (byte : ℕ) (p s : Place) → SamePlace p s → numbered a byte p ≡ numbered a byte s
  numbered-alike byte p s e = λ i d. record { label = byte; weight = d.weight; to = number-alike p s e d.corner i }

  -- From places of one shape a step leads to places of one shape, if it is allowed from one.
  pub step-shape :
      (byte : ℕ) (p s p' : Place) → SamePlace p s → step a byte p ≡ some p' → (s' : Place) × (step a byte s ≡ some s') × SamePlace p' s'
  step-shape byte p s p' e f =
      let o = step-alike a p s e (step-view a p p' byte f) in
      (o.place, view-step a s o.stepped, o.same)

  -- If it is allowed from both, to the places to which it leads.
  step_same :
      (byte : ℕ) (p s p' s' : Place) → SamePlace p s → step a byte p ≡ some p' → step a byte s ≡ some s' → SamePlace p' s'
  step_same byte p s p' s' e f g =
      let o = step-shape byte p s p' e f in
      subst (SamePlace p') (some-injective o.0 s' (sym o.1 ∙ g)) o.2

  step_both : (byte : ℕ) (p s p' : Place) → SamePlace p s → step a byte p ≡ some p' → step a byte s ≡ none → ⊥
  step_both byte p s p' e f g = let o = step-shape byte p s p' e f in none-ne-some o.0 (sym g ∙ o.1)

  step-edges-alike : (p s : Place) → SamePlace p s → (j byte : ℕ) → step_edges a p j byte ≡ step_edges a s j byte
  step-edges-alike p s e j byte = go (step a byte p) refl (step a byte s) refl
    where
      go :
          (o : Option Place) → step a byte p ≡ o → (u : Option Place) → step a byte s ≡ u
          → ◌≡◌ {A = List Edge} (elim o [ none ↦ [] | some p' ↦ map (numbered a byte p') (edges a byte p j) ])
          (elim u [ none ↦ [] | some s' ↦ map (numbered a byte s') (edges a byte s j) ])
      go none f none g = refl
      go none f (some s') g = absurd (step_both byte s p s' (same-sym p s e) g f)
      go (some p') f none g = absurd (step_both byte p s p' e f g)
      go (some p') f (some s') g =
          rw (edges-alike a byte p s e j, numbered-alike byte p' s' (step_same byte p s p' s' e f g)) refl

  place-edges-alike : (p s : Place) → SamePlace p s → (j : ℕ) → place_edges a p j ≡ place_edges a s j
  place-edges-alike p s e j = ap (λ (f : ℕ → List Edge). flat_map f step_bytes) (fun_ext (step-edges-alike p s e j))

-- The step of a byte above 65 is never allowed.
step-below : (a : Automaton) (p : Place) {byte : ℕ} {p' : Place} → Stepped a p byte p' → byte < 66
step-below a p (leaves z t) = omega arith
step-below a p (arrives z t) = omega arith
step-below a p (lingers z) = omega arith
step-below a p (idles z) = omega arith
step-below a p (moves e b i o g m) = omega arith

-- An edge from corner j of a place: the step of its label is allowed there, and it is a corner edge of that step.
pub record PlaceEdge (a : Automaton) (p : Place) (j : ℕ) (e : Edge) : Type 0 where
  pub next : Place
  pub step : step a e.label p ≡ some next
  pub edge : CornerEdge
  pub listed : Memᴰ edge (edges a e.label p j)
  pub is : e ≡ numbered a e.label next edge

module _ (a : Automaton) (p : Place) where
  pub label-below : (byte : ℕ) (p' : Place) → step a byte p ≡ some p' → byte < 66
  label-below byte p' f = step-below a p (step-view a p p' byte f)

  module _ (j : ℕ) where
    -- Every corner edge of an allowed step is there.
    pub step-listed :
        (byte : ℕ) (p' : Place) → step a byte p ≡ some p' → (e : CornerEdge) → Memᴰ e (edges a byte p j)
        → Memᴰ (numbered a byte p' e) (place_edges a p j)
    step-listed byte p' f e m =
        mem-flat_map (step_edges a p j) (mem_below 66 byte (label-below byte p' f))
        (subst
        (λ (o : Option Place). Memᴰ (numbered a byte p' e) (elim o [ none ↦ [] | some s ↦ map (numbered a byte s) (edges a byte p j) ]))
        (sym f) (Memᴰ.map (numbered a byte p') m))

    -- And no others.
    pub listed-step : (e : Edge) → Memᴰ e (place_edges a p j) → PlaceEdge a p j e
    listed-step e m = let o = mem-of-flat_map (step_edges a p j) step_bytes e m in go o.0 (step a o.0 p) refl o.2
      where
        go :
            (byte : ℕ) (o : Option Place) → step a byte p ≡ o
            → Memᴰ e (elim o [ none ↦ [] | some s ↦ map (numbered a byte s) (edges a byte p j) ]) → PlaceEdge a p j e
        go byte none f m = absurd (Memᴰ.not-nil m)
        go byte (some p') f m =
            let d = Memᴰ.of_map (numbered a byte p') (edges a byte p j) m in
            subst (PlaceEdge a p j) d.2 (record { next = p'; step = f; edge = d.0; listed = d.1; is = refl })

module _ (a : Automaton) (l : ℕ) where
  pub graph-nodes : (corner_graph a l).nodes ≡ node_count a
  unfolding corner_graph
  graph-nodes = refl

  -- The node that is corner j of a place has the edges of that corner, and is a target if the place's mode is l.
  module _ (p : Place) (h : IsPlace a p) (j : ℕ) (b : j < length p.region.prices) where
    pub graph-edges : (corner_graph a l).edges (number_of a p j) ≡ place_edges a p j
    unfolding corner_graph
    graph-edges =
        ap (λ (x : Node). place_edges a (node_place x) x.corner.index) (number-node a p h j b)
        ∙ place-edges-alike a (node_place (node_of p.mode p.region j)) p (node-same a p h j b) j

    pub graph-target : (corner_graph a l).is_target (number_of a p j) ≡ eqb p.mode l
    unfolding corner_graph
    graph-target = ap (λ (x : Node). eqb x.mode l) (number-node a p h j b)

  module _ (ok : Proper a) (v : ℕ) (e : Edge) (h : v < (corner_graph a l).nodes) (m : Leaves (corner_graph a l) v e) where
    -- Where an edge of a node leads, and what it weighs.
    edge-facts : (e.to < (corner_graph a l).nodes) × ((w : ℕ) → PricesWithin a w → e.weight ≤ w)
    unfolding corner_graph
    edge-facts =
        let x = node_at a.ceilings v in
        let n = node_at-node a v h in
        let p = node-is-place a ok x n in
        let i = (corner-top (node_place x).region p.well-formed x.corner.index).0 (node-index a ok x n) in
        let d = listed-step a (node_place x) x.corner.index e m in
        let s = step-view a (node_place x) d.next e.label d.step in
        let q = place-step a ok (node_place x) p s in
        let f = step-edge a ok (node_place x) p s x.corner.index i d.edge d.listed in
        let b = (corner-top d.next.region q.well-formed d.edge.corner).1 f.there in (
          subst (λ (t : ℕ). t < node_count a) (sym (ap (λ (k : Edge). k.to) d.is)) (number-below a d.next q d.edge.corner b),
          λ w k. subst (λ (t : ℕ). t ≤ w) (sym (ap (λ (k : Edge). k.weight) d.is)) (f.light w k),
        )

  pub graph-closed : Proper a → Closed (corner_graph a l)
  graph-closed ok v e h m = (edge-facts ok v e h m).0

  pub graph-weights : Proper a → (w : ℕ) → PricesWithin a w → WeightsWithin (corner_graph a l) w
  graph-weights ok w k v e h m = (edge-facts ok v e h m).1 w k
