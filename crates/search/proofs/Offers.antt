-- An edge of the node in hand makes its offer.
-- Assumes nothing.
use mathlib.Core.Path.{◌≡◌, sym, ap, ◌∙◌}
use mathlib.Core.List.{List}
use Prim.Native.Nat.{ℕ, suc, ◌+◌, ◌<◌}
use native.Mathlib.Omega.{arith}
use Rattle.semantics.specs.Order.{Cost}
use Rattle.semantics.specs.Graph.Path.{Edge, Leaves, infinity, charge_at, steps_at}
use Rattle.table.specs.Fields.{most_price}
use Rattle.queue.specs.Queue.{lows, RelaxReady, RelaxDone}
use Rattle.space.specs.declared.Space.{Space}
use Rattle.space.specs.Space.{graph_of, Setting}
use Rattle.search.specs.declared.edges.Source.{Source}
use Rattle.search.specs.Exploring.{Relaxes, hand-inside, hand-ready, tried-relaxes}
use Rattle.search.specs.Edges.{rooted_of, node_in, Holding, Short}
use Rattle.search.specs.Room.{hand-room}
use Rattle.search.specs.Laws.Goal.{goal-closed, goal-light}

module _ {t rs : List ℕ} {s : Space} (z : Setting t rs s) where
  -- An edge of the node in hand can make its offer, and is relaxed when it did.
  module _ (goal : ℕ) {x : Source} {ws : List ℕ} (h : Holding t s x ws goal) (e : Edge) (leaves : Leaves (graph_of t goal) (node_in x) e) where
    pub edge-inside : e.to < s.nodes
    edge-inside =
        let sized : (graph_of t goal).nodes ≡ s.nodes = h.hand.sized in
        omega (arith, goal-closed t z.is-table goal (node_in x) e (hand-inside h.hand) leaves, sized)

    edge-room : e.weight + charge_at (lows s.nodes ws) (node_in x) < infinity
    edge-room =
        let light = goal-light t z.is-table goal in
        hand-room h.hand most_price e.weight light (omega arith) (light (node_in x) e (hand-inside h.hand) leaves)

    pub edge-sum : e.weight + x.charge < infinity
    edge-sum = rw h.charge-is edge-room

    module _ (short : Short s x) where
      fewer : suc (steps_at (lows s.nodes ws) (node_in x)) < s.nodes
      fewer = omega (arith, short, h.steps-are)

      pub edge-ready : RelaxReady s.nodes e.to (e.weight + x.charge) x.steps ws
      edge-ready = rw (h.charge-is, h.steps-are) (hand-ready h.hand e leaves edge-inside fewer edge-room)

      pub edge-relaxes :
          (ws' : List ℕ) → RelaxDone s.nodes e.to (e.weight + x.charge) x.steps ws ws'
          → Relaxes (rooted_of t goal) s.nodes (node_in x) (λ y. y ≡ e) ws ws'
      edge-relaxes ws' done =
          tried-relaxes h.hand e leaves edge-inside fewer edge-room ws' (rw (h.charge-is, h.steps-are) at done)

-- When the words have changed the struct is still that of the node in hand.
pub hold-again :
    {t : List ℕ} {s : Space} {x : Source} {goal : ℕ} {Fits : Edge → Type 0} {ws ws' : List ℕ} → Holding t s x ws goal
    → Relaxes (rooted_of t goal) s.nodes (node_in x) Fits ws ws' → Holding t s x ws' goal
hold-again h done = record {
  hand = done.hand;
  charge-is = h.charge-is ∙ ap (λ (c : Cost). c.charge) (sym done.same);
  steps-are = h.steps-are ∙ ap (λ (c : Cost). suc c.steps) (sym done.same);
}
