-- An attained and settled table gives exactly the least costs. The step guard does no harm: a path that it leaves out comes to a node
-- twice, and without the loop it is shorter and no dearer.
-- Assumes nothing.
use Rattle.std.specs.Prelude.{refl, List, [], ◌∷◌, ℕ, suc, ◌≤◌, ◌<◌}
use Rattle.std.proofs.Common.{inl, inr, le_refl, arith}
use Rattle.std.proofs.Math.Decide.{dec_lt}
use Rattle.semantics.specs.Order.{◌≼◌, ◌≺◌}
use Rattle.semantics.specs.Graph.Path.{Edge, Graph, Leaves, Closed, IsPath, cost_of, HasCost, Entry, LeastCosts, Attained, Within, along, Settled}
use Rattle.semantics.specs.Paths.Cost.{cost-weaken, cost-fewer, cost-along, cost-induction}
use Rattle.semantics.specs.Paths.Loops.{Shorter, loop-removal}
use Rattle.semantics.specs.Paths.Distance.{EntryCost, within-cost, within-trans}

module _ (g : Graph) (closed : Closed g) (d : ℕ → Entry) (attained : Attained g d) (settled : Settled g d) where
  -- From whichever node p is a path, its cost is no less than the node's entry.
  abbrev Covered : List Edge → Type 0
  Covered p = (v : ℕ) → v < g.nodes → IsPath g v p → Within (d v) (cost_of p)

  -- All paths that cost less than p are covered.
  abbrev Lesser : List Edge → Type 0
  Lesser p = (q : List Edge) → cost_of q ≺ cost_of p → Covered q

  -- A path from v that begins with edge e.
  module _ (e : Edge) (q : List Edge) (lesser : Lesser (e ∷ q)) (v : ℕ) (h : v < g.nodes) (l : Leaves g v e) where
    -- What the edge offers has E steps or more: the path behind the offer has a loop, and without the loop it costs less than e ∷ q.
    covered-guarded :
        (b : EntryCost (d e.to) (cost_of q)) → g.nodes ≤ suc b.cost.steps → HasCost g e.to b.cost
        → Within (d v) (cost_of (e ∷ q))
    covered-guarded b long r = at (loop-removal g closed v (e ∷ r.path) h (l, r.is-path) (omega arith))
      where
        less : (s : Shorter g v (e ∷ r.path)) → b.cost ≼ cost_of q → cost_of s.path ≺ cost_of (e ∷ q)
        less s (inl x) = inl (omega arith)
        less s (inr x) = cost-fewer (cost_of s.path) (cost_of (e ∷ q)) (omega arith) (omega arith)

        at : Shorter g v (e ∷ r.path) → Within (d v) (cost_of (e ∷ q))
        at s =
            let x = less s b.within in
            within-trans (d v) (cost_of s.path) (cost_of (e ∷ q)) (lesser s.path x v h s.is-path)
            (cost-weaken (cost_of s.path) (cost_of (e ∷ q)) x)

    -- The edge, by the entry of its end, offers no more than the path costs.
    covered-edge : EntryCost (d e.to) (cost_of q) → Within (d v) (cost_of (e ∷ q))
    covered-edge b = at (dec_lt (suc b.cost.steps) g.nodes)
      where
        at : Dec (suc b.cost.steps < g.nodes) → Within (d v) (cost_of (e ∷ q))
        at (yes few) =
            within-trans (d v) (along e b.cost) (cost_of (e ∷ q)) (settled.relaxed v e h l b.cost b.entry few)
            (cost-along e b.cost (cost_of q) b.within)
        at (no many) = covered-guarded b (omega arith) (attained e.to b.cost (closed v e h l) b.entry)

  covered : (p : List Edge) → Lesser p → Covered p
  covered [] lesser v h w = rw (settled.targets v h w) (inr (refl, le_refl 0))
  covered (e ∷ q) lesser v h w =
      covered-edge e q lesser v h w.0
      (within-cost (d e.to) (cost_of q)
      (lesser q (cost-fewer (cost_of q) (cost_of (e ∷ q)) (omega arith) (omega arith)) e.to (closed v e h w.0) w.1))

  -- No path costs less than the entry of its first node.
  no_less : (v : ℕ) (p : List Edge) → v < g.nodes → IsPath g v p → Within (d v) (cost_of p)
  no_less v p h w = cost-induction cost_of Covered covered p v h w

  pub least-costs : LeastCosts g d
  least-costs = record {
    least = λ v c h q. record { attained = attained v c h q; least = λ p w. rw q at (no_less v p h w) };
    no-path = λ v h q p w. rw q at (no_less v p h w);
  }
