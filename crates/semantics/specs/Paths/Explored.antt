-- Explored forwards from a node s: each entry is the cost of a way from s, and edges were relaxed, but for those of targets, and of nodes that cost no
-- less than a bound.
-- Assumes nothing.
use Rattle.std.specs.Prelude.{◌≡◌, refl, ◌⊎◌, List, ◌∷◌, ℕ, ◌<◌}
use Rattle.std.proofs.Common.{◌∙◌, ap}
use Rattle.semantics.specs.Order.{Cost, cost, ◌≼◌}
use Rattle.semantics.specs.Graph.Path.{Edge, Graph, Leaves, Target, IsPath, cost_of, HasCost, Least, Entry, unreached, reached, Within, Relaxed}
use Rattle.semantics.specs.Graph.Near.{turn, turned}
use Rattle.semantics.specs.Paths.Cost.{cost-antisymm}
use Rattle.semantics.specs.Paths.Distance.{within-cost}
use Rattle.semantics.specs.Paths.Least.{no-less-cost}
use Rattle.semantics.specs.Paths.Turned.{along-cancel-less}

-- The edge e of v does not improve the entry of its end, by the entry of v.
abbrev pub RelaxedFrom : Graph → ℕ → (ℕ → Entry) → ℕ → Edge → Type 0
RelaxedFrom g s d v e = Relaxed (turned g s) d e.to (turn v e)

-- The cost is no less than the bound, if there is a bound.
abbrev pub Beyond : Entry → Cost → Type 0
Beyond unreached a = ⊥
Beyond (reached b) a = b ≼ a

-- Each entry is the cost of a way from s, and every edge was relaxed, unless its node is a target or costs no less than the bound.
pub record Explored (g : Graph) (s : ℕ) (bound : Entry) (d : ℕ → Entry) : Type 0 where
  pub attained : (v : ℕ) (a : Cost) → v < g.nodes → d v ≡ reached a → HasCost (turned g s) v a
  pub start : (v : ℕ) → v < g.nodes → Target (turned g s) v → d v ≡ reached (cost 0 0)
  pub edges :
      (v : ℕ) (e : Edge) (a : Cost) → v < g.nodes → Leaves g v e → d v ≡ reached a → RelaxedFrom g s d v e ⊎ (Beyond bound a ⊎ Target g v)

-- The cost of a path.
pub path-cost : (g : Graph) (v : ℕ) (p : List Edge) → IsPath g v p → HasCost g v (cost_of p)
path-cost g v p w = record { path = p; is-path = w; charged = refl; counted = refl }

-- If a path is least, so is what is left of it after its first edge.
pub least-rest :
    (g : Graph) (v : ℕ) (x : Edge) (q : List Edge) → Leaves g v x → IsPath g x.to q → Least g v (cost_of (x ∷ q))
    → Least g x.to (cost_of q)
least-rest g v x q l w b =
    record { attained = path-cost g x.to q w; least = λ p k. along-cancel-less x (cost_of q) (cost_of p) (b.least (x ∷ p) (l, k)) }

-- An attained entry that is within the least cost is the least cost.
pub within-least :
    (g : Graph) (d : ℕ → Entry) (w : ℕ) (b : Cost) → ((a : Cost) → d w ≡ reached a → HasCost g w a) → Least g w b → Within (d w) b
    → d w ≡ reached b
within-least g d w b attained l k =
    let r = within-cost (d w) b k in
    let same = cost-antisymm r.cost b r.within (no-less-cost g w b r.cost l (attained r.cost r.entry)) in
    r.entry ∙ ap reached same
