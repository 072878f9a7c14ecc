-- Shortest paths in a graph: what the search computes, free of automata, regions and bytes. The nodes are the numbers below E, an edge has
-- a label and a weight, and some nodes are targets.
-- Assumes nothing.
use Rattle.std.specs.Prelude.{◌≡◌, Bool, true, cond, ℕ, suc, ◌+◌, ◌*◌, ◌≤◌, ◌<◌, eqb, length, get_or}
use mathlib.Core.List.{List, [], ◌∷◌, map, Memᴰ}
use Rattle.semantics.specs.Order.{Cost, cost, ◌≼◌}

-- An edge: its label, its weight, and the node that it leads to.
pub record Edge : Type 0 where
  pub label : ℕ
  pub weight : ℕ
  pub to : ℕ

-- A graph: the number of its nodes (document 01's E), the edges that leave each node, and whether a node is a target.
pub record Graph : Type 0 where
  pub nodes : ℕ
  pub edges : ℕ → List Edge
  pub is_target : ℕ → Bool

-- Edge e leaves node v.
abbrev pub Leaves : Graph → ℕ → Edge → Type 0
Leaves g v e = Memᴰ e (g.edges v)

-- Node v is a target.
abbrev pub Target : Graph → ℕ → Type 0
Target g v = g.is_target v ≡ true

-- The edges that leave nodes lead to nodes.
abbrev pub Closed : Graph → Type 0
Closed g = (v : ℕ) (e : Edge) → v < g.nodes → Leaves g v e → e.to < g.nodes

-- No edge that leaves a node weighs more than w.
abbrev pub WeightsWithin : Graph → ℕ → Type 0
WeightsWithin g w = (v : ℕ) (e : Edge) → v < g.nodes → Leaves g v e → e.weight ≤ w

-- The edges p, one after another, are a path from node v into the targets. From a target the path of no edges is one.
abbrev pub IsPath : Graph → ℕ → List Edge → Type 0
IsPath g v [] = Target g v
IsPath g v (e ∷ p) = Leaves g v e × IsPath g e.to p

-- The labels of a path.
abbrev pub labels_of : List Edge → List ℕ
labels_of p = map (λ e. e.label) p

-- The charge of a path: the sum of its weights.
abbrev pub charge_of : List Edge → ℕ
charge_of [] = 0
charge_of (e ∷ p) = e.weight + charge_of p

-- The cost of a path: its charge, and its number of edges as its steps.
abbrev pub cost_of : List Edge → Cost
cost_of p = cost (charge_of p) (length p)

-- Some path from v costs exactly c.
pub record HasCost (g : Graph) (v : ℕ) (c : Cost) : Type 0 where
  pub path : List Edge
  pub is-path : IsPath g v path
  pub charged : charge_of path ≡ c.charge
  pub counted : length path ≡ c.steps

-- c is the least cost of a path from v: some path has it, and no path costs less.
pub record Least (g : Graph) (v : ℕ) (c : Cost) : Type 0 where
  pub attained : HasCost g v c
  pub least : (p : List Edge) → IsPath g v p → c ≼ cost_of p

-- A table of distances has an entry for each node: a cost, or that the node is unreached.
pub data Entry : Type 0 where
  unreached : Entry
  reached : Cost → Entry

-- The table d gives for every node exactly the least cost of a path into the targets, or unreached where there is no path.
pub record LeastCosts (g : Graph) (d : ℕ → Entry) : Type 0 where
  pub least : (v : ℕ) (c : Cost) → v < g.nodes → d v ≡ reached c → Least g v c
  pub no-path : (v : ℕ) → v < g.nodes → d v ≡ unreached → (p : List Edge) → IsPath g v p → ⊥

-- The table is attained: each reached entry is the cost of some path.
abbrev pub Attained : Graph → (ℕ → Entry) → Type 0
Attained g d = (v : ℕ) (c : Cost) → v < g.nodes → d v ≡ reached c → HasCost g v c

-- The entry is reached, at a cost of at most c.
abbrev pub Within : Entry → Cost → Type 0
Within unreached c = ⊥
Within (reached b) c = b ≼ c

-- The cost of edge e and then a path of cost c.
abbrev pub along : Edge → Cost → Cost
along e c = cost (e.weight + c.charge) (suc c.steps)

-- Edge e, which leaves v, does not improve the entry of v: by the entry of its end it offers nothing less. The step guard: what has E steps
-- or more is passed over.
abbrev pub Relaxed : Graph → (ℕ → Entry) → ℕ → Edge → Type 0
Relaxed g d v e = (c : Cost) → d e.to ≡ reached c → suc c.steps < g.nodes → Within (d v) (along e c)

-- The table is settled: the targets have the cost of the path of no edges, and no edge improves an entry.
pub record Settled (g : Graph) (d : ℕ → Entry) : Type 0 where
  pub targets : (v : ℕ) → v < g.nodes → Target g v → d v ≡ reached (cost 0 0)
  pub relaxed : (v : ℕ) (e : Edge) → v < g.nodes → Leaves g v e → Relaxed g d v e

-- "The search takes 2E words of 32 bits": the charge of node v stands at 2v, and its steps at 2v + 1. An unreached node has 0xFFFF_FFFF in
-- both, and no other charge is so high.
abbrev pub infinity : ℕ
infinity = 0xFFFF_FFFF

abbrev pub charge_at : List ℕ → ℕ → ℕ
charge_at ws v = get_or ws (2 * v) 0

abbrev pub steps_at : List ℕ → ℕ → ℕ
steps_at ws v = get_or ws (2 * v + 1) 0

-- The table that the words hold.
unfoldable pub table : List ℕ → ℕ → Entry
table ws v = cond (eqb (charge_at ws v) infinity) unreached (reached (cost (charge_at ws v) (steps_at ws v)))
