-- Entries that are no higher than they were, and edges that improve nothing.
-- Assumes nothing.
use Rattle.std.specs.Prelude.{◌≡◌, ℕ}
use Rattle.std.proofs.Common.{arith}
use Rattle.semantics.specs.Order.{Cost}
use Rattle.semantics.specs.Graph.Path.{Edge, Graph, Entry, reached, Within, along, Relaxed}
use Rattle.semantics.specs.Paths.Cost.{cost-both}

-- Every bound of the entry y bounds the entry x.
abbrev pub Lower : Entry → Entry → Type 0
Lower x y = (c : Cost) → Within y c → Within x c

-- An edge that improved nothing still improves nothing if the entry of its end is the same and that of its node is no higher.
pub relaxed-kept :
    (g : Graph) (d d' : ℕ → Entry) (v : ℕ) (e : Edge) → Lower (d' v) (d v) → d' e.to ≡ d e.to → Relaxed g d v e
    → Relaxed g d' v e
relaxed-kept g d d' v e lower same r c q few = lower (along e c) (r c (rw same at q) few)

-- An edge from a node to itself improves nothing.
pub relaxed-loop : (g : Graph) (d : ℕ → Entry) (v : ℕ) (e : Edge) → e.to ≡ v → Relaxed g d v e
relaxed-loop g d v e same c q few =
    let x : d v ≡ reached c = rw same at q in
    rw x (cost-both c (along e c) (omega arith) (omega arith))
