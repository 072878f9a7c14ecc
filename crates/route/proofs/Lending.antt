-- How much to lend: from the count of the nodes and from a judgement of the bytes to the definition.
-- Assumes nothing.
use mathlib.Core.Path.{◌≡◌, sym, ap, subst}
use mathlib.Core.Bool.{Bool, true, false, cond}
use mathlib.Core.List.{List}
use Prim.Native.Nat.{ℕ, ◌*◌, ◌-◌}
use lib.Dec.{leb}
use Rattle.semantics.specs.Distinct.{distinct}
use Rattle.semantics.specs.Automaton.{Automaton}
use Rattle.semantics.specs.NodeCount.{node_count}
use Rattle.table.specs.Held.{fields_of, automaton_of}
use Rattle.reader.specs.Read.{accepted, rejected, read}
use Rattle.search.specs.Outcome.{Nodes as Searched-as-Nodes, Refused as Searched-as-Refused}
use Rattle.search.specs.Outcome.{most_nodes, nodes_of}
use Rattle.route.specs.Lend.{Needs}
use Rattle.route.specs.Lend.{Refused, Memory}
use Rattle.route.specs.Lend.{needed_table, needed_judged, needed, Enough}
use Rattle.route.proofs.Lent.{needed-enough}

-- From the count of the nodes.
module _ (a : Automaton) (n : ℕ) where
  pub memory-refused : nodes_of a ≡ Searched-as-Refused n → Refused n ≡ needed_table a
  unfolding needed_table
  memory-refused = go (leb (node_count a) most_nodes)
    where
      go :
          (b : Bool) → cond b (Searched-as-Nodes (node_count a)) (Searched-as-Refused 8) ≡ Searched-as-Refused n
          → Refused n ≡ cond b (Memory (2 * node_count a) (node_count a - 1)) (Refused 8)
      go true e = distinct cc
      go false e = let is : n ≡ 8 = cc in ap Refused is

  pub memory-counted : nodes_of a ≡ Searched-as-Nodes n → Memory (2 * n) (n - 1) ≡ needed_table a
  unfolding needed_table
  memory-counted = go (leb (node_count a) most_nodes)
    where
      go :
          (b : Bool) → cond b (Searched-as-Nodes (node_count a)) (Searched-as-Refused 8) ≡ Searched-as-Nodes n
          → Memory (2 * n) (n - 1) ≡ cond b (Memory (2 * node_count a) (node_count a - 1)) (Refused 8)
      go true e = let is : n ≡ node_count a = cc in ap (λ (k : ℕ). Memory (2 * k) (k - 1)) is
      go false e = distinct cc

-- From the judgement of the bytes: a refusal of the reader, and a table that was read.
module _ (bytes : List ℕ) where
  pub needed-refused : (n : ℕ) → read bytes ≡ rejected n → Refused n ≡ needed bytes
  unfolding needed
  needed-refused n e = sym (ap needed_judged e)

  pub needed-accepted : (t : List ℕ) → read bytes ≡ accepted (fields_of t) → needed_table (automaton_of t) ≡ needed bytes
  unfolding needed
  needed-accepted t e = sym (ap needed_judged e)

-- A call with the answer of the definitions keeps its promise.
pub needs-enough : (bytes : List ℕ) (r : Needs) → r ≡ needed bytes → Enough bytes r
needs-enough bytes r e = subst (Enough bytes) (sym e) (needed-enough bytes)
