-- What a charge is at most: document 02, N2, "Every promise that bounds a price by 255 now bounds it by 65,535, up to the charge, which still
-- fits 32 bits." So neither the charge of a route nor that of any node meets the mark of an unreached node, the greatest number of 32 bits.
-- Assumes nothing.
use Rattle.std.specs.Prelude.{◌≡◌, refl, Bool, true, false, cond, List, ◌++◌, ℕ, ◌*◌, ◌-◌, ◌≤◌, ◌<◌, leb, length, get_or, drop}
use Rattle.std.proofs.Common.{le_trans, mul-le-mul_right, arith, leb-true, lit<}
use Rattle.semantics.specs.Distinct.{distinct}
use Rattle.semantics.specs.Automata.Proper.{Proper}
use Rattle.semantics.specs.Automaton.{Automaton}
use Rattle.semantics.specs.NodeCount.{node_count}
use Rattle.semantics.specs.Order.{Cost}
use Rattle.semantics.specs.Answer.{Answer as Best, no_route, route, answer}
use Rattle.semantics.proofs.Answers.Best.{answer-charge}
use Rattle.semantics.proofs.Answers.Forward.{from-least}
use Rattle.semantics.proofs.Answers.Graph.{graph-nodes, graph-weights}
use Rattle.semantics.specs.Graph.CornerGraph.{PricesWithin, start_node, corner_graph}
use Rattle.semantics.specs.Graph.Distance.{distance}
use Rattle.semantics.specs.Graph.Near.{turned}
use Rattle.semantics.specs.Graph.Path.{reached, infinity}
use Rattle.semantics.specs.Paths.Least.{least-charge}
use Rattle.semantics.specs.Paths.Turned.{turned-nodes, turned-closed, turned-light}
use Rattle.table.specs.Fields.{most_price}
use Rattle.table.specs.Meaning.{automaton}
use Rattle.table.specs.Theorems.Access.{range-within}
use Rattle.reader.specs.Read.{Judgement, accepted, rejected, read}
use Rattle.reader.specs.Theorems.Accepted.{accepted-range}
use Rattle.reader.specs.Theorems.Proper.{accepted-proper}
use Rattle.search.specs.Outcome.{most_nodes, cleared}
use Rattle.search.specs.Outcome.{Nodes as Searched-as-Nodes, Refused as Searched-as-Refused}
use Rattle.route.specs.Answers.{Refused, Route}
use Rattle.route.specs.Plan.{outcome, routed, after_room, planned_table, judged, planned}

-- E - 1 steps, each at the greatest price.
abbrev pub most_charge : ℕ
most_charge = (most_nodes - 1) * most_price

pub most-charge : most_charge ≡ 4294836225
most-charge = refl

pub most-finite : most_charge < infinity
most-finite = lit< tt

module _ (a : Automaton) (ok : Proper a) (light : PricesWithin a most_price) (few : node_count a ≤ most_nodes) where
  fewer : (node_count a - 1) * most_price ≤ most_charge
  fewer = let less : node_count a - 1 ≤ most_nodes - 1 = omega arith in mul-le-mul_right most_price less

  -- The charge of the answer.
  best-charge : (l C : ℕ) (ks : List ℕ) → answer a l ≡ route C ks → C ≤ most_charge
  best-charge l C ks e = le_trans (answer-charge a ok l C ks e most_price light) fewer

  -- The charge of a node, which the search keeps in 32 bits, 0xFFFF_FFFF for none.
  pub node-charge : (l v : ℕ) (c : Cost) → v < node_count a → distance (turned (corner_graph a l) (start_node a)) v ≡ reached c → c.charge ≤ most_charge
  node-charge l v c h q =
      let g = corner_graph a l in
      let s = start_node a in
      let same : (turned g s).nodes ≡ node_count a = rw (turned-nodes g s) (graph-nodes a l) in
      let inside : v < (turned g s).nodes = rw same h in
      let light' = turned-light g s most_price (graph-weights a l ok most_price light) in
      let most = least-charge (turned g s) (turned-closed g s) v inside c ((from-least a ok l).least v c inside q) most_price light' in
      le_trans (rw same at most) fewer

  routed-charge : (x : Best) (ws rs : List ℕ) (C n : ℕ) → answer a a.goal ≡ x → (routed a x ws rs).answer ≡ Route C n → C ≤ most_charge
  routed-charge no_route ws rs C n e q = distinct cc
  routed-charge (route D ks) ws rs C n e q = go (leb (length ks) (length rs)) q
    where
      go :
          (b : Bool)
          → (cond b (outcome (Route D (length ks)) (cleared a ws) (ks ++ drop (length ks) rs)) (outcome (Refused 10) (cleared a ws) rs)).answer ≡ Route C n
          → C ≤ most_charge
      go true q = let same : D ≡ C = cc in rw (← same) (best-charge a.goal D ks e)
      go false q = distinct cc

-- The nodes of a table that is searched are few enough.
table-charge : (a : Automaton) → Proper a → PricesWithin a most_price → (ws rs : List ℕ) (C n : ℕ) → (planned_table a ws rs).answer ≡ Route C n → C ≤ most_charge
unfolding planned_table
table-charge a ok light ws rs C n e = go (leb (node_count a) most_nodes) refl (leb (2 * node_count a) (length ws)) e
  where
    go :
        (b : Bool) → leb (node_count a) most_nodes ≡ b → (d : Bool)
        → (after_room (cond b (cond d (Searched-as-Nodes (node_count a)) (Searched-as-Refused 9)) (Searched-as-Refused 8)) a ws rs).answer ≡ Route C n
        → C ≤ most_charge
    go true q true e = routed-charge a ok light (leb-true (node_count a) most_nodes q) (answer a a.goal) ws rs C n refl e
    go true q false e = distinct cc
    go false q d e = distinct cc

-- The charge that planning reports.
pub planned-charge : (bytes ws rs : List ℕ) → ((i : ℕ) → get_or bytes i 0 < 256) → (C n : ℕ) → (planned bytes ws rs).answer ≡ Route C n → C ≤ most_charge
unfolding planned
planned-charge bytes ws rs small C n e = go (read bytes) refl e
  where
    go : (j : Judgement) → read bytes ≡ j → (judged j ws rs).answer ≡ Route C n → C ≤ most_charge
    go (rejected m) q e = distinct cc
    go (accepted f) q e =
        table-charge (automaton f) (accepted-proper bytes f q) (range-within f (accepted-range bytes f small q)) ws rs C n e
