-- What the words of a search say of the goal: the least cost of its nodes is that of the route, and the entries are the least costs from the start
-- as far as they are as near as that.
-- Assumes nothing.
use Rattle.std.specs.Prelude.{Option, Some, None, ◌≡◌, refl, ◌⊎◌, ℕ, zero, suc, ◌+◌, ◌*◌, ◌/◌, ◌≤◌, ◌<◌, length, get_or, drop, replicate}
use Rattle.std.proofs.Common.{sym, subst, ◌∙◌, inl, inr, zero-add, arith, length-append, length-drop, drop_at}
use Rattle.std.proofs.Math.Path.{ap}
use mathlib.Core.List.{List, ◌++◌}
use Rattle.semantics.specs.Distinct.{distinct}
use Rattle.semantics.specs.Answer.{count_from}
use Rattle.semantics.specs.Corners.Corner.{flat_map}
use Rattle.semantics.specs.Order.{Cost, cost, ◌≼◌}
use Rattle.semantics.specs.Graph.Path.{Graph, Target, Closed, WeightsWithin, Entry, unreached, reached, infinity, charge_at, steps_at, table}
use Rattle.semantics.specs.NodeCount.{node_count}
use Rattle.semantics.specs.Graph.Distance.{distance, entry_words}
use Rattle.semantics.specs.Graph.Near.{turned, near, near_words}
use Rattle.semantics.specs.Automaton.{Automaton}
use Rattle.semantics.specs.Graph.CornerGraph.{start_node, corner_graph}
use Rattle.semantics.proofs.Nodes.Number.{node_at-node}
use Rattle.semantics.specs.Paths.Words.{Blank, table-unreached, table-holds, reached-words}
use Rattle.semantics.specs.Paths.Found.{words_at, words-scattered}
use Rattle.semantics.specs.Paths.Near.{BestTarget}
use Rattle.semantics.proofs.Paths.Near.{words-near}
use Rattle.semantics.proofs.Answers.Graph.{graph-nodes, graph-closed, graph-weights}
use Rattle.semantics.specs.Answers.Modes.{graph-goal, graph_block}
use Rattle.semantics.specs.Answers.Walk.{NearCosts}
use Rattle.table.specs.Fields.{most_price}
use Rattle.table.specs.Held.{automaton_of, IsTable}
use Rattle.table.specs.Theorems.Access.{table-proper, amounts-within}
use Rattle.regions.specs.Nodes.{most_nodes}
use Rattle.space.specs.Space.{graph_of, start_of}
use Rattle.space.specs.Laws.Shares.{share, share-quotient, shared-out, share-below, nodes-shared, some-modes, start-below, few-modes}
use Rattle.near.specs.declared.Cost.{Cost as CostHeld}
use Rattle.near.specs.Near.{cost_entry, BestRoom, InMode, IsBest}
use Rattle.search.specs.Outcome.{Searched}
use Rattle.search.specs.Outcome.{Nodes, Refused}
use Rattle.search.specs.Outcome.{answered, searched, cleared}
use Rattle.search.specs.Laws.Answers.{answer-nodes, answer-fits, searched-refused, searched-nodes, cleared-nodes}

-- The nodes of the goal are the targets.
module _ (t : List ℕ) (ok : IsTable t) (goal nodes modes : ℕ) (counted : nodes ≡ node_count (automaton_of t))
    (modes-are : modes ≡ length (automaton_of t).modes) where
  -- How many nodes a mode has.
  quotient : nodes / modes ≡ share (automaton_of t)
  quotient = rw (counted, modes-are) (share-quotient (automaton_of t) (some-modes t ok))

  -- A target is a node of the goal.
  target-in : (v : ℕ) → v < (graph_of t goal).nodes → Target (graph_of t goal) v → InMode nodes goal modes v
  target-in v h x =
      let a = automaton_of t in
      let mode = (graph-goal a goal v).0 x in
      let below : v < node_count a = rw (graph-nodes a goal) at h in
      let there : goal < length a.modes = omega (arith, (node_at-node a v below).mode, mode) in
      let block = (graph_block a goal goal there v h).0 mode in
      rw quotient (omega (arith, modes-are), block.0, block.1)

  -- And a node of the goal is a target.
  in-target : (v : ℕ) → InMode nodes goal modes v → (v < (graph_of t goal).nodes) × Target (graph_of t goal) v
  in-target v i =
      let a = automaton_of t in
      let there : goal < length a.modes = omega (arith, i.0, modes-are) in
      let from : goal * share a ≤ v = rw quotient at i.1 in
      let to : v < goal * share a + share a = rw quotient at i.2 in
      let below : v < node_count a = omega (arith, to, share-below goal (length a.modes) (share a) there, nodes-shared a) in
      let inside : v < (graph_of t goal).nodes = rw (graph-nodes a goal) below in
      (inside, (graph-goal a goal v).1 ((graph_block a goal goal there v inside).1 (from, to)))

  -- The least cost of the goal's nodes is the least entry of the targets.
  pub best-target : (ws : List ℕ) (r : Option CostHeld) → IsBest nodes goal modes ws r → BestTarget (graph_of t goal) (table ws) (cost_entry r)
  best-target ws None best = record {
    none = λ q v h x. table-unreached ws v (best v (target-in v h x));
    some = λ c q. distinct cc;
    least = λ c q. distinct cc;
  }
  best-target ws (Some r) best = record {
    none = λ q. distinct cc;
    some = λ c q.
        let same : cost r.charge r.steps ≡ c = cc in
        let o = best.attained in
        let at = in-target o.0 o.1 in (
          o.0,
          at.0,
          at.1,
          subst (λ (b : Cost). table ws o.0 ≡ reached b) same (table-holds ws o.0 (cost r.charge r.steps) (record { known = λ z. best.known (sym o.2 ∙ z); charge = o.2; steps = o.3 })),
        );
    least = λ c q v a h x e.
        let same : cost r.charge r.steps ≡ c = cc in
        subst (λ (b : Cost). b ≼ a) same (less a v (reached-words ws v a e).charge (reached-words ws v a e).steps (best.least v (target-in v h x)));
  }
    where
      less :
          (a : Cost) (v : ℕ) → charge_at ws v ≡ a.charge → steps_at ws v ≡ a.steps
          → (r.charge < charge_at ws v) ⊎ ((r.charge ≡ charge_at ws v) × (r.steps ≤ steps_at ws v)) → cost r.charge r.steps ≼ a
      less a v x y (inl k) = inl (omega arith)
      less a v x y (inr k) = inr (omega arith)

-- The words of entries are two for each node.
entry_length : (x : Entry) → length (entry_words x) ≡ 2
entry_length unreached = refl
entry_length (reached c) = refl

words-length : (d : ℕ → Entry) (n i : ℕ) → length (flat_map (λ v. entry_words (d v)) (count_from i n)) ≡ 2 * n
words-length d zero i = refl
words-length d (suc n) i =
    let rest = flat_map (λ v. entry_words (d v)) (count_from (suc i) n) in
    omega (arith, length-append (entry_words (d i)) rest, entry_length (d i), words-length d n (suc i))

-- And so are those of a search.
near-length : (g : Graph) (s : ℕ) → length (near_words g s) ≡ 2 * g.nodes
unfolding near_words
near-length g s = words-length (λ v. near (distance g s) (distance (turned g s) v)) g.nodes 0

-- What a search and clearing change: no more than the first 2E words.
module _ (a : Automaton) (l : ℕ) (ws : List ℕ) where
  -- A search was made, so that the nodes are n.
  module _ (n : ℕ) (e : answered a (length ws) ≡ Nodes n) where
    new-length : length (near_words (corner_graph a l) (start_node a)) ≡ 2 * n
    new-length =
        near-length (corner_graph a l) (start_node a)
        ∙ ap (λ (k : ℕ). 2 * k) (graph-nodes a l ∙ sym (answer-fits a (length ws) n e).counted)

    made-length : length (searched a l ws) ≡ length ws
    made-length =
        ap length (sym (searched-nodes a l ws n e))
        ∙ omega (
          arith,
          length-append (near_words (corner_graph a l) (start_node a)) (drop (2 * n) ws),
          new-length,
          length-drop (2 * n) ws,
          (answer-fits a (length ws) n e).room,
        )

    searched-behind : drop (2 * n) (searched a l ws) ≡ drop (2 * n) ws
    searched-behind =
        ap (drop (2 * n)) (sym (searched-nodes a l ws n e)) ∙ drop_at (near_words (corner_graph a l) (start_node a)) (drop (2 * n) ws) (2 * n) new-length

  -- The number of the words stays.
  searched-length : length (searched a l ws) ≡ length ws
  searched-length = at (answered a (length ws)) refl
    where
      at : (r : Searched) → answered a (length ws) ≡ r → length (searched a l ws) ≡ length ws
      at (Refused k) e = ap length (sym (searched-refused a l ws k e))
      at (Nodes n) e = made-length n e

  -- So clearing after a search, and after what leaves the words behind as they are, leaves what clearing before it would have left.
  pub cleared-searched :
      (n : ℕ) → answered a (length ws) ≡ Nodes n → (ws' : List ℕ) → drop (2 * n) ws' ≡ drop (2 * n) (searched a l ws)
      → length ws' ≡ length (searched a l ws) → cleared a ws' ≡ cleared a ws
  cleared-searched n e ws' rest kept =
      let f = answer-fits a (length ws) n e in
      let again : answered a (length ws') ≡ Nodes n = ap (answered a) (kept ∙ searched-length) ∙ e in
      sym (cleared-nodes a ws' n again f.counted) ∙ ap (λ (v : List ℕ). replicate (2 * n) 0 ++ v) (rest ∙ searched-behind n e)
      ∙ cleared-nodes a ws n e f.counted

-- The graph of a table: what the theorems on what is near ask of it.
module _ (t : List ℕ) (ok : IsTable t) (l : ℕ) where
  -- Its edges lead to nodes.
  pub goal-closed : Closed (graph_of t l)
  goal-closed = graph-closed (automaton_of t) l (table-proper t ok)

  -- They weigh no more than a rate or a price may be.
  pub goal-light : WeightsWithin (graph_of t l) most_price
  goal-light = graph-weights (automaton_of t) l (table-proper t ok) most_price (amounts-within t ok)

  -- Chains begin at a node.
  pub goal-inside : start_of t < (graph_of t l).nodes
  goal-inside = rw (graph-nodes (automaton_of t) l) (start-below t ok)

  -- No path without loops is charged as much as the bound that stands for none.
  pub goal-small : node_count (automaton_of t) ≤ most_nodes → (graph_of t l).nodes * most_price < infinity
  goal-small few = omega (arith, graph-nodes (automaton_of t) l)

  module _ (ws : List ℕ) (few : node_count (automaton_of t) ≤ most_nodes) (room : 2 * node_count (automaton_of t) ≤ length ws) where
    -- The words of a search, with the rest as it was.
    is_found : searched (automaton_of t) l ws ≡ near_words (graph_of t l) (start_of t) ++ drop (2 * node_count (automaton_of t)) ws
    is_found =
        let a = automaton_of t in
        sym (searched-nodes a l ws (node_count a) (sym (answer-nodes a (length ws) (node_count a) refl few room)))

    -- The entries are the least costs from the start, as far as they are as near as the goal.
    pub searched-near : NearCosts (graph_of t l) (start_of t) (table (searched (automaton_of t) l ws))
    searched-near v h =
        words-near (graph_of t l) (start_of t) goal-closed goal-inside most_price goal-light (goal-small few) (searched (automaton_of t) l ws)
        (drop (2 * node_count (automaton_of t)) ws) is_found v h

    -- The two words of a node are those of its entry.
    searched-words :
        (v : ℕ) → v < (graph_of t l).nodes
        → words_at (searched (automaton_of t) l ws) v ≡ entry_words (near (distance (graph_of t l) (start_of t)) (distance (turned (graph_of t l) (start_of t)) v))
    unfolding near_words
    searched-words v h =
        let g = graph_of t l in
        ap (λ (k : List ℕ). words_at k v) is_found
        ∙ words-scattered (λ u. near (distance g (start_of t)) (distance (turned g (start_of t)) u)) g.nodes 0
        (drop (2 * node_count (automaton_of t)) ws) v h
        ∙ ap (λ (u : ℕ). entry_words (near (distance g (start_of t)) (distance (turned g (start_of t)) u))) (zero-add v)

    -- A node that is unreached has infinity in both words.
    searched-blank : (v : ℕ) → v < (graph_of t l).nodes → Blank (searched (automaton_of t) l ws) v
    searched-blank v h q = at (near (distance (graph_of t l) (start_of t)) (distance (turned (graph_of t l) (start_of t)) v)) refl
      where
        at :
            (x : Entry) → near (distance (graph_of t l) (start_of t)) (distance (turned (graph_of t l) (start_of t)) v) ≡ x
            → steps_at (searched (automaton_of t) l ws) v ≡ infinity
        at unreached e = ap (λ (k : List ℕ). get_or k 1 0) (searched-words v h ∙ ap entry_words e)
        at (reached c) e = absurd ((reached-words (searched (automaton_of t) l ws) v c (searched-near v h ∙ e)).known q)

    -- So the goal's cost can be read off them.
    pub searched-room :
        (nodes modes : ℕ) → nodes ≡ node_count (automaton_of t) → modes ≡ length (automaton_of t).modes → BestRoom nodes modes (searched (automaton_of t) l ws)
    searched-room nodes modes counted modes-are = record {
      words = record { few = omega (arith, few, counted); room = omega (arith, room, counted, searched-length (automaton_of t) l ws) };
      some = omega (arith, some-modes t ok, modes-are);
      modes-few = omega (arith, few-modes t ok, modes-are);
      shared = rw (counted, modes-are) (shared-out (automaton_of t) (some-modes t ok));
      blank = λ v h. searched-blank v (omega (arith, h, counted, graph-nodes (automaton_of t) l));
    }
