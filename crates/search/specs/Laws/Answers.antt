-- What a search answers, case by case, and what it changes then.
-- Assumes nothing.
use Rattle.std.specs.Prelude.{◌≡◌, refl, Some, None, Bool, true, false, cond, List, ◌++◌, ℕ, ◌*◌, ◌≤◌, ◌<◌, leb, length, drop, replicate}
use Rattle.std.proofs.Common.{sym, ap, ◌∙◌, arith, leb-true, le-leb}
use Rattle.std.proofs.lemmas.Bool.{lt-leb}
use Rattle.semantics.specs.Distinct.{distinct}
use Rattle.semantics.specs.Automaton.{Automaton}
use Rattle.semantics.specs.NodeCount.{node_count}
use Rattle.semantics.specs.Graph.Near.{near_words}
use Rattle.semantics.specs.Graph.CornerGraph.{start_node, corner_graph}
use Rattle.regions.specs.Nodes.{most_nodes, bounded}
use Rattle.search.specs.Outcome.{Searched, Nodes, Refused}
use Rattle.search.specs.Outcome.{nodes_of, answered, unless_refused, searched, cleared}

-- E, or 8: from the count of the nodes.
module _ (a : Automaton) where
  pub nodes-many : bounded (node_count a) ≡ None → Refused 8 ≡ nodes_of a
  nodes-many = go (leb (node_count a) most_nodes)
    where
      go : (b : Bool) → cond b (Some (node_count a)) None ≡ None → Refused 8 ≡ cond b (Nodes (node_count a)) (Refused 8)
      go true h = distinct cc
      go false h = refl

  pub nodes-few : (n : ℕ) → bounded (node_count a) ≡ Some n → Nodes n ≡ nodes_of a
  nodes-few n = go (leb (node_count a) most_nodes)
    where
      go : (b : Bool) → cond b (Some (node_count a)) None ≡ Some n → Nodes n ≡ cond b (Nodes (node_count a)) (Refused 8)
      go true h = let e : n ≡ node_count a = cc in ap Nodes e
      go false h = distinct cc

  -- The nodes are n, and few enough.
  pub record Counts (n : ℕ) : Type 0 where
    pub counted : n ≡ node_count a
    pub few : n ≤ most_nodes

  pub nodes-counted : (n : ℕ) → nodes_of a ≡ Nodes n → Counts n
  nodes-counted n = go (leb (node_count a) most_nodes) refl
    where
      go : (b : Bool) → leb (node_count a) most_nodes ≡ b → cond b (Nodes (node_count a)) (Refused 8) ≡ Nodes n → Counts n
      go true q h = let e : n ≡ node_count a = cc in record { counted = e; few = omega (arith, leb-true (node_count a) most_nodes q) }
      go false q h = distinct cc

module _ (a : Automaton) (lent : ℕ) where
  -- The three answers.
  pub answer-many : (k : ℕ) → nodes_of a ≡ Refused k → nodes_of a ≡ answered a lent
  answer-many k = go (leb (node_count a) most_nodes)
    where
      go : (b : Bool) → cond b (Nodes (node_count a)) (Refused 8) ≡ Refused k
          → cond b (Nodes (node_count a)) (Refused 8) ≡ cond b (cond (leb (2 * node_count a) lent) (Nodes (node_count a)) (Refused 9)) (Refused 8)
      go true h = distinct cc
      go false h = refl

  pub answer-short : (n : ℕ) → node_count a ≡ n → n ≤ most_nodes → lent < 2 * n → Refused 9 ≡ answered a lent
  answer-short n e few h = rw (e, le-leb n most_nodes few, lt-leb (2 * n) lent h)

  pub answer-nodes : (n : ℕ) → node_count a ≡ n → n ≤ most_nodes → 2 * n ≤ lent → Nodes n ≡ answered a lent
  answer-nodes n e few h = rw (e, le-leb n most_nodes few, le-leb (2 * n) lent h)

  -- The answer is n: the nodes are n, few enough, and their words were lent.
  pub record Fits (n : ℕ) : Type 0 where
    pub counted : n ≡ node_count a
    pub few : n ≤ most_nodes
    pub room : 2 * n ≤ lent

  pub answer-fits : (n : ℕ) → answered a lent ≡ Nodes n → Fits n
  answer-fits n = go (leb (node_count a) most_nodes) refl (leb (2 * node_count a) lent) refl
    where
      go : (b : Bool) → leb (node_count a) most_nodes ≡ b → (d : Bool) → leb (2 * node_count a) lent ≡ d
          → cond b (cond d (Nodes (node_count a)) (Refused 9)) (Refused 8) ≡ Nodes n → Fits n
      go true q true r h =
          let e : n ≡ node_count a = cc in
          record { counted = e; few = omega (arith, leb-true (node_count a) most_nodes q); room = omega (arith, leb-true (2 * node_count a) lent r) }
      go true q false r h = distinct cc
      go false q d r h = distinct cc

-- A refusal changes nothing.
pub searched-refused : (a : Automaton) (l : ℕ) (ws : List ℕ) (k : ℕ) → answered a (length ws) ≡ Refused k → ws ≡ searched a l ws
unfolding searched
searched-refused a l ws k e = sym (ap (λ (r : Searched). unless_refused r (near_words (corner_graph a l) (start_node a)) ws) e)

pub cleared-refused : (a : Automaton) (ws : List ℕ) (k : ℕ) → answered a (length ws) ≡ Refused k → ws ≡ cleared a ws
unfolding cleared
cleared-refused a ws k e = sym (ap (λ (r : Searched). unless_refused r (replicate (2 * node_count a) 0) ws) e)

-- Otherwise the first words change.
pub searched-nodes : (a : Automaton) (l : ℕ) (ws : List ℕ) (n : ℕ) → answered a (length ws) ≡ Nodes n →
    near_words (corner_graph a l) (start_node a) ++ drop (2 * n) ws ≡ searched a l ws
unfolding searched
searched-nodes a l ws n e = sym (ap (λ (r : Searched). unless_refused r (near_words (corner_graph a l) (start_node a)) ws) e)

pub cleared-nodes : (a : Automaton) (ws : List ℕ) (n : ℕ) → answered a (length ws) ≡ Nodes n → n ≡ node_count a →
    replicate (2 * n) 0 ++ drop (2 * n) ws ≡ cleared a ws
unfolding cleared
cleared-nodes a ws n e s =
    ap (λ (k : ℕ). replicate (2 * k) 0 ++ drop (2 * n) ws) s ∙ sym (ap (λ (r : Searched). unless_refused r (replicate (2 * node_count a) 0) ws) e)
