-- The answer as a function that antt computes: the distances round by round, and the route read off them greedily.
-- Assumes nothing.
use Rattle.std.specs.Prelude.{◌≡◌, ℕ, get_or}
use Rattle.std.proofs.Math.Path.{refl}
use Rattle.std.proofs.Common.{sym, ◌∙◌}
use Rattle.semantics.specs.Automata.Proper.{Proper}
use Rattle.semantics.specs.Automaton.{Automaton}
use Rattle.semantics.specs.Graph.Path.{Graph, Closed, Entry, unreached, reached, LeastCosts}
use Rattle.semantics.specs.Chain.{begin}
use Rattle.semantics.specs.Answer.{Answer, no_route, route, answer}
use Rattle.semantics.specs.Graph.CornerGraph.{start_node, corner_graph}
use Rattle.semantics.proofs.Paths.UpTo.{distance_least}
use Rattle.semantics.specs.Paths.Computed.{distances, distances-at}
use Rattle.semantics.specs.Paths.Greedy.{greedy}
use Rattle.semantics.proofs.Answers.System.{chains}
use Rattle.semantics.proofs.Answers.Graph.{graph-closed}
use Rattle.semantics.proofs.Answers.Table.{unreached-answer, greedy-answer}

-- The answer by the entry of the start node.
abbrev read_off : Automaton → (ℕ → Entry) → Entry → Answer
read_off a d unreached = no_route
read_off a d (reached c) = route c.charge (greedy (chains a) d 66 c.charge c.steps (begin a))

-- The distances are computed once.
unfoldable pub computed : Automaton → ℕ → Answer
computed a l =
    let entries = distances (corner_graph a l) in
    read_off a (λ v. get_or entries v unreached) (get_or entries (start_node a) unreached)

-- A table that agrees with the distances at every node has the least costs.
listed-least : (g : Graph) → Closed g → LeastCosts g (λ v. get_or (distances g) v unreached)
listed-least g closed =
    let exact = distance_least g closed in
    record {
      least = λ v c h q. exact.least v c h (sym (distances-at g closed v h) ∙ q);
      no-path = λ v h q. exact.no-path v h (sym (distances-at g closed v h) ∙ q);
    }

module _ (a : Automaton) (ok : Proper a) (l : ℕ) where
  abbrev listed : ℕ → Entry
  listed v = get_or (distances (corner_graph a l)) v unreached

  exact : LeastCosts (corner_graph a l) listed
  exact = listed-least (corner_graph a l) (graph-closed a l ok)

  answer_at : (x : Entry) → listed (start_node a) ≡ x → answer a l ≡ read_off a listed (listed (start_node a))
  answer_at unreached q = rw q (unreached-answer a ok l listed exact q)
  answer_at (reached c) q = rw q (greedy-answer a ok l listed exact c q)

  pub computed-answer : answer a l ≡ computed a l
  unfolding computed
  computed-answer = answer_at (listed (start_node a)) refl
