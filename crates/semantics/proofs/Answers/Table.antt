-- A table of least costs of the corner graph gives the answer: no route where the start node is unreached, and else the entry's charge with
-- the first labels at its cost, which the greedy reading finds.
-- Assumes nothing.
use Rattle.std.specs.Prelude.{◌≡◌, List, ℕ, length}
use Rattle.semantics.specs.Automata.Proper.{Proper}
use Rattle.semantics.specs.Automaton.{Automaton}
use Rattle.semantics.specs.Order.{Cost}
use Rattle.semantics.specs.Graph.Path.{Entry, unreached, reached, LeastCosts}
use Rattle.semantics.specs.Chain.{begin}
use Rattle.semantics.specs.Answer.{no_route, route, answer}
use Rattle.semantics.specs.Graph.CornerGraph.{start_node, corner_graph}
use Rattle.semantics.proofs.Bounds.Reached.{Reached, reached-begin}
use Rattle.semantics.specs.Paths.Labels.{best-map}
use Rattle.semantics.specs.Paths.Route.{FirstFrom, Routing, LowerBound, Completes}
use Rattle.semantics.specs.Paths.Start.{start_none, start-best, start-bound, start-completes}
use Rattle.semantics.specs.Paths.Greedy.{greedy, greedy-first}
use Rattle.semantics.proofs.Answers.System.{chains, chains-follow, begin-starts, bytes_below}
use Rattle.semantics.proofs.Answers.Comes.{comes-arrives}
use Rattle.semantics.proofs.Answers.Best.{answer-best, answer-none}

module _ (a : Automaton) (ok : Proper a) (l : ℕ) (d : ℕ → Entry) (exact : LeastCosts (corner_graph a l) d) where
  -- What the theory of routes rests on.
  pub routing : Routing (corner_graph a l) (chains a) (Reached a) d
  routing = record { laws = chains-follow a ok l; exact = exact }

  pub unreached-answer : d (start_node a) ≡ unreached → answer a l ≡ no_route
  unreached-answer q =
      (answer-none a ok l).1
      (λ ks C c.
      start_none routing (begin a) (start_node a) (begin-starts a ok) (reached-begin a ok) q ks C ((comes-arrives a ok l ks C).0 c))

  module _ (c : Cost) (q : d (start_node a) ≡ reached c) where
    -- The first labels at the cost of the entry are the route.
    pub first-answer : (ks : List ℕ) → FirstFrom (corner_graph a l) (chains a) (begin a) c ks → answer a l ≡ route c.charge ks
    first-answer ks f =
        let n = f.good.1 in
        let b = start-best routing (begin a) (start_node a) (begin-starts a ok) (reached-begin a ok) c q ks f in
        (answer-best a ok l c.charge ks).1
        (rw n (best-map c ks (λ js C. (comes-arrives a ok l js C).1) (λ js C. (comes-arrives a ok l js C).0) b))

    -- The cost of the entry can be completed from the start, and nothing less.
    pub begin-completes : Completes (chains a) d (begin a) c
    begin-completes = start-completes routing (begin a) (start_node a) (begin-starts a ok) c q

    begin-bound : LowerBound (chains a) d (begin a) c
    begin-bound = start-bound routing (begin a) (start_node a) (begin-starts a ok) c q

    -- The greedy reading from the start finds them.
    greedy-finds : FirstFrom (corner_graph a l) (chains a) (begin a) c (greedy (chains a) d 66 c.charge c.steps (begin a))
    greedy-finds =
        greedy-first routing 66 (bytes_below a ok) c.charge c.steps (begin a) (reached-begin a ok) begin-bound begin-completes

    pub greedy-answer : answer a l ≡ route c.charge (greedy (chains a) d 66 c.charge c.steps (begin a))
    greedy-answer = first-answer (greedy (chains a) d 66 c.charge c.steps (begin a)) greedy-finds

    -- The route has as many steps as the entry.
    pub greedy-steps : length (greedy (chains a) d 66 c.charge c.steps (begin a)) ≡ c.steps
    greedy-steps = greedy-finds.good.1
