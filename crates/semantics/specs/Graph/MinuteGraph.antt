-- The graph that the search for a timetable goes through: its nodes are the modes with whole values, by their numbers, and its edges the pairs that are
-- allowed there. A path into the goal mode is then a timetable, an edge a pair.
-- Assumes nothing.
use Rattle.std.specs.Prelude.{List, [], ◌∷◌, map, ℕ, ◌+◌, ◌*◌, ◌/◌, ◌%◌, eqb, get_or}
use Rattle.std.proofs.Math.Option.{none, some}
use Rattle.semantics.specs.Automaton.{Automaton, timers}
use Rattle.semantics.specs.Run.{State}
use Rattle.semantics.specs.NodeCount.{cell_count}
use Rattle.semantics.specs.Nodes.Node.{cell_number, cell_at}
use Rattle.semantics.specs.Corners.Corner.{flat_map}
use Rattle.semantics.specs.Answer.{count_from}
use Rattle.semantics.specs.Graph.Path.{Edge, Graph}
use Rattle.semantics.specs.Timetable.{Pair, pair_step, pair_charge, all_pairs, state_count}

-- A pair as one label. Labels are in the order of the pairs' bytes, since there are at most 64 moves.
abbrev pub label_of : Pair → ℕ
label_of p = 64 * p.minutes + p.made

abbrev pub pair_of : ℕ → Pair
pair_of k = record { minutes = k / 64; made = k % 64 }

-- The values of the timers of a state, and the number of the state.
abbrev pub values_of : Automaton → State → List ℕ
values_of a s = map s.value (count_from 0 (timers a))

abbrev pub state_number : Automaton → State → ℕ
state_number a s = s.mode * cell_count a.ceilings + cell_number a.ceilings (values_of a s)

-- The state with a number. Timers that are not there stand at 0.
abbrev pub state_at : Automaton → ℕ → State
state_at a v = record {
  mode = v / cell_count a.ceilings;
  value = λ x. get_or (cell_at a.ceilings (v % cell_count a.ceilings)) x 0;
}

-- The edge of a pair from a state, if the pair is allowed there.
abbrev pub pair_edges : Automaton → State → Pair → List Edge
pair_edges a s p =
    elim (pair_step a p s) [ none ↦ [] | some s' ↦ record { label = label_of p; weight = pair_charge a p s; to = state_number a s' } ∷ [] ]

-- The graph for the goal l: the nodes of mode l are the targets.
unfoldable pub minute_graph : Automaton → ℕ → Graph
minute_graph a l = record {
  nodes = state_count a;
  edges = λ v. flat_map (pair_edges a (state_at a v)) (all_pairs a);
  is_target = λ v. eqb (v / cell_count a.ceilings) l;
}
