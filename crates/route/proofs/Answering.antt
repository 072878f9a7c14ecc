-- What the words of a search say of the goal is the answer: no route, a route for which there are too few bytes, or the route written.
-- Assumes nothing.
use mathlib.Core.Path.{◌≡◌, refl, sym, ap, ap₂, subst₂, ◌∙◌}
use mathlib.Core.List.{List, ◌++◌}
use Prim.Native.Nat.{ℕ, ◌≤◌, ◌<◌}
use native.Mathlib.Omega.{arith}
use borrow.Author.Tests.{le-leb, lt-leb}
use lib.ListN.{length, drop}
use Rattle.std.specs.Prelude.{Option, Some, None}
use Rattle.semantics.specs.Automata.Proper.{Proper}
use Rattle.semantics.specs.Automaton.{Automaton}
use Rattle.semantics.specs.Order.{Cost, cost}
use Rattle.semantics.specs.Graph.Path.{reached, table}
use Rattle.semantics.specs.NodeCount.{node_count}
use Rattle.semantics.specs.Graph.Distance.{distance}
use Rattle.semantics.specs.Answer.{Answer as Best, route, answer}
use Rattle.semantics.proofs.Paths.Near.{near-best}
use Rattle.semantics.proofs.Answers.Table.{unreached-answer, greedy-answer, greedy-steps}
use Rattle.semantics.proofs.Answers.Forward.{into-least}
use Rattle.table.specs.Fields.{most_price}
use Rattle.table.specs.Held.{automaton_of}
use Rattle.table.specs.Theorems.Access.{table-proper}
use Rattle.search.specs.Outcome.{most_nodes, cleared}
use Rattle.near.specs.declared.Cost.{Cost as CostHeld}
use Rattle.space.specs.declared.Space.{Space}
use Rattle.space.specs.Space.{graph_of, start_of, IsSpace}
use Rattle.near.specs.Near.{cost_entry, IsBest}
use Rattle.route.specs.Answers.{Refused, NoRoute, Route}
use Rattle.route.specs.Plan.{outcome, routed}
use Rattle.route.specs.Walk.{RestKept, WalkReady, WalkDone}
use Rattle.route.specs.Found.{Found, ReadOff}
use Rattle.space.specs.Laws.Shares.{table-setting}
use Rattle.search.specs.Laws.Goal.{best-target, goal-closed, goal-light, goal-inside, goal-small}

-- The two outcomes of a route.
module _ (a : Automaton) (C : ℕ) (ks ws rs : List ℕ) where
  routed-short : length rs < length ks → routed a (route C ks) ws rs ≡ outcome (Refused 10) (cleared a ws) rs
  routed-short h = rw (lt-leb (length ks) (length rs) h)

  routed-full : length ks ≤ length rs → routed a (route C ks) ws rs ≡ outcome (Route C (length ks)) (cleared a ws) (ks ++ drop (length ks) rs)
  routed-full h = rw (le-leb (length ks) (length rs) h)

-- Words that were not touched.
rest-same : (t ws : List ℕ) → RestKept t ws ws
rest-same t ws = record { rest = refl; kept = refl }

-- The route was written.
written :
    (t : List ℕ) (best : Cost) (ws rs ws' rs' : List ℕ) → distance (graph_of t (automaton_of t).goal) (start_of t) ≡ reached best
    → best.steps ≤ length rs → WalkDone t ws rs ws' rs' → ReadOff t ws rs ws' rs' (Route best.charge best.steps)
written t best ws rs ws' rs' is room w =
    let a = automaton_of t in
    let ks = w.bytes in
    let found = w.is-best in
    let own : w.best ≡ best = cc in
    let same : best.steps ≡ length ks = sym (w.counted ∙ ap (λ (c : Cost). c.steps) own) in
    let stored : rs' ≡ ks ++ drop best.steps rs = w.stored ∙ ap (λ (c : Cost). ks ++ drop c.steps rs) own in
    let route-is : answer a a.goal ≡ route best.charge ks = w.is-route ∙ ap (λ (c : Cost). route c.charge ks) own in
    record {
      is-answer = λ vs.
          ap₂ (λ (n : ℕ) (l : List ℕ). outcome (Route best.charge n) (cleared a vs) l) same (stored ∙ ap (λ (n : ℕ). ks ++ drop n rs) same)
          ∙ sym (ap (λ (x : Best). routed a x vs rs) route-is ∙ routed-full a best.charge ks vs rs (omega (arith, same)));
      words = w.words;
    }

-- What was found is the least cost of the goal's nodes.
pub best_of :
    (t : List ℕ) (nodes : ℕ) (ws : List ℕ) (r : Option CostHeld) → {goal modes : ℕ} → goal ≡ (automaton_of t).goal
    → modes ≡ length (automaton_of t).modes → IsBest nodes goal modes ws r → IsBest nodes (automaton_of t).goal (length (automaton_of t).modes) ws r
best_of t nodes ws r goal-is modes-are = subst₂ (λ (l m : ℕ). IsBest nodes l m ws r) goal-is modes-are

module _ {t rules : List ℕ} {nodes : ℕ} {ws : List ℕ} (f : Found t rules nodes ws) where
  -- The goal's cost was read off the words.
  abbrev BestOf : Option CostHeld → Type 0
  BestOf = IsBest nodes (automaton_of t).goal (length (automaton_of t).modes) ws

  -- The automaton is one of the theory, with few nodes.
  proper : Proper (automaton_of t)
  proper = table-proper t f.is-table

  few : node_count (automaton_of t) ≤ most_nodes
  few = omega (arith, f.few, f.counted)

  -- The cost that was found is the least cost from the start into the goal.
  found-distance : (r : Option CostHeld) → BestOf r → cost_entry r ≡ distance (graph_of t (automaton_of t).goal) (start_of t)
  found-distance r best =
      let k = f.is-table in
      let l = (automaton_of t).goal in
      near-best (graph_of t l) (start_of t) (goal-closed t k l) (goal-inside t k l) most_price (goal-light t k l) (goal-small t k l few) (table ws) f.near
      (cost_entry r) (best-target t k l nodes (length (automaton_of t).modes) f.counted refl ws r best)

  -- There is none.
  pub read_none : BestOf None → (rs : List ℕ) → ReadOff t ws rs ws rs NoRoute
  read_none best rs =
      let a = automaton_of t in
      let l = (automaton_of t).goal in
      let is = unreached-answer a proper l (distance (graph_of t l)) (into-least a proper l) (sym (found-distance None best)) in
      record { is-answer = λ vs. sym (ap (λ (x : Best). routed a x vs rs) is); words = rest-same t ws }

  -- There is one.
  module _ {r : CostHeld} (best : BestOf (Some r)) (rs : List ℕ) where
    -- It is the least cost from the start, and that of the route.
    found : distance (graph_of t (automaton_of t).goal) (start_of t) ≡ reached (cost r.charge r.steps)
    found = sym (found-distance (Some r) best)

    found-route : (ks : List ℕ) × (answer (automaton_of t) (automaton_of t).goal ≡ route r.charge ks) × (length ks ≡ r.steps)
    found-route =
        let a = automaton_of t in
        let l = (automaton_of t).goal in
        let c = cost r.charge r.steps in
        let least = into-least a proper l in
        (_, greedy-answer a proper l (distance (graph_of t l)) least c found, greedy-steps a proper l (distance (graph_of t l)) least c found)

    -- There are more steps than route bytes.
    pub read_short : length rs < r.steps → ReadOff t ws rs ws rs (Refused 10)
    read_short short =
        let a = automaton_of t in
        let o = found-route in
        record {
          is-answer = λ vs. sym (ap (λ (x : Best). routed a x vs rs) o.1 ∙ routed-short a r.charge o.0 vs rs (omega (arith, o.2)));
          words = rest-same t ws;
        }

    -- There are bytes for the steps, so that the route can be written.
    module _ (room : r.steps ≤ length rs) (s : Space) (space : IsSpace t s) where
      pub walk-ready : WalkReady t rules s ws rs
      walk-ready = record {
        setting = table-setting t f.is-table f.is-rules space few;
        words = omega (arith, f.room.words.room, f.counted, space.nodes-are);
        near = f.near;
        best = cost r.charge r.steps;
        is-best = found;
        room = room;
      }

      -- It was written.
      pub read-written : (ws' rs' : List ℕ) → WalkDone t ws rs ws' rs' → ReadOff t ws rs ws' rs' (Route r.charge r.steps)
      read-written ws' rs' w = written t (cost r.charge r.steps) ws rs ws' rs' found room w
