-- What a search for a timetable found is the answer: no route, a timetable for which there are too few bytes, or the timetable written.
-- Assumes nothing.
use mathlib.Core.Path.{◌≡◌, refl, sym, ap, ap₂, subst, ◌∙◌}
use mathlib.Core.Logic.{inl, inr}
use mathlib.Core.List.{List, [], ◌∷◌, ◌++◌, map}
use Prim.Native.Nat.{ℕ, ◌+◌, ◌*◌, ◌-◌, ◌/◌, ◌≤◌, ◌<◌}
use native.Mathlib.Nat.{mul-le-mul, mul-le-mul_left, mul-one}
use native.Mathlib.Omega.{arith}
use borrow.Author.Tests.{le-leb, lt-leb}
use lib.ListN.{length, drop, length-map}
use lib.Seq.{drop-drop}
use Rattle.semantics.specs.Automata.Proper.{Proper}
use Rattle.semantics.specs.Automaton.{Automaton, timers}
use Rattle.semantics.specs.Order.{Cost, cost, ◌≼◌, Best as BestOf}
use Rattle.semantics.specs.NodeCount.{cell_count, corner_count, node_count}
use Rattle.semantics.specs.Answer.{Answer as Best, no_route, route}
use Rattle.semantics.specs.Timetable.{Timetable as IsTimetable, bytes_of, state_count, timetable}
use Rattle.semantics.specs.Graph.Path.{Graph, labels_of, cost_of, Least, unreached, reached}
use Rattle.semantics.specs.Graph.Distance.{distance}
use Rattle.semantics.specs.Graph.MinuteGraph.{minute_graph, pair_of}
use Rattle.semantics.specs.Paths.Cost.{cost-same, cost-antisymm}
use Rattle.semantics.specs.Paths.Labelled.{labelled-length}
use Rattle.semantics.proofs.Paths.UpTo.{distance_least}
use Rattle.semantics.proofs.Paths.Walk.{no-best}
use Rattle.semantics.specs.Timetables.States.{some-state}
use Rattle.semantics.specs.Timetables.Edges.{minute-closed, label-bytes-length}
use Rattle.semantics.specs.Timetables.Paths.{path-timetable, timetable-path}
use Rattle.semantics.proofs.Timetables.Best.{best-timetable, no-timetable, timetable-nothing}
use Rattle.table.specs.Held.{automaton_of, IsTable}
use Rattle.table.specs.Theorems.Access.{table-proper}
use Rattle.rules.specs.Rules.{IsRules}
use Rattle.regions.specs.Laws.Nodes.{corners-few}
use Rattle.space.specs.Laws.Shares.{few-modes, table-timers}
use Rattle.search.specs.Outcome.{most_nodes, cleared}
use Rattle.search.specs.Searches.{SearchDone}
use Rattle.std.specs.Prelude.{Option, Some, None}
use Rattle.near.specs.declared.Cost.{Cost as CostHeld}
use Rattle.near.specs.Near.{cost_entry}
use Rattle.states.specs.declared.States.{States}
use Rattle.states.specs.States.{IsStates}
use Rattle.minutes.specs.Edges.{Setting, graph_of, rooted_of}
use Rattle.minutes.specs.Laws.Searchable.{size}
use Rattle.states.specs.Laws.Bounds.{ceiling-few}
use Rattle.timetable.specs.Answers.{Refused, NoRoute, Timetable}
use Rattle.timetable.specs.Timetabled.{outcome, told}
use Rattle.timetable.specs.Steps.{goal_graph}
use Rattle.route.specs.Walk.{RestKept}
use Rattle.timetable.specs.Walk.{WalkReady, WalkDone}
use Rattle.timetable.specs.Found.{FindReady, ReadOff}

-- The two outcomes of a timetable.
module _ (a : Automaton) (C : ℕ) (ks ws rs : List ℕ) where
  told-short : length rs < length ks → told a (route C ks) ws rs ≡ outcome (Refused 10) (cleared a ws) rs
  told-short h = rw (lt-leb (length ks) (length rs) h)

  told-full :
      length ks ≤ length rs
      → told a (route C ks) ws rs ≡ outcome (Timetable C (length ks / 2)) (cleared a ws) (ks ++ drop (length ks) rs)
  told-full h = rw (le-leb (length ks) (length rs) h)

-- There are at most 4,096 states: with one timer or two by their counts, with three because E is at most 65,536.
states-few : (t : List ℕ) → IsTable t → node_count (automaton_of t) ≤ most_nodes → state_count (automaton_of t) ≤ 4096
unfolding state_count node_count
states-few t h few = go (automaton_of t).ceilings refl
  where
    modes : length (automaton_of t).modes ≤ 16
    modes = few-modes t h

    many : (n : ℕ) → cell_count (automaton_of t).ceilings ≤ n → length (automaton_of t).modes * cell_count (automaton_of t).ceilings ≤ 16 * n
    many n k = mul-le-mul modes k

    go : (cs : List ℕ) → (automaton_of t).ceilings ≡ cs → length (automaton_of t).modes * cell_count (automaton_of t).ceilings ≤ 4096
    go [] e = absurd (omega (arith, table-timers t h, ap length e))
    go (c ∷ []) e = omega (arith, many 16 (rw e (omega (arith, rw e at (ceiling-few t h 0)))))
    go (c ∷ d ∷ []) e =
        let first : c + 1 ≤ 16 = let x = rw e at (ceiling-few t h 0) in omega (arith, x) in
        let second : 1 * (d + 1) ≤ 16 = let x = rw e at (ceiling-few t h 1) in omega (arith, x) in
        omega (arith, many 256 (rw e (mul-le-mul second first)))
    go (c ∷ d ∷ f ∷ []) e =
        let n : timers (automaton_of t) ≡ 3 = ap length e in
        let all : length (automaton_of t).modes * cell_count (automaton_of t).ceilings * corner_count 3 1 ≤ 65536 =
        subst (λ (k : ℕ). length (automaton_of t).modes * cell_count (automaton_of t).ceilings * corner_count k 1 ≤ 65536) n few in
        omega (arith, all)
    go (c ∷ d ∷ f ∷ g ∷ cs) e = absurd (omega (arith, table-timers t h, ap length e))

-- Twice as many steps.
doubled : (C n D m k : ℕ) → k ≡ 2 * m → cost C n ≼ cost D m → cost C (2 * n) ≼ cost D k
doubled C n D m k e (inl h) = inl h
doubled C n D m k e (inr h) = inr (h.0, omega (arith, h.1))

-- The timetable of a table whose goal is reached: it is charged the least cost, with two bytes for each pair.
module _ (a : Automaton) (ok : Proper a) (l : ℕ) where
  abbrev g : Graph
  g = minute_graph a l

  start-there : 0 < (minute_graph a l).nodes
  unfolding minute_graph
  start-there = some-state a ok

  none_found : distance (minute_graph a l) 0 ≡ unreached → timetable a l ≡ no_route
  none_found q = timetable-nothing a ok l (no-best g (minute-closed a ok l) 0 start-there q)

  some-found :
      (C n : ℕ) → distance (minute_graph a l) 0 ≡ reached (cost C n) → (ks : List ℕ) × (timetable a l ≡ route C ks) × (length ks ≡ 2 * n)
  some-found C n q = go (timetable a l) refl
    where
      least : Least (minute_graph a l) 0 (cost C n)
      least = (distance_least g (minute-closed a ok l)).least 0 (cost C n) start-there q

      -- A path of this cost is a timetable.
      own : IsTimetable a l (bytes_of (map pair_of (labels_of least.attained.path))) C
      own =
          path-timetable a ok l (labels_of least.attained.path) C
          (record { path = least.attained.path; is-path = least.attained.is-path; labelled = refl; charged = least.attained.charged })

      own-length : length (bytes_of (map pair_of (labels_of least.attained.path))) ≡ 2 * n
      own-length =
          omega (
            arith,
            label-bytes-length (labels_of least.attained.path),
            length-map least.attained.path (λ e. e.label),
            least.attained.counted,
          )

      go : (x : Best) → timetable a l ≡ x → (ks : List ℕ) × (timetable a l ≡ route C ks) × (length ks ≡ 2 * n)
      go no_route e = absurd ((no-timetable a ok l).0 e _ C own)
      go (route D ks) e = (ks, e ∙ ap (λ (c : ℕ). route c ks) (ap (λ (c : Cost). c.charge) same), ap (λ (c : Cost). c.steps) same)
        where
          best : BestOf (IsTimetable a l) (cost D (length ks)) ks
          best = (best-timetable a ok l D ks).0 e

          -- No path costs less, and the timetable is a path.
          low : cost C (2 * n) ≼ cost D (length ks)
          low =
              let o = timetable-path a ok l ks D best.first.good.0 in
              let p = o.2 in
              doubled C n D (length o.0) (length ks) (omega (arith, ap length o.1, label-bytes-length o.0))
              (subst (λ (z : Cost). cost C n ≼ z) (cost-same (cost_of p.path) (cost D (length o.0)) p.charged (labelled-length o.0 D p))
              (least.least p.path p.is-path))

          high : cost D (length ks) ≼ cost C (2 * n)
          high = subst (λ (m : ℕ). cost D (length ks) ≼ cost C m) own-length (best.least _ C own)

          same : cost D (length ks) ≡ cost C (2 * n)
          same = cost-antisymm (cost D (length ks)) (cost C (2 * n)) high low

-- A search of a table for its goal.
module _ {t rules ws : List ℕ} {s : States} (is-table : IsTable t) (f : FindReady t ws) (made : IsRules t rules) (is : IsStates t s) where
  -- There are at least as many nodes as states.
  states-within : s.count ≤ node_count (automaton_of t)
  unfolding node_count state_count
  states-within =
      let a = automaton_of t in
      let n = length a.modes * cell_count a.ceilings in
      let one : 1 ≤ corner_count (timers a) 1 = (corners-few (timers a) (table-timers t is-table).1).0 in
      omega (arith, is.count-is, mul-le-mul_left (length a.modes * cell_count a.ceilings) one, mul-one (length a.modes * cell_count a.ceilings))

  pub setting : Setting t rules s
  setting = record {
    is-table = is-table;
    is-rules = made;
    is-states = is;
    few = omega (arith, is.count-is, states-few t is-table f.few);
  }

  graph-within : (goal : ℕ) → (graph_of t goal).nodes ≤ node_count (automaton_of t)
  graph-within goal = omega (arith, states-within, size setting goal)

  pub search-ready : (goal : ℕ) → 2 * (graph_of t goal).nodes ≤ length ws
  search-ready goal = omega (arith, graph-within goal, f.room)

  -- It was made.
  module _ {goal : ℕ} {ws₁ : List ℕ} {r : Option CostHeld} (own : goal ≡ (automaton_of t).goal) (done : SearchDone (rooted_of t goal) ws ws₁ r) where
    proper : Proper (automaton_of t)
    proper = table-proper t is-table

    found : SearchDone (rooted_of t (automaton_of t).goal) ws ws₁ r
    found = rw own at done

    -- The words behind the first 2E are untouched.
    rest-kept : RestKept t ws ws₁
    rest-kept =
        let n = (goal_graph t).nodes in
        let k = node_count (automaton_of t) - n in
        let more : 2 * n + 2 * k ≡ 2 * node_count (automaton_of t) = omega (arith, graph-within (automaton_of t).goal) in
        record {
          rest = subst (λ (m : ℕ). drop m ws₁ ≡ drop m ws) more
              (sym (drop-drop (2 * k) (2 * n) ws₁) ∙ ap (drop (2 * k)) found.rest ∙ drop-drop (2 * k) (2 * n) ws);
          kept = found.kept;
        }

    -- There is none.
    pub find_none : r ≡ None → (rs : List ℕ) → ReadOff t ws rs ws₁ rs NoRoute
    find_none none rs =
        let a = automaton_of t in
        let q = none_found a proper a.goal (sym found.cost-is ∙ ap cost_entry none) in
        record { is-answer = λ vs. sym (ap (λ (x : Best). told a x vs rs) q); words = rest-kept }

    -- There is one.
    module _ {c : CostHeld} (some : r ≡ Some c) (rs : List ℕ) where
      reached-at : distance (goal_graph t) 0 ≡ reached (cost c.charge c.steps)
      reached-at = sym found.cost-is ∙ ap cost_entry some

      -- Its pairs have more bytes than there are.
      pub find-short : length rs < 2 * c.steps → ReadOff t ws rs ws₁ rs (Refused 10)
      find-short short =
          let a = automaton_of t in
          let o = some-found a proper a.goal c.charge c.steps reached-at in
          record {
            is-answer = λ vs. sym (ap (λ (x : Best). told a x vs rs) o.1 ∙ told-short a c.charge o.0 vs rs (omega (arith, o.2)));
            words = rest-kept;
          }

      -- There are bytes for them, so that they can be written.
      module _ (room : 2 * c.steps ≤ length rs) where
        pub walk-ready : WalkReady t ws₁ rs
        walk-ready = record {
          words = omega (arith, f.room, found.kept);
          near = found.near;
          best = cost c.charge c.steps;
          is-best = reached-at;
          room = room;
        }

        -- They were.
        pub find-written : {ws₂ rs₂ : List ℕ} → WalkDone t ws₁ rs ws₂ rs₂ → ReadOff t ws rs ws₂ rs₂ (Timetable c.charge c.steps)
        find-written {ws₂} {rs₂} w =
            let a = automaton_of t in
            let ks = w.bytes in
            let b = cost c.charge c.steps in
            let found-cost = w.is-best in
            let is-cost = reached-at in
            let same : w.best ≡ b = cc in
            let steps : length ks ≡ 2 * c.steps = w.counted ∙ ap (λ (b : Cost). 2 * b.steps) same in
            let stored : rs₂ ≡ ks ++ drop (length ks) rs = w.stored ∙ ap (λ (b : Cost). ks ++ drop (2 * b.steps) rs) same ∙ ap (λ (n : ℕ). ks ++ drop n rs) (sym steps) in
            let answer-is : timetable a a.goal ≡ route c.charge ks = w.is-timetable ∙ ap (λ (b : Cost). route b.charge ks) same in
            let half : c.steps ≡ length ks / 2 = omega (arith, steps) in
            record {
              is-answer = λ vs.
                  ap₂ (λ (n : ℕ) (l : List ℕ). outcome (Timetable c.charge n) (cleared a vs) l) half stored
                  ∙ sym (ap (λ (x : Best). told a x vs rs) answer-is ∙ told-full a c.charge ks vs rs (omega (arith, steps)));
              words = record { rest = w.words.rest ∙ rest-kept.rest; kept = w.words.kept ∙ rest-kept.kept };
            }
