-- A walk begins at the start, may ask for its next step wherever it stands, and ends in the goal with the route written.
-- Assumes nothing.
use mathlib.Core.Path.{◌≡◌, refl, sym, ap, subst, ◌∙◌}
use mathlib.Core.Logic.{◌≢◌}
use mathlib.Core.List.{List, ◌++◌}
use Prim.Native.Nat.{ℕ, suc, ◌+◌, ◌*◌, ◌/◌, ◌≤◌, ◌<◌}
use native.Mathlib.Nat.{mul_assoc, mul_comm, div-div-eq-div-mul}
use native.Mathlib.Decide.{ℕ_discrete}
use native.Mathlib.Omega.{arith}
use lib.ListN.{length, take, drop, length-replicate, take-append-drop}
use lib.Seq.{length-take-le}
use Rattle.std.specs.Prelude.{Option}
use Rattle.semantics.specs.Automata.Proper.{Proper}
use Rattle.semantics.specs.Automaton.{Automaton, timers}
use Rattle.semantics.specs.Order.{cost}
use Rattle.semantics.specs.NodeCount.{corner_count, cell_count, node_count}
use Rattle.semantics.specs.Chain.{Place}
use Rattle.semantics.specs.Graph.Path.{Least, reached, infinity, charge_at, table}
use Rattle.semantics.specs.Nodes.Node.{node_at}
use Rattle.semantics.specs.Corners.Edges.{SamePlace}
use Rattle.semantics.specs.Corners.Lists.{length-count_from}
use Rattle.semantics.specs.Graph.CornerGraph.{highest, node_place, number_of, corner_graph}
use Rattle.semantics.specs.Paths.Least.{least-steps, least-charge}
use Rattle.semantics.specs.Paths.Words.{table-unreached, table-reached}
use Rattle.semantics.specs.Answers.Places.{IsPlace, corner-top}
use Rattle.semantics.proofs.Answers.Places.{number-below, place-alike}
use Rattle.semantics.proofs.Answers.Graph.{number-alike, graph-nodes, graph-closed, graph-weights}
use Rattle.semantics.proofs.Answers.System.{begin-inside}
use Rattle.semantics.specs.Answers.Marks.{Led}
use Rattle.semantics.proofs.Answers.Forward.{into-least}
use Rattle.semantics.proofs.Answers.Trail.{Trail, trail-begins, trail-entry, trail-node, trail-among, trail-ends, trail-tried}
use Rattle.table.specs.Fields.{most_price}
use Rattle.table.specs.Held.{automaton_of}
use Rattle.table.specs.Theorems.Access.{table-proper, amounts-within}
use Rattle.space.specs.declared.Space.{Space}
use Rattle.steps.specs.declared.Stand.{Stand}
use Rattle.steps.specs.declared.Next.{Next}
use Rattle.space.specs.Space.{start_of, place_of}
use Rattle.steps.specs.Steps.{Marked, stand_place, Tells, StandReady, byte_of, IsNext, NextStep}
use Rattle.route.specs.Walk.{WalkReady, WalkDone}
use Rattle.route.proofs.MarkedSets.{marked-one}
use Rattle.route.proofs.Trailing.{marks, Shown, gone, plain, Walking, shown-charge, shown-next, next-shown}

-- The place of a node, with the indices of its corners as prices, has the shape of the one with 0 as prices.
place_of-same : (a : Automaton) (v : ℕ) → SamePlace (node_place (node_at a.ceilings v)) (place_of a v)
place_of-same a v =
    let n = suc (highest (node_at a.ceilings v).corner.group) in
    record {
      mode = refl;
      region = record { whole = refl; group = refl; corners = length-replicate n 0 ∙ sym (length-count_from 0 n) };
    }

-- The mode of a node is the number of the mode's share of all nodes.
mode-share : (a : Automaton) (v : ℕ) → (place_of a v).mode ≡ v / (cell_count a.ceilings * corner_count (timers a) 1)
unfolding node_at
mode-share a v =
    let cells = cell_count a.ceilings in
    let corners = corner_count (timers a) 1 in
    div-div-eq-div-mul v corners cells ∙ ap (λ (n : ℕ). v / n) (mul_comm corners cells)

module _ {t rs : List ℕ} {s : Space} {ws₀ bs₀ : List ℕ} (w : WalkReady t rs s ws₀ bs₀) where
  abbrev a : Automaton
  a = automaton_of t

  abbrev l : ℕ
  l = (automaton_of t).goal

  pub proper : Proper (automaton_of t)
  proper = table-proper t w.setting.is-table

  -- The nodes of the graph are those of the struct.
  pub nodes-are : (corner_graph (automaton_of t) (automaton_of t).goal).nodes ≡ s.nodes
  nodes-are = graph-nodes a l ∙ sym w.setting.is-space.nodes-are

  start-inside : start_of t < (corner_graph a l).nodes
  start-inside = rw (graph-nodes a l) (begin-inside a proper)

  best-least : Least (corner_graph a l) (start_of t) w.best
  best-least = (into-least a proper l).least (start_of t) w.best start-inside w.is-best

  -- The route has fewer steps than there are nodes.
  pub steps-few : w.best.steps < s.nodes
  steps-few = omega (arith, nodes-are, least-steps (corner_graph a l) (graph-closed a l proper) (start_of t) start-inside w.best best-least)

  -- And its charge is far below infinity.
  pub charge-few : w.best.charge + most_price < infinity
  charge-few =
      let most =
      least-charge (corner_graph a l) (graph-closed a l proper) (start_of t) start-inside w.best best-least most_price
      (graph-weights a l proper most_price (amounts-within t w.setting.is-table)) in
      omega (arith, most, nodes-are, w.setting.few)

  -- A mode has nodes.
  pub block-some : 0 < s.block
  unfolding node_count
  block-some = at (ℕ_discrete s.block 0)
    where
      at : Dec (s.block ≡ 0) → 0 < s.block
      at (no b) = omega arith
      at (yes b) =
          let modes = length a.modes in
          let none : cell_count a.ceilings * corner_count (timers a) 1 ≡ 0 = sym w.setting.is-space.block-is ∙ b in
          let all = w.setting.is-space.nodes-are ∙ mul_assoc modes (cell_count a.ceilings) (corner_count (timers a) 1) in
          absurd (omega (arith, steps-few, all, ap (λ (n : ℕ). modes * n) none))

  -- It begins at the start, where only corner 0 is marked.
  pub walking-begins : (r : ℕ) → r ≡ start_of t → Walking w ws₀ bs₀ (record { first = r; set = 1; steps = 0; byte = 0 })
  walking-begins r e = record {
    costs = table ws₀;
    firsts = λ i. r;
    sets = λ i. 1;
    trail = trail-begins a proper l w.best w.is-best (table ws₀) w.near (λ i. r) e (marks (λ i. 1)) marked-one;
    shown = λ v. at v (ℕ_discrete (charge_at ws₀ v) infinity);
    pointers = λ i h. absurd (omega arith);
    sixteen = λ i. omega arith;
    first-is = refl;
    set_is = refl;
    within = omega arith;
    below = omega arith;
    bytes_below = λ i h. absurd (omega arith);
    bytes = refl;
    sized = refl;
    words = record { rest = refl; kept = refl };
  }
    where
      at : (v : ℕ) → Dec (charge_at ws₀ v ≡ infinity) → Shown (λ i. r) (λ i. 1) 0 ws₀ (table ws₀) v
      at v (yes q) = gone q (table-unreached ws₀ v q)
      at v (no q) = plain q (table-reached ws₀ v q)

  module _ {ws bs : List ℕ} {z : Stand} (k : Walking w ws bs z) where
    -- As many steps were taken as the walk is deep, and they are few.
    pub taken : length (take z.steps bs) ≡ z.steps
    taken = length-take-le z.steps bs (omega (arith, k.within, k.sized, w.room))

    pub steps-short : z.steps < 65535
    steps-short = omega (arith, k.within, steps-few, w.setting.few)

    -- There are words for all nodes.
    pub words-room : 2 * s.nodes ≤ length ws
    words-room = omega (arith, w.words, k.words.kept)

    -- A marked corner of a place on the way is a node, whose charge is small and whose steps are those that led there.
    pub entry_at :
        (i : ℕ) → i ≤ z.steps → (j : ℕ) → Marked (k.sets i) j
        → (k.firsts i + j < s.nodes) × ((c : ℕ) × (c ≤ w.best.charge) × (k.costs (k.firsts i + j) ≡ reached (cost c i)))
    entry_at i h j m =
        let o = trail-entry a proper l w.best w.is-best k.trail i (omega (arith, taken)) j m in
        (omega (arith, o.0, nodes-are), o.1)

    pub entry_here :
        (j : ℕ) → Marked z.set j
        → (z.first + j < s.nodes) × ((c : ℕ) × (c ≤ w.best.charge) × (k.costs (z.first + j) ≡ reached (cost c z.steps)))
    entry_here j m =
        subst (λ (v : ℕ). (v + j < s.nodes) × ((c : ℕ) × (c ≤ w.best.charge) × (k.costs (v + j) ≡ reached (cost c z.steps))))
        k.first-is (entry_at z.steps (omega arith) j (subst (λ (n : ℕ). Marked n j) (sym k.set_is) m))

    -- The place at hand has its first node.
    pub firsts-here : k.firsts (length (take z.steps bs)) ≡ z.first
    firsts-here = ap k.firsts taken ∙ k.first-is

    pub sets-here : k.sets (length (take z.steps bs)) ≡ z.set
    sets-here = ap k.sets taken ∙ k.set_is

    node-place : IsPlace a (node_place (node_at a.ceilings z.first)) × (number_of a (node_place (node_at a.ceilings z.first)) 0 ≡ z.first)
    node-place =
        subst (λ (v : ℕ). IsPlace a (node_place (node_at a.ceilings v)) × (number_of a (node_place (node_at a.ceilings v)) 0 ≡ v)) firsts-here
        (trail-node a proper l w.best w.is-best k.trail)

    pub stand-place : IsPlace (automaton_of t) (stand_place t z)
    stand-place = place-alike a _ (stand_place t z) (place_of-same a z.first) node-place.0

    pub stand-first : number_of (automaton_of t) (stand_place t z) 0 ≡ z.first
    stand-first = sym (number-alike a _ (stand_place t z) (place_of-same a z.first) 0) ∙ node-place.1

    pub first-there : number_of (automaton_of t) (stand_place t z) 0 ≡ k.firsts (length (take z.steps bs))
    first-there = stand-first ∙ sym firsts-here

    -- The words tell what is asked of them.
    pub tells : Tells s z ws k.costs
    tells = record {
      entry = λ j m.
          let o = entry_here j m in
          let v = z.first + j in
          o.1.2 ∙ ap (λ (c : ℕ). reached (cost c z.steps)) (sym (shown-charge _ (k.shown v) o.1.2).0);
      next = λ v c h b. (λ e. shown-next c (k.shown v) e, λ e. next-shown c b (omega (arith, steps-short)) (k.shown v) e);
    }

    pub ready : StandReady t rs s z ws
    ready = record {
      setting = w.setting;
      words = words-room;
      there = omega (arith, stand-first, w.setting.is-space.nodes-are, number-below a (stand_place t z) stand-place 0 stand-place.well-formed.priced);
      first-is = stand-first;
      corners = λ j m.
          (corner-top (stand_place t z).region stand-place.well-formed j).0
          (trail-among a proper l w.best w.is-best k.trail (stand_place t z) stand-place first-there j
          (subst (λ (n : ℕ). Marked n j) (sym sets-here) m));
      sixteen = omega (arith, k.sixteen z.steps, k.set_is);
      room = λ j m.
          let o = entry_here j m in
          omega (arith, (shown-charge _ (k.shown (z.first + j)) o.1.2).0, o.1.1, charge-few);
      short = omega (arith, steps-short);
      below = k.below;
      table = k.costs;
      tells = tells;
    }

    -- In the goal the route is written.
    pub walking-ends : z.first / s.block ≡ (automaton_of t).goal → WalkDone t ws₀ bs₀ ws bs
    walking-ends e =
        let mode : (stand_place t z).mode ≡ l =
        mode-share a z.first ∙ ap (λ (n : ℕ). z.first / n) (sym w.setting.is-space.block-is) ∙ e in
        let o = trail-ends a proper l w.best w.is-best k.trail (stand_place t z) stand-place first-there mode in
        let all : z.steps ≡ w.best.steps = sym taken ∙ o.1 in
        record {
          best = w.best;
          is-best = w.is-best;
          bytes = take z.steps bs;
          is-route = o.0;
          counted = o.1;
          stored =
              sym (take-append-drop z.steps bs)
              ∙ ap (λ (x : List ℕ). take z.steps bs ++ x) (ap (λ (n : ℕ). drop n bs) all ∙ k.bytes);
          words = k.words;
        }

    -- Elsewhere the place is not in the goal.
    pub away : z.first / s.block ≢ (automaton_of t).goal → (stand_place t z).mode ≢ (automaton_of t).goal
    away n e =
        n (ap (λ (m : ℕ). z.first / m) w.setting.is-space.block-is ∙ sym (mode-share a z.first) ∙ e)

    -- What the next step says of the table.
    module _ (r : Option Next) (step : NextStep t s z ws r) where
      pub is-next : IsNext t (automaton_of t).goal k.costs z r
      is-next = step l k.costs tells

      -- The bytes before its byte were tried.
      pub tried : Trail (automaton_of t) (automaton_of t).goal k.costs (take z.steps bs) (byte_of r) k.firsts (marks k.sets)
      tried =
          trail-tried a proper l w.best w.is-best k.trail (stand_place t z) stand-place first-there (byte_of r)
          (λ b y i from to f led. is-next.none_before b y i from to f (led-here b y i led))
        where
          led-here :
              (b : ℕ) (y : Place) (i : ℕ)
              → Led a l k.costs (stand_place t z) (length (take z.steps bs)) (marks k.sets (length (take z.steps bs))) b y i
              → Led a l k.costs (stand_place t z) z.steps (Marked z.set) b y i
          led-here b y i x =
              subst (λ (m : ℕ). Led a l k.costs (stand_place t z) z.steps (Marked m) b y i) sets-here
              (subst (λ (n : ℕ). Led a l k.costs (stand_place t z) n (marks k.sets (length (take z.steps bs))) b y i) taken x)
