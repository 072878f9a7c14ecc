-- The walk takes a pair back where none leads on: the node is left for good, and the walk stands at the one before it, which is on the stack.
-- Assumes nothing.
use mathlib.Core.Path.{◌≡◌, refl, sym, ap, subst, subst₂, ◌∙◌}
use mathlib.Core.Logic.{◌≢◌}
use mathlib.Core.List.{List, [], ◌∷◌, ◌++◌}
use Prim.Native.Nat.{ℕ, suc, ◌+◌, ◌*◌, ◌-◌, ◌/◌, ◌%◌, ◌<◌}
use native.Mathlib.Decide.{ℕ_discrete}
use native.Mathlib.Omega.{arith}
use lib.ListN.{length, get_or, take, set, length-set}
use lib.Seq.{take-suc, take-length, length-take-le, get_or-set_same, get_or-set_other, take-set-lt, drop-set-lt, get_or-take}
use Rattle.semantics.specs.NodeCount.{node_count}
use Rattle.semantics.specs.Graph.Path.{Target, unreached, infinity, charge_at, table}
use Rattle.semantics.specs.Paths.Words.{table-unreached, reached-words}
use Rattle.semantics.proofs.Paths.Walk.{Walk}
use Rattle.semantics.proofs.Paths.WalkOn.{walk-deep, walk-back}
use Rattle.table.specs.Held.{automaton_of}
use Rattle.states.specs.declared.States.{States}
use Rattle.minutes.specs.Edges.{Setting}
use Rattle.route.proofs.Live.{turns, turns-backtrack}
use Rattle.timetable.specs.declared.walk.Stand.{Stand}
use Rattle.timetable.specs.Steps.{goal_graph, no_pair, NoNext}
use Rattle.timetable.specs.Walk.{WalkReady, BacktrackReady, Backtracked}
use Rattle.timetable.proofs.PairBytes.{label_bytes, bytes-before, last-minutes, last_made}
use Rattle.timetable.proofs.Walking.{Walking, label-few, ground, stack-fits, target-goal, table_same, within, entry_here, at_here, words-room, tried}

module _
    {t rs : List ℕ} {s : States} (setting : Setting t rs s) {ws₀ bs₀ : List ℕ} (w : WalkReady t ws₀ bs₀) {ws bs : List ℕ} {z : Stand} (k : Walking s w ws bs z)
    (none : NoNext t z ws)
    (far : z.node / s.cells ≢ (automaton_of t).goal) where
  all-tried : Walk (goal_graph t) 0 (table ws) k.labels k.at no_pair
  all-tried = tried setting w k none

  away : Target (goal_graph t) (k.at (length k.labels)) → ⊥
  away e = far (target-goal setting w z.node (subst (Target (goal_graph t)) (at_here setting w k) e))

  -- There is a pair to take back,
  pub depth-some : 0 < z.depth
  depth-some = omega (arith, k.counted, walk-deep (ground setting w) all-tried away)

  abbrev m : ℕ
  m = z.depth - 1

  before_last : suc m ≡ z.depth
  before_last = omega (arith, depth-some)

  -- the last one.
  abbrev js : List ℕ
  js = take m k.labels

  abbrev label : ℕ
  label = get_or k.labels m 0

  last-label : k.labels ≡ js ++ label ∷ []
  last-label =
      sym (take-length k.labels)
      ∙ ap (λ (n : ℕ). take n k.labels) (k.counted ∙ sym before_last)
      ∙ take-suc k.labels m 0 (omega (arith, k.counted, depth-some))

  labels-before : length js ≡ m
  labels-before = length-take-le m k.labels (omega (arith, k.counted))

  label_small : label < 1024
  label_small =
      let e = k.walk.led m (omega (arith, k.counted, depth-some)) in
      omega (arith, label-few setting w (k.at m) e.edge e.leaves, e.labelled)

  -- Its bytes stand in the route.
  written : take (2 * m + 2) bs ≡ label_bytes (js ++ label ∷ [])
  written =
      let two : 2 * m + 2 ≡ 2 * z.depth = omega (arith, before_last) in
      ap (λ (n : ℕ). take n bs) two ∙ k.bytes ∙ ap label_bytes last-label

  counted' : 2 * length js ≡ 2 * m
  counted' = omega (arith, labels-before)

  minutes-are : get_or bs (2 * m) 0 ≡ label / 64
  minutes-are = last-minutes bs js label (2 * m) counted' written

  made-is : get_or bs (2 * m + 1) 0 ≡ label % 64
  made-is = last_made bs js label (2 * m) counted' written

  pub backtrack-ready : BacktrackReady s.count z ws bs
  backtrack-ready = record {
    there = omega (arith, (entry_here setting w k).0, words-room setting w k);
    deep = depth-some;
    stack = omega (arith, within setting w k, words-room setting w k);
    room = omega (arith, within setting w k, k.sized, w.room);
    minutes = omega (arith, minutes-are, label_small);
    made = omega (arith, made-is);
  }

  -- The words without the node.
  abbrev ws' : List ℕ
  ws' = set ws (2 * z.node) infinity

  gone : table ws' (k.at (length k.labels)) ≡ unreached
  gone = ap (table ws') (at_here setting w k) ∙ table-unreached ws' z.node (get_or-set_same ws (2 * z.node) infinity 0 backtrack-ready.there)

  others : (v : ℕ) → v < (goal_graph t).nodes → v ≢ k.at (length k.labels) → table ws' v ≡ table ws v
  others v h n =
      let x : v ≢ z.node = λ e. n (e ∙ sym (at_here setting w k)) in
      table_same ws ws' v
      (get_or-set_other ws (2 * z.node) (2 * v) infinity 0 (λ e. x (omega arith)))
      (get_or-set_other ws (2 * z.node) (2 * v + 1) infinity 0 (λ e. omega arith))

  shorter : Walk (goal_graph t) 0 (table ws') js k.at (suc label)
  shorter = walk-back (ground setting w) all-tried away js label last-label (table ws') gone others k.at (λ i h. refl)

  stack' : (i : ℕ) → i < z.depth → get_or ws' (2 * s.count + i) 0 ≡ k.at i
  stack' i h =
      get_or-set_other ws (2 * z.node) (2 * s.count + i) infinity 0 (λ e. let b = (entry_here setting w k).0 in omega arith) ∙ k.stack i h

  -- The pair was taken back.
  module _ {vs : List ℕ} {y : Stand} (f : Backtracked s.count z ws bs vs y) where
    node-here : k.at y.depth ≡ y.node
    node-here =
        ap k.at f.depth_is
        ∙ sym (f.node-is ∙ ap (λ (v : List ℕ). get_or v (2 * s.count + m) 0) f.words ∙ stack' m (omega (arith, depth-some)))

    next-label : y.label ≡ suc label
    next-label = omega (arith, f.label_is, minutes-are, made-is)

    back-here : Walking s w ws' bs y
    back-here = record {
      labels = js;
      at = k.at;
      counted = labels-before ∙ sym f.depth_is;
      here = node-here;
      stack = λ i h. stack' i (omega (arith, f.depth_is));
      walk = subst (λ (b : ℕ). Walk (goal_graph t) 0 (table ws') js k.at b) (sym next-label) shorter;
      few = omega (arith, next-label, label_small);
      bytes = ap (λ (n : ℕ). take (2 * n) bs) f.depth_is ∙ bytes-before bs js label (2 * m) counted' written;
      rest = k.rest;
      sized = k.sized;
      words = record {
        rest =
            drop-set-lt (2 * node_count (automaton_of t)) ws (2 * z.node) infinity (omega (arith, (entry_here setting w k).0, stack-fits setting w))
            ∙ k.words.rest;
        kept = length-set ws (2 * z.node) infinity ∙ k.words.kept;
      };
    }

    pub walking-backtracks : Walking s w vs bs y
    walking-backtracks = subst (λ (v : List ℕ). Walking s w v bs y) (sym f.words) back-here

    -- One turn less is to come: the node was left.
    pub fewer-backtrack :
        turns s.count (length bs₀) (take (2 * s.count) vs) y.depth < turns s.count (length bs₀) (take (2 * s.count) ws) z.depth
    fewer-backtrack =
        let n = 2 * s.count in
        let inside = (entry_here setting w k).0 in
        let known = (reached-words ws z.node _ (entry_here setting w k).1.2).known in
        let same : take n vs ≡ set (take n ws) (2 * z.node) infinity =
        ap (take n) f.words ∙ take-set-lt n ws (2 * z.node) infinity (omega (arith, inside)) in
        let there : 2 * z.node < length (take n ws) =
        omega (arith, inside, length-take-le n ws (omega (arith, words-room setting w k))) in
        let kept = get_or-take n ws (2 * z.node) 0 (omega (arith, inside)) in
        subst₂ (λ (v : List ℕ) (d : ℕ). turns s.count (length bs₀) v d < turns s.count (length bs₀) (take n ws) z.depth)
        (sym same) (sym f.depth_is)
        (turns-backtrack s.count (length bs₀) (take n ws) (set (take n ws) (2 * z.node) infinity) (stays there) z.depth z.node inside
        (λ e. known (sym kept ∙ e)) (get_or-set_same (take n ws) (2 * z.node) infinity 0 there))
      where
        stays :
            2 * z.node < length (take (2 * s.count) ws) → (v : ℕ) → charge_at (take (2 * s.count) ws) v ≡ infinity
            → charge_at (set (take (2 * s.count) ws) (2 * z.node) infinity) v ≡ infinity
        stays there v e = go (ℕ_discrete v z.node)
          where
            go : Dec (v ≡ z.node) → charge_at (set (take (2 * s.count) ws) (2 * z.node) infinity) v ≡ infinity
            go (yes x) =
                ap (charge_at (set (take (2 * s.count) ws) (2 * z.node) infinity)) x
                ∙ get_or-set_same (take (2 * s.count) ws) (2 * z.node) infinity 0 there
            go (no x) = get_or-set_other (take (2 * s.count) ws) (2 * z.node) (2 * v) infinity 0 (λ q. x (omega arith)) ∙ e
