-- The walk takes a pair: the node at hand goes onto the stack, and the pair's bytes into the route.
-- Assumes nothing.
use mathlib.Core.Path.{◌≡◌, refl, sym, ap, subst, subst₂, ◌∙◌}
use mathlib.Core.Bool.{cond}
use mathlib.Core.Logic.{◌≢◌}
use mathlib.Core.List.{List, [], ◌∷◌, ◌++◌}
use Prim.Native.Nat.{ℕ, suc, ◌+◌, ◌*◌, ◌/◌, ◌%◌, ◌≤◌, ◌<◌}
use native.Mathlib.Decide.{ℕ_discrete}
use native.Mathlib.Omega.{arith}
use borrow.Author.Tests.{eq-eqb, ne_eqb}
use lib.Dec.{eqb}
use lib.ListN.{length, get_or, take, set, length-append, length-set}
use lib.Seq.{get_or-set_same, get_or-set_other, take-set-le, drop-set-lt}
use Rattle.semantics.specs.NodeCount.{node_count}
use Rattle.semantics.specs.Graph.Path.{Leaves, table}
use Rattle.semantics.proofs.Paths.Walk.{Tight, Walk, walk_same}
use Rattle.semantics.proofs.Paths.WalkOn.{walk-short, walk-further}
use Rattle.table.specs.Held.{automaton_of}
use Rattle.states.specs.declared.States.{States}
use Rattle.minutes.specs.Edges.{Setting}
use Rattle.route.proofs.Live.{turns, turns-advance}
use Rattle.timetable.specs.declared.walk.Stand.{Stand}
use Rattle.timetable.specs.declared.walk.Next.{Next}
use Rattle.timetable.specs.Steps.{goal_graph, Tight as TightPair, NextFound}
use Rattle.timetable.specs.Walk.{WalkReady, AdvanceReady, Advanced}
use Rattle.timetable.proofs.PairBytes.{bytes-more, take-two}
use Rattle.timetable.proofs.Walking.{Walking, nodes-are, label-few, ground, stack-fits, table_same, entry_here, at_here, words-room, here-tight, tried}

-- A function with another value at k.
abbrev updated : (ℕ → ℕ) → ℕ → ℕ → ℕ → ℕ
updated f k x i = cond (eqb i k) x (f i)

module _ (f : ℕ → ℕ) (k x : ℕ) where
  updated-same : (i : ℕ) → i ≡ k → updated f k x i ≡ x
  updated-same i e = rw (eq-eqb i k e)

  updated-other : (i : ℕ) → i ≢ k → updated f k x i ≡ f i
  updated-other i e = rw (ne_eqb i k e)

module _
    {t rs : List ℕ} {s : States} (setting : Setting t rs s) {ws₀ bs₀ : List ℕ} (w : WalkReady t ws₀ bs₀) {ws bs : List ℕ} {z : Stand} (k : Walking s w ws bs z)
    {r : Next} (next : NextFound t z ws r) where
  -- The edge of the pair.
  pair : TightPair t ws z.node (z.depth + 1) r.label r.node
  pair = next.tight

  leaves : Leaves (goal_graph t) (k.at (length k.labels)) pair.edge
  leaves = subst (λ (v : ℕ). Leaves (goal_graph t) v pair.edge) (sym (at_here setting w k)) pair.leaves

  tight : Tight (table ws) (length k.labels) (k.at (length k.labels)) pair.edge
  tight = here-tight setting w k pair.edge pair.leaves pair.along

  pub label_small : r.label < 1024
  label_small = omega (arith, label-few setting w z.node pair.edge pair.leaves, pair.labelled)

  -- So the timetable is not yet written.
  pub depth_below : z.depth < w.best.steps
  depth_below = omega (arith, k.counted, walk-short (ground setting w) (tried setting w k next.none_before) pair.edge leaves pair.labelled tight)

  pub advance-ready : AdvanceReady s.count z r ws bs
  advance-ready = record {
    stack = omega (arith, depth_below, words-room setting w k);
    room = omega (arith, depth_below, k.sized, w.room);
    few = omega (arith, (entry_here setting w k).0, setting.few);
    small = label_small;
  }

  -- The labels and the nodes with the next.
  abbrev labels' : List ℕ
  labels' = k.labels ++ r.label ∷ []

  abbrev at' : ℕ → ℕ
  at' = updated k.at (z.depth + 1) r.node

  at_before : (i : ℕ) → i ≤ z.depth → at' i ≡ k.at i
  at_before i h = updated-other k.at (z.depth + 1) r.node i (λ e. omega arith)

  at_last : (i : ℕ) → i ≡ z.depth + 1 → at' i ≡ r.node
  at_last i e = updated-same k.at (z.depth + 1) r.node i e

  longer : Walk (goal_graph t) 0 (table ws) labels' at' 0
  longer =
      walk-further (ground setting w) (tried setting w k next.none_before) pair.edge leaves pair.labelled tight at'
      (λ i h. sym (at_before i (omega (arith, k.counted)))) (at_last (suc (length k.labels)) (omega (arith, k.counted)) ∙ sym pair.leads)

  -- The words, the bytes and the place then.
  abbrev ws' : List ℕ
  ws' = set ws (2 * s.count + z.depth) z.node

  abbrev bs' : List ℕ
  bs' = set (set bs (2 * z.depth) (r.label / 64)) (2 * z.depth + 1) (r.label % 64)

  abbrev z' : Stand
  z' = record { node = r.node; depth = z.depth + 1; label = 0 }

  -- The words of the states are as they were.
  same-words : (v : ℕ) → v < (goal_graph t).nodes → table ws v ≡ table ws' v
  same-words v h =
      let b : v < s.count = omega (arith, nodes-are setting w) in
      sym
      (table_same ws ws' v
      (get_or-set_other ws (2 * s.count + z.depth) (2 * v) z.node 0 (λ e. omega arith))
      (get_or-set_other ws (2 * s.count + z.depth) (2 * v + 1) z.node 0 (λ e. omega arith)))

  stack' : (i : ℕ) → i < z.depth + 1 → get_or ws' (2 * s.count + i) 0 ≡ at' i
  stack' i h = go (ℕ_discrete i z.depth)
    where
      go : Dec (i ≡ z.depth) → get_or ws' (2 * s.count + i) 0 ≡ at' i
      go (yes e) =
          ap (λ (n : ℕ). get_or ws' (2 * s.count + n) 0) e
          ∙ get_or-set_same ws (2 * s.count + z.depth) z.node 0 advance-ready.stack
          ∙ sym (at_before i (omega arith) ∙ ap k.at e ∙ k.here)
      go (no n) =
          get_or-set_other ws (2 * s.count + z.depth) (2 * s.count + i) z.node 0 (λ e. n (omega arith))
          ∙ k.stack i (omega arith)
          ∙ sym (at_before i (omega arith))

  advance-here : Walking s w ws' bs' z'
  advance-here = record {
    labels = labels';
    at = at';
    counted = omega (arith, k.counted, length-append k.labels (r.label ∷ []));
    here = at_last (z.depth + 1) refl;
    stack = stack';
    walk = walk_same longer (table ws') same-words at' (λ i h. refl);
    few = omega arith;
    bytes =
        let two : 2 * (z.depth + 1) ≡ 2 * z.depth + 2 = omega arith in
        ap (λ (n : ℕ). take n bs') two
        ∙ take-two bs (2 * z.depth) (r.label / 64) (r.label % 64) advance-ready.room
        ∙ ap (λ (x : List ℕ). x ++ r.label / 64 ∷ r.label % 64 ∷ []) k.bytes
        ∙ sym (bytes-more k.labels r.label);
    rest =
        drop-set-lt (2 * w.best.steps) (set bs (2 * z.depth) (r.label / 64)) (2 * z.depth + 1) (r.label % 64) (omega (arith, depth_below))
        ∙ drop-set-lt (2 * w.best.steps) bs (2 * z.depth) (r.label / 64) (omega (arith, depth_below))
        ∙ k.rest;
    sized =
        length-set (set bs (2 * z.depth) (r.label / 64)) (2 * z.depth + 1) (r.label % 64)
        ∙ length-set bs (2 * z.depth) (r.label / 64)
        ∙ k.sized;
    words = record {
      rest =
          drop-set-lt (2 * node_count (automaton_of t)) ws (2 * s.count + z.depth) z.node (omega (arith, depth_below, stack-fits setting w))
          ∙ k.words.rest;
      kept = length-set ws (2 * s.count + z.depth) z.node ∙ k.words.kept;
    };
  }

  -- The pair was taken.
  module _ {vs cs : List ℕ} {y : Stand} (f : Advanced s.count z r ws bs vs cs y) where
    pub walking-advances : Walking s w vs cs y
    walking-advances =
        subst (λ (x : Stand). Walking s w vs cs x) (sym f.stand)
        (subst₂ (λ (v c : List ℕ). Walking s w v c z') (sym f.words) (sym f.route) advance-here)

    -- One turn less is to come.
    pub fewer-advance :
        turns s.count (length bs₀) (take (2 * s.count) vs) y.depth < turns s.count (length bs₀) (take (2 * s.count) ws) z.depth
    fewer-advance =
        let same : take (2 * s.count) vs ≡ take (2 * s.count) ws =
        ap (take (2 * s.count)) f.words ∙ take-set-le (2 * s.count) ws (2 * s.count + z.depth) z.node (omega arith) in
        subst₂
        (λ (v : List ℕ) (x : Stand). turns s.count (length bs₀) v x.depth < turns s.count (length bs₀) (take (2 * s.count) ws) z.depth)
        (sym same) (sym f.stand)
        (turns-advance s.count (length bs₀) (take (2 * s.count) ws) (take (2 * s.count) ws) (λ v e. e) z.depth
        (omega (arith, depth_below, w.room)))
