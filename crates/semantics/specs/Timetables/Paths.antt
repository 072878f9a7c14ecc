-- The paths of the graph of minutes into the goal are the timetables, label by label, with the same charge.
-- Assumes nothing.
use Rattle.std.specs.Prelude.{◌≡◌, refl, List, [], ◌∷◌, map, ℕ, ◌+◌, ◌/◌}
use Rattle.std.proofs.Common.{ap, ap₂, ◌∙◌, sym, subst, le_refl, arith}
use borrow.Author.Tests.{eqb-true, eq-eqb}
use Rattle.semantics.specs.Automata.Proper.{Proper}
use Rattle.semantics.specs.Automaton.{Automaton}
use Rattle.semantics.specs.Run.{State, initial, AllAllowed, final, charge_from}
use Rattle.semantics.specs.NodeCount.{cell_count}
use Rattle.semantics.specs.Timetable.{Pair, acts, bytes_of, Timetable, after_pair, pair_charge}
use Rattle.semantics.specs.Graph.Path.{Edge, Graph, Target, IsPath, labels_of, charge_of}
use Rattle.semantics.specs.Graph.MinuteGraph.{label_of, pair_of, state_number, state_at, minute_graph}
use Rattle.semantics.specs.Paths.Labelled.{LabelledPath}
use Rattle.semantics.specs.Timetables.Allowed.{PairAllowed}
use Rattle.semantics.specs.Timetables.States.{Agrees, agree-sym, agree_trans, state-agrees, initial-agrees, pair-agree, pair-after, pair-charge}
use Rattle.semantics.specs.Timetables.Edges.{pair-label, pair_edge, EdgeOf, pair-few, edge_of, edge-from}

-- The pairs are allowed from s, one after another, lead into mode l, and are charged C.
pub record Way (a : Automaton) (l : ℕ) (s : State) (ps : List Pair) (C : ℕ) : Type 0 where
  pub allowed : AllAllowed a 1 (acts ps) s
  pub arrives : (final a (acts ps) s).mode ≡ l
  pub charged : charge_from a 1 (acts ps) s ≡ C

-- A way whose first pair is p.
pub record FirstPair (a : Automaton) (l : ℕ) (s : State) (p : Pair) (ps : List Pair) (C : ℕ) : Type 0 where
  pub allowed : PairAllowed a p s
  pub charge : ℕ
  pub rest : Way a l (after_pair a p s) ps charge
  pub sum : pair_charge a p s + charge ≡ C

module _ (a : Automaton) (l : ℕ) where
  -- A timetable is a way from the start.
  pub timetable-way : (ks : List ℕ) (C : ℕ) (t : Timetable a l ks C) → Way a l initial t.pairs C
  timetable-way ks C t = record { allowed = t.run.allowed; arrives = t.run.arrives; charged = t.charged }

  pub way-timetable : (ps : List Pair) (C : ℕ) → Way a l initial ps C → Timetable a l (bytes_of ps) C
  way-timetable ps C w = record {
    pairs = ps;
    bytes = refl;
    run = record { from_one = le_refl 1; allowed = w.allowed; arrives = w.arrives };
    charged = w.charged;
  }

  pub way-cons : (s : State) (p : Pair) (ps : List Pair) (C : ℕ) → FirstPair a l s p ps C → Way a l s (p ∷ ps) C
  way-cons s p ps C f = record {
    allowed = (f.allowed.waits, (f.allowed.moves, f.rest.allowed));
    arrives = f.rest.arrives;
    charged = omega (arith, f.rest.charged, f.sum);
  }

  pub way-first : (s : State) (p : Pair) (ps : List Pair) (C : ℕ) → Way a l s (p ∷ ps) C → FirstPair a l s p ps C
  way-first s p ps C w = record {
    allowed = record { waits = w.allowed.0; moves = w.allowed.1.0 };
    charge = charge_from a 1 (acts ps) (after_pair a p s);
    rest = record { allowed = w.allowed.1.1; arrives = w.arrives; charged = refl };
    sum = omega (arith, w.charged);
  }

module _ (a : Automaton) (ok : Proper a) (l : ℕ) where
  abbrev g : Graph
  g = minute_graph a l

  -- The pairs of a way are those of their labels.
  way-labels : (ps : List Pair) (s : State) (C : ℕ) → Way a l s ps C → map pair_of (map label_of ps) ≡ ps
  way-labels [] s C w = refl
  way-labels (p ∷ ps) s C w =
      let f = way-first a l s p ps C w in
      ap₂ (λ (q : Pair) (qs : List Pair). q ∷ qs) (pair-label p (pair-few a ok p s f.allowed))
      (way-labels ps (after_pair a p s) f.charge f.rest)

  -- The targets are the nodes of mode l.
  target_to : (v : ℕ) → Target g v → (state_at a v).mode ≡ l
  unfolding minute_graph
  target_to v t = eqb-true (v / cell_count a.ceilings) l t

  target-from : (v : ℕ) → (state_at a v).mode ≡ l → Target g v
  unfolding minute_graph
  target-from v e = eq-eqb (v / cell_count a.ceilings) l e

  -- A state that agrees with node v is left by an allowed pair for one that agrees with the end of the pair's edge.
  after-agrees :
      (v : ℕ) (s : State) (p : Pair) → Agrees a s v → PairAllowed a p (state_at a v)
      → Agrees a (after_pair a p s) (state_number a (after_pair a p (state_at a v)))
  after-agrees v s p h k = agree_trans (pair-after a p h) (state-agrees a (after_pair a p (state_at a v)) k.moves.3.1)

  -- A path from node v is a way from each state that agrees with v.
  pub path-way :
      (p : List Edge) (v : ℕ) (s : State) → Agrees a s v → IsPath g v p → Way a l s (map pair_of (labels_of p)) (charge_of p)
  path-way [] v s h t = record { allowed = tt; arrives = h.mode ∙ target_to v t; charged = refl }
  path-way (e ∷ p) v s h c = before (edge_of a ok l v e c.0) (path-way p e.to)
    where
      before :
          (o : EdgeOf a v e) → ((t : State) → Agrees a t e.to → IsPath g e.to p → Way a l t (map pair_of (labels_of p)) (charge_of p))
          → Way a l s (map pair_of (labels_of (e ∷ p))) (charge_of (e ∷ p))
      before o ih =
          let q = o.pair in
          let to : e.to ≡ state_number a (after_pair a q (state_at a v)) = ap (λ (f : Edge). f.to) o.is in
          let weight : e.weight ≡ pair_charge a q (state_at a v) = ap (λ (f : Edge). f.weight) o.is in
          let named = ap (λ (f : Edge). pair_of f.label) o.is ∙ pair-label q (pair-few a ok q (state_at a v) o.allowed) in
          let next : Agrees a (after_pair a q s) e.to = subst (Agrees a (after_pair a q s)) (sym to) (after-agrees v s q h o.allowed) in
          let w = ih (after_pair a q s) next c.1 in
          subst (λ (r : Pair). Way a l s (r ∷ map pair_of (labels_of p)) (charge_of (e ∷ p))) (sym named)
          (way-cons a l s q (map pair_of (labels_of p)) (charge_of (e ∷ p)) (record {
            allowed = pair-agree a ok q (agree-sym h) o.allowed;
            charge = charge_of p;
            rest = w;
            sum = omega (arith, weight, pair-charge a q h);
          }))

  -- A way from a state is a path from each node that agrees with it.
  pub way-path :
      (ps : List Pair) (v : ℕ) (s : State) (C : ℕ) → Agrees a s v → Way a l s ps C → LabelledPath g v (map label_of ps) C
  way-path [] v s C h w = record { path = []; is-path = target-from v (sym h.mode ∙ w.arrives); labelled = refl; charged = w.charged }
  way-path (p ∷ ps) v s C h w =
      let f = way-first a l s p ps C w in
      let k = pair-agree a ok p h f.allowed in
      let t = after_pair a p (state_at a v) in
      let r = way-path ps (state_number a t) (after_pair a p s) f.charge (after-agrees v s p h k) f.rest in
      record {
        path = pair_edge a p (state_at a v) t ∷ r.path;
        is-path = (edge-from a ok l v p k, r.is-path);
        labelled = ap (λ (ls : List ℕ). label_of p ∷ ls) r.labelled;
        charged = omega (arith, r.charged, f.sum, pair-charge a p h);
      }

  -- The paths from node 0 are the timetables.
  pub path-timetable : (ls : List ℕ) (C : ℕ) → LabelledPath g 0 ls C → Timetable a l (bytes_of (map pair_of ls)) C
  path-timetable ls C p =
      let w = path-way p.path 0 initial (initial-agrees a) p.is-path in
      rw (p.labelled, p.charged) at (way-timetable a l (map pair_of (labels_of p.path)) (charge_of p.path) w)

  pub timetable-path : (ks : List ℕ) (C : ℕ) → Timetable a l ks C → (ls : List ℕ) × (ks ≡ bytes_of (map pair_of ls)) × LabelledPath g 0 ls C
  timetable-path ks C t =
      let w = timetable-way a l ks C t in (
        map label_of t.pairs,
        t.bytes ∙ ap bytes_of (sym (way-labels t.pairs initial C w)),
        way-path t.pairs 0 initial C (initial-agrees a) w,
      )
