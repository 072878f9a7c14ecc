-- The timetable is the best of all, whatever their length: no timetable of as many pairs as there are states is better than all shorter ones, since
-- its path comes to a node twice and can do without what lies between. It is what the best path of the graph of minutes says.
-- Assumes nothing.
use Rattle.std.specs.Prelude.{◌≡◌, ◌↔◌}
use Rattle.std.proofs.Math.Path.{refl, ap}
use Rattle.std.proofs.Common.{◌∙◌, subst, inl, inr, arith}
use mathlib.Core.List.{List, map}
use Prim.Native.Nat.{ℕ, suc, pred, ◌*◌, ◌<◌}
use Rattle.std.proofs.Math.ListN.{length, length-map}
use Rattle.semantics.specs.Automata.Proper.{Proper}
use Rattle.semantics.specs.Automaton.{Automaton}
use Rattle.semantics.specs.Order.{cost, ◌≼◌, ◌⊑◌, Best}
use Rattle.semantics.specs.Run.{initial}
use Rattle.semantics.specs.Answer.{Answer, no_route, route}
use Rattle.semantics.specs.Timetable.{Pair, bytes_of, Timetable, state_count, timetable}
use Rattle.semantics.specs.Graph.Path.{Graph, labels_of, charge_of}
use Rattle.semantics.specs.Graph.MinuteGraph.{pair_of, minute_graph}
use Rattle.semantics.specs.Paths.Cost.{cost-both}
use Rattle.semantics.specs.Paths.Labels.{Few, Shortened, best-unique, best-short}
use Rattle.semantics.specs.Paths.Labelled.{LabelledPath, labelled-length}
use Rattle.semantics.specs.Paths.Loops.{short-path}
use Rattle.semantics.proofs.Answers.Better.{IsBest, is-best-map}
use Rattle.semantics.specs.Timetables.States.{some-state}
use Rattle.semantics.specs.Timetables.Edges.{labels-bytes, label-bytes-length, minute-closed}
use Rattle.semantics.specs.Timetables.Paths.{timetable-way, way-timetable, path-timetable, timetable-path}
use Rattle.semantics.proofs.Timetables.Few.{WayBytes, few-best}

-- Two answers that are the best of the same are equal.
is-best-unique : (P : List ℕ → ℕ → Type 0) (x y : Answer) → IsBest P x → IsBest P y → x ≡ y
is-best-unique P no_route no_route b c = refl
is-best-unique P no_route (route D ks) b c = absurd (b ks D c.first.good.0)
is-best-unique P (route C js) no_route b c = absurd (c js C b.first.good.0)
is-best-unique P (route C js) (route D ks) b c =
    let u = best-unique (cost C (length js)) (cost D (length ks)) js ks b c in
    λ i. route (u.0 i).charge (u.1 i)

-- Costs in pairs and in bytes.
cost-double : (C m D n : ℕ) → cost C m ≼ cost D n → cost C (2 * m) ≼ cost D (2 * n)
cost-double C m D n (inl h) = inl h
cost-double C m D n (inr h) = inr (h.0, omega (arith, h.1))

module _ (a : Automaton) (ok : Proper a) (l : ℕ) where
  abbrev g : Graph
  g = minute_graph a l

  -- The timetable is the best of those of fewer pairs than there are states.
  timetable-few : IsBest (Few (2 * state_count a) (Timetable a l)) (timetable a l)
  unfolding timetable
  timetable-few =
      let e : suc (pred (state_count a)) ≡ state_count a = omega (arith, some-state a ok) in
      is-best-map (timetable a l) (λ ks C k. (to ks C k.0, rw e at k.1)) (λ ks C k. (from ks C k.0, rw e k.1))
      (few-best a ok l (pred (state_count a)) initial)
    where
      to : (ks : List ℕ) (C : ℕ) → WayBytes a l initial ks C → Timetable a l ks C
      to ks C w = rw w.bytes (way-timetable a l w.pairs C w.way)

      from : (ks : List ℕ) (C : ℕ) → Timetable a l ks C → WayBytes a l initial ks C
      from ks C t = record { pairs = t.pairs; bytes = t.bytes; way = timetable-way a l ks C t }

  -- A timetable can be replaced by one of fewer pairs than there are states.
  timetable-short : (ks : List ℕ) (C : ℕ) → Timetable a l ks C → Shortened (Timetable a l) (2 * state_count a) (cost C (length ks))
  unfolding minute_graph
  timetable-short ks C t =
      let o = timetable-path a ok l ks C t in
      let p = o.2 in
      let r = short-path g (minute-closed a ok l) 0 p.path (some-state a ok) p.is-path in
      let ls = labels_of r.path in
      let n = label-bytes-length ls in
      let m = length-map r.path (λ e. e.label) in
      let k = ap length o.1 ∙ label-bytes-length o.0 in
      let few : length ls < state_count a = omega (arith, m, r.few) in
      record {
        labels = bytes_of (map pair_of ls);
        charge = charge_of r.path;
        comes = path-timetable a ok l ls (charge_of r.path) (record { path = r.path; is-path = r.is-path; labelled = refl; charged = refl });
        few = omega (arith, n, few);
        within =
            cost-both (cost (charge_of r.path) (length (bytes_of (map pair_of ls)))) (cost C (length ks))
            (omega (arith, r.no-dearer, p.charged)) (omega (arith, n, m, k, r.no_longer, labelled-length o.0 C p));
      }

  all-best : (x : Answer) → IsBest (Few (2 * state_count a) (Timetable a l)) x → IsBest (Timetable a l) x
  all-best no_route b = λ ks C t. let s = timetable-short ks C t in b s.labels s.charge (s.comes, s.few)
  all-best (route C ks) b = best-short (Timetable a l) (2 * state_count a) timetable-short (cost C (length ks)) ks b

  -- The timetable is the best of all, or there is none.
  pub timetable-is-best : IsBest (Timetable a l) (timetable a l)
  timetable-is-best = all-best (timetable a l) timetable-few

  -- It is a route with its charge exactly if these are the best of all timetables.
  pub best-timetable : (C : ℕ) (ks : List ℕ) → (timetable a l ≡ route C ks) ↔ Best (Timetable a l) (cost C (length ks)) ks
  best-timetable C ks = (
    λ e. subst (IsBest (Timetable a l)) e timetable-is-best,
    λ b. is-best-unique (Timetable a l) (timetable a l) (route C ks) timetable-is-best b,
  )

  -- It is no route exactly if there is no timetable.
  pub no-timetable : (timetable a l ≡ no_route) ↔ ((ks : List ℕ) (C : ℕ) → Timetable a l ks C → ⊥)
  no-timetable = (
    λ e. subst (IsBest (Timetable a l)) e timetable-is-best,
    λ b. is-best-unique (Timetable a l) (timetable a l) no_route timetable-is-best b,
  )

  -- It has fewer pairs than there are states.
  pub timetable-pairs : (C : ℕ) (ks : List ℕ) → timetable a l ≡ route C ks → (length ks < 2 * state_count a) × ((ps : List Pair) × (ks ≡ bytes_of ps))
  timetable-pairs C ks e =
      let b = subst (IsBest (Few (2 * state_count a) (Timetable a l))) e timetable-few in
      let t = b.first.good.0.0 in
      (b.first.good.0.1, (t.pairs, t.bytes))

  -- The best path from node 0 is the best timetable.
  path-best : (C n : ℕ) (ls : List ℕ) → Best (LabelledPath g 0) (cost C n) ls → IsBest (Timetable a l) (route C (bytes_of (map pair_of ls)))
  path-best C n ls b = record {
    least = λ ks D t. least ks D (timetable-path a ok l ks D t);
    first = record {
      good = (path-timetable a ok l ls C b.first.good.0, refl);
      first = λ ks k. first ks (timetable-path a ok l ks C k.0) k.1;
    };
  }
    where
      bytes : List ℕ
      bytes = bytes_of (map pair_of ls)

      steps : length bytes ≡ 2 * n
      steps = omega (arith, label-bytes-length ls, b.first.good.1)

      least : (ks : List ℕ) (D : ℕ) → (ms : List ℕ) × (ks ≡ bytes_of (map pair_of ms)) × LabelledPath g 0 ms D → cost C (length bytes) ≼ cost D (length ks)
      least ks D o =
          let k = ap length o.1 ∙ label-bytes-length o.0 in
          rw (steps, k) (cost-double C n D (length o.0) (b.least o.0 D o.2))

      first :
          (ks : List ℕ) → (ms : List ℕ) × (ks ≡ bytes_of (map pair_of ms)) × LabelledPath g 0 ms C → length ks ≡ length bytes → bytes ⊑ ks
      first ks o q =
          let k = ap length o.1 ∙ label-bytes-length o.0 in
          rw o.1 ((labels-bytes ls o.0).0 (b.first.first o.0 (o.2, omega (arith, k, q, steps))))

  -- So it is the timetable,
  pub timetable-found : (C n : ℕ) (ls : List ℕ) → Best (LabelledPath g 0) (cost C n) ls → timetable a l ≡ route C (bytes_of (map pair_of ls))
  timetable-found C n ls b = is-best-unique (Timetable a l) (timetable a l) (route C (bytes_of (map pair_of ls))) timetable-is-best (path-best C n ls b)

  -- and where there is no path there is no timetable.
  pub timetable-nothing : ((ls : List ℕ) (C : ℕ) → LabelledPath g 0 ls C → ⊥) → timetable a l ≡ no_route
  timetable-nothing h = no-timetable.1 (λ ks C t. let o = timetable-path a ok l ks C t in h o.0 C o.2)
