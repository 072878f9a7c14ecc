-- A closed table has a timetable exactly if it has a route, and then both are charged the same.
-- Assumes nothing.
use Rattle.std.specs.Prelude.{◌≡◌, refl, true, ◌↔◌, List, ℕ, length}
use Rattle.std.proofs.Common.{ap, ◌∙◌, arith}
use Rattle.semantics.specs.Distinct.{distinct}
use Rattle.semantics.specs.Automata.Proper.{Proper}
use Rattle.semantics.specs.Automaton.{Automaton}
use Rattle.semantics.specs.Order.{cost}
use Rattle.semantics.specs.Answer.{Answer, no_route, route, answer}
use Rattle.semantics.specs.Closed.{closed_table}
use Rattle.semantics.specs.Timetable.{Timetable, timetable}
use Rattle.semantics.specs.Paths.Cost.{cost-charge}
use Rattle.semantics.proofs.Timetables.Best.{best-timetable, no-timetable}
use Rattle.semantics.proofs.Timetables.Exists.{timetable-charged, timetable-least, timetable-none}

module _ (a : Automaton) (ok : Proper a) (closed : closed_table a ≡ true) (l : ℕ) where
  -- Of a route there is a timetable, charged the same.
  route-timetable : (C : ℕ) (ks : List ℕ) → answer a l ≡ route C ks → (js : List ℕ) × (timetable a l ≡ route C js)
  route-timetable C ks e = go (timetable a l) refl
    where
      some : (js : List ℕ) × Timetable a l js C
      some = timetable-charged a ok closed l C ks e

      go : (x : Answer) → timetable a l ≡ x → (js : List ℕ) × (timetable a l ≡ route C js)
      go no_route q = absurd ((no-timetable a ok l).0 q some.0 C some.1)
      go (route D js) q =
          let b = (best-timetable a ok l D js).0 q in
          let high = cost-charge (cost D (length js)) (cost C (length some.0)) (b.least some.0 C some.1) in
          let low = timetable-least a ok l C ks e js D b.first.good.0 in
          let same : D ≡ C = omega (arith, high, low) in
          (js, q ∙ ap (λ (c : ℕ). route c js) same)

  none-timetable : answer a l ≡ no_route → timetable a l ≡ no_route
  none-timetable e = (no-timetable a ok l).1 (timetable-none a ok l e)

  -- And the other way round.
  pub timetable-answer : (C : ℕ) (js : List ℕ) → timetable a l ≡ route C js → (ks : List ℕ) × (answer a l ≡ route C ks)
  timetable-answer C js e = go (answer a l) refl
    where
      go : (x : Answer) → answer a l ≡ x → (ks : List ℕ) × (answer a l ≡ route C ks)
      go no_route q = let n = none-timetable q in distinct cc
      go (route D ks) q =
          let o = route-timetable D ks q in
          let p = o.1 in
          let same : D ≡ C = cc in
          (ks, q ∙ ap (λ (c : ℕ). route c ks) same)

  pub same_none : (timetable a l ≡ no_route) ↔ (answer a l ≡ no_route)
  same_none = (λ e. go (answer a l) refl e, none-timetable)
    where
      go : (x : Answer) → answer a l ≡ x → timetable a l ≡ no_route → answer a l ≡ no_route
      go no_route q e = q
      go (route D ks) q e = let o = route-timetable D ks q in let p = o.1 in distinct cc

  -- "such a timetable exists whenever a route does", and only then.
  pub exists-both : ((C : ℕ) × (js : List ℕ) × Timetable a l js C) ↔ ((C : ℕ) × (ks : List ℕ) × (answer a l ≡ route C ks))
  exists-both = (λ t. go (answer a l) refl t, λ r. let t = timetable-charged a ok closed l r.0 r.1 r.2 in (r.0, t.0, t.1))
    where
      go :
          (x : Answer) → answer a l ≡ x → (C : ℕ) × (js : List ℕ) × Timetable a l js C
          → (C : ℕ) × (ks : List ℕ) × (answer a l ≡ route C ks)
      go no_route q t = absurd (timetable-none a ok l q t.1 t.0 t.2)
      go (route D ks) q t = (D, ks, q)
