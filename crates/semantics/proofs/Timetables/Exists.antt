-- Timetables and the answer: where the answer is a route charged C, a closed table has a timetable charged C, and no table has one that is charged
-- less. Where it is no route, there is no timetable.
-- Assumes nothing.
use Rattle.std.specs.Prelude.{◌≡◌, refl, true, List, ℕ, ◌≤◌}
use Rattle.std.proofs.Common.{◌∙◌, arith}
use Rattle.semantics.specs.Automata.Proper.{Proper}
use Rattle.semantics.specs.Automaton.{Automaton}
use Rattle.semantics.specs.Answer.{no_route, route, answer}
use Rattle.semantics.specs.Closed.{closed_table}
use Rattle.semantics.specs.Chain.{moves_of}
use Rattle.semantics.specs.Run.{moves_in}
use Rattle.semantics.specs.Timetable.{Pair, acts, bytes_of, Timetable}
use Rattle.semantics.proofs.Answers.Best.{answer-best}
use Rattle.semantics.proofs.Answers.Demand.{answer-at-least, answer-no-run}
use Rattle.semantics.proofs.Timetables.CornerRuns.{corner-run}
use Rattle.semantics.proofs.Timetables.Paired.{run-paired}

module _ (a : Automaton) (ok : Proper a) where
  -- No timetable is charged less than the answer.
  pub timetable-least :
      (l C : ℕ) (ks : List ℕ) → answer a l ≡ route C ks → (js : List ℕ) (D : ℕ) → Timetable a l js D → C ≤ D
  timetable-least l C ks e js D t = omega (arith, answer-at-least a ok l C ks e 1 (acts t.pairs) t.run, t.charged)

  -- Where there is no route, there is no timetable.
  pub timetable-none : (l : ℕ) → answer a l ≡ no_route → (js : List ℕ) (D : ℕ) → Timetable a l js D → ⊥
  timetable-none l e js D t = (answer-no-run a ok l).0 e 1 (acts t.pairs) t.run

  module _ (closed : closed_table a ≡ true) (l C : ℕ) (ks : List ℕ) (e : answer a l ≡ route C ks) where
    -- A closed table has a timetable of exactly the route's moves and its charge.
    pub timetable-moves : (ps : List Pair) × Timetable a l (bytes_of ps) C × (moves_in (acts ps) ≡ moves_of ks)
    timetable-moves =
        let r = corner-run a ok closed l ks C ((answer-best a ok l C ks).0 e).first.good.0 in
        let n = run-paired a ok l r.acts r.run in
        let least = answer-at-least a ok l C ks e 1 (acts n.pairs) n.run in (
          n.pairs,
          record { pairs = n.pairs; bytes = refl; run = n.run; charged = omega (arith, least, n.cheaper, r.charged) },
          n.moves-made ∙ r.moves-made,
        )

    pub timetable-charged : (js : List ℕ) × Timetable a l js C
    timetable-charged = (bytes_of timetable-moves.0, timetable-moves.1)
