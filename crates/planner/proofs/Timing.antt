-- Numbers that stand for a timetable keep what holds of it.
-- Assumes nothing.
use mathlib.Core.Path.{◌≡◌, refl, sym, ap, subst, ◌∙◌}
use mathlib.Core.Bool.{Bool, true, false, cond, true≢false}
use mathlib.Core.List.{List, ◌++◌}
use Prim.Native.Nat.{ℕ, ◌*◌, ◌/◌, ◌≤◌}
use native.Mathlib.Omega.{arith}
use borrow.Author.Tests.{ne_eqb}
use lib.Dec.{eqb, leb}
use lib.ListN.{length, drop}
use Rattle.semantics.specs.Automaton.{Automaton}
use Rattle.semantics.specs.NodeCount.{node_count}
use Rattle.semantics.specs.Answer.{Answer as Best, no_route, route}
use Rattle.semantics.specs.Closed.{closed_table}
use Rattle.semantics.specs.Timetable.{timetable}
use Rattle.table.specs.Meaning.{automaton}
use Rattle.reader.specs.Read.{Judgement, accepted, rejected, read}
use Rattle.reader.specs.Theorems.Refusals.{rejected-range}
use Rattle.search.specs.Outcome.{Nodes as Searched-as-Nodes, Refused as Searched-as-Refused}
use Rattle.search.specs.Outcome.{most_nodes, cleared}
use Rattle.timetable.specs.Answers.{Answer}
use Rattle.timetable.specs.Answers.{Refused, NoRoute, Timetable}
use Rattle.timetable.specs.Timetabled.{outcome, told, after_room, timetabled_table, judged, timetabled}
use Rattle.timetable.specs.Promise.{KeepsTimetable}
use Rattle.planner.specs.Numbers.{decoded_timetable, Untouched}

-- The words and route bytes lent.
module _ (ws rs : List ℕ) where
  -- The numbers by which an answer may refuse.
  abbrev InRange : Answer → Type 0
  InRange r = (n : ℕ) → r ≡ Refused n → (1 ≤ n) × (n ≤ 12)

  refused-in : (k : ℕ) → (1 ≤ k) × (k ≤ 12) → InRange (Refused k)
  refused-in k h n e = let q : k ≡ n = cc in rw (← q) h

  told_in : (a : Automaton) (b : Best) → InRange (told a b ws rs).answer
  told_in a no_route = λ n e. absurd (true≢false cc)
  told_in a (route C ks) = go (leb (length ks) (length rs))
    where
      go :
          (t : Bool)
          → InRange
          (cond t (outcome (Timetable C (length ks / 2)) (cleared a ws) (ks ++ drop (length ks) rs)) (outcome (Refused 10) (cleared a ws) rs)).answer
      go true = λ n e. absurd (true≢false cc)
      go false = refused-in 10 (omega arith)

  table-in : (a : Automaton) → InRange (timetabled_table a ws rs).answer
  unfolding timetabled_table
  table-in a = go (closed_table a) (leb (node_count a) most_nodes) (leb (2 * node_count a) (length ws))
    where
      go :
          (t b d : Bool)
          → InRange
          (cond t (after_room (cond b (cond d (Searched-as-Nodes (node_count a)) (Searched-as-Refused 9)) (Searched-as-Refused 8)) a ws rs)
          (outcome (Refused 12) ws rs)).answer
      go true true true = told_in a (timetable a a.goal)
      go true true false = refused-in 9 (omega arith)
      go true false d = refused-in 8 (omega arith)
      go false b d = refused-in 12 (omega arith)

  judged-in : (j : Judgement) → ((n : ℕ) → j ≡ rejected n → (1 ≤ n) × (n ≤ 7)) → InRange (judged j ws rs).answer
  judged-in (rejected k) h = refused-in k (omega (arith, h k refl))
  judged-in (accepted f) h = table-in (automaton f)

  -- A refusal has neither of the two numbers that stand for a timetable and for no route.
  timetabled-range : (bytes : List ℕ) → InRange (timetabled bytes ws rs).answer
  unfolding timetabled
  timetabled-range bytes = judged-in (read bytes) (rejected-range bytes)

decoded-timetable : (C n : ℕ) → decoded_timetable 0 C n ≡ Timetable C n
unfolding decoded_timetable
decoded-timetable C n = refl

decoded-none : (C n : ℕ) → decoded_timetable 255 C n ≡ NoRoute
unfolding decoded_timetable
decoded-none C n = refl

decoded-refused : (k C n : ℕ) → (1 ≤ k) × (k ≤ 12) → decoded_timetable k C n ≡ Refused k
unfolding decoded_timetable
decoded-refused k C n range =
    ap (λ (t : Bool). cond t (Timetable C n) (cond (eqb k 255) NoRoute (Refused k))) (ne_eqb k 0 (λ e. omega (arith, range)))
    ∙ ap (λ (t : Bool). cond t NoRoute (Refused k)) (ne_eqb k 255 (λ e. omega (arith, range)))

-- The bytes, words and route bytes lent, the words and route bytes at exit, and the answer.
module _ (bytes ws rs ws' rs' : List ℕ) (r : Answer) (e : outcome r ws' rs' ≡ timetabled bytes ws rs) (k : KeepsTimetable bytes ws rs' r) where
  -- What is promised of numbers that stand for the answer s, with the charge and the pairs before and after the call.
  abbrev Told : Answer → (number C C' n n' : ℕ) → Type 0
  Told s number C C' n n' =
      (outcome s ws' rs' ≡ timetabled bytes ws rs) × (Untouched number C C' × (Untouched number n n' × KeepsTimetable bytes ws rs' s))

  timed :
      (number C C' n n' : ℕ) → decoded_timetable number C' n' ≡ r → Untouched number C C' → Untouched number n n'
      → Told (decoded_timetable number C' n') number C C' n n'
  timed number C C' n n' t u v = subst (λ s. Told s number C C' n n') (sym t) (e, (u, (v, k)))

  pub timed-refused : (m C n : ℕ) → r ≡ Refused m → Told (decoded_timetable m C n) m C C n n
  timed-refused m C n t =
      let range = timetabled-range ws rs bytes m (ap (λ o. o.answer) (sym e) ∙ t) in
      timed m C C n n (decoded-refused m C n range ∙ sym t) (λ o. refl) (λ o. refl)

  pub timed-none : (C n : ℕ) → r ≡ NoRoute → Told (decoded_timetable 255 C n) 255 C C n n
  timed-none C n t = timed 255 C C n n (decoded-none C n ∙ sym t) (λ o. refl) (λ o. refl)

  pub timed-timetable : (C C' n n' : ℕ) → r ≡ Timetable C' n' → Told (decoded_timetable 0 C' n') 0 C C' n n'
  timed-timetable C C' n n' t =
      timed 0 C C' n n' (decoded-timetable C' n' ∙ sym t) (λ o. absurd (o refl)) (λ o. absurd (o refl))
