-- From what was found to the outcome of the call.
-- Assumes nothing.
use mathlib.Core.Path.{◌≡◌, sym, ap, subst, ◌∙◌}
use mathlib.Core.Bool.{Bool, true, false, cond}
use mathlib.Core.List.{List, ◌++◌}
use Prim.Native.Nat.{ℕ, ◌*◌}
use lib.ListN.{length, drop, replicate}
use Rattle.semantics.specs.Closed.{closed_table}
use Rattle.table.specs.Held.{fields_of, automaton_of}
use Rattle.reader.specs.Read.{Judgement, accepted, rejected, read}
use Rattle.search.specs.Outcome.{Searched}
use Rattle.search.specs.Outcome.{Nodes as Searched-as-Nodes, Refused as Searched-as-Refused}
use Rattle.search.specs.Outcome.{answered, cleared}
use Rattle.search.specs.Laws.Answers.{answer-fits, cleared-nodes}
use Rattle.timetable.specs.Answers.{Answer}
use Rattle.timetable.specs.Answers.{Refused}
use Rattle.timetable.specs.Timetabled.{Outcome, outcome, after_room, timetabled_table, judged, timetabled}
use Rattle.timetable.specs.Promise.{KeepsTimetable}
use Rattle.timetable.specs.Keeps.{timetabled-keeps}
use Rattle.timetable.specs.Found.{ReadOff}

module _ (t ws rs : List ℕ) where
  -- 12.
  pub table-strict : closed_table (automaton_of t) ≡ false → outcome (Refused 12) ws rs ≡ timetabled_table (automaton_of t) ws rs
  unfolding timetabled_table
  table-strict strict =
      let a = automaton_of t in
      sym (ap (λ (c : Bool). cond c (after_room (answered a (length ws)) a ws rs) (outcome (Refused 12) ws rs)) strict)

  -- A closed table.
  module _ (closed : closed_table (automaton_of t) ≡ true) where
    after-room : after_room (answered (automaton_of t) (length ws)) (automaton_of t) ws rs ≡ timetabled_table (automaton_of t) ws rs
    unfolding timetabled_table
    after-room =
        let a = automaton_of t in
        sym (ap (λ (c : Bool). cond c (after_room (answered a (length ws)) a ws rs) (outcome (Refused 12) ws rs)) closed)

    -- 8 and 9.
    pub table-refused : (n : ℕ) → answered (automaton_of t) (length ws) ≡ Searched-as-Refused n → outcome (Refused n) ws rs ≡ timetabled_table (automaton_of t) ws rs
    table-refused n e = sym (ap (λ (r : Searched). after_room r (automaton_of t) ws rs) e) ∙ after-room

    -- An answer read off the words of a search, which are cleared then.
    pub table-found :
        (n : ℕ) {ws₁ vs rs₁ : List ℕ} {r : Answer} → answered (automaton_of t) (length ws) ≡ Searched-as-Nodes n → ReadOff t ws rs ws₁ rs₁ r
        → vs ≡ cleared (automaton_of t) ws₁ → outcome r vs rs₁ ≡ timetabled_table (automaton_of t) ws rs
    table-found n {ws₁} {vs} {rs₁} {r} e off clear =
        let a = automaton_of t in
        let f = answer-fits a (length ws) n e in
        let rest : drop (2 * n) ws₁ ≡ drop (2 * n) ws = rw f.counted off.words.rest in
        let e₁ : answered a (length ws₁) ≡ Searched-as-Nodes n = ap (answered a) off.words.kept ∙ e in
        let same : cleared a ws₁ ≡ cleared a ws =
        sym (cleared-nodes a ws₁ n e₁ f.counted) ∙ ap (λ (l : List ℕ). replicate (2 * n) 0 ++ l) rest ∙ cleared-nodes a ws n e f.counted in
        ap (λ (v : List ℕ). outcome r v rs₁) (clear ∙ same) ∙ off.is-answer ws
        ∙ sym (ap (λ (s : Searched). after_room s (automaton_of t) ws rs) e) ∙ after-room

-- A call with the outcome of the definitions keeps what is promised.
pub outcome-keeps :
    (bytes ws rs : List ℕ) {ws' rs' : List ℕ} {r : Answer} → outcome r ws' rs' ≡ timetabled bytes ws rs → KeepsTimetable bytes ws rs' r
outcome-keeps bytes ws rs {rs' = rs'} {r = r} e =
    subst (λ (o : Outcome). KeepsTimetable bytes ws o.route o.answer) (sym e) (timetabled-keeps bytes ws rs)

-- From the judgement of the bytes: a refusal of the reader, and a table that was read.
module _ (bytes ws rs : List ℕ) where
  pub timetabled-refused : (n : ℕ) → read bytes ≡ rejected n → outcome (Refused n) ws rs ≡ timetabled bytes ws rs
  unfolding timetabled
  timetabled-refused n e = sym (ap (λ (j : Judgement). judged j ws rs) e)

  pub timetabled-accepted : (t : List ℕ) → read bytes ≡ accepted (fields_of t) → timetabled_table (automaton_of t) ws rs ≡ timetabled bytes ws rs
  unfolding timetabled
  timetabled-accepted t e = sym (ap (λ (j : Judgement). judged j ws rs) e)
