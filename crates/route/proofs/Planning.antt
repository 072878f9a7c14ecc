-- From a judgement of the bytes, and from a search and what is read off its words, to the outcome of the definitions.
-- Assumes nothing.
use mathlib.Core.Path.{◌≡◌, refl, sym, ap, subst, ◌∙◌}
use mathlib.Core.List.{List}
use Prim.Native.Nat.{ℕ, ◌*◌, ◌≤◌}
use native.Mathlib.Omega.{arith}
use lib.ListN.{length, drop}
use Rattle.semantics.specs.NodeCount.{node_count}
use Rattle.reader.specs.Read.{Judgement, accepted, rejected, read}
use Rattle.table.specs.Held.{fields_of, automaton_of, IsTable}
use Rattle.rules.specs.Rules.{IsRules}
use Rattle.search.specs.Outcome.{most_nodes}
use Rattle.search.specs.Outcome.{Searched}
use Rattle.search.specs.Outcome.{Nodes as Searched-as-Nodes, Refused as Searched-as-Refused}
use Rattle.search.specs.Outcome.{answered, searched, cleared}
use Rattle.search.specs.Laws.Goal.{searched-near, searched-room, cleared-searched}
use Rattle.search.specs.Laws.Answers.{answer-fits, searched-refused}
use Rattle.route.specs.Answers.{Answer}
use Rattle.route.specs.Answers.{Refused}
use Rattle.route.specs.Plan.{Outcome, outcome, after_room, planned_table, judged, planned}
use Rattle.route.specs.Promise.{KeepsDemand}
use Rattle.route.specs.Walk.{RestKept}
use Rattle.route.specs.Found.{Found, ReadOff}
use Rattle.route.specs.Keeps.{planned-keeps}

module _ (t ws : List ℕ) where
  -- The words after a search for the table's goal.
  pub found-searched :
      (n : ℕ) (rules ws' : List ℕ) → IsTable t → IsRules t rules → answered (automaton_of t) (length ws) ≡ Searched-as-Nodes n
      → ws' ≡ searched (automaton_of t) (automaton_of t).goal ws → Found t rules n ws'
  found-searched n rules ws' k made e is =
      let f = answer-fits (automaton_of t) (length ws) n e in
      let few : node_count (automaton_of t) ≤ most_nodes = omega (arith, f.counted, f.few) in
      let room : 2 * node_count (automaton_of t) ≤ length ws = omega (arith, f.counted, f.room) in
      rw is (record {
        is-table = k;
        is-rules = made;
        counted = f.counted;
        few = f.few;
        room = searched-room t k (automaton_of t).goal ws few room n (length (automaton_of t).modes) f.counted refl;
        near = searched-near t k (automaton_of t).goal ws few room;
      })

  -- A refusal before the search.
  pub table-refused :
      (n : ℕ) (ws' rs : List ℕ) → answered (automaton_of t) (length ws) ≡ Searched-as-Refused n
      → ws' ≡ searched (automaton_of t) (automaton_of t).goal ws → outcome (Refused n) ws' rs ≡ planned_table (automaton_of t) ws rs
  unfolding planned_table
  table-refused n ws' rs e is =
      let a = automaton_of t in
      ap (λ (v : List ℕ). outcome (Refused n) v rs) (is ∙ sym (searched-refused a (automaton_of t).goal ws n e))
      ∙ sym (ap (λ (r : Searched). after_room r a ws rs) e)

  -- An answer read off the words of the search, which are cleared then.
  pub table-searched :
      (n : ℕ) (ws' ws'' vs rs rs' : List ℕ) (r : Answer) → answered (automaton_of t) (length ws) ≡ Searched-as-Nodes n
      → ws' ≡ searched (automaton_of t) (automaton_of t).goal ws → ReadOff t ws' rs ws'' rs' r → vs ≡ cleared (automaton_of t) ws''
      → outcome r vs rs' ≡ planned_table (automaton_of t) ws rs
  unfolding planned_table
  table-searched n ws' ws'' vs rs rs' r e is off clear =
      let a = automaton_of t in
      let f = answer-fits a (length ws) n e in
      let kept : RestKept t (searched a a.goal ws) ws'' = rw (← is) off.words in
      let rest : drop (2 * n) ws'' ≡ drop (2 * n) (searched a a.goal ws) = rw f.counted kept.rest in
      ap (λ (v : List ℕ). outcome r v rs') (clear ∙ cleared-searched a a.goal ws n e ws'' rest kept.kept)
      ∙ off.is-answer ws ∙ sym (ap (λ (s : Searched). after_room s (automaton_of t) ws rs) e)

-- A call with the outcome of the definitions keeps demand 3.
pub outcome-keeps :
    (bytes ws ws' rs rs' : List ℕ) (r : Answer) → outcome r ws' rs' ≡ planned bytes ws rs → KeepsDemand bytes (length ws) rs' r
outcome-keeps bytes ws ws' rs rs' r e =
    subst (λ (o : Outcome). KeepsDemand bytes (length ws) o.route o.answer) (sym e) (planned-keeps bytes ws rs)

-- From the judgement of the bytes: a refusal of the reader, and a table that was read.
module _ (bytes ws rs : List ℕ) where
  pub planned-refused : (n : ℕ) → read bytes ≡ rejected n → outcome (Refused n) ws rs ≡ planned bytes ws rs
  unfolding planned
  planned-refused n e = sym (ap (λ (j : Judgement). judged j ws rs) e)

  pub planned-accepted : (t : List ℕ) → read bytes ≡ accepted (fields_of t) → planned_table (automaton_of t) ws rs ≡ planned bytes ws rs
  unfolding planned
  planned-accepted t e = sym (ap (λ (j : Judgement). judged j ws rs) e)
