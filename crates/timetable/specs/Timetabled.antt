-- What the call answers and leaves in the memory lent, for every list of bytes, every number of words and every number of route bytes.
-- Assumes nothing.
use Rattle.std.specs.Prelude.{cond, List, ◌++◌, ℕ, ◌/◌, leb, length, drop}
use Rattle.semantics.specs.Automaton.{Automaton}
use Rattle.semantics.specs.Answer.{Answer as Best, no_route, route}
use Rattle.semantics.specs.Closed.{closed_table}
use Rattle.semantics.specs.Timetable.{timetable}
use Rattle.table.specs.Meaning.{automaton}
use Rattle.reader.specs.Read.{Judgement, accepted, rejected, read}
use Rattle.search.specs.Outcome.{Searched}
use Rattle.search.specs.Outcome.{Nodes as Searched-as-Nodes, Refused as Searched-as-Refused}
use Rattle.search.specs.Outcome.{answered, cleared}
use Rattle.timetable.specs.Answers.{Answer}
use Rattle.timetable.specs.Answers.{Refused, NoRoute, Timetable}

-- The answer, the words and the route bytes after a call.
pub record Outcome : Type 0 where
  pub answer : Answer
  pub words : List ℕ
  pub route : List ℕ

abbrev pub outcome : Answer → List ℕ → List ℕ → Outcome
outcome a ws rs = record { answer = a; words = ws; route = rs }

-- "The number returned beside the charge counts pairs. Refusal 10 compares the bytes of all pairs with the route memory. Work and route memory otherwise
-- follow document 01": "After 10, no route, or a route, the first 2E words are 0 and the rest are untouched."
abbrev pub told : Automaton → Best → List ℕ → List ℕ → Outcome
told a no_route ws rs = outcome NoRoute (cleared a ws) rs
told a (route C ks) ws rs =
    cond (leb (length ks) (length rs)) (outcome (Timetable C (length ks / 2)) (cleared a ws) (ks ++ drop (length ks) rs))
    (outcome (Refused 10) (cleared a ws) rs)

-- 8 and 9 are judged before the search, as in planning.
abbrev pub after_room : Searched → Automaton → List ℕ → List ℕ → Outcome
after_room (Searched-as-Refused n) a ws rs = outcome (Refused n) ws rs
after_room (Searched-as-Nodes n) a ws rs = told a (timetable a a.goal) ws rs

-- "12 for a table with < or >, directly after 7".
unfoldable pub timetabled_table : Automaton → List ℕ → List ℕ → Outcome
timetabled_table a ws rs = cond (closed_table a) (after_room (answered a (length ws)) a ws rs) (outcome (Refused 12) ws rs)

-- 1 to 7 are judged by the reader.
abbrev pub judged : Judgement → List ℕ → List ℕ → Outcome
judged (rejected n) ws rs = outcome (Refused n) ws rs
judged (accepted f) ws rs = timetabled_table (automaton f) ws rs

unfoldable pub timetabled : List ℕ → List ℕ → List ℕ → Outcome
timetabled bytes ws rs = judged (read bytes) ws rs
