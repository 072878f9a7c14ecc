-- What planning answers and leaves in the memory lent, for every list of bytes, every number of words and every number of route bytes.
-- Assumes nothing.
use Rattle.std.specs.Prelude.{cond, List, ◌++◌, ℕ, leb, length, drop}
use Rattle.semantics.specs.Automaton.{Automaton}
use Rattle.semantics.specs.Answer.{Answer as Best, no_route, route, answer}
use Rattle.table.specs.Meaning.{automaton}
use Rattle.reader.specs.Read.{Judgement, accepted, rejected, read}
use Rattle.search.specs.Outcome.{Searched}
use Rattle.search.specs.Outcome.{Nodes as Searched-as-Nodes, Refused as Searched-as-Refused}
use Rattle.search.specs.Outcome.{answered, cleared}
use Rattle.route.specs.Answers.{Answer}
use Rattle.route.specs.Answers.{Refused, NoRoute, Route}

-- The answer, the words and the route bytes after a call.
pub record Outcome : Type 0 where
  pub answer : Answer
  pub words : List ℕ
  pub route : List ℕ

abbrev pub outcome : Answer → List ℕ → List ℕ → Outcome
outcome a ws rs = record { answer = a; words = ws; route = rs }

-- "After 10, no route, or a route, the first 2E words are 0 and the rest are untouched. A route returns the charge and its number of steps and
-- fills that many route bytes from the front; every other route byte is untouched, as all are in the other answers."
abbrev pub routed : Automaton → Best → List ℕ → List ℕ → Outcome
routed a no_route ws rs = outcome NoRoute (cleared a ws) rs
routed a (route C ks) ws rs =
    cond (leb (length ks) (length rs)) (outcome (Route C (length ks)) (cleared a ws) (ks ++ drop (length ks) rs))
    (outcome (Refused 10) (cleared a ws) rs)

-- "A refusal returns its number only. Refusals 1 to 9 [..] change no lent memory." 8 and 9 are judged before the search.
abbrev pub after_room : Searched → Automaton → List ℕ → List ℕ → Outcome
after_room (Searched-as-Refused n) a ws rs = outcome (Refused n) ws rs
after_room (Searched-as-Nodes n) a ws rs = routed a (answer a a.goal) ws rs

unfoldable pub planned_table : Automaton → List ℕ → List ℕ → Outcome
planned_table a ws rs = after_room (answered a (length ws)) a ws rs

-- 1 to 7 are judged by the reader.
abbrev pub judged : Judgement → List ℕ → List ℕ → Outcome
judged (rejected n) ws rs = outcome (Refused n) ws rs
judged (accepted f) ws rs = planned_table (automaton f) ws rs

-- "For any bytes given as a table, whatever its windows, and whatever memory is lent, planning gives the answer that demand 2 and 01 define".
unfoldable pub planned : List ℕ → List ℕ → List ℕ → Outcome
planned bytes ws rs = judged (read bytes) ws rs
