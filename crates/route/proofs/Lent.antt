-- The memory that the definitions give is enough for planning, and its words are needed.
-- Assumes nothing.
use Rattle.std.specs.Prelude.{◌≡◌, ◌↔◌, Bool, List, ◌++◌, ℕ, ◌*◌, ◌-◌, ◌≤◌, ◌<◌, length, drop}
use Rattle.std.proofs.Math.Path.{refl, ap}
use Rattle.std.proofs.Math.Bool.{true, false, cond}
use Rattle.std.proofs.Common.{arith}
use borrow.Author.Tests.{leb-false, lt-leb, le-leb}
use Rattle.std.proofs.Math.Dec.{leb}
use Rattle.semantics.specs.Distinct.{distinct}
use Rattle.semantics.specs.Automata.Proper.{Proper}
use Rattle.semantics.specs.Automaton.{Automaton}
use Rattle.semantics.specs.NodeCount.{node_count}
use Rattle.semantics.specs.Answer.{Answer as Best, no_route, route, answer}
use Rattle.semantics.proofs.Answers.Best.{answer-steps}
use Rattle.table.specs.Meaning.{automaton}
use Rattle.reader.specs.Read.{Judgement, accepted, rejected, read}
use Rattle.reader.specs.Theorems.Proper.{accepted-proper}
use Rattle.reader.specs.Theorems.Refusals.{rejected-range}
use Rattle.search.specs.Outcome.{most_nodes, cleared}
use Rattle.search.specs.Outcome.{Nodes as Searched-as-Nodes, Refused as Searched-as-Refused}
use Rattle.route.specs.Answers.{Refused as Answer-as-Refused, Route}
use Rattle.route.specs.Lend.{Refused, Memory}
use Rattle.route.specs.Plan.{outcome, routed, after_room, planned_table, planned}
use Rattle.route.specs.Lend.{needed_table, needed_judged, needed, Enough}

-- After a search only a route that is longer than the memory for it is refused, by 10.
record Longer (x : Best) (rs : List ℕ) (n : ℕ) : Type 0 where
  ten : n ≡ 10
  charge : ℕ
  steps : List ℕ
  is-route : x ≡ route charge steps
  long : length rs < length steps

routed-refused : (a : Automaton) (x : Best) (ws rs : List ℕ) (n : ℕ) → (routed a x ws rs).answer ≡ Answer-as-Refused n → Longer x rs n
routed-refused a no_route ws rs n = λ e. distinct cc
routed-refused a (route C ks) ws rs n = go (leb (length ks) (length rs)) refl
  where
    go :
        (b : Bool) → leb (length ks) (length rs) ≡ b
        → (cond b (outcome (Route C (length ks)) (cleared a ws) (ks ++ drop (length ks) rs)) (outcome (Answer-as-Refused 10) (cleared a ws) rs)).answer
        ≡ Answer-as-Refused n
        → Longer (route C ks) rs n
    go true q e = distinct cc
    go false q e =
        let ten : n ≡ 10 = cc in
        record { ten = ten; charge = C; steps = ks; is-route = refl; long = leb-false (length ks) (length rs) q }

module _ (a : Automaton) (ok : Proper a) (ws rs : List ℕ) where
  -- 8 is said by both, and 9 and 10 by planning alone.
  table_same : (n : ℕ) → (needed_table a ≡ Refused n) ↔ (((planned_table a ws rs).answer ≡ Answer-as-Refused n) × (n ≤ 8))
  unfolding needed_table planned_table
  table_same n = go (leb (node_count a) most_nodes) (leb (2 * node_count a) (length ws))
    where
      go :
          (b d : Bool)
          → (cond b (Memory (2 * node_count a) (node_count a - 1)) (Refused 8) ≡ Refused n)
          ↔ (((after_room (cond b (cond d (Searched-as-Nodes (node_count a)) (Searched-as-Refused 9)) (Searched-as-Refused 8)) a ws rs).answer
          ≡ Answer-as-Refused n)
          × (n ≤ 8))
      go true true = (
        λ e. distinct cc,
        λ h. let k = routed-refused a (answer a a.goal) ws rs n h.0 in absurd (omega (arith, h.1, k.ten)),
      )
      go true false = (λ e. distinct cc, λ h. let nine : 9 ≡ n = cc h.0 in absurd (omega (arith, h.1)))
      go false d = (
        λ e. let eight : 8 ≡ n = cc in (ap Answer-as-Refused eight, omega arith),
        λ h. let eight : 8 ≡ n = cc h.0 in ap Refused eight,
      )

  -- The words and the route bytes, if the nodes are few enough.
  record Memories (words room : ℕ) : Type 0 where
    few : leb (node_count a) most_nodes ≡ true
    words_are : words ≡ 2 * node_count a
    room-is : room ≡ node_count a - 1

  table-memory : (words room : ℕ) → needed_table a ≡ Memory words room → Memories words room
  unfolding needed_table
  table-memory words room = go (leb (node_count a) most_nodes) refl
    where
      go :
          (b : Bool) → leb (node_count a) most_nodes ≡ b → cond b (Memory (2 * node_count a) (node_count a - 1)) (Refused 8) ≡ Memory words room
          → Memories words room
      go true q e =
          let w : words ≡ 2 * node_count a = cc in
          let r : room ≡ node_count a - 1 = cc in
          record { few = q; words_are = w; room-is = r }
      go false q e = distinct cc

  -- A route has at most E - 1 steps.
  table-enough :
      (words room : ℕ) → needed_table a ≡ Memory words room → words ≤ length ws → room ≤ length rs → (n : ℕ)
      → (planned_table a ws rs).answer ≡ Answer-as-Refused n → ⊥
  unfolding planned_table
  table-enough words room e w r n =
      let m = table-memory words room e in
      rw (m.few, le-leb (2 * node_count a) (length ws) (omega (arith, m.words_are)))
      (λ (h : (routed a (answer a a.goal) ws rs).answer ≡ Answer-as-Refused n).
      let k = routed-refused a (answer a a.goal) ws rs n h in
      omega (arith, k.long, m.room-is, answer-steps a ok a.goal k.charge k.steps k.is-route))

  table-words :
      (words room : ℕ) → needed_table a ≡ Memory words room → length ws < words → (planned_table a ws rs).answer ≡ Answer-as-Refused 9
  unfolding planned_table
  table-words words room e w =
      let m = table-memory words room e in
      rw (m.few, lt-leb (2 * node_count a) (length ws) (omega (arith, m.words_are)))

-- What is promised of planning holds of the memory of the definitions.
pub needed-enough : (bytes : List ℕ) → Enough bytes (needed bytes)
unfolding needed planned
needed-enough bytes = go (read bytes) refl
  where
    go : (j : Judgement) → read bytes ≡ j → Enough bytes (needed_judged j)
    go (rejected m) q = record {
      same = λ ws rs n. rw q (
        λ e. let is : m ≡ n = cc in (ap Answer-as-Refused is, omega (arith, rejected-range bytes m q)),
        λ h. let is : m ≡ n = cc h.0 in ap Refused is,
      );
      enough = λ words room e. distinct cc;
      needed-words = λ words room e. distinct cc;
    }
    go (accepted f) q =
        let ok = accepted-proper bytes f q in
        record {
          same = λ ws rs n. rw q (table_same (automaton f) ok ws rs n);
          enough = λ words room e ws rs w r n. rw q (table-enough (automaton f) ok ws rs words room e w r n);
          needed-words = λ words room e ws rs w. rw q (table-words (automaton f) ok ws rs words room e w);
        }
