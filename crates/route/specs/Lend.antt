-- Document 02, "How much to lend": what planning needs of memory, from the bytes alone; and what that promises of planning.
-- Assumes nothing.
use Rattle.std.specs.Prelude.{◌≡◌, ◌↔◌, cond, Result, Ok, Err, List, ℕ, ◌*◌, ◌-◌, ◌≤◌, ◌<◌, leb, length}
use Rattle.semantics.specs.Automaton.{Automaton}
use Rattle.semantics.specs.NodeCount.{node_count}
use Rattle.table.specs.declared.refusals.Refusal.{Refusal}
use Rattle.table.specs.Refusals.{number}
use Rattle.table.specs.Meaning.{automaton}
use Rattle.reader.specs.Read.{Judgement, accepted, rejected, read}
use Rattle.search.specs.Outcome.{most_nodes}
use Rattle.route.specs.Answers.{Refused as Answer-as-Refused}
use Rattle.route.specs.declared.Memory.{Memory as MemoryHeld}
use Rattle.route.specs.Plan.{planned}

-- A refusal with its number; or the words and the route bytes that are enough for planning.
pub data Needs : Type 0 where
  Refused : ℕ → Needs
  Memory : ℕ → ℕ → Needs

-- What the code answers.
abbrev pub told_needs : Result MemoryHeld Refusal → Needs
told_needs (Ok memory) = Memory memory.words memory.route
told_needs (Err refusal) = Refused (number refusal)

-- "the words needed, 2E, and E - 1 as route bytes"; 8 is "E above 65,536".
unfoldable pub needed_table : Automaton → Needs
needed_table a = cond (leb (node_count a) most_nodes) (Memory (2 * node_count a) (node_count a - 1)) (Refused 8)

-- "Tables refused by 1 to 8 get the same number here." 1 to 7 are judged by the reader.
abbrev pub needed_judged : Judgement → Needs
needed_judged (rejected n) = Refused n
needed_judged (accepted f) = needed_table (automaton f)

-- "From the bytes alone".
unfoldable pub needed : List ℕ → Needs
needed bytes = needed_judged (read bytes)

-- What the answer r to the bytes says of planning the same bytes, whatever words and route bytes are lent to that.
pub record Enough (bytes : List ℕ) (r : Needs) : Type 0 where
  -- "Tables refused by 1 to 8 get the same number here", and no others are refused.
  pub same : (ws rs : List ℕ) (n : ℕ) → (r ≡ Refused n) ↔ (((planned bytes ws rs).answer ≡ Answer-as-Refused n) × (n ≤ 8))
  -- "which is shown never to be too few for planning": whoever lends at least so many words and route bytes gets no refusal.
  pub enough :
      (words room : ℕ) → r ≡ Memory words room → (ws rs : List ℕ) → words ≤ length ws → room ≤ length rs → (n : ℕ)
      → (planned bytes ws rs).answer ≡ Answer-as-Refused n → ⊥
  -- "the words needed": whoever lends fewer gets 9.
  pub needed-words :
      (words room : ℕ) → r ≡ Memory words room → (ws rs : List ℕ) → length ws < words → (planned bytes ws rs).answer ≡ Answer-as-Refused 9
