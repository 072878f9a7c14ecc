-- Document 01, "Refusals in their order": when each number is said. `refused-first` (Refused) proves that planning says exactly these.
-- Assumes nothing.
use Rattle.std.specs.Prelude.{◌≡◌, false, List, ◌++◌, ℕ, ◌*◌, ◌<◌, length}
use Rattle.semantics.specs.Automaton.{start_holds}
use Rattle.semantics.specs.NodeCount.{node_count}
use Rattle.semantics.specs.Order.{cost, Best}
use Rattle.semantics.specs.Answer.{Comes}
use Rattle.reader.specs.Parser.{refused, run}
use Rattle.table.specs.Fields.{Fields}
use Rattle.reader.specs.Format.{table}
use Rattle.reader.specs.Layout.{Layout}
use Rattle.table.specs.Meaning.{automaton}

-- The bytes begin with the layout of a table that has the fields f; `left` is what comes behind it.
pub record Begins (bytes : List ℕ) (f : Fields) (left : List ℕ) : Type 0 where
  pub front : List ℕ
  pub split : bytes ≡ front ++ left
  pub laid : Layout front f

-- The lines of such a table, where so many words and so many route bytes are lent.
pub data Later (f : Fields) (left : List ℕ) (words room : ℕ) : ℕ → Type 0 where
  -- 6: "bytes left over".
  left_over : 0 < length left → Later f left words room 6
  -- 7: "mode 0's conditions fail at zero".
  start-fails : start_holds (automaton f) ≡ false → Later f left words room 7
  -- 8: "E above 65,536".
  large : 65536 < node_count (automaton f) → Later f left words room 8
  -- 9: "fewer than 2E words lent".
  few_words : words < 2 * node_count (automaton f) → Later f left words room 9
  -- 10: "the route has more steps than route bytes lent". The route is the best of all chains into the goal.
  long-route :
      (C : ℕ) (ks : List ℕ) → Best (Comes (automaton f) f.goal) (cost C (length ks)) ks → room < length ks
      → Later f left words room 10

-- The lines of any bytes.
pub data Line (bytes : List ℕ) (words room : ℕ) : ℕ → Type 0 where
  -- "Bytes are judged from the left, each before the next is sought": 1 to 5 are said of a byte, so the parser is their definition. It has 1,
  -- "a byte is needed and none is left", in reader/specs/Parser, and in Format beside the test of each field 2, "a count, goal or ceiling
  -- outside its range"; 3, "a map or reset bit for an absent timer, or bit 7 in a mode, or reset bits 3 to 7", of which it "no longer covers"
  -- either bit 7; 4, "condition code not 1 to 5"; and 5, "from or to not below m".
  at_byte : {n : ℕ} → run table bytes ≡ refused n → Line bytes words room n
  behind : {n : ℕ} (f : Fields) (left : List ℕ) → Begins bytes f left → Later f left words room n → Line bytes words room n

-- "the first fault decides among 1 to 5. Then 6 to 9 in order. Then the search": n is the first number whose line holds.
pub record FirstLine (bytes : List ℕ) (words room n : ℕ) : Type 0 where
  pub line : Line bytes words room n
  pub none_before : (k : ℕ) → Line bytes words room k → k < n → ⊥
