-- The reading function: every list of bytes is accepted with its fields, or rejected by a number from 1 to 7.
-- Assumes nothing.
use Rattle.std.specs.Prelude.{ℕ, cond, List, [], ◌∷◌}
use Rattle.semantics.specs.Automaton.{start_holds}
use Rattle.reader.specs.Parser.{Outcome, refused, took, run}
use Rattle.table.specs.Fields.{Fields}
use Rattle.reader.specs.Format.{table}
use Rattle.table.specs.Meaning.{automaton}

pub data Judgement : Type 0 where
  accepted : Fields → Judgement
  rejected : ℕ → Judgement

-- "the first fault decides among 1 to 5. Then 6 to 9 in order": 6 is "bytes left over", 7 "mode 0's conditions fail at zero".
abbrev pub judge : Outcome Fields → Judgement
judge (refused n) = rejected n
judge (took f (b ∷ bytes)) = rejected 6
judge (took f []) = cond (start_holds (automaton f)) (accepted f) (rejected 7)

unfoldable pub read : List ℕ → Judgement
read bytes = judge (run table bytes)
