-- What is written for fields is read as these fields, and a refusal to write is the one that reading such bytes gives.
-- Assumes nothing.
use Rattle.std.specs.Prelude.{ℕ, ◌≤◌, ◌≡◌, refl, ◌⊎◌, cond, length}
use Rattle.std.proofs.Common.{sym, ◌∙◌}
use Rattle.std.proofs.Math.Path.{ap}
use mathlib.Core.List.{List, [], append-nil}
use Rattle.semantics.specs.Automaton.{start_holds}
use Rattle.table.specs.Fields.{Fields}
use Rattle.table.specs.Meaning.{automaton}
use Rattle.table.specs.Theorems.Access.{map-all}
use Rattle.reader.specs.Parser.{took, run}
use Rattle.reader.specs.Format as reader
use Rattle.reader.specs.Format.{longest}
use Rattle.reader.specs.Layout.{Layout}
use Rattle.reader.specs.Read.{accepted, rejected, judge, read}
use Rattle.reader.specs.Theorems.Accepts.{table-exactly}
use Rattle.reader.specs.Theorems.Limits.{layout-short}
use Rattle.parts.specs.Format.{table}
use Rattle.parts.specs.Compact.{compact_mode, compact_move, compacted}
use Rattle.writer.specs.Theorems.Faults.{table-numbered}
use Rattle.writer.specs.Theorems.Tables.{SixEach, ResetsFit, table-mirrors}

-- The fields that are written have six places for conditions each.
pub compacted-six : (f : Fields) → SixEach (compacted f)
compacted-six f = record {
  six-invariants = map-all compact_mode (λ m. length m.conditions ≡ 6) f.modes (λ m k. refl);
  six-guards = map-all compact_move (λ e. length e.conditions ≡ 6) f.moves (λ e k. refl);
}

module _ (f : Fields) (six : SixEach f) where
  taken : (table f).fault ≡ 0 → run reader.table (table f).bytes ≡ took f []
  taken h = ap (run reader.table) (sym (append-nil (table f).bytes)) ∙ (table-mirrors f six).good h []

  -- What is written is a layout of the fields.
  pub written-layout : (table f).fault ≡ 0 → Layout (table f).bytes f
  written-layout h = table-exactly.lays (table f).bytes f (taken h)

  -- It is read as these fields, or refused by 7 alone: "mode 0's conditions fail at zero".
  pub written_read : (table f).fault ≡ 0 → read (table f).bytes ≡ cond (start_holds (automaton f)) (accepted f) (rejected 7)
  unfolding read
  written_read h = ap judge (taken h)

  -- A refusal to write is the one that reading these bytes gives.
  pub written-refused : ResetsFit f → ((table f).fault ≡ 0 → ⊥) → read (table f).bytes ≡ rejected (table f).fault
  unfolding read
  written-refused fit h = ap (λ (l : List ℕ). judge (run reader.table l)) (sym (append-nil (table f).bytes)) ∙ ap judge ((table-mirrors f six).bad fit h [])

  -- "the longest table has 919 bytes".
  pub written-short : (table f).fault ≡ 0 → length (table f).bytes ≤ longest
  written-short h = layout-short (table f).bytes f (written-layout h)

-- A refusal is by 2, 3, 4 or 5.
pub fault-range : (f : Fields) → ((table f).fault ≡ 0) ⊎ ((2 ≤ (table f).fault) × ((table f).fault ≤ 5))
fault-range f = table-numbered f
