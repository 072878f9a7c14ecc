-- Reading and writing again: document 02, N3, "A table read and written a second time yields the bytes of the first writing."
-- Assumes nothing.
use Rattle.std.specs.Prelude.{ℕ, ◌≡◌, Bool, true, false, cond, List}
use Rattle.std.proofs.Common.{sym, ap, ◌∙◌}
use Rattle.semantics.specs.Automaton.{start_holds}
use Rattle.semantics.specs.Distinct.{distinct}
use Rattle.table.specs.Fields.{Fields}
use Rattle.table.specs.Meaning.{automaton}
use Rattle.reader.specs.Read.{accepted, rejected, read}
use Rattle.reader.specs.Theorems.Accepts.{accepts}
use Rattle.form.specs.Form.{said}
use Rattle.form.specs.Formed.{formed}
use Rattle.form.specs.Theorems.Said.{Sayable, said-formed, layout-sayable}
use Rattle.parts.specs.Part.{Part}
use Rattle.parts.specs.Format.{table}
use Rattle.parts.specs.Compact.{compacted}
use Rattle.writer.specs.Written.{table_said}
use Rattle.writer.specs.Theorems.Reads.{compacted-six, written-layout, written_read}
use Rattle.writer.specs.Theorems.InRange.{layout-no-fault}
use Rattle.writer.specs.Theorems.Compacting.{compacted-again, compact-start, compact-sayable}

-- The form of given fields is written as their table.
formed-written : (f : Fields) → Sayable f → table_said (formed f) ≡ table (compacted f)
unfolding table_said
formed-written f k = ap (λ (g : Fields). table (compacted g)) (said-formed f k)

-- What comes of an accepted table that is read, written, read and written.
pub record Rewritten (f : Fields) : Type 0 where
  pub no-fault : (table_said (formed f)).fault ≡ 0
  pub read_again : read (table_said (formed f)).bytes ≡ accepted (compacted f)
  pub same : table_said (formed (compacted f)) ≡ table_said (formed f)

-- For any accepted table.
pub accepted-rewritten : (bytes : List ℕ) (f : Fields) → read bytes ≡ accepted f → Rewritten f
accepted-rewritten bytes f e =
    let k = (accepts bytes f).0 e in
    let s = layout-sayable bytes f k.0 in
    let first = formed-written f s in
    let none = layout-no-fault bytes f k.0 in
    let holds = compact-start f s.shaped.six-invariants ∙ k.1 in
    record {
      no-fault = ap (λ (p : Part). p.fault) first ∙ none;
      read_again =
          ap (λ (p : Part). read p.bytes) first ∙ written_read (compacted f) (compacted-six f) none
          ∙ ap (λ (t : Bool). cond t (accepted (compacted f)) (rejected 7)) holds;
      same = formed-written (compacted f) (compact-sayable f s) ∙ ap table (compacted-again f) ∙ sym first;
    }

-- Which fields were accepted.
accepted-same : (t : Bool) (f g : Fields) → cond t (accepted f) (rejected 7) ≡ accepted g → f ≡ g
accepted-same true f g e = cc
accepted-same false f g e = distinct cc

-- For the fields of any writing.
pub written-rewritten : (form : List ℕ) (g : Fields) → (table_said form).fault ≡ 0 → read (table_said form).bytes ≡ accepted g → table_said
    (formed g) ≡ table_said form
unfolding table_said
written-rewritten form g none e =
    let f = compacted (said form) in
    let six = compacted-six (said form) in
    let same = accepted-same (start_holds (automaton f)) f g (sym (written_read f six none) ∙ e) in
    let s = layout-sayable (table f).bytes f (written-layout f six none) in
    ap (λ (h : Fields). table_said (formed h)) (sym same) ∙ formed-written f s ∙ ap table (compacted-again (said form))
