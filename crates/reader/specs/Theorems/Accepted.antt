-- The bytes of an accepted table are a table, and hold the fields that were read.
-- Assumes nothing.
use Rattle.std.specs.Prelude.{ℕ, ◌<◌, ◌≡◌, refl, List, length, get_or}
use Rattle.std.proofs.Common.{sym, ap, subst, ◌∙◌}
use Rattle.semantics.specs.Distinct.{distinct}
use Rattle.table.specs.Fields.{Fields}
use Rattle.table.specs.Held.{held, fields_of, InRange, IsTable}
use Rattle.table.specs.Theorems.Holding.{Shaped, held-table, fields-held}
use Rattle.reader.specs.Layout.{Layout}
use Rattle.reader.specs.Read.{Judgement, accepted, rejected, read}
use Rattle.reader.specs.Reading.{Verdict, Accepted, Refused, verdict_of, Reading}
use Rattle.reader.specs.Theorems.Accepts.{accepts}
use Rattle.reader.specs.Theorems.Limits.{accepted-bounded}
use Rattle.reader.specs.Theorems.Rows.{row-all}
use Rattle.reader.specs.Theorems.Proper.{layout-proper}

pub layout-shaped : (bytes : List ℕ) (f : Fields) → Layout bytes f → Shaped f
layout-shaped bytes f k = record {
  few-modes = k.modes-range.1;
  few-timers = k.timers-range.1;
  few-moves = k.moves-range;
  six-invariants = row-all (λ m. length m.conditions ≡ 6) (λ i xs m r. r.conditions.six) 0 k.mode-bytes f.modes k.modes;
  six-guards = row-all (λ e. length e.conditions ≡ 6) (λ i xs e r. r.conditions.six) 0 k.move-bytes f.moves k.moves;
}

-- The fields of an accepted table are in their ranges.
pub accepted-range : (bytes : List ℕ) (f : Fields) → ((i : ℕ) → get_or bytes i 0 < 256) → read bytes ≡ accepted f → InRange f
accepted-range bytes f h e =
    let a = (accepts bytes f).0 e in
    let k = a.0 in
    let s = layout-shaped bytes f k in
    let b = accepted-bounded bytes f h e in
    record {
      modes-range = k.modes-range;
      timers-range = k.timers-range;
      moves-range = k.moves-range;
      ceilings-range = k.ceilings-range;
      rates-range = b.rates;
      prices-range = b.prices;
      six-invariants = s.six-invariants;
      six-guards = s.six-guards;
      proper = layout-proper bytes f k a.1;
    }

-- What is left in the table after an acceptance: the fields that were accepted, and these bytes are a table.
pub record Accepts (bytes t : List ℕ) : Type 0 where
  pub fields : Fields
  pub accepts : read bytes ≡ accepted fields
  pub holds : t ≡ held fields
  pub range : InRange fields

module _ (bytes t : List ℕ) (v : Verdict) (small : (i : ℕ) → get_or bytes i 0 < 256) (is : Reading (read bytes) v t) (met : v ≡ Accepted) where
  pub accepted-fields : Accepts bytes t
  accepted-fields = go (read bytes) refl is
    where
      go : (j : Judgement) → read bytes ≡ j → Reading j v t → Accepts bytes t
      go (accepted f) e r = record { fields = f; accepts = e; holds = r.table_is; range = accepted-range bytes f small e }
      go (rejected n) e r = let no = sym met ∙ r.verdict-is in distinct cc

  -- The judgement of the bytes, in terms of the table.
  pub accepted-read : read bytes ≡ accepted (fields_of t)
  accepted-read =
      let a = accepted-fields in
      a.accepts ∙ ap accepted (sym (ap fields_of a.holds ∙ fields-held a.fields a.range))

  pub accepted-table : IsTable t
  accepted-table = let a = accepted-fields in subst IsTable (sym a.holds) (held-table a.fields a.range)

-- And after a refusal.
pub rejected-read : (bytes t : List ℕ) (v : Verdict) → Reading (read bytes) v t → (n : ℕ) → v ≡ Refused n → read bytes ≡ rejected n
rejected-read bytes t v is n met = go (read bytes) is.verdict-is
  where
    go : (j : Judgement) → v ≡ verdict_of j → j ≡ rejected n
    go (accepted f) e = distinct cc
    go (rejected m) e = let q : m ≡ n = cc in ap rejected q
