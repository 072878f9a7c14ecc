-- The table that was made apart, and what comes of it in the destination.
-- Assumes nothing.
use Prim.Native.Nat.{ℕ, ◌≤◌, ◌<◌}
use mathlib.Core.Path.{◌≡◌, sym, ap, ◌∙◌}
use mathlib.Core.List.{List, ◌++◌}
use Rattle.std.specs.Prelude.{Ok, Err}
use borrow.Author.Tests.{eq-eqb, ne_eqb, le-leb, lt-leb}
use lib.ListN.{length, take, drop}
use lib.Seq.{length-take-le, take_at}
use Rattle.table.specs.declared.refusals.Refusal.{Refusal}
use Rattle.table.specs.Refusals.{number}
use Rattle.form.specs.Form.{said}
use Rattle.parts.specs.declared.pens.Pen.{Pen}
use Rattle.parts.specs.Format.{table}
use Rattle.parts.specs.Compact.{compacted}
use Rattle.writer.specs.Written.{Bytes, Refused, outcome, table_said, written, Lays}
use Rattle.writer.specs.Theorems.Reads.{compacted-six, written-layout}
use Rattle.parts.specs.Puts.{Puts}
use Rattle.parts.specs.Theorems.Putting.{some-number}

module _ (form d : List ℕ) {start pen : Pen} (first : start.at ≡ 0) where
  pub write-refused : {e : Refusal} → Puts 919 (table (compacted (said form))) start (Err e) pen → outcome (Refused (number e)) d ≡ written form d
  unfolding written table_said
  write-refused {e = e} v = rw (← v.fault, ne_eqb (number e) 0 (some-number e))

  module _ (v : Puts 919 (table (compacted (said form))) start (Ok tt) pen) where
    made : take pen.at pen.bytes ≡ (table (compacted (said form))).bytes
    made = rw first at v.put

    many : pen.at ≡ length (table (compacted (said form))).bytes
    many = sym (length-take-le pen.at pen.bytes pen.within) ∙ ap length made

    pub write-short : length d < pen.at → outcome (Refused 11) d ≡ written form d
    unfolding written table_said
    write-short h = rw (eq-eqb (table (compacted (said form))).fault 0 (sym v.fault), ← many, lt-leb pen.at (length d) h)

    pub write-fits : {d' : List ℕ} → pen.at ≤ length d → d' ≡ take pen.at pen.bytes ++ drop pen.at d → outcome (Bytes pen.at) d' ≡ written form d
    unfolding written table_said
    write-fits h e = rw (eq-eqb (table (compacted (said form))).fault 0 (sym v.fault), ← many, le-leb pen.at (length d) h, ← made, e)

    pub write-lays : {d' : List ℕ} → d' ≡ take pen.at pen.bytes ++ drop pen.at d → Lays form (Bytes pen.at) d'
    write-lays e =
        let front = length-take-le pen.at pen.bytes pen.within in
        let f = compacted (said form) in
        rw (e, take_at (take pen.at pen.bytes) (drop pen.at d) pen.at front, made) (written-layout f (compacted-six (said form)) (sym v.fault))
