-- `reader::records::priced` meets its contract. Assumes nothing.
use mathlib.Core.Path.{refl, ◌∙◌}
use lib.ListN.{drop}
use native.Mathlib.Omega.{arith}
use Rattle.reader.specs.Format.{amount_byte, conditions}
use Rattle.reader.proofs.Giving.{part-refused, part-taken, known, passed-up, part-last, low_same}
use Rattle.reader.proofs.Writing.{wrote-two, wrote_then}
use Rattle.reader.proofs.records.priced.Goals as goal

pub returns-in_err-low : goal.returns-in_err-low
returns-in_err-low c =
    let a = c.args in
    let s = drop a.from a.bytes.now in
    passed-up c.from_residual.result _ _ _ c.from_residual.ensures.1
    (part-refused (amount_byte a.map 0) _ s (low_same a.map s ∙ c.in_err-low.ensures))

pub returns : goal.returns
returns c =
    let a = c.args in
    let low = c.in_ok-low in
    let s = drop a.from a.bytes.now in
    part-last a.bytes.now _ _ (conditions a.map) _ (drop low.low.next a.bytes.now) c.conditions.result
    (part-taken (amount_byte a.map 0) _ s (low_same a.map s ∙ known low.ensures)) c.conditions.ensures
    (λ next cs q w. record { wrote = wrote_then (wrote-two a.table.now a.at refl refl) w; low = omega arith })
