-- `reader::records::mode_record` meets its contract. Assumes nothing.
use mathlib.Core.Path.{◌∙◌}
use lib.ListN.{drop}
use Rattle.reader.specs.Format.{bit_map, amount_byte, conditions, mode_record}
use Rattle.reader.proofs.Giving.{part-refused, part-taken, two-refused, two-taken, known, passed-up, part-last}
use Rattle.reader.proofs.Writing.{wrote-mode}
use Rattle.reader.proofs.records.mode_record.Goals as goal

pub returns-in_err-map : goal.returns-in_err-map
unfolding mode_record
returns-in_err-map c =
    let a = c.args in
    passed-up c.from_residual.result _ _ _ c.from_residual.ensures.1
    (part-refused (bit_map a.timers) _ (drop a.from a.bytes.now) c.in_err-map.ensures)

pub returns-in_err-last : goal.returns-in_err-last
unfolding mode_record
returns-in_err-last c =
    let a = c.args in
    let map = c.in_ok-map in
    let b = map.map.value in
    let up = c.from_residual-in_err-last in
    passed-up up.result _ _ _ up.ensures.1
    (part-taken (bit_map a.timers) _ (drop a.from a.bytes.now) (known map.ensures)
    ∙ two-refused (amount_byte b 0) (λ low. conditions b) _ (drop map.map.next a.bytes.now) c.in_err-last.ensures)

pub returns : goal.returns
unfolding mode_record
returns c =
    let a = c.args in
    let map = c.in_ok-map in
    let b = map.map.value in
    let last = c.in_ok-last in
    part-last a.bytes.now _ _ (amount_byte b 7) _ (drop last.last a.bytes.now) c.high_byte.result
    (part-taken (bit_map a.timers) _ (drop a.from a.bytes.now) (known map.ensures)
    ∙ two-taken (amount_byte b 0) (λ low. conditions b) _ (drop map.map.next a.bytes.now) last.ensures.taken)
    c.high_byte.ensures (λ next high q e. wrote-mode high last.ensures.holds e)
