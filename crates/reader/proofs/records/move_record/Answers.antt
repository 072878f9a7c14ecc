-- `reader::records::move_record` meets its contract. Assumes nothing.
use Prim.Native.Nat.{◌-◌}
use mathlib.Core.Path.{◌∙◌}
use lib.ListN.{drop}
use Rattle.reader.specs.Format.{within, bit_map, amount_byte, conditions, move_record}
use Rattle.reader.specs.Step.{resets}
use Rattle.reader.proofs.Giving.{part-refused, part-taken, two-refused, two-taken, known, known-by, passed-up, part-last}
use Rattle.reader.proofs.Writing.{wrote-move}
use Rattle.reader.proofs.records.move_record.Goals as goal

pub returns-in_err-map : goal.returns-in_err-map
unfolding move_record
returns-in_err-map c =
    let a = c.args in
    passed-up c.from_residual.result _ _ _ c.from_residual.ensures.1
    (part-refused (bit_map a.timers) _ (drop a.from a.bytes.now) c.in_err-map.ensures)

pub returns-in_err-price : goal.returns-in_err-price
unfolding move_record
returns-in_err-price c =
    let a = c.args in
    let map = c.in_ok-map in
    let mode = within 5 0 (a.modes - 1) in
    let up = c.from_residual-in_err-price in
    passed-up up.result _ _ _ up.ensures.1
    (part-taken (bit_map a.timers) _ (drop a.from a.bytes.now) (known map.ensures)
    ∙ two-refused mode (λ s. mode) _ (drop map.map.next a.bytes.now) c.in_err-price.ensures)

pub returns-in_err-reset : goal.returns-in_err-reset
unfolding move_record
returns-in_err-reset c =
    let a = c.args in
    let map = c.in_ok-map in
    let b = map.map.value in
    let mode = within 5 0 (a.modes - 1) in
    let price = c.in_ok-price in
    let up = c.from_residual-in_err-reset in
    passed-up up.result _ _ _ up.ensures.1
    (part-taken (bit_map a.timers) _ (drop a.from a.bytes.now) (known map.ensures)
    ∙ two-taken mode (λ s. mode) _ (drop map.map.next a.bytes.now) price.ensures.taken
    ∙ two-refused (amount_byte b 0) (λ low. conditions b) _ (drop price.price a.bytes.now) c.in_err-reset.ensures)

pub returns-in_err-byte : goal.returns-in_err-byte
unfolding move_record
returns-in_err-byte c =
    let a = c.args in
    let map = c.in_ok-map in
    let b = map.map.value in
    let mode = within 5 0 (a.modes - 1) in
    let price = c.in_ok-price in
    let reset = c.in_ok-reset in
    let up = c.from_residual-in_err-byte in
    passed-up up.result _ _ _ up.ensures.1
    (part-taken (bit_map a.timers) _ (drop a.from a.bytes.now) (known map.ensures)
    ∙ two-taken mode (λ s. mode) _ (drop map.map.next a.bytes.now) price.ensures.taken
    ∙ two-taken (amount_byte b 0) (λ low. conditions b) _ (drop price.price a.bytes.now) reset.ensures.taken
    ∙ part-refused (resets b a.timers) _ (drop reset.reset a.bytes.now) c.in_err-byte.ensures)

pub returns : goal.returns
unfolding move_record
returns c =
    let a = c.args in
    let map = c.in_ok-map in
    let b = map.map.value in
    let mode = within 5 0 (a.modes - 1) in
    let price = c.in_ok-price in
    let reset = c.in_ok-reset in
    let byte = c.in_ok-byte in
    let read = known-by (λ v w. w.value) byte.ensures in
    part-last a.bytes.now _ _ (amount_byte byte.byte.value 7) _ (drop byte.byte.next a.bytes.now) c.high_byte.result
    (part-taken (bit_map a.timers) _ (drop a.from a.bytes.now) (known map.ensures)
    ∙ two-taken mode (λ s. mode) _ (drop map.map.next a.bytes.now) price.ensures.taken
    ∙ two-taken (amount_byte b 0) (λ low. conditions b) _ (drop price.price a.bytes.now) reset.ensures.taken
    ∙ part-taken (resets b a.timers) _ (drop reset.reset a.bytes.now) read)
    c.high_byte.ensures (λ next high q e. wrote-move high _ price.ensures.holds reset.ensures.holds byte.ensures.holds.wrote e)
