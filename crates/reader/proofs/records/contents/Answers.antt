-- `reader::records::contents` meets its contract. Assumes nothing.
use mathlib.Core.Path.{refl}
use Rattle.reader.proofs.Giving.{passed-up}
use Rattle.reader.proofs.Whole.{header_refused, ceilings-refused, modes-refused, all_held}
use Rattle.reader.proofs.records.contents.Goals as goal

pub returns-in_err-header : goal.returns-in_err-header
returns-in_err-header c = passed-up c.from_residual.result _ _ _ c.from_residual.ensures.1 (header_refused _ c.in_err-header.ensures)

pub returns-in_err-records : goal.returns-in_err-records
returns-in_err-records c =
    let up = c.from_residual-in_err-records in
    passed-up up.result _ _ _ up.ensures.1 (ceilings-refused c.in_ok-header.ensures _ _ _ refl refl refl c.in_err-records.ensures)

pub returns-in_err-further : goal.returns-in_err-further
returns-in_err-further c =
    let up = c.from_residual-in_err-further in
    passed-up up.result _ _ _ up.ensures.1 (modes-refused c.in_ok-header.ensures _ _ _ refl refl refl c.in_ok-records.ensures c.in_err-further.ensures)

pub returns : goal.returns
returns c =
    all_held c.in_ok-header.ensures _ _ _ refl refl refl c.in_ok-records.ensures _ c.requires c.in_ok-further.ensures c.move_records.result
    c.move_records.ensures
