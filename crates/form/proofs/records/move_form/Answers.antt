-- `form::records::move_form` meets its contract. Assumes nothing.
use Rattle.form.proofs.Filling.{move-filled}
use Rattle.form.proofs.records.move_form.Goals as goal

pub returns : goal.returns
returns c =
    let a = c.args in
    move-filled a.table.now a.from a.at c.copied.ensures c.places.ensures
    c.copied-2.ensures
