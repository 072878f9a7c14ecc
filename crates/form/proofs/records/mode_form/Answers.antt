-- `form::records::mode_form` meets its contract. Assumes nothing.
use Rattle.form.proofs.Filling.{mode-filled}
use Rattle.form.proofs.records.mode_form.Goals as goal

pub returns : goal.returns
returns c =
    let a = c.args in
    mode-filled a.table.now a.from a.at c.copied.ensures c.places.ensures
