-- `form::records::fill_from` meets its contract. Assumes nothing.
use Rattle.std.proofs.Common.{rules}
use Rattle.form.proofs.Filling.{form-filled}
use Rattle.form.proofs.records.fill_from.Goals as goal

pub returns : goal.returns
returns c = form-filled c.args.table.now.bytes c.args.table.now.is_table (search rules) c.copied.ensures c.mode_forms.ensures c.move_forms.ensures
