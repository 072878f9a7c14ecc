-- `cases::places::fits` meets its contract. Within the ceilings there is room for half minutes.
-- Assumes nothing.
use mathlib.Core.Path.{sym, ◌∙◌}
use Rattle.cases.proofs.Steps.{half_room}
use Rattle.cases.proofs.places.fits.Goals as goal

pub halves-requires : goal.halves-requires
halves-requires c = (
  c.requires.0,
  half_room c.args.table.now.bytes c.args.table.now.is_table c.args.region c.requires.0 c.ceilings.result c.ceilings.ensures
      (sym c.within.ensures ∙ c.if-within.true),
)
