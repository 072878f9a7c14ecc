-- `cases::places::waited` meets its contract.
-- Assumes nothing.
use native.Mathlib.Omega.{arith}
use Rattle.cases.proofs.Steps.{mode-few, one-operation}
use Rattle.cases.proofs.places.waited.Goals as goal

pub fits-requires : goal.fits-requires
fits-requires c =
    let t = c.args.table.now in
    (c.operated-region.ensures.valid, omega (arith, mode-few t.bytes t.is_table c.args.place.mode c.requires.there))

pub returns : goal.returns
returns c = λ n o. one-operation o c.operated-region.ensures
