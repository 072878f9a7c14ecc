-- `cases::resets::given` meets its contract: the region has other whole parts and prices, 0 behind them.
-- Assumes nothing.
use mathlib.Core.Path.{refl}
use native.Mathlib.Omega.{arith}
use Rattle.regions.specs.Laws.Fields.{holds, timers-is, top-few}
use Rattle.cases.proofs.Given.{given-valid}
use Rattle.cases.proofs.resets.given.Goals as goal

pub three-requires : goal.three-requires
three-requires c =
    let v = c.requires in
    let h = holds _ v in
    (omega arith, omega (arith, v.well_formed.some, timers-is _ _ h, c.from.ensures), omega (arith, v.few, c.from.ensures))

pub prices-requires : goal.prices-requires
prices-requires c = omega (arith, top-few _ _ (holds _ c.requires))

pub returns : goal.returns
returns c = given-valid _ _ c.requires refl refl refl (rw c.from.ensures at c.three.ensures) c.prices.ensures
