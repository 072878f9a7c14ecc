-- `cases::operations::operated` meets its contract.
-- Assumes nothing.
use native.Mathlib.Omega.{arith}
use Rattle.regions.specs.Held.{view}
use Rattle.regions.specs.Laws.Chain.{linger-gives, charge-gives, reset-gives, reset_all-gives}
use Rattle.regions.specs.Laws.Room.{linger-price-room, charge-price-room, reset-price-room, reset_all-price-room}
use Rattle.cases.proofs.Steps.{kept, kept_free}
use Rattle.cases.proofs.operations.operated.Goals as goal

pub returns-in-Linger : goal.returns-in-Linger
returns-in-Linger c =
    let s = c.args.region in
    let amount = c.from-in-Linger.result in
    kept_free s _ (linger-gives s _ c.requires.0 amount c.linger.ensures) (linger-price-room (view s) amount)

pub returns-in-Reset : goal.returns-in-Reset
returns-in-Reset c =
    let s = c.args.region in
    kept_free s _ (reset-gives s _ c.requires.0 _ c.reset.ensures) (reset-price-room (view s) _)

pub returns-in-ResetAll : goal.returns-in-ResetAll
returns-in-ResetAll c =
    let s = c.args.region in
    kept_free s _ (reset_all-gives s _ c.requires.0 _ c.reset_all.ensures) (reset_all-price-room _ (view s))

pub returns-in-Charge : goal.returns-in-Charge
returns-in-Charge c =
    let s = c.args.region in
    let amount = c.from-in-Charge.result in
    kept s _ amount (omega (arith, c.from-in-Charge.ensures)) (charge-gives s _ c.requires.0 amount c.charge.ensures) (charge-price-room (view s) amount)
