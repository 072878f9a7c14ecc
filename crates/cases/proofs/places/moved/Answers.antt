-- `cases::places::moved` meets its contract.
-- Assumes nothing.
use mathlib.Core.Path.{sym, subst}
use Prim.Native.Nat.{ℕ, ◌<◌}
use native.Mathlib.Omega.{arith}
use lib.ListN.{length}
use Rattle.table.specs.Held.{automaton_of}
use Rattle.table.specs.Theorems.Access.{target_below}
use Rattle.cases.proofs.Steps.{move-few, two-operations, second-ready}
use Rattle.cases.proofs.places.moved.Goals as goal

pub fits-requires : goal.fits-requires
fits-requires c =
    let t = c.args.table.now in
    (c.requires.0.valid, omega (arith, move-few t.bytes t.is_table c.args.e c.requires.1))

pub operated-requires : goal.operated-requires
operated-requires c = second-ready c.requires.0 c.operated-cleared.ensures

pub returns : goal.returns
returns c =
    let t = c.args.table.now in
    let below = target_below t.bytes t.is_table c.args.e c.requires.1 in
    λ n o. two-operations o c.operated-cleared.ensures c.operated.ensures
    (subst (λ (m : ℕ). m < length (automaton_of t.bytes).modes) (sym c.target.ensures) below)
