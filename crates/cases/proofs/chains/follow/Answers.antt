-- `cases::chains::follow` meets its contract.
-- Assumes nothing.
use Prim.Native.Nat.{◌+◌, ◌-◌}
use native.Mathlib.Omega.{arith}
use Rattle.std.proofs.lemmas.Option.{IfSome_then, MatchOption-at_some}
use Rattle.std.specs.Bool.{⊤}
use Rattle.cases.specs.Kept.{OnChain}
use Rattle.cases.proofs.Steps.{fewer-steps}
use Rattle.cases.proofs.chains.follow.Goals as goal

pub loop-steps-preserved : goal.loop-steps-preserved
loop-steps-preserved g c =
    let t = c.args.table.now.bytes in
    let loop = c.loop-steps in
    let test = c.loop-steps-test.true in
    let here : OnChain t (1024 - loop.steps) c.in-Some.place.mode c.in-Some.place.region =
    MatchOption-at_some ⊤ (λ place. OnChain t (1024 - loop.steps) place.mode place.region) c.in-Some.place c.in-Some.is loop.invariant in
    IfSome_then c.step-next.result c.step-next.ensures
    (λ place leads. leads (1024 - (loop.steps + 1)) (fewer-steps (omega (arith, test)) here))
