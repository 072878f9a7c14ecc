-- `report::put_lines` meets its contract.
-- Assumes nothing.
use mathlib.Core.Path.{ap}
use mathlib.Core.List.{[]}
use Rattle.report.specs.Destination.{told}
use native.Mathlib.Omega.{arith}
use Rattle.route.specs.Answers.{Refused, Route}
use Rattle.report.specs.Short.{AreBytes, lines-short}
use Rattle.report.proofs.Chains.{lines-refused, lines_none, lines-route}
use Rattle.report.proofs.put_lines.Goals as goal

pub put_refusal-requires : goal.put_refusal-requires
put_refusal-requires c =
    let n = c.in-Refused.n in
    let short = lines-short (Refused n) [] (omega arith) (λ i l. absurd (omega arith)) in
    omega (arith, c.requires, short)

pub put_route-requires : goal.put_route-requires
put_route-requires c =
    let charge = c.in-Route.charge in
    let steps = c.in-Route.steps in
    let route = c.args.route.now in
    let bytes : AreBytes route = λ i l. omega (arith, c.type_inv.route i) in
    omega (arith, c.requires, lines-short (Route charge steps) route (omega arith) bytes)

pub returns-in-Refused : goal.returns-in-Refused
returns-in-Refused c =
    let e = lines-refused c.in-Refused.n c.args.route.now (ap told c.in-Refused.is) in
    rw e c.put_refusal.ensures

pub returns-in-NoRoute : goal.returns-in-NoRoute
returns-in-NoRoute c =
    let e = lines_none c.args.route.now (ap told c.in-NoRoute.is) in
    rw e c.put_text.ensures

pub returns-in-Route : goal.returns-in-Route
returns-in-Route c =
    let e = lines-route c.in-Route.charge c.in-Route.steps c.args.route.now (ap told c.in-Route.is) in
    rw e c.put_route.ensures
