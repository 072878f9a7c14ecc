-- `report::put_route` meets its contract.
-- Assumes nothing.
use native.Mathlib.Omega.{arith}
use lib.ListN.{length}
use Rattle.report.proofs.Chains.{route-room, route-put}
use Rattle.report.proofs.put_route.Goals as goal

pub put_field-at-requires : goal.put_field-at-requires
put_field-at-requires c =
    omega (
      arith,
      route-room c.args.charge c.args.steps c.args.route.now (length c.args.out.now) c.requires,
    )

pub put_text-at-requires : goal.put_text-at-requires
put_text-at-requires c =
    omega (
      arith,
      route-room c.args.charge c.args.steps c.args.route.now (length c.args.out.now) c.requires,
      c.put_field-at.ensures.behind,
      c.put_field-at.auto,
    )

pub put_steps-at-requires : goal.put_steps-at-requires
put_steps-at-requires c =
    omega (
      arith,
      route-room c.args.charge c.args.steps c.args.route.now (length c.args.out.now) c.requires,
      c.put_text-at.ensures.behind,
      c.put_text-at.auto,
      c.put_field-at.ensures.behind,
      c.put_field-at.auto,
    )

pub put_text-requires : goal.put_text-requires
put_text-requires c =
    omega (
      arith,
      route-room c.args.charge c.args.steps c.args.route.now (length c.args.out.now) c.requires,
      c.put_steps-at.ensures.behind,
      c.put_steps-at.auto,
      c.put_text-at.ensures.behind,
      c.put_text-at.auto,
      c.put_field-at.ensures.behind,
      c.put_field-at.auto,
    )

pub returns : goal.returns
returns c =
    route-put c.args.charge c.args.steps c.args.route.now
    c.put_field-at.ensures
    c.put_text-at.ensures
    c.put_steps-at.ensures
    c.put_text.ensures
    c.requires
