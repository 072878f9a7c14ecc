-- `report::put_refusal` meets its contract.
-- Assumes nothing.
use native.Mathlib.Omega.{arith}
use lib.ListN.{length}
use Rattle.report.proofs.Chains.{refusal-room, refusal-put}
use Rattle.report.proofs.put_refusal.Goals as goal

pub put_field-at-requires : goal.put_field-at-requires
put_field-at-requires c =
    omega (arith, refusal-room c.args.n (length c.args.out.now) c.requires)

pub put_text-requires : goal.put_text-requires
put_text-requires c =
    omega (arith, refusal-room c.args.n (length c.args.out.now) c.requires, c.put_field-at.ensures.behind, c.put_field-at.auto)

pub returns : goal.returns
returns c =
    refusal-put c.args.n c.put_field-at.ensures c.put_text.ensures c.requires
