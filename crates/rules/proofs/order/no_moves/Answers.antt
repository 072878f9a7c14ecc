-- `rules::order::no_moves` meets its contract. Assumes nothing.
use native.Mathlib.Omega.{arith}
use Rattle.rules.proofs.Writing.{filled_with}
use Rattle.rules.proofs.order.no_moves.Goals as goal

pub returns : goal.returns
returns c =
    filled_with 64 480 c.args.modes _ c.args.rules.now _ (omega arith) (omega (arith, c.told-rules)) (c.fill.ensures.after (λ y e. e))
