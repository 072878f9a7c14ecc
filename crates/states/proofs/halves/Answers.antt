-- `states::halves` meets its contract.
-- Assumes nothing.
use mathlib.Core.Path.{ap}
use lib.ListN.{length}
use Rattle.std.proofs.lemmas.Grind.{get_or_default_zero}
use Prim.Native.Nat.{ℕ, ◌<◌}
use native.Mathlib.Omega.{arith}
use Rattle.std.proofs.Common.{rules, tests}
use Rattle.std.proofs.lemmas.Iterator.Adapters.{serves_from_places}
use Rattle.std.proofs.lemmas.Iterator.Consumers.{YieldsList-from_shown}
use Rattle.std.specs.Array.{list_steps}
use Rattle.states.proofs.halves.Goals as goal

pub map-requires : goal.map-requires
map-requires c = (
  omega arith,
  (
    omega arith,
    (
      omega arith,
      serves_from_places
          (YieldsList-from_shown (list_steps {A = ℕ}) (λ x. x) (λ s. s) (λ s t e. ap length e) (λ s x t e. e) c.args.values)
          (λ x q k. search (rules, tests))
          (λ x k h e. let b = c.requires k in let d = get_or_default_zero c.args.values k x h in let f : x < 128 = omega (arith, e, d, b) in search rules),
    ),
  ),
)
