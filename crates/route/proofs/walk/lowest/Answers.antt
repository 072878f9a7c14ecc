-- `route::walk::lowest` meets its contract.
-- Assumes nothing.
use mathlib.Core.Path.{◌∙◌}
use Rattle.std.proofs.Common.{rules}
use Rattle.std.proofs.lemmas.Iterator.{first_from_Range}
use Rattle.steps.specs.Steps.{Marked}
use Rattle.route.proofs.MarkedSets.{lowest-found}
use Rattle.route.proofs.walk.lowest.Goals as goal

pub returns : goal.returns
returns c =
    let set = c.args.set in
    c.unwrap_or.ensures
    ∙ lowest-found set c.find.result
    (first_from_Range _ _ _ _ (Marked set) (λ k. Marked set k → ⊥) c.find.ensures.ran (λ x q h. search rules) (λ x q h. search rules))
