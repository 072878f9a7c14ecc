-- `arrays::none_zero` meets its contract.
-- Assumes nothing.
use mathlib.Core.Path.{◌≡◌, ap, ◌∙◌}
use mathlib.Core.Bool.{not}
use Rattle.std.proofs.Common.{rules, tests}
use Rattle.std.proofs.lemmas.Iterator.{YieldsList-from_slice, YieldsList-from_take}
use Rattle.std.proofs.lemmas.Iterator.Consumers.{YieldsList-at}
use Rattle.std.proofs.lemmas.Iterator.Search.{any_from_yields_List}
use Rattle.std.specs.Prelude.{ℕ, eqb, take}
use Rattle.std.specs.List.{list_any}
use Rattle.arrays.proofs.Counts.{none-is}
use Rattle.arrays.proofs.none_zero.Goals as goal

pub returns : goal.returns
returns c =
    let a = c.args in
    let some = take a.n a.group in
    let e : c.any.result ≡ list_any (λ (x : ℕ). eqb x 0) some =
    any_from_yields_List (λ (x : ℕ). eqb x 0) _ _ _ c.any.ensures.ran
    (YieldsList-from_take a.n (YieldsList-at c.take.ensures.source (YieldsList-from_slice a.group cc)) cc)
    (λ x b q k. search (rules, tests))
    in
    ap not e ∙ none-is 0 some
