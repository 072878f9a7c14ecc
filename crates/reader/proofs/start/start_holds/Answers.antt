-- `reader::start::start_holds` meets its contract. Assumes nothing.
use Rattle.std.proofs.Common.{rules, tests, take, drop, ◌∙◌, ◌∷◌, []}
use Rattle.std.proofs.lemmas.Iterator.{YieldsList-from_slice}
use Rattle.std.proofs.lemmas.Iterator.Search.{all_from_yields_List}
use Rattle.semantics.specs.Condition.{hold_at_zero}
use Rattle.table.specs.Meaning.{conditions_from}
use Rattle.reader.proofs.Zero.{zero-each}
use Rattle.reader.proofs.start.start_holds.Goals as goal

pub returns : goal.returns
returns c =
    let row = take 6 (drop 10 c.args.table.now) in
    let each = all_from_yields_List (λ b. hold_at_zero (conditions_from 0 (b ∷ []))) _ _ c.all.result c.all.ensures.ran
    (YieldsList-from_slice row c.iter.ensures.rest) (λ x b q k. search (rules, tests)) in
    each ∙ zero-each 0 row
