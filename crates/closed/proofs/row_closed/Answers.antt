-- `closed::row_closed` meets its contract.
-- Assumes nothing.
use Rattle.std.proofs.Common.{rules, tests, take, ◌∙◌, ◌∷◌, []}
use Rattle.std.proofs.lemmas.Iterator.{YieldsList-from_slice, YieldsList-from_take}
use Rattle.std.proofs.lemmas.Iterator.Search.{all_from_yields_List}
use Rattle.semantics.specs.Closed.{all_closed}
use Rattle.table.specs.Meaning.{conditions_from}
use Rattle.closed.proofs.Closing.{row-each}
use Rattle.closed.proofs.row_closed.Goals as goal

pub returns : goal.returns
returns c =
    let bytes = c.args.bytes.now in
    let each = all_from_yields_List (λ b. all_closed (conditions_from 0 (b ∷ []))) _ _ c.all.result c.all.ensures.ran
    (YieldsList-from_take 6 (YieldsList-from_slice bytes cc) c.take.ensures.count) (λ x b q k. search (rules, tests)) in
    each ∙ row-each 0 (take 6 bytes)
