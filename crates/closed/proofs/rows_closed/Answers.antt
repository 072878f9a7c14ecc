-- `closed::rows_closed` meets its contract.
-- Assumes nothing.
use Rattle.std.proofs.Common.{rules, tests, ◌∙◌}
use Rattle.std.proofs.lemmas.Iterator.Search.{all_from_yields_List}
use Rattle.closed.proofs.Closing.{row_closed, rows-each, yields-pieces}
use Rattle.closed.proofs.rows_closed.Goals as goal

pub returns : goal.returns
returns c =
    let a = c.args in
    let each = all_from_yields_List row_closed _ _ c.all.result c.all.ensures.ran
    (yields-pieces a.stride a.count a.bytes.now (cc) (cc) (cc)) (λ x b q k. search (rules, tests)) in
    each ∙ rows-each a.stride c.requires a.count a.bytes.now
