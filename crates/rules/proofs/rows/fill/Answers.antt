-- `rules::rows::fill` meets its contract. The loop's invariant: the rows of the first i records are filled. Assumes nothing.
use mathlib.Core.Path.{◌∙◌, ap}
use mathlib.Core.List.{List}
use Prim.Native.Nat.{ℕ}
use native.Mathlib.Omega.{arith}
use Rattle.table.specs.Meaning.{conditions_from}
use Rattle.conditions.specs.Windows.{row_of}
use Rattle.rules.proofs.Filling.{filled_more}
use Rattle.rules.proofs.rows.fill.Goals as goal

pub loop-i-preserved : goal.loop-i-preserved
loop-i-preserved c =
    let a = c.args in
    let w = c.windows in
    let e = w.ensures ∙ ap (λ (l : List ℕ). row_of (conditions_from 0 l)) c.conditions.ensures in
    (omega arith, filled_more a.table.now a.at a.stride a.row _ c.loop-i.i _ _ _ e c.put.ensures c.loop-i.invariant.1)
