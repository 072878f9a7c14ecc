-- `rules::make` meets its contract. Assumes nothing.
use mathlib.Core.Path.{refl}
use lib.ListN.{replicate}
use Rattle.semantics.specs.Regions.Lists.{replicate-zero}
use Rattle.rules.proofs.Whole.{is-rules}
use Rattle.rules.proofs.make.Goals as goal

pub returns : goal.returns
returns c =
    is-rules c.args.table.now.bytes c.args.table.now.is_table (replicate 560 0) _ _ _ _ _ _ (replicate-zero 560) refl _ _ c.modes-modes.ensures
    c.moves-moves.ensures c.fill.ensures c.fill-2.ensures c.join.ensures c.cap.ensures
    c.no_moves.ensures c.order.ensures
