-- `relax_edges` meets its contract.
-- Assumes nothing.
use native.Mathlib.Omega.{arith}
use Rattle.search.proofs.AllEdges.{edges-long, edges-again, edges-done}
use Rattle.search.proofs.edges.relax_edges.Goals as goal

pub returns-then-corners-from : goal.returns-then-corners-from
returns-then-corners-from c = edges-long c.requires (omega (arith, c.if-corners-from.true))

pub relax_waits-requires : goal.relax_waits-requires
relax_waits-requires c = (c.requires, omega (arith, c.if-corners-from.false))

pub relax_moves-requires : goal.relax_moves-requires
relax_moves-requires c =
    (edges-again c.requires c.relax_waits.ensures, omega (arith, c.if-corners-from.false))

pub returns : goal.returns
returns c =
    edges-done c.requires c.relax_waits.ensures c.relax_moves.ensures
