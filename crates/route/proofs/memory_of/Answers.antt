-- `route::memory_of` meets its contract. Assumes nothing.
use mathlib.Core.Path.{sym}
use native.Mathlib.Omega.{arith}
use Rattle.std.proofs.lemmas.Result.{err_from_is_err_and}
use Rattle.table.specs.Refusals.{number}
use Rattle.table.specs.Held.{automaton_of}
use Rattle.space.specs.Laws.Shares.{start-below}
use Rattle.search.specs.Laws.Answers.{Counts, nodes-counted}
use Rattle.route.proofs.Lending.{memory-refused, memory-counted}
use Rattle.route.proofs.memory_of.Goals.{In_ok-nodes}
use Rattle.route.proofs.memory_of.Goals as goal

-- The count is a number of nodes.
counts : (c : In_ok-nodes) → Counts (automaton_of c.args.table.now.bytes) c.in_ok-nodes.nodes
counts c = nodes-counted (automaton_of c.args.table.now.bytes) c.in_ok-nodes.nodes (sym c.in_ok-nodes.ensures)

pub returns-in_err-nodes : goal.returns-in_err-nodes
returns-in_err-nodes c =
    let passed = err_from_is_err_and c.from_residual.result c.from_residual.ensures.1 in
    rw (passed.1, passed.2) (memory-refused (automaton_of c.args.table.now.bytes) (number c.in_err-nodes.field-0.0) (sym c.in_err-nodes.ensures))

pub overflow_sub-result : goal.overflow_sub-result
overflow_sub-result c =
    let k = counts (goal.at.overflow_sub-result c).In_ok-nodes in
    omega (arith, k.counted, start-below c.args.table.now.bytes c.args.table.now.is_table)

pub returns : goal.returns
returns c = memory-counted (automaton_of c.args.table.now.bytes) c.in_ok-nodes.nodes (sym c.in_ok-nodes.ensures)
