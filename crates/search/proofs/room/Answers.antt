-- `search::room` meets its contract. Assumes nothing.
use Rattle.std.proofs.Common.{sym, ◌∙◌}
use Rattle.std.proofs.lemmas.Result.{err_from_is_err_and}
use native.Mathlib.Omega.{arith}
use Rattle.table.specs.Refusals.{number}
use Rattle.table.specs.Held.{automaton_of}
use Rattle.search.specs.Laws.Answers.{Counts, nodes-counted, answer-many, answer-short, answer-nodes}
use Rattle.search.proofs.room.Goals.{In_ok-nodes}
use Rattle.search.proofs.room.Goals as goal

-- The nodes are counted, and few enough.
counts : (c : In_ok-nodes) → Counts (automaton_of c.args.table.now.bytes) c.in_ok-nodes.nodes
counts c = nodes-counted (automaton_of c.args.table.now.bytes) c.in_ok-nodes.nodes (sym c.in_ok-nodes.ensures)

pub returns-in_err-nodes : goal.returns-in_err-nodes
returns-in_err-nodes c =
    let passed = err_from_is_err_and c.from_residual.result c.from_residual.ensures.1 in
    let many = c.in_err-nodes.ensures in
    rw (passed.1, passed.2) (many ∙ answer-many (automaton_of c.args.table.now.bytes) c.args.lent (number c.in_err-nodes.field-0.0) (sym many))

pub overflow_mul-nodes : goal.overflow_mul-nodes
overflow_mul-nodes c = omega (arith, (counts (goal.at.overflow_mul-nodes c).In_ok-nodes).few)

pub returns-then-lent-nodes : goal.returns-then-lent-nodes
returns-then-lent-nodes c =
    let k = counts (goal.at.returns-then-lent-nodes c).In_ok-nodes in
    answer-short (automaton_of c.args.table.now.bytes) c.args.lent c.in_ok-nodes.nodes (sym k.counted) k.few c.if-lent-nodes.true

pub returns : goal.returns
returns c =
    let k = counts (goal.at.returns c).In_ok-nodes in
    answer-nodes (automaton_of c.args.table.now.bytes) c.args.lent c.in_ok-nodes.nodes (sym k.counted) k.few c.if-lent-nodes.false
