-- `route::plan_table` meets its contract. Assumes nothing.
use mathlib.Core.Path.{◌≡◌, ap, sym, ◌∙◌}
use Prim.Native.Nat.{ℕ}
use Rattle.std.proofs.lemmas.Result.{err_from_is_err_and}
use Rattle.table.specs.Refusals.{number}
use Rattle.table.specs.Held.{automaton_of}
use Rattle.search.specs.Outcome.{searched}
use Rattle.route.specs.Answers.{told}
use Rattle.route.proofs.Planning.{found-searched, table-refused, table-searched}
use Rattle.route.proofs.plan_table.Goals.{After-search}
use Rattle.route.proofs.plan_table.Goals as goal

-- The words after the search for the table's goal.
words_of : (c : After-search) → c.search.new.words
    ≡ searched (automaton_of c.args.table.now.bytes) (automaton_of c.args.table.now.bytes).goal c.args.words.now
words_of c =
    c.search.ensures.words ∙ ap (λ (l : ℕ). searched (automaton_of c.args.table.now.bytes) l c.args.words.now) c.goal.ensures

pub read_route-answer-requires : goal.read_route-answer-requires
read_route-answer-requires c =
    found-searched c.args.table.now.bytes c.args.words.now c.in_ok-nodes.nodes _ c.search.new.words c.args.table.now.is_table
    c.make.ensures (sym c.in_ok-nodes.ensures.answer) (words_of (goal.at.read_route-answer-requires c).After-search)

pub returns-in_err-nodes : goal.returns-in_err-nodes
returns-in_err-nodes c =
    let passed = err_from_is_err_and c.from_residual.result c.from_residual.ensures.1 in
    rw (passed.1, passed.2)
    (table-refused c.args.table.now.bytes c.args.words.now (number c.in_err-nodes.field-0.0) c.search.new.words c.args.route.now
    (sym c.in_err-nodes.ensures.answer) (words_of (goal.at.returns-in_err-nodes c).After-search))

pub returns : goal.returns
returns c =
    table-searched c.args.table.now.bytes c.args.words.now c.in_ok-nodes.nodes c.search.new.words c.read_route-answer.new.words
    c.clear.new.words c.args.route.now c.read_route-answer.new.route (told c.read_route-answer.result)
    (sym c.in_ok-nodes.ensures.answer) (words_of (goal.at.returns c).After-search) c.read_route-answer.ensures c.clear.ensures
