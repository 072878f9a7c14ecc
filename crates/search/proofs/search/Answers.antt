-- `search::search` meets its contract. Assumes nothing.
use mathlib.Core.Path.{◌≡◌, sym, ap, ◌∙◌}
use mathlib.Core.List.{◌++◌}
use Prim.Native.Nat.{ℕ, ◌*◌}
use native.Mathlib.Omega.{arith}
use lib.ListN.{length, drop}
use Rattle.semantics.proofs.Answers.Graph.{graph-nodes}
use Rattle.semantics.specs.Graph.Near.{near_words}
use Rattle.table.specs.Refusals.{number}
use Rattle.table.specs.Held.{automaton_of}
use Rattle.space.specs.Space.{graph_of, start_of}
use Rattle.space.specs.Laws.Shares.{table-setting}
use Rattle.search.specs.Laws.Answers.{Fits, answer-fits, searched-refused, searched-nodes}
use Rattle.search.proofs.search.Goals.{In_ok-nodes}
use Rattle.search.proofs.search.Goals as goal

-- The nodes' words were lent.
fits : (c : In_ok-nodes) → Fits (automaton_of c.args.table.now.bytes) (length c.args.words.now) c.in_ok-nodes.nodes
fits c = answer-fits (automaton_of c.args.table.now.bytes) (length c.args.words.now) c.in_ok-nodes.nodes (sym c.in_ok-nodes.ensures)

pub returns-in_err-nodes-clause-words : goal.returns-in_err-nodes-clause-words
returns-in_err-nodes-clause-words c =
    searched-refused (automaton_of c.args.table.now.bytes) c.args.goal c.args.words.now (number c.in_err-nodes.field-0.0) (sym c.in_err-nodes.ensures)

pub invariant_of-corners : goal.invariant_of-corners
invariant_of-corners c =
    let f = fits (goal.at.invariant_of-corners c).In_ok-nodes in
    record {
      setting = table-setting c.args.table.now.bytes c.args.table.now.is_table c.requires c.space_of-space.ensures (omega (arith, f.counted, f.few));
    }

pub search-requires : goal.search-requires
search-requires c =
    let f = fits (goal.at.search-requires c).In_ok-nodes in
    omega (arith, f.counted, f.room, graph-nodes (automaton_of c.args.table.now.bytes) c.args.goal)

pub returns : goal.returns
returns c =
    let a = automaton_of c.args.table.now.bytes in
    let ws = c.args.words.now in
    let f = fits (goal.at.returns c).In_ok-nodes in
    let counted : (graph_of c.args.table.now.bytes c.args.goal).nodes ≡ c.in_ok-nodes.nodes = graph-nodes a c.args.goal ∙ sym f.counted in
    record {
      answer = c.in_ok-nodes.ensures;
      words = c.search.ensures.words
          ∙ ap (λ (n : ℕ). near_words (graph_of c.args.table.now.bytes c.args.goal) (start_of c.args.table.now.bytes) ++ drop (2 * n) ws) counted
          ∙ searched-nodes a c.args.goal ws c.in_ok-nodes.nodes (sym c.in_ok-nodes.ensures);
    }
