-- `search::nodes_of` meets its contract. Assumes nothing.
use mathlib.Core.Path.{◌≡◌, sym, ap, ◌∙◌}
use Prim.Native.Nat.{ℕ}
use Rattle.std.specs.Prelude.{Option, Some, None, ok_or}
use Rattle.semantics.specs.Automaton.{Automaton}
use Rattle.semantics.specs.NodeCount.{node_count}
use Rattle.regions.specs.Nodes.{bounded}
use Rattle.table.specs.declared.refusals.Refusal.TheVariants.{TooManyNodes}
use Rattle.table.specs.Held.{automaton_of}
use Rattle.search.specs.Outcome.{told, nodes_of}
use Rattle.search.specs.Laws.Answers.{nodes-many, nodes-few}
use Rattle.search.proofs.nodes_of.Goals as goal

-- By the count, or its refusal where there is none.
counted-or : (a : Automaton) {count : Option ℕ} → count ≡ bounded (node_count a) → told (ok_or count TooManyNodes) ≡ nodes_of a
counted-or a {count = None} e = nodes-many a (sym e)
counted-or a {count = Some n} e = nodes-few a n (sym e)

pub returns : goal.returns
returns c = ap told c.ok_or.ensures.value ∙ counted-or (automaton_of c.args.table.now.bytes) c.node_count.ensures
