-- `regions::nodes::node_count` meets its contract.
-- Assumes nothing.
use Prim.Native.Nat.{ℕ, ◌*◌}
use mathlib.Core.Path.{◌≡◌, refl, ap, ap₂, ◌∙◌}
use mathlib.Core.Bool.{Bool, true, false, cond}
use Rattle.std.specs.Bool.{then_some}
use Rattle.std.specs.Prelude.{Some, None}
use mathlib.Core.List.{List}
use lib.ListN.{length}
use Rattle.semantics.specs.Automaton.{timers}
use Rattle.semantics.specs.NodeCount.{node_count, cell_count, corner_count}
use Rattle.table.specs.Held.{automaton_of, IsTable}
use Rattle.regions.specs.Held.{most_timers, pad}
use Rattle.regions.specs.Nodes.{bounded}
use Rattle.regions.specs.Laws.Nodes.{table-few, table-nodes}
use Rattle.regions.proofs.nodes.node_count.Goals as goal

counted : (b : Bool) (e : ℕ) → then_some b e ≡ cond b (Some e) None
counted true e = refl
counted false e = refl

-- E as a product of the numbers of a table.
nodes-are :
    (t : List ℕ) → IsTable t → (modes cells n corners : ℕ) (ceilings : List ℕ) → modes ≡ length (automaton_of t).modes
    → ceilings ≡ pad most_timers (automaton_of t).ceilings → cells ≡ cell_count ceilings → n ≡ timers (automaton_of t) → corners ≡ corner_count n 1
    → modes * cells * corners ≡ node_count (automaton_of t)
nodes-are t h modes cells n corners ceilings m c k i j =
    ap₂ (λ (x y : ℕ). x * y * corners) m (k ∙ ap cell_count c)
    ∙ ap (λ (z : ℕ). length (automaton_of t).modes * cell_count (pad most_timers (automaton_of t).ceilings) * z) (j ∙ ap (λ (x : ℕ). corner_count x 1) i)
    ∙ table-nodes t h

pub cells-requires : goal.cells-requires
cells-requires c = rw c.ceilings.ensures (table-few c.args.table.now.bytes c.args.table.now.is_table)

pub returns : goal.returns
returns c =
    let t = c.args.table.now in
    c.then_some.ensures
    ∙ counted _ _
    ∙ ap bounded
    (nodes-are t.bytes t.is_table c.modes-modes.result c.cells.result c.timers.result c.corner_count.result c.ceilings.result c.modes-modes.ensures
    c.ceilings.ensures c.cells.ensures.0 c.timers.ensures c.corner_count.ensures.0)
