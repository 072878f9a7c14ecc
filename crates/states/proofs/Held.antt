-- The struct `States` of a table as code makes it, the state with a number, and the number of the state that a move leaves.
-- Assumes nothing.
use mathlib.Core.Path.{◌≡◌, ap, ap₂, ◌∙◌}
use mathlib.Core.List.{List}
use Prim.Native.Nat.{ℕ, ◌+◌, ◌*◌, ◌/◌, ◌%◌, ◌≤◌, ◌<◌}
use native.Mathlib.Nat.{mul-le-mul}
use native.Mathlib.Omega.{arith}
use lib.ListN.{length}
use Rattle.semantics.specs.Automaton.{timers, move_at}
use Rattle.semantics.specs.Run.{move, after}
use Rattle.semantics.specs.NodeCount.{cell_count}
use Rattle.semantics.specs.Timetable.{state_count}
use Rattle.semantics.specs.Nodes.Node.{cell_number, cell_at}
use Rattle.semantics.specs.Graph.MinuteGraph.{state_at}
use Rattle.table.specs.Held.{pad, fields_of, automaton_of, move_fields_at, IsTable}
use Rattle.table.specs.Theorems.Access.{counts, mode-count, target_below}
use Rattle.corners.specs.Cells.{most_cells, CeilingsFew}
use Rattle.regions.specs.Laws.Nodes.{count-padded, at-padded, table-ceilings, table-padded, table-few}
use Rattle.states.specs.declared.States.{States}
use Rattle.states.specs.States.{most_timers, IsStates, StandsAt, LeadDone, zeroed_in}
use Rattle.states.specs.Laws.Bounds.{timers-few, cells-between}
use Rattle.states.specs.Laws.Shows.{shows-moved, shows-number, state-shown}

module _ (t : List ℕ) (h : IsTable t) where
  -- The cells by the array of all ceilings.
  cells-padded : cell_count (pad most_timers (automaton_of t).ceilings) ≡ cell_count (automaton_of t).ceilings
  cells-padded =
      count-padded (timers (automaton_of t)) (pad most_timers (automaton_of t).ceilings) (table-padded t h) ∙ ap cell_count (table-ceilings t h)

  cell-padded : (i : ℕ) → cell_at (pad most_timers (automaton_of t).ceilings) i ≡ pad most_timers (cell_at (automaton_of t).ceilings i)
  cell-padded i =
      at-padded (timers (automaton_of t)) (pad most_timers (automaton_of t).ceilings) (table-padded t h) i
      ∙ ap (λ (cs : List ℕ). pad most_timers (cell_at cs i)) (table-ceilings t h)

  -- Few modes; and the target of a move is one of them.
  pub modes-few : (modes : ℕ) → modes ≡ length (automaton_of t).modes → modes ≤ 16
  modes-few modes e = omega (arith, counts t h, mode-count t h)

  pub target-few : (e target : ℕ) → e < length (automaton_of t).moves → target ≡ (move_at (automaton_of t) e).target → target ≤ 16
  target-few e target there k = omega (arith, counts t h, mode-count t h, target_below t h e there)

  -- The product of modes and cells fits; and the struct that code makes of it.
  pub count_fits : (modes cells : ℕ) → modes ≡ length (automaton_of t).modes → cells ≤ most_cells → modes * cells ≤ 65536
  count_fits modes cells e few = mul-le-mul (modes-few modes e) few

  pub states-are :
      (s : States) (modes cells : ℕ) → modes ≡ length (automaton_of t).modes → cells ≡ cell_count s.ceilings
      → s.ceilings ≡ pad most_timers (automaton_of t).ceilings → s.timers ≡ timers (automaton_of t) → s.count ≡ modes * cells → s.cells ≡ cells
      → IsStates t s
  unfolding state_count
  states-are s modes cells m c ceilings n count is =
      let all : cells ≡ cell_count (automaton_of t).ceilings = c ∙ ap cell_count ceilings ∙ cells-padded in
      record {
        count-is = count ∙ ap₂ (λ (x y : ℕ). x * y) m all;
        cells_are = is ∙ all;
        timers-are = n;
        ceilings-are = ceilings;
      }

  -- A struct of the table.
  module _ (s : States) (is : IsStates t s) where
    pub ceilings-few : CeilingsFew s.ceilings
    ceilings-few = rw is.ceilings-are (table-few t h)

    -- The state with a number.
    pub state-stands :
        (node : ℕ) (values : List ℕ) → values ≡ cell_at s.ceilings (node % s.cells)
        → StandsAt (automaton_of t) (state_at (automaton_of t) node) (record { mode = node / s.cells; values = values })
    state-stands node values e =
        let a = automaton_of t in
        let shown : values ≡ pad 3 (cell_at a.ceilings (node % cell_count a.ceilings)) =
        e ∙ ap₂ (λ (cs : List ℕ) (k : ℕ). cell_at cs (node % k)) is.ceilings-are is.cells_are ∙ cell-padded (node % cell_count a.ceilings) in
        record {
          mode-is = ap (λ (k : ℕ). node / k) is.cells_are;
          shows = rw shown (state-shown a (timers-few t h) node);
        }

    -- The node to which a move leads: the sum fits, and it is the number of the state that the move leaves.
    pub lead-fits : (e target : ℕ) → e < length (automaton_of t).moves → target ≡ (move_at (automaton_of t) e).target → target * s.cells ≤ 65536
    lead-fits e target there k = mul-le-mul (target-few e target there k) (cells-between t h s is).1

    pub lead_is :
        (e target cell : ℕ) (values : List ℕ) → target ≡ (move_at (automaton_of t) e).target
        → cell ≡ cell_number s.ceilings (zeroed_in (move_fields_at (fields_of t) e).resets values) → LeadDone t values e (target * s.cells + cell)
    lead_is e target cell values k c state shown =
        ap₂ (λ (x y : ℕ). x + y) (ap₂ (λ (x y : ℕ). x * y) k is.cells_are)
        (c ∙ ap (λ (cs : List ℕ). cell_number cs (zeroed_in (move_fields_at (fields_of t) e).resets values)) is.ceilings-are
        ∙ shows-number t h (after (automaton_of t) (move e) state) (shows-moved t h e state shown))
