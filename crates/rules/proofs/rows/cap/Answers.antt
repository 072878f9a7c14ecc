-- `rules::rows::cap` meets its contract. The loop's invariant: the windows of the rows before the present one end above the ceilings.
-- Assumes nothing.
use mathlib.Core.Path.{◌≡◌, ap, ◌∙◌}
use mathlib.Core.List.{List}
use Prim.Native.Nat.{ℕ, ◌≤◌}
use native.Mathlib.Omega.{arith}
use lib.ListN.{get_or}
use Rattle.table.specs.Held.{automaton_of}
use Rattle.table.specs.Theorems.Access.{get_or-all, get_or-pad}
use Rattle.rules.proofs.Capping.{caps-more}
use Rattle.rules.proofs.rows.cap.Goals.{After-ceilings-ceilings}
use Rattle.rules.proofs.rows.cap.Goals as goal

-- What is read of the array is a ceiling, or 0.
entries : (c : After-ceilings-ceilings) → (x : ℕ) → get_or c.ceilings-ceilings.result x 0 ≡ get_or (automaton_of c.args.table.now.bytes).ceilings x 0
entries c x = ap (λ (l : List ℕ). get_or l x 0) c.ceilings-ceilings.ensures ∙ get_or-pad 3 (automaton_of c.args.table.now.bytes).ceilings x

small : (c : After-ceilings-ceilings) → (x : ℕ) → get_or c.ceilings-ceilings.result x 0 ≤ 15
small c x =
    let cs = (automaton_of c.args.table.now.bytes).ceilings in
    omega (arith, entries c x, get_or-all (λ k. k ≤ 15) cs (λ k m. (c.args.table.now.is_table.range.ceilings-range k m).1) (omega arith) x)

pub cap_row-requires : goal.cap_row-requires
cap_row-requires c =
    (omega arith, small c.before.before.before)

pub loop-mode-preserved : goal.loop-mode-preserved
loop-mode-preserved c = (
  omega arith,
  caps-more _ _ c.ceilings-ceilings.result (entries c.before.before.before.before) c.loop-mode.mode c.loop-mode.rules _ c.loop-mode.invariant.1 c.cap_row.ensures,
)
