-- `arrays::raised_by` meets its contract. The loop has raised the first i values, if there are so many.
-- Assumes nothing.
use mathlib.Core.Path.{◌≡◌, ◌∙◌}
use Prim.Native.Nat.{ℕ, ◌+◌, ◌<◌}
use borrow.Author.Rules.{rules}
use native.Mathlib.Omega.{arith}
use lib.ListN.{length, get_or, set}
use Rattle.arrays.proofs.Turns.{map_to-here, map_to-more, map_to-past, map_to-all}
use Rattle.arrays.proofs.raised_by.Goals.{then-i-n, else-i-n}
use Rattle.arrays.proofs.raised_by.Goals as goal

pub overflow_add-v : goal.overflow_add-v
overflow_add-v c =
    let a = c.args in
    let turn = c.loop-i in
    let same = map_to-here (λ (v : ℕ). v + a.by) turn.i a.n a.values turn.v-items turn.invariant c.if-i-n.true in
    omega (arith, same, c.requires.1 turn.i)

pub loop-i-preserved : goal.loop-i-preserved
loop-i-preserved c =
    let a = c.args in
    let turn = c.loop-i in
    let there : turn.i < length a.values = search rules in
    elim c.if-i-n.branch [
      | then-i-n w ↦
          let e : c.if-i-n.v-items ≡ set turn.v-items turn.i ((λ (v : ℕ). v + a.by) (get_or turn.v-items turn.i 0)) = w.v-items-is in
          e ∙ map_to-more (λ (v : ℕ). v + a.by) turn.i a.n a.values turn.v-items turn.invariant there w.if-i-n.true
      | else-i-n w ↦
          let e : c.if-i-n.v-items ≡ set turn.v-items turn.i (get_or turn.v-items turn.i 0) = w.v-items-is in
          e ∙ map_to-past (λ (v : ℕ). v + a.by) turn.i a.n a.values turn.v-items turn.invariant w.if-i-n.false
    ]

pub returns : goal.returns
returns c =
    let a = c.args in
    let turn = c.loop-i in
    map_to-all (λ (v : ℕ). v + a.by) turn.i a.n a.values turn.v-items turn.invariant (omega arith)
