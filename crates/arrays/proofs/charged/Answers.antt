-- `arrays::charged` meets its contract. The loop has charged the first i prices, if there are so many.
-- Assumes nothing.
use mathlib.Core.Path.{◌≡◌, ◌∙◌}
use Prim.Native.Nat.{ℕ, ◌+◌, ◌<◌}
use borrow.Author.Rules.{rules}
use native.Mathlib.Omega.{arith}
use lib.ListN.{length, get_or, set}
use Rattle.arrays.proofs.Turns.{map_to-here, map_to-more, map_to-past, map_to-all}
use Rattle.arrays.proofs.charged.Goals.{then-i-n, else-i-n}
use Rattle.arrays.proofs.charged.Goals as goal

pub overflow_add-c : goal.overflow_add-c
overflow_add-c c =
    let a = c.args in
    let turn = c.loop-i in
    let same = map_to-here (λ (p : ℕ). p + a.price) turn.i a.n a.prices turn.c-items turn.invariant c.if-i-n.true in
    record { fits = rw same (c.requires.1 turn.i) }

pub loop-i-preserved : goal.loop-i-preserved
loop-i-preserved c =
    let a = c.args in
    let turn = c.loop-i in
    let there : turn.i < length a.prices = search rules in
    elim c.if-i-n.branch [
      | then-i-n w ↦
          let e : c.if-i-n.c-items ≡ set turn.c-items turn.i ((λ (p : ℕ). p + a.price) (get_or turn.c-items turn.i 0)) = w.c-items-is in
          e ∙ map_to-more (λ (p : ℕ). p + a.price) turn.i a.n a.prices turn.c-items turn.invariant there w.if-i-n.true
      | else-i-n w ↦
          let e : c.if-i-n.c-items ≡ set turn.c-items turn.i (get_or turn.c-items turn.i 0) = w.c-items-is in
          e ∙ map_to-past (λ (p : ℕ). p + a.price) turn.i a.n a.prices turn.c-items turn.invariant w.if-i-n.false
    ]

pub returns : goal.returns
returns c =
    let a = c.args in
    let turn = c.loop-i in
    map_to-all (λ (p : ℕ). p + a.price) turn.i a.n a.prices turn.c-items turn.invariant (omega arith)
