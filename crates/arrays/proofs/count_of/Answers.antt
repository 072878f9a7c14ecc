-- `arrays::count_of` meets its contract. The loop has counted in the groups that it was given so far.
-- Assumes nothing.
use mathlib.Core.Path.{◌≡◌, ap, ◌∙◌}
use Prim.Native.Nat.{◌<◌}
use native.Mathlib.Omega.{arith}
use Rattle.std.proofs.lemmas.Iterator.{YieldsList-from_slice, YieldsList-from_take}
use Rattle.std.proofs.lemmas.Iterator.Consumers.{YieldsList-at, YieldsList-turn, YieldsList-end}
use Rattle.std.proofs.lemmas.List.{length_push, length-take, take_all}
use lib.ListN.{length, get_or, take}
use Rattle.semantics.specs.Region.{count}
use Rattle.arrays.proofs.Counts.{count-hit, count-miss}
use Rattle.arrays.proofs.count_of.Goals.{In-Some}
use Rattle.arrays.proofs.count_of.Goals as goal

-- The group of this turn.
next :
    (c : In-Some)
    → (length c.loop-h.yielded < length (take c.args.n c.args.group))
    × (c.in-Some.h.now ≡ get_or (take c.args.n c.args.group) (length c.loop-h.yielded) c.in-Some.h.now)
next c =
    let a = c.args in
    let turn = c.loop-h in
    YieldsList-turn
    (YieldsList-at c.into_iter-h-iterator.ensures.into_iter_gives
    (YieldsList-from_take a.n (YieldsList-at c.take-h-items.ensures.source (YieldsList-from_slice a.group cc)) cc))
    turn.yielded _ turn.yielded_by _ _ c.in-Some.h c.in-Some.is c.next.ensures.steps

pub overflow_add-found : goal.overflow_add-found
overflow_add-found c =
    let t = next (goal.at.overflow_add-found c).In-Some in
    omega (arith, t.0, length-take c.args.n c.args.group, c.loop-h.invariant)

pub loop-h-preserved-then-h-g : goal.loop-h-preserved-then-h-g
loop-h-preserved-then-h-g c =
    let a = c.args in
    let turn = c.loop-h in
    let t = next (goal.at.loop-h-preserved-then-h-g c).In-Some in
    let n = length_push turn.yielded c.in-Some.h in (
      rw (n, turn.invariant.0) (count-hit a.g (length turn.yielded) c.in-Some.h.now (take a.n a.group) t c.if-h-g.true),
      omega (arith, n, turn.invariant.1),
      tt,
      tt,
    )

pub loop-h-preserved : goal.loop-h-preserved
loop-h-preserved c =
    let a = c.args in
    let turn = c.loop-h in
    let t = next (goal.at.loop-h-preserved c).In-Some in
    let n = length_push turn.yielded c.in-Some.h in (
      rw (n, turn.invariant.0) (count-miss a.g (length turn.yielded) c.in-Some.h.now (take a.n a.group) t c.if-h-g.false),
      omega (arith, n, turn.invariant.1),
      tt,
      tt,
    )

pub returns : goal.returns
returns c =
    let a = c.args in
    let turn = c.loop-h in
    let t = YieldsList-end
    (YieldsList-at c.into_iter-h-iterator.ensures.into_iter_gives
    (YieldsList-from_take a.n (YieldsList-at c.take-h-items.ensures.source (YieldsList-from_slice a.group cc)) cc))
    turn.yielded _ turn.yielded_by _ _ c.in-None.is c.next.ensures.steps
    in
    turn.invariant.0 ∙ ap (count a.g) (take_all (length turn.yielded) (take a.n a.group) (omega (arith, t.1)))
