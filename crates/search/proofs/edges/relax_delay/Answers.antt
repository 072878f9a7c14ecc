-- `relax_delay` meets its contract.
-- Assumes nothing.
use Prim.Native.Nat.{◌+◌}
use native.Mathlib.Omega.{arith}
use Rattle.queue.specs.Queue.{RelaxReady}
use Rattle.search.proofs.WaitRelaxing.{drop-ready, drop-done, drop-none, keep-ready, keep-done, new-ready, new-sum, new-done}
use Rattle.search.proofs.edges.relax_delay.Goals.{After-top}
use Rattle.search.proofs.edges.relax_delay.Goals as goal

pub overflow_add-to : goal.overflow_add-to
overflow_add-to c =
    let o = drop-ready c.requires c.if-empty.true c.if-index-gt0.true in
    omega (arith, o.there, o.queue.words.few)

pub relax-requires : goal.relax-requires
relax-requires c =
    drop-ready c.requires c.if-empty.true c.if-index-gt0.true

pub overflow_add-to-else-empty : goal.overflow_add-to-else-empty
overflow_add-to-else-empty c =
    let o = keep-ready c.requires c.if-empty.false in
    omega (arith, o.there, o.queue.words.few)

pub relax-requires-else-empty : goal.relax-requires-else-empty
relax-requires-else-empty c = keep-ready c.requires c.if-empty.false

-- The offer to the new corner, after that to the old one, from the call that finds the last.
offer : (c : After-top)
    → let s = c.args in RelaxReady s.nodes (s.to + c.top.result + 1) (s.rate + s.from.charge) s.from.steps c.relax-else-empty.new.words
offer c = new-ready c.requires c.if-empty.false c.relax-else-empty.ensures c.if-index-eq0.true c.top.result c.top.ensures

pub overflow_add-new : goal.overflow_add-new
overflow_add-new c = let o = offer c in omega (arith, o.there, o.queue.words.few)

pub overflow_add-new-then-index-eq0 : goal.overflow_add-new-then-index-eq0
overflow_add-new-then-index-eq0 c = let o = offer c in omega (arith, o.there, o.queue.words.few)

pub overflow_add-rate : goal.overflow_add-rate
overflow_add-rate c =
    let sum =
    new-sum c.requires c.if-empty.false c.relax-else-empty.ensures c.if-index-eq0.true c.top.result c.top.ensures in
    omega (arith, sum)

pub relax-requires-then-index-eq0 : goal.relax-requires-then-index-eq0
relax-requires-then-index-eq0 c = offer (goal.at.relax-requires-then-index-eq0 c).After-top

pub returns-then-index-gt0 : goal.returns-then-index-gt0
returns-then-index-gt0 c r =
    drop-done r c.if-empty.true c.if-index-gt0.true c.relax.ensures

pub returns-else-index-gt0 : goal.returns-else-index-gt0
returns-else-index-gt0 c r = drop-none r c.if-empty.true (omega (arith, c.if-index-gt0.false))

pub returns-then-index-eq0 : goal.returns-then-index-eq0
returns-then-index-eq0 c r =
    new-done r c.if-empty.false c.relax-else-empty.ensures c.if-index-eq0.true c.top.result c.top.ensures
    c.relax-then-index-eq0.ensures

pub returns-else-index-eq0 : goal.returns-else-index-eq0
returns-else-index-eq0 c r =
    keep-done r c.if-empty.false c.relax-else-empty.ensures (λ q. omega (arith, c.if-index-eq0.false))
