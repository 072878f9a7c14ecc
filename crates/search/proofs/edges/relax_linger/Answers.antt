-- `relax_linger` meets its contract.
-- Assumes nothing.
use mathlib.Core.Path.{sym, ◌∙◌}
use mathlib.Core.Bool.{true≢false}
use Prim.Native.Nat.{◌+◌}
use native.Mathlib.Omega.{arith}
use Rattle.queue.specs.Queue.{RelaxReady}
use Rattle.search.proofs.WaitRelaxing.{linger-ready, linger-sum, linger-done, linger-none}
use Rattle.search.proofs.edges.relax_linger.Goals.{After-top}
use Rattle.search.proofs.edges.relax_linger.Goals as goal

-- The offer, from the call that finds the last corner.
offer : (c : After-top)
    → let s = c.args in RelaxReady s.nodes (s.from.at.first + c.top.result) (s.rate + s.from.charge) s.from.steps s.words.now
offer c = linger-ready c.requires c.if-empty.true c.if-at-eq0.true c.top.result c.top.ensures

pub overflow_add-last : goal.overflow_add-last
overflow_add-last c = let o = offer (goal.at.overflow_add-last c).After-top in omega (arith, o.there, o.queue.words.few)

pub overflow_add-rate : goal.overflow_add-rate
overflow_add-rate c =
    let sum = linger-sum c.requires c.if-empty.true c.if-at-eq0.true c.top.result c.top.ensures in
    omega (arith, sum)

pub relax-requires : goal.relax-requires
relax-requires c = offer (goal.at.relax-requires c).After-top

pub returns-then-at-eq0 : goal.returns-then-at-eq0
returns-then-at-eq0 c r =
    linger-done r c.if-empty.true c.if-at-eq0.true c.top.result c.top.ensures c.relax.ensures

pub returns-else-at-eq0 : goal.returns-else-at-eq0
returns-else-at-eq0 c r = linger-none r (λ _ first. omega (arith, c.if-at-eq0.false))

pub returns-else-empty : goal.returns-else-empty
returns-else-empty c r = linger-none r (λ yes _. true≢false (sym yes ∙ c.if-empty.false))
