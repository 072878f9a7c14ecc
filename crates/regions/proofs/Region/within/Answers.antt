-- `regions::Region::within` meets its contract. The ceilings from the present timer on decide.
-- Assumes nothing.
use mathlib.Core.Path.{◌≡◌, ◌∙◌, sym}
use mathlib.Core.Bool.{true}
use Prim.Native.Nat.{suc, ◌≤◌, ◌<◌}
use native.Mathlib.Omega.{arith}
use borrow.Author.Rules.{rules}
use lib.ListN.{length, take}
use Rattle.semantics.specs.Region.{within}
use Rattle.regions.specs.Held.{view}
use Rattle.regions.proofs.Ceilings.{passed, failed, done, all_left}
use Rattle.regions.proofs.Region.within.Goals.{At-loop-timer, Start}
use Rattle.regions.proofs.Region.within.Goals as goal

-- There is a ceiling for each timer.
many : (c : Start) → c.args.self.timers < suc (length c.args.ceilings)
many c =
    let three : length c.args.ceilings ≡ 3 = search rules in
    omega (arith, c.requires.few)

-- The loop ends at the last of them.
all-within : (c : At-loop-timer) → c.from-n.result ≤ c.loop-timer.timer
    → true ≡ within (take c.args.self.timers c.args.ceilings) (view c.args.self)
all-within c past =
    let s = c.args.self in
    let cs = c.args.ceilings in
    sym (done s.timers cs s.whole s.group (many c.before.before) c.loop-timer.timer (omega arith)) ∙ c.loop-timer.invariant.1 ∙ all_left s c.requires cs

pub returns-then-n-timer : goal.returns-then-n-timer
returns-then-n-timer c = all-within (goal.at.returns-then-n-timer c).At-loop-timer c.if-n-timer.true

pub returns-then-not-at_most : goal.returns-then-not-at_most
returns-then-not-at_most c =
    let s = c.args.self in
    let cs = c.args.ceilings in
    let e = sym c.at_most.ensures ∙ c.if-not-at_most.true in
    sym (failed s.timers cs s.whole s.group (many (goal.at.returns-then-not-at_most c).Start) c.loop-timer.timer (omega arith) e)
    ∙ c.loop-timer.invariant.1
    ∙ all_left s c.requires cs

pub loop-timer-preserved : goal.loop-timer-preserved
loop-timer-preserved c =
    let s = c.args.self in
    let e = sym c.at_most.ensures ∙ c.if-not-at_most.false in
    let step = passed s.timers c.args.ceilings s.whole s.group (many (goal.at.loop-timer-preserved c).Start) c.loop-timer.timer (omega arith) e in
    (omega arith, step ∙ c.loop-timer.invariant.1)

pub returns : goal.returns
returns c = all-within (goal.at.returns c).At-loop-timer (omega (arith, c.requires.few))
