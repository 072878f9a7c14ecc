-- `regions::Region::linger` meets its contract.
-- Assumes nothing.
use mathlib.Core.Path.{sym, ◌∙◌}
use Prim.Native.Nat.{ℕ, ◌+◌, ◌<◌, ◌^◌}
use native.Mathlib.Omega.{arith}
use lib.ListN.{get_or}
use Rattle.regions.specs.Held.{view}
use Rattle.regions.specs.Laws.Fields.{holds, top-few, price-at}
use Rattle.regions.proofs.Methods.{lingered-is, unlingered-is}
use Rattle.regions.proofs.Region.linger.Goals.{Start}
use Rattle.regions.proofs.Region.linger.Goals as goal

-- The highest price is in the array, and there is room for the rate.
top_in : (c : Start) → c.args.self.top < 4
top_in c =
    let s = c.args.self in
    omega (arith, top-few s (view s) (holds s c.requires.0))

room : (c : Start) → (i : ℕ) → get_or c.args.self.prices i 0 + c.args.rate < 2 ^ 32
room c i =
    let s = c.args.self in
    rw (price-at s (view s) (holds s c.requires.0) i) (c.requires.1 i)

pub bounds-self-top : goal.bounds-self-top
bounds-self-top c = omega (arith, top_in (goal.at.bounds-self-top c).Start)

pub overflow_add-self : goal.overflow_add-self
overflow_add-self c = record { fits = room (goal.at.overflow_add-self c).Start _ }

pub bounds-self-top-then-no_zero : goal.bounds-self-top-then-no_zero
bounds-self-top-then-no_zero c = omega (arith, top_in (goal.at.bounds-self-top-then-no_zero c).Start)

pub returns-then-no_zero : goal.returns-then-no_zero
returns-then-no_zero c =
    let s = c.args.self in
    let h = holds s c.requires.0 in
    rw (c.min.ensures, c.from-top.ensures) (lingered-is s (view s) h c.args.rate (sym c.no_zero.ensures ∙ c.if-no_zero.true))

pub returns-else-no_zero : goal.returns-else-no_zero
returns-else-no_zero c =
    let s = c.args.self in
    let h = holds s c.requires.0 in
    unlingered-is s (view s) h c.args.rate (sym c.no_zero.ensures ∙ c.if-no_zero.false)
