-- `regions::Region::leave` meets its contract.
-- Assumes nothing.
use Prim.Native.Nat.{ℕ, ◌+◌, ◌<◌, ◌^◌}
use native.Mathlib.Omega.{arith}
use lib.ListN.{get_or}
use Rattle.regions.specs.Held.{view}
use Rattle.regions.specs.Laws.Fields.{holds, top-fewer, price-at, group-few}
use Rattle.regions.proofs.Methods.{zero-some, left_is}
use Rattle.regions.proofs.Region.leave.Goals.{Start}
use Rattle.regions.proofs.Region.leave.Goals as goal

-- There is a place for one price more, and room for the rate.
place : (c : Start) → c.args.self.top < 3
place c =
    let s = c.args.self in
    top-fewer s (view s) (holds s c.requires.0) (zero-some (view s) c.requires.2)

room : (c : Start) → (i : ℕ) → get_or c.args.self.prices i 0 + c.args.rate < 2 ^ 32
room c i =
    let s = c.args.self in
    rw (price-at s (view s) (holds s c.requires.0) i) (c.requires.1 i)

pub overflow_add-self : goal.overflow_add-self
overflow_add-self c = omega (arith, place c)

pub raised-self-requires : goal.raised-self-requires
raised-self-requires c =
    let s = c.args.self in
    let h = holds s c.requires.0 in
    (rw c.from.ensures c.requires.0.few, λ i. omega (arith, group-few s (view s) h i))

pub overflow_add-self-2 : goal.overflow_add-self-2
overflow_add-self-2 c = record { fits = room (goal.at.overflow_add-self-2 c).Start _ }

pub bounds-self-from : goal.bounds-self-from
bounds-self-from c = omega (arith, place (goal.at.bounds-self-from c).Start)

pub returns : goal.returns
returns c =
    let s = c.args.self in
    let h = holds s c.requires.0 in
    rw (c.raised-self.ensures, c.from.ensures, c.from-2.ensures) (left_is s (view s) h c.args.rate c.requires.2)
