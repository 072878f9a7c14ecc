-- `regions::Region::reset_alone` meets its contract.
-- Assumes nothing.
use Prim.Native.Nat.{◌<◌, ◌≤◌}
use native.Mathlib.Omega.{arith}
use lib.ListN.{get_or}
use Rattle.regions.specs.Held.{view}
use Rattle.regions.specs.Laws.Fields.{holds, top-few, group-top}
use Rattle.regions.proofs.Methods.{alone-pos, reset-alone-is}
use Rattle.regions.proofs.Region.reset_alone.Goals.{Start}
use Rattle.regions.proofs.Region.reset_alone.Goals as goal

-- The group that is gone is one of 1 to k.
gone : (c : Start) → (0 < get_or c.args.self.group c.args.timer 0)
    × (get_or c.args.self.group c.args.timer 0 ≤ c.args.self.top)
    × (c.args.self.top ≤ 3)
gone c =
    let s = c.args.self in
    let h = holds s c.requires.0 in
    let x = c.args.timer in
    (alone-pos s (view s) h x c.requires.2, group-top s (view s) h x, top-few s (view s) h)

pub overflow_sub-self : goal.overflow_sub-self
overflow_sub-self c = omega (arith, gone (goal.at.overflow_sub-self c).Start)

pub merged-self-requires : goal.merged-self-requires
merged-self-requires c = omega (arith, gone (goal.at.merged-self-requires c).Start)

pub overflow_sub-self-2 : goal.overflow_sub-self-2
overflow_sub-self-2 c = omega (arith, gone (goal.at.overflow_sub-self-2 c).Start)

pub returns : goal.returns
returns c =
    let s = c.args.self in
    let h = holds s c.requires.0 in
    rw (c.all_lowered-self.ensures, c.merged-self.ensures, c.from.ensures) (reset-alone-is s (view s) h c.args.timer c.requires.2)
