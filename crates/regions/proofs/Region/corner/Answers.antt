-- `regions::Region::corner` meets its contract.
-- Assumes nothing.
use Prim.Native.Nat.{ℕ, ◌+◌, ◌≤◌}
use mathlib.Core.Path.{ap, ◌∙◌}
use native.Mathlib.Omega.{arith}
use lib.ListN.{get_or}
use Rattle.corners.specs.Tables.{first_at}
use Rattle.regions.specs.Held.{view}
use Rattle.regions.specs.Laws.Fields.{holds, timers-is, group-few}
use Rattle.regions.proofs.Numbers.{number_is}
use Rattle.regions.proofs.Region.corner.Goals.{Start}
use Rattle.regions.proofs.Region.corner.Goals as goal

-- Timers and groups are few, so that the place is in the table.
few : (c : Start) → let s = c.args.self in
    (s.timers ≤ 3) × (get_or s.group 0 0 ≤ 3) × (get_or s.group 1 0 ≤ 3) × (get_or s.group 2 0 ≤ 3)
few c =
    let s = c.args.self in
    let at = group-few s (view s) (holds s c.requires.0) in
    (c.requires.0.few, at 0, at 1, at 2)

pub overflow_sub-place : goal.overflow_sub-place
overflow_sub-place c =
    let s = c.args.self in
    omega (arith, timers-is s (view s) (holds s c.requires.0), c.requires.0.well_formed.some)

pub overflow_add-place : goal.overflow_add-place
overflow_add-place c = omega (arith, few (goal.at.overflow_add-place c).Start)

pub overflow_mul-place : goal.overflow_mul-place
overflow_mul-place c = omega (arith, few (goal.at.overflow_mul-place c).Start)

pub overflow_mul-place-2 : goal.overflow_mul-place-2
overflow_mul-place-2 c = omega (arith, few (goal.at.overflow_mul-place-2 c).Start)

pub overflow_add-place-2 : goal.overflow_add-place-2
overflow_add-place-2 c = omega (arith, few (goal.at.overflow_add-place-2 c).Start)

pub overflow_add-place-3 : goal.overflow_add-place-3
overflow_add-place-3 c = omega (arith, few (goal.at.overflow_add-place-3 c).Start)

pub first_corner-requires : goal.first_corner-requires
first_corner-requires c = omega (arith, few (goal.at.first_corner-requires c).Start)

pub returns : goal.returns
returns c =
    let s = c.args.self in
    ap (λ (k : ℕ). k + c.args.index) (c.from-2.ensures ∙ c.first_corner.ensures ∙ ap first_at c.from.ensures)
    ∙ number_is s (view s) (holds s c.requires.0) c.args.index c.requires.1
