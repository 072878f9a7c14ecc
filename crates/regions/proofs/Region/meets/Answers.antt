-- `regions::Region::meets` meets its contract.
-- Assumes nothing.
use mathlib.Core.Path.{ap₂, ◌∙◌}
use Prim.Native.Nat.{ℕ, ◌/◌, ◌%◌}
use Rattle.semantics.specs.Region.{meets_at, meets}
use Rattle.table.specs.Meaning.{comparison_of}
use Rattle.regions.specs.Held.{view}
use Rattle.regions.specs.Laws.Fields.{holds, whole-at, group_at}
use Rattle.regions.proofs.Region.meets.Goals as goal

pub returns : goal.returns
unfolding meets
returns c =
    let s = c.args.self in
    let h = holds s c.requires.0 in
    let x = c.args.timer in
    let b = c.args.condition in
    c.meets_at.ensures
    ∙ ap₂ (λ (w g : ℕ). meets_at (comparison_of (b / 16)) (b % 16) w g) (whole-at s (view s) h x) (group_at s (view s) h x)
