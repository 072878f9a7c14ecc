-- `regions::Region::arrive` meets its contract.
-- Assumes nothing.
use Rattle.regions.specs.Held.{view}
use Rattle.regions.specs.Laws.Fields.{holds, whole-at, top_above}
use Rattle.regions.proofs.Methods.{zero-none, arrived-is}
use Rattle.regions.proofs.Region.arrive.Goals as goal

pub all_risen-requires : goal.all_risen-requires
all_risen-requires c =
    let s = c.args.self in
    let h = holds s c.requires.0 in
    λ i. rw (whole-at s (view s) h i) (c.requires.1 i)

pub overflow_sub-result : goal.overflow_sub-result
overflow_sub-result c =
    let s = c.args.self in
    let h = holds s c.requires.0 in
    top_above s (view s) h (zero-none (view s) c.requires.2)

pub returns : goal.returns
returns c =
    let s = c.args.self in
    let h = holds s c.requires.0 in
    rw (c.all_risen.ensures, c.all_wrapped.ensures, c.shifted.ensures)
    (arrived-is s (view s) h c.requires.2)
