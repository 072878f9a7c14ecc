-- `words::seed` meets its contract.
-- Assumes nothing.
use mathlib.Core.Path.{sym}
use Prim.Native.Nat.{◌*◌}
use lib.Seq.{length-take-le}
use Rattle.search.proofs.Seeding.{blank-is, seed-ready, seeds}
use Rattle.search.proofs.words.seed.Goals as goal

pub slice_bounds-fill-end-2 : goal.slice_bounds-fill-end-2
slice_bounds-fill-end-2 c = sym (length-take-le (2 * c.args.nodes) c.args.words.now c.requires.room)

-- The words after the fill.
pub lower-requires : goal.lower-requires
lower-requires c =
    seed-ready c.args.nodes c.args.start c.args.words.now c.requires _
    (blank-is c.args.nodes c.args.words.now c.fill.new.self c.requires.room (c.fill.ensures.after (λ y e. e)))

pub returns : goal.returns
returns c =
    seeds c.args.nodes c.args.start c.args.words.now c.requires _ c.lower.new.words
    (blank-is c.args.nodes c.args.words.now c.fill.new.self c.requires.room (c.fill.ensures.after (λ y e. e))) c.lower.ensures
