-- `search::edges::image_of` meets its contract.
-- Assumes nothing.
use native.Mathlib.Omega.{arith}
use Prim.Native.Nat.{◌+◌, ◌<◌}
use Rattle.space.specs.Laws.Shares.{block_within}
use Rattle.space.proofs.Settings.{place-mode, top_seen, top_below, corner-below}
use Rattle.space.proofs.Imaging.{unmoved-image, moved-gives, moved-first, moved-corner, moved_ready, moved-number}
use Rattle.search.proofs.edges.image_of.Goals.{Start}
use Rattle.search.proofs.edges.image_of.Goals as goal

-- The node is one of the table's, in its own mode.
few : (c : Start) → c.args.at.first + c.args.at.index < 65536
few c =
    let set = c.requires.setting in
    omega (arith, corner-below c.requires.corner c.args.at.index c.requires.corner.inside, set.is-space.nodes-are, set.few)

pub overflow_add-at : goal.overflow_add-at
overflow_add-at c = omega (arith, few (goal.at.overflow_add-at c).Start)

pub in_mode_0-requires : goal.in_mode_0-requires
in_mode_0-requires c =
    let set = c.requires.setting in (
      few (goal.at.in_mode_0-requires c).Start,
      place-mode c.requires.table set.is-table _ c.requires.corner.place,
      omega (arith, block_within c.requires.table set.is-table set.is-space, set.few),
      omega (arith, unmoved-image c.requires c.if-resets-eq0.true),
    )

pub returns-then-resets-eq0 : goal.returns-then-resets-eq0
returns-then-resets-eq0 c =
    omega (arith, c.in_mode_0.ensures, unmoved-image c.requires c.if-resets-eq0.true)

pub prices-requires : goal.prices-requires
prices-requires c = (moved-gives c.requires c.reset_all-moved.ensures).valid

pub top-requires : goal.top-requires
top-requires c = (moved-gives c.requires c.reset_all-moved.ensures).valid

pub last_at_most-corner-requires : goal.last_at_most-corner-requires
last_at_most-corner-requires c =
    let pre = c.requires in
    let is = c.reset_all-moved.ensures in
    (omega (arith, c.top.ensures, top_below _ (moved-gives pre is).valid), moved-first pre is c.prices.ensures)

pub node_of-requires : goal.node_of-requires
node_of-requires c =
    let pre = c.requires in
    let is = c.reset_all-moved.ensures in
    moved_ready pre is _ (omega (arith, top_seen _ (moved-gives pre is).valid, c.top.ensures, c.last_at_most-corner.ensures.within))

pub returns : goal.returns
returns c =
    let pre = c.requires in
    let is = c.reset_all-moved.ensures in
    let prices = c.prices.ensures in
    moved-number pre is _ _ (moved-corner pre is prices _ _ c.top.ensures c.last_at_most-corner.ensures)
    c.node_of.ensures
