-- The region to which the resets of a move lead, and the node of mode 0 to which they lead from a corner.
-- Assumes nothing.
use mathlib.Core.Path.{◌≡◌, sym, ap, ap₂, ◌∙◌}
use mathlib.Core.List.{List}
use Prim.Native.Nat.{ℕ, ◌+◌, ◌*◌, ◌%◌, ◌≤◌, ◌<◌}
use native.Mathlib.Omega.{arith}
use lib.ListN.{length, get_or, take}
use Rattle.semantics.specs.Automata.Proper.{Proper}
use Rattle.semantics.specs.Automaton.{Automaton, timers, move_at}
use Rattle.semantics.specs.Region.{PricedRegion, top, reset_all}
use Rattle.semantics.specs.Nodes.Node.{node_of, node_number}
use Rattle.semantics.specs.Chain.{Place}
use Rattle.semantics.specs.Graph.CornerGraph.{number_of}
use Rattle.semantics.specs.Corners.Edges.{reset_all_corner}
use Rattle.semantics.specs.Bounds.Prices.{price}
use Rattle.semantics.proofs.Bounds.Moved.{moved-to}
use Rattle.semantics.specs.Answers.Places.{IsPlace}
use Rattle.semantics.proofs.Answers.Moving.{moved_to, moved-place, last-price, first-price}
use Rattle.table.specs.Meaning.{named_timers}
use Rattle.table.specs.Held.{automaton_of, fields_of, move_fields_at, pad}
use Rattle.regions.specs.declared.Region.{Region}
use Rattle.regions.specs.declared.nodes.NodeRegion.{NodeRegion}
use Rattle.regions.specs.Held.{most_corners, pack, view, Valid}
use Rattle.regions.specs.Nodes.{most_modes, CeilingsFew, Padded}
use Rattle.regions.specs.Laws.Chain.{Gives, reset_all-gives}
use Rattle.rules.specs.Rules.{none}
use Rattle.rules.proofs.Joining.{move-resets}
use Rattle.space.specs.declared.Space.{Space}
use Rattle.space.specs.Space.{Setting, place_at, IsCorner}
use Rattle.space.specs.Moves.{OpenMove}
use Rattle.space.specs.Images.{LastAtMost, image_of, ImageReady}
use Rattle.space.specs.Laws.Shares.{some-modes}
use Rattle.space.specs.Laws.Images.{low_bits}
use Rattle.space.proofs.Settings.{padded-at, place-below, region-ceilings, node-ready, corner-number, setting-proper}
use Rattle.space.proofs.MoveEdges.{mode-block}

-- Which place is the last at which stands at most the bound goes by what is read.
pub last-like :
    (l k : List ℕ) {last last' bound r : ℕ} → ((i : ℕ) → get_or l i 0 ≡ get_or k i 0) → last ≡ last' → LastAtMost l last bound r
    → LastAtMost k last' bound r
last-like l k {last} {last'} {bound} {r} same e x = record {
  within = omega (arith, x.within);
  at_most = omega (arith, x.at_most, same r);
  above = λ i h b. omega (arith, x.above i h (omega arith), same i);
}

-- The resets of a move lead from corner j to the last one whose price after them is at most j.
pub last-corner :
    {t : List ℕ} {z : NodeRegion} → Proper (automaton_of t) → IsCorner t z → (e : ℕ) → e < length (automaton_of t).moves
    → (j k : ℕ) → j ≤ top (view z.region)
    → LastAtMost (moved_to (automaton_of t) e (place_at z)).region.prices (top (moved_to (automaton_of t) e (place_at z)).region) j k
    → k ≡ reset_all_corner (move_at (automaton_of t) e).resets (view z.region) j
last-corner {t} {z} ok c e there j k b last =
    last-price (automaton_of t) ok e there (place_at z) c.place c.indexed j k b last.within last.at_most last.above

-- What is asked for the image of a move that is not passed over.
abbrev pub move-image :
    {t rs hs : List ℕ} {s : Space} {z : NodeRegion} {mode e byte : ℕ} → Setting t rs s → IsCorner t z → OpenMove t rs hs mode e → e < none
    → byte ≡ (move_fields_at (fields_of t) e).resets → ImageReady s z byte
move-image {t} {rs} {e = e} set k o some byte-is =
    record { table = t; rules = rs; setting = set; corner = k; move = e; there = o.there some; byte-is = byte-is }

module _ {s : Space} {z : NodeRegion} {byte : ℕ} (i : ImageReady s z byte) where
  abbrev a : Automaton
  a = automaton_of i.table

  abbrev r : PricedRegion
  r = view z.region

  ok : Proper (automaton_of i.table)
  ok = setting-proper i.setting

  -- The resets of the byte are those of the move.
  resets-are : named_timers byte ≡ (move_at (automaton_of i.table) i.move).resets
  resets-are = move-resets i.table i.move byte i.byte-is

  -- The struct that `reset_all` gives.
  module _ {m : Region} (is : m ≡ pack (reset_all (named_timers byte) (view z.region))) where
    pub moved-gives : Gives z.region.timers m (reset_all (named_timers byte) (view z.region))
    moved-gives = reset_all-gives z.region m i.corner.valid (named_timers byte) is

    pub moved-timers : m.timers ≡ timers (automaton_of i.table)
    moved-timers = moved-gives.timers ∙ i.corner.timers-are

    pub moved-seen : view m ≡ (moved_to (automaton_of i.table) i.move (place_at z)).region
    moved-seen = moved-gives.seen ∙ ap (λ (xs : List ℕ). reset_all xs (view z.region)) resets-are

    -- What `node_of` asks of it, in mode 0.
    pub moved_ready :
        (index : ℕ) → index ≤ m.top
        → Valid m × (index ≤ m.top) × (0 < most_modes) × CeilingsFew s.ceilings × Padded m.timers s.ceilings
    moved_ready index inside =
        node-ready i.setting.is-table i.setting.is-space m moved-timers 0 index moved-gives.valid inside (omega arith)

    module _ {ps : List ℕ} (prices-are : ps ≡ pad most_corners (view m).prices) where
      price-at : (k : ℕ) → get_or ps k 0 ≡ price (moved_to (automaton_of i.table) i.move (place_at z)).region k
      price-at k = padded-at most_corners (view m).prices prices-are k ∙ ap (λ (q : PricedRegion). price q k) moved-seen

      pub moved-first : get_or ps 0 0 ≡ 0
      moved-first = price-at 0 ∙ first-price a ok i.move i.there (place_at z) i.corner.place i.corner.indexed

      -- The last price that is at most the index stands at the corner to which the node's own goes.
      pub moved-corner :
          (last k : ℕ) → last ≡ top (view m) → LastAtMost ps last z.index k → k ≡ reset_all_corner (named_timers byte) (view z.region) z.index
      moved-corner last k last-is most =
          last-corner ok i.corner i.move i.there z.index k i.corner.inside
          (last-like ps (moved_to a i.move (place_at z)).region.prices price-at (last-is ∙ ap top moved-seen) most)
          ∙ ap (λ (xs : List ℕ). reset_all_corner xs (view z.region) z.index) (sym resets-are)

    -- So the number of that corner is the image.
    pub moved-number :
        (k v : ℕ) → k ≡ reset_all_corner (named_timers byte) (view z.region) z.index
        → v ≡ node_number (take m.timers s.ceilings) (node_of 0 (view m) k) → v ≡ image_of s z (named_timers byte)
    unfolding image_of
    moved-number k v is number = number ∙ rw (moved-gives.seen, is, moved-gives.timers)

  -- The corners of the region after the resets are nodes in mode 0 too.
  pub moved-few :
      (k : ℕ) → k ≤ top (moved_to (automaton_of i.table) i.move (place_at z)).region
      → number_of (automaton_of i.table) (record { mode = 0; region = (moved_to (automaton_of i.table) i.move (place_at z)).region }) k < 65535
  moved-few k h =
      let moved = moved-place a ok i.move i.there (place_at z) i.corner.place in
      let q : Place = record { mode = 0; region = (moved_to a i.move (place_at z)).region } in
      let place : IsPlace a q = record {
        well-formed = moved.well-formed;
        cell = moved.cell;
        in-modes = some-modes i.table i.setting.is-table;
      } in
      omega (arith, place-below a q place k h, i.setting.few, i.setting.is-space.nodes-are)

  -- The image in the table's terms.
  pub image-number :
      image_of s z (named_timers byte)
      ≡ node_number (automaton_of i.table).ceilings
      (node_of 0 (moved_to (automaton_of i.table) i.move (place_at z)).region
      (reset_all_corner (move_at (automaton_of i.table) i.move).resets (view z.region) z.index))
  unfolding image_of
  image-number =
      ap₂
      (λ (cs xs : List ℕ). node_number cs (node_of 0 (reset_all xs (view z.region)) (reset_all_corner xs (view z.region) z.index)))
      (region-ceilings i.setting.is-table i.setting.is-space z.region i.corner.timers-are) resets-are

  pub image-few : image_of s z (named_timers byte) < 65535
  image-few =
      let there = (moved-to a ok i.move r i.corner.place.well-formed i.corner.place.cell.sized).there z.index i.corner.inside in
      omega (arith, image-number, moved-few _ there)

  -- Where no timer is reset the image is the node's own corner, in mode 0.
  pub unmoved-image : byte % 8 ≡ 0 → z.first + z.index ≡ image_of s z (named_timers byte) + z.mode * s.block
  unfolding image_of view reset_all reset_all_corner
  unmoved-image none =
      let cs = region-ceilings i.setting.is-table i.setting.is-space z.region i.corner.timers-are in
      let names : named_timers byte ≡ named_timers 0 = sym (low_bits byte) ∙ ap named_timers none in
      let own : image_of s z (named_timers byte) ≡ node_number (automaton_of i.table).ceilings (node_of 0 r z.index) =
      ap (image_of s z) names ∙ ap (λ (c : List ℕ). node_number c (node_of 0 r z.index)) cs in
      sym (mode-block i.setting.is-space r z.mode z.index own ∙ corner-number i.corner z.index i.corner.inside)
