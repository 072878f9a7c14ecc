-- The delay of the region of a struct at the rate 0, as `Region::delay` gives it: where it leads, and by which tests it is allowed.
-- Assumes nothing.
use mathlib.Core.Path.{◌≡◌, ap, ◌∙◌}
use mathlib.Core.Bool.{true}
use mathlib.Core.Logic.{◌↔◌}
use mathlib.Core.List.{List}
use Prim.Native.Nat.{ℕ, ◌+◌, ◌≤◌, ◌<◌, ◌^◌}
use native.Mathlib.Decide.{dec_lt}
use native.Mathlib.Omega.{arith}
use lib.ListN.{get_or, take, get_or-eq_default}
use Rattle.semantics.specs.Automaton.{Automaton, timers, mode_at}
use Rattle.semantics.specs.Region.{PricedRegion, top, no_zero, delay, meets_all, within}
use Rattle.semantics.specs.Chain.{Place}
use Rattle.semantics.specs.Nodes.Node.{node_of, node_number}
use Rattle.semantics.specs.Graph.CornerGraph.{number_of}
use Rattle.semantics.specs.Regions.Lengths.{delay-timers}
use Rattle.semantics.proofs.Regions.WellFormed.{delay-well-formed}
use Rattle.semantics.specs.Regions.Windows.{half}
use Rattle.semantics.specs.Answers.Places.{IsPlace}
use Rattle.semantics.specs.Answers.Waiting.{delayed_to}
use Rattle.semantics.proofs.Answers.WaitingNodes.{empty-fewer, delayed-place}
use Rattle.table.specs.Held.{automaton_of}
use Rattle.rules.specs.Rules.{InRow}
use Rattle.rules.specs.Laws.Windows.{mode-window}
use Rattle.regions.specs.declared.Region.{Region}
use Rattle.regions.specs.declared.nodes.NodeRegion.{NodeRegion}
use Rattle.regions.specs.Held.{pack, view, Valid, PriceRoom, WholeRoom, HalfRoom}
use Rattle.regions.specs.Nodes.{most_modes, CeilingsFew, Padded}
use Rattle.regions.specs.Laws.Chain.{Gives, delay-gives}
use Rattle.regions.specs.Laws.Fields.{holds, prices-many}
use Rattle.space.specs.declared.Space.{Space}
use Rattle.space.specs.Space.{Setting, IsCorner, place_at}
use Rattle.space.proofs.Settings.{room-halves, halves-behind, place-mode, place-whole-room, delayed-half-room, halves_of, halves-at, top_seen, top_below, node-ready, region-number, setting-proper}

module _ {t rs : List ℕ} {s : Space} {x : NodeRegion} (setting : Setting t rs s) (k : IsCorner t x) where
  abbrev a : Automaton
  a = automaton_of t

  abbrev p : Place
  p = place_at x

  -- The prices are indices, and the whole parts at most the ceilings.
  price-room : PriceRoom 0 (view x.region)
  price-room i = at (dec_lt x.region.top i)
    where
      at : Dec (x.region.top < i) → get_or (view x.region).prices i 0 + 0 < 2 ^ 32
      at (yes past) =
          let many = prices-many x.region (view x.region) (holds x.region k.valid) in
          omega (arith, get_or-eq_default (view x.region).prices 0 {n = i} (omega arith))
      at (no there) =
          omega (arith, k.indexed i (omega (arith, top_seen x.region k.valid)), top_seen x.region k.valid, top_below x.region k.valid)

  -- What `delay` asks.
  pub delay-ready : Valid x.region × PriceRoom 0 (view x.region) × WholeRoom (view x.region)
  delay-ready = (k.valid, price-room, place-whole-room t setting.is-table p k.place)

  module _ (delayed : Region) (made : delayed ≡ pack (delay 0 (view x.region))) where
    gives : Gives x.region.timers delayed (delay 0 (view x.region))
    gives = delay-gives x.region delayed k.valid 0 made

    pub delayed-valid : Valid delayed
    delayed-valid = gives.valid

    pub delayed-seen : view delayed ≡ (delayed_to (place_at x)).region
    delayed-seen = gives.seen

    timers-are : delayed.timers ≡ timers (automaton_of t)
    timers-are = gives.timers ∙ k.timers-are

    -- r0 is empty just if the delay takes a corner away.
    pub delayed-fewer : (no_zero (view x.region) ≡ true) ↔ (top (view delayed) < top (view x.region))
    delayed-fewer = rw delayed-seen (empty-fewer (view x.region) k.place.well-formed)

    -- The node of its corner 0, by `node_of`.
    pub delayed-ready :
        Valid delayed × (0 ≤ delayed.top) × (x.mode < most_modes) × CeilingsFew s.ceilings × Padded delayed.timers s.ceilings
    delayed-ready =
        node-ready setting.is-table setting.is-space delayed timers-are x.mode 0 delayed-valid (omega arith)
        (place-mode t setting.is-table p k.place)

    pub delayed-number :
        node_number (take delayed.timers s.ceilings) (node_of x.mode (view delayed) 0) ≡ number_of (automaton_of t) (delayed_to (place_at x)) 0
    delayed-number =
        region-number setting.is-table setting.is-space delayed timers-are x.mode 0
        ∙ ap (λ (r : PricedRegion). number_of a (record { mode = x.mode; region = r }) 0) delayed-seen

    -- The test of the mode's conditions and of the ceilings, by the places in half minutes.
    pub halves-ready : Valid delayed × HalfRoom (view delayed)
    halves-ready = (delayed-valid, rw delayed-seen (delayed-half-room t setting.is-table p k.place))

    behind : (i : ℕ) → timers (automaton_of t) ≤ i → half (delayed_to (place_at x)).region i ≡ 0
    behind i l =
        let sized = (delay-timers (view x.region) 0).whole ∙ k.place.cell.sized in
        halves-behind (delay 0 (view x.region)) (delay-well-formed (view x.region) k.place.well-formed 0) i (omega arith)

    pub delayed-allowed :
        (hs : List ℕ) → hs ≡ halves_of (view delayed)
        → InRow rs x.mode hs
        ↔ ((meets_all (mode_at (automaton_of t) x.mode).conditions (delayed_to (place_at x)).region ≡ true)
        × (within (automaton_of t).ceilings (delayed_to (place_at x)).region ≡ true))
    delayed-allowed hs are =
        mode-window t rs setting.is-table setting.is-rules x.mode k.place.in-modes (delayed_to p).region
        (room-halves (delayed_to p).region (delayed-half-room t setting.is-table p k.place)) behind hs
        (λ i h. ap (λ (l : List ℕ). get_or l i 0) are ∙ halves-at (view delayed) i h ∙ ap (λ (r : PricedRegion). half r i) delayed-seen)

    pub delayed-is-place : within (automaton_of t).ceilings (delayed_to (place_at x)).region ≡ true → IsPlace (automaton_of t) (delayed_to (place_at x))
    delayed-is-place inside = delayed-place a (setting-proper setting) p k.place inside
