-- The test of a delay of a walk, and what was found of it.
-- Assumes nothing.
use mathlib.Core.Path.{◌≡◌, ◌∙◌}
use mathlib.Core.Bool.{Bool, true, false}
use mathlib.Core.Logic.{◌↔◌}
use mathlib.Core.List.{List}
use Prim.Native.Nat.{ℕ}
use lib.ListN.{take}
use Rattle.std.specs.Prelude.{Option}
use Rattle.semantics.specs.Automaton.{mode_at}
use Rattle.semantics.specs.Region.{top, delay, meets_all, within}
use Rattle.semantics.specs.Nodes.Node.{node_of, node_number}
use Rattle.semantics.specs.Answers.Waiting.{delayed_to}
use Rattle.table.specs.Held.{automaton_of}
use Rattle.rules.specs.Rules.{InRow}
use Rattle.regions.specs.declared.Region.{Region}
use Rattle.regions.specs.declared.nodes.NodeRegion.{NodeRegion}
use Rattle.regions.specs.Held.{pack, view, Valid, HalfRoom}
use Rattle.space.specs.declared.Space.{Space}
use Rattle.steps.specs.declared.Stand.{Stand}
use Rattle.steps.specs.declared.Next.{Next}
use Rattle.space.specs.Space.{Setting, IsCorner, place_at}
use Rattle.steps.specs.Leading.{IsLed, DelayEdges, LedDelayReady, StepReady, Silent, TriedOne, IsFound}
use Rattle.space.proofs.Settings.{halves_of}
use Rattle.steps.proofs.Sets.{refused}
use Rattle.space.proofs.Delayed.{delayed-valid, delayed-seen, delayed-is-place, halves-ready, delayed-allowed, delayed-number}
use Rattle.steps.proofs.LeadingWaits.{delay-unmet, led-delay-ready, delay-tried}

module _ {t : List ℕ} {s : Space} {x : NodeRegion} {z : Stand} {ws : List ℕ} (w : StepReady t s x z ws) {rs : List ℕ} (setting : Setting t rs s)
    (delayed : Region) (made : delayed ≡ pack (delay 0 (view x.region))) where
  corner : IsCorner t x
  corner = w.here.corner

  pub halves-asked : Valid delayed × HalfRoom (view delayed)
  halves-asked = halves-ready setting corner delayed made

  module _ {hs : List ℕ} (are : hs ≡ halves_of (view delayed))
      {met : Bool} (tested : (met ≡ true) ↔ InRow rs x.mode hs) where
    window :
        InRow rs x.mode hs
        ↔ ((meets_all (mode_at (automaton_of t) x.mode).conditions (delayed_to (place_at x)).region ≡ true)
        × (within (automaton_of t).ceilings (delayed_to (place_at x)).region ≡ true))
    window = delayed-allowed setting corner delayed made hs are

    -- Some condition of the mode would not be met, or some timer would be above its ceiling.
    pub delay-shut : met ≡ false → Silent t s z ws 64
    delay-shut e = delay-unmet w (λ conditions ceilings. refused tested e (window.1 (conditions, ceilings)))

    -- It is allowed.
    module _ (opens : met ≡ true) (to : ℕ) (to_is : to ≡ node_number (take delayed.timers s.ceilings) (node_of x.mode (view delayed) 0))
        (rate : ℕ) (rate-is : rate ≡ (mode_at (automaton_of t) x.mode).rate) where
      conditions : meets_all (mode_at (automaton_of t) x.mode).conditions (delayed_to (place_at x)).region ≡ true
      conditions = (window.0 (tested.0 opens)).0

      ceilings : within (automaton_of t).ceilings (delayed_to (place_at x)).region ≡ true
      ceilings = (window.0 (tested.0 opens)).1

      pub led-asked : LedDelayReady z ws delayed to rate
      led-asked =
          led-delay-ready w conditions (delayed-is-place setting corner delayed made ceilings) ceilings to
          (to_is ∙ delayed-number setting corner delayed made) delayed (delayed-valid setting corner delayed made)
          (delayed-seen setting corner delayed made) rate rate-is

      pub tried-delay :
          (k : ℕ) → k ≡ top (view x.region) → {set : ℕ} → IsLed z ws to (DelayEdges (view delayed) k rate) set → {r : Option Next}
          → IsFound 64 to set r → TriedOne t s z ws 64 r
      tried-delay k k-is led =
          delay-tried w conditions (delayed-is-place setting corner delayed made ceilings) ceilings to
          (to_is ∙ delayed-number setting corner delayed made)
          (rw (delayed-seen setting corner delayed made, k-is, rate-is) at led)
