-- Delay and linger from the place at which a walk stands: to which corners they lead, and when they lead nowhere.
-- Assumes nothing.
use mathlib.Core.Path.{◌≡◌, refl, sym, ap, subst, ◌∙◌}
use mathlib.Core.Bool.{Bool, true, false, cond}
use mathlib.Core.Logic.{◌↔◌, ◌⊎◌, inl, inr}
use mathlib.Core.List.{List}
use mathlib.Core.Option.{some}
use Prim.Native.Nat.{ℕ, ◌+◌, ◌≤◌, ◌<◌}
use native.Mathlib.Omega.{arith}
use lib.Dec.{ltb}
use lib.ListN.{length}
use Rattle.std.specs.Prelude.{Option}
use Rattle.semantics.specs.Automaton.{Automaton, mode_at}
use Rattle.semantics.specs.Region.{PricedRegion, top, no_zero, meets_all, within}
use Rattle.semantics.specs.Chain.{Place, linger_step, step}
use Rattle.semantics.specs.Graph.Path.{Entry}
use Rattle.semantics.specs.Graph.CornerGraph.{number_of}
use Rattle.semantics.specs.Bounds.Prices.{price}
use Rattle.semantics.proofs.Bounds.Stays.{Admits}
use Rattle.semantics.specs.Bounds.Steps.{rate_at}
use Rattle.semantics.proofs.Bounds.Steps.{delayed, step-view, view-step}
use Rattle.semantics.proofs.Bounds.Shapes.{shape-delay, shape-admits}
use Rattle.semantics.specs.Answers.Places.{IsPlace, corner-top}
use Rattle.semantics.specs.Answers.Waiting.{delayed_to}
use Rattle.semantics.proofs.Answers.Waiting.{delay-comes, after, after_same, after-step}
use Rattle.semantics.specs.Answers.Marks.{Grows, Led}
use Rattle.semantics.proofs.Answers.LedWaits.{delayed-number, lingered-number, led-delay, led-linger, led-idle}
use Rattle.table.specs.Fields.{most_price}
use Rattle.table.specs.Held.{automaton_of}
use Rattle.table.specs.Theorems.Access.{rate-within}
use Rattle.regions.specs.declared.Region.{Region}
use Rattle.regions.specs.declared.nodes.NodeRegion.{NodeRegion}
use Rattle.regions.specs.Held.{view, Valid}
use Rattle.space.specs.declared.Space.{Space}
use Rattle.steps.specs.declared.Stand.{Stand}
use Rattle.steps.specs.declared.Next.{Next}
use Rattle.space.specs.Space.{place_at}
use Rattle.steps.specs.Steps.{Marked, Tells}
use Rattle.steps.specs.Leading.{Adds, LedTo, LeadReady, IsLed, DelayEdges, LedDelayReady, StepReady, Silent, TriedOne, IsFound}
use Rattle.space.proofs.Settings.{place-row, top_below, corner-number, corner-below}
use Rattle.steps.proofs.Sets.{none-marked}
use Rattle.steps.proofs.Leads.{weight-small}
use Rattle.steps.proofs.Standing.{stand-proper, stand-among, row_inside, corners-ready, tight-grows, silent-here, tried-one}

module _ {t : List ℕ} {s : Space} {x : NodeRegion} {z : Stand} {ws : List ℕ} (w : StepReady t s x z ws) where
  abbrev a : Automaton
  a = automaton_of t

  abbrev p : Place
  p = place_at x

  abbrev next : PricedRegion
  next = (delayed_to (place_at x)).region

  rate-small : rate_at (automaton_of t) (place_at x) ≤ most_price
  rate-small = omega (arith, rate-within t w.ready.setting.is-table x.mode w.here.corner.place.in-modes)

  -- A delay is allowed only if the region after it meets the conditions and the ceilings.
  step-admits : (y : Place) → step (automaton_of t) 64 (place_at x) ≡ some y → Admits (automaton_of t) x.mode next
  step-admits y f = shape-admits _ _ (after_same a p).region a x.mode (after-step a p (step-view a p y 64 f) refl).0

  pub delay-unmet :
      (meets_all (mode_at (automaton_of t) x.mode).conditions next ≡ true → within (automaton_of t).ceilings next ≡ true → ⊥) → Silent t s z ws 64
  delay-unmet n = silent-here w 64 (λ l d tells y i f led. n (step-admits y f).conditions (step-admits y f).ceilings)

  -- It is.
  module _ (conditions : meets_all (mode_at (automaton_of t) x.mode).conditions next ≡ true) (place : IsPlace (automaton_of t) (delayed_to (place_at x)))
      (ceilings : within (automaton_of t).ceilings next ≡ true) (to : ℕ) (to_is : to ≡ number_of (automaton_of t) (delayed_to (place_at x)) 0) where
    leads : step (automaton_of t) 64 (place_at x) ≡ some (after (automaton_of t) (place_at x))
    leads =
        let t = shape-admits _ _ (shape-delay 0 (rate_at a p) (view x.region)) a x.mode (record { conditions = conditions; ceilings = ceilings }) in
        view-step a p (delayed a p t)

    row : (i : ℕ) → i ≤ top next → number_of a (delayed_to p) i ≡ to + i
    row = place-row a (delayed_to p) place to to_is

    inside : (i : ℕ) → i ≤ top next → to + i < s.nodes
    inside = row_inside w (delayed_to p) place to to_is

    weight : ℕ → ℕ
    weight i = cond (ltb (top (view x.region)) i) (rate_at (automaton_of t) (place_at x)) 0

    small : (i : ℕ) → weight i ≤ most_price
    unfolding weight
    small i = weight-small (ltb (top (view x.region)) i) (rate_at a p) rate-small

    pub led-delay-ready : (delayed : Region) → Valid delayed → view delayed ≡ next → (rate : ℕ) → rate ≡ rate_at (automaton_of t) (place_at x) → LedDelayReady z ws delayed to rate
    led-delay-ready delayed valid seen rate rate-is = record {
      corners = corners-ready w;
      valid = valid;
      comes = λ i b.
          let c = w.here.corner in
          let there : i ≤ top next = rw seen at b in
          let comes = delay-comes p c.place.well-formed c.indexed i there in
          omega (arith, comes, top_below x.region c.valid, ap (λ (r : PricedRegion). price r i) seen);
      there = omega (arith, inside (top next) (omega arith), ap top seen, w.ready.words);
      small = omega (arith, rate-is, rate-small);
    }

    module _ {set : ℕ} (led : IsLed z ws to (DelayEdges next (top (view x.region)) (rate_at (automaton_of t) (place_at x))) set)
        (l : ℕ) (d : ℕ → Entry) (tells : Tells s z ws d) (i : ℕ) where
      delay-led : Marked set i → Led (automaton_of t) l d (place_at x) z.steps (Marked z.set) 64 (after (automaton_of t) (place_at x)) i
      unfolding weight
      delay-led m =
          let o = (led.marks i).0 m in
          let b = o.2.0 in
          let comes : o.0 ≡ price next i = o.2.1 in
          let weighs : o.1 ≡ weight i = o.2.2 in
          let tight = (tight-grows w d tells o.0 o.3.0 o.1 (omega (arith, weighs, small i)) (to + i) (inside i b)).0 o.3.1 in
          (led-delay a (stand-proper w) l d z.steps w.here.corner.place (Marked z.set) (stand-among w) leads w.here.corner.indexed i b).1
          (subst (Marked z.set) comes o.3.0, rw (weighs, comes, ← row i b) at tight)

      led-delayed : Led (automaton_of t) l d (place_at x) z.steps (Marked z.set) 64 (after (automaton_of t) (place_at x)) i → Marked set i
      unfolding weight
      led-delayed m =
          let there : i < length next.prices = rw (after_same a p).region.corners at m.there in
          let b = (corner-top next place.well-formed i).0 there in
          let o =
          (led-delay a (stand-proper w) l d z.steps w.here.corner.place (Marked z.set) (stand-among w) leads w.here.corner.indexed i b).0 m in
          (led.marks i).1 (
            price next i,
            weight i,
            (b, refl, refl),
            (o.0, (tight-grows w d tells (price next i) o.0 (weight i) (small i) (to + i) (inside i b)).1 (rw (row i b) at o.1)),
          )

    pub delay-tried :
        {set : ℕ} → IsLed z ws to (DelayEdges next (top (view x.region)) (rate_at (automaton_of t) (place_at x))) set → {r : Option Next}
        → IsFound 64 to set r → TriedOne t s z ws 64 r
    delay-tried {set} led found =
        tried-one w 64 (after a p) leads (to_is ∙ sym (delayed-number a p (after a p) leads 0)) led.sixteen
        (λ l d tells i. (delay-led led l d tells i, led-delayed led l d tells i)) found

  -- Linger leads nowhere where r0 is not empty,
  pub linger-idle : (no_zero (view x.region) ≡ true → ⊥) → Silent t s z ws 65
  linger-idle n = at (no_zero (view x.region)) refl
    where
      at : (b : Bool) → no_zero (view x.region) ≡ b → Silent t s z ws 65
      at true e = absurd (n e)
      at false e =
          silent-here w 65
          (λ l d tells y i f led. led-idle a (stand-proper w) l d z.steps w.here.corner.place (Marked z.set) (stand-among w) f e i led)

  -- and from corner 0 to the last where it is.
  lingers : (y : Place) × (step (automaton_of t) 65 (place_at x) ≡ some y)
  unfolding step linger_step
  lingers = (_, refl)

  last-inside : x.first + top (view x.region) < s.nodes
  last-inside =
      omega (arith, corner-below w.here.corner (top (view x.region)) (omega arith), w.ready.setting.is-space.nodes-are)

  pub linger-ready :
      (last rate : ℕ) → last ≡ top (view x.region) → rate ≡ rate_at (automaton_of t) (place_at x) → LeadReady ws 0 0 x.first last rate
  linger-ready last rate last-is rate-is = record {
    sixteen = omega arith;
    from-few = omega arith;
    to-few = omega (arith, last-is, top_below x.region w.here.corner.valid);
    there = omega (arith, last-is, last-inside, w.ready.words);
    small = omega (arith, rate-is, rate-small);
  }

  module _ (empty : no_zero (view x.region) ≡ true) {set : ℕ}
      (adds : Adds (LedTo z ws x.first 0 (rate_at (automaton_of t) (place_at x)) (top (view x.region))) 0 (top (view x.region)) set) where
    module _ (l : ℕ) (d : ℕ → Entry) (tells : Tells s z ws d) (i : ℕ) where
      both :
          Led (automaton_of t) l d (place_at x) z.steps (Marked z.set) 65 lingers.0 i
          ↔ ((i ≡ top (view x.region)) × Marked z.set 0
          × Grows d z.steps (rate_at (automaton_of t) (place_at x)) (number_of (automaton_of t) (place_at x) 0) (number_of (automaton_of t) (place_at x) i))
      both = led-linger a (stand-proper w) l d z.steps w.here.corner.place (Marked z.set) (stand-among w) lingers.1 empty i

      number : i ≡ top (view x.region) → number_of (automaton_of t) (place_at x) i ≡ x.first + top (view x.region)
      number e = ap (number_of a p) e ∙ corner-number w.here.corner (top (view x.region)) (omega arith)

      linger-led :
          Marked 0 i ⊎ ((i ≡ top (view x.region)) × LedTo z ws x.first 0 (rate_at (automaton_of t) (place_at x)) (top (view x.region)))
          → Led (automaton_of t) l d (place_at x) z.steps (Marked z.set) 65 lingers.0 i
      linger-led (inl m) = absurd (none-marked i m)
      linger-led (inr o) =
          let tight = (tight-grows w d tells 0 o.1.0 (rate_at a p) rate-small (x.first + top (view x.region)) last-inside).0 o.1.1 in
          both.1 (o.0, o.1.0, rw (number o.0) tight)

      led-lingered : Led (automaton_of t) l d (place_at x) z.steps (Marked z.set) 65 lingers.0 i → Marked set i
      led-lingered m =
          let o = both.0 m in
          let grows = rw (number o.0) at o.2 in
          let tight = (tight-grows w d tells 0 o.1 (rate_at a p) rate-small (x.first + top (view x.region)) last-inside).1 grows in
          (adds.marks i).1 (inr (o.0, (o.1, tight)))

    tried : {r : Option Next} → IsFound 65 x.first set r → TriedOne t s z ws 65 r
    tried =
        tried-one w 65 lingers.0 lingers.1 (w.here.corner.first-is ∙ sym (lingered-number a p lingers.0 lingers.1 0)) adds.sixteen
        (λ l d tells i. (λ m. linger-led l d tells i ((adds.marks i).0 m), led-lingered l d tells i))

  pub linger-tried :
      no_zero (view x.region) ≡ true → (last rate set : ℕ) → last ≡ top (view x.region) → rate ≡ rate_at (automaton_of t) (place_at x)
      → Adds (LedTo z ws x.first 0 rate last) 0 last set → {r : Option Next} → IsFound 65 x.first set r → TriedOne t s z ws 65 r
  linger-tried empty last rate set last-is rate-is adds = tried empty (rw (last-is, rate-is) at adds)
