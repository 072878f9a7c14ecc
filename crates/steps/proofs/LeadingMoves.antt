-- The step of a move from the place at which a walk stands: to which corners it leads, by the image of its resets.
-- Assumes nothing.
use mathlib.Core.Path.{◌≡◌, refl, sym, ap, subst, ◌∙◌}
use mathlib.Core.List.{List}
use mathlib.Core.Option.{some}
use Prim.Native.Nat.{ℕ, ◌+◌, ◌*◌, ◌/◌, ◌%◌, ◌≤◌, ◌<◌}
use native.Mathlib.Omega.{arith}
use lib.ListN.{length}
use Rattle.std.specs.Prelude.{Option}
use Rattle.semantics.specs.Automaton.{Automaton, move_at}
use Rattle.semantics.specs.Region.{PricedRegion, top}
use Rattle.semantics.specs.Corners.Edges.{reset_all_corner}
use Rattle.semantics.specs.Chain.{Place, step}
use Rattle.semantics.specs.Nodes.Node.{node_of, node_number}
use Rattle.semantics.specs.Graph.Path.{Entry}
use Rattle.semantics.specs.Graph.CornerGraph.{number_of}
use Rattle.semantics.specs.Answers.Places.{IsPlace}
use Rattle.semantics.proofs.Answers.Moving.{moved_to, moved-place}
use Rattle.semantics.specs.Answers.Marks.{Led}
use Rattle.semantics.proofs.Answers.Led.{led-move, moved-number}
use Rattle.table.specs.Fields.{most_price}
use Rattle.table.specs.Held.{automaton_of}
use Rattle.table.specs.Theorems.Access.{price-within}
use Rattle.regions.specs.declared.nodes.NodeRegion.{NodeRegion}
use Rattle.regions.specs.Held.{view}
use Rattle.space.specs.declared.Space.{Space}
use Rattle.steps.specs.declared.Stand.{Stand}
use Rattle.steps.specs.declared.Next.{Next}
use Rattle.space.specs.Space.{place_at}
use Rattle.space.specs.Images.{LastAtMost}
use Rattle.steps.specs.Images.{corner_of, Goes, IsImage}
use Rattle.steps.specs.Steps.{Marked, Tells}
use Rattle.steps.specs.Leading.{IsLed, MoveEdges, LedMoveReady, StepReady, Allowed, TriedOne, IsFound}
use Rattle.space.proofs.Settings.{place-row, region-ceilings}
use Rattle.space.proofs.Imaging.{last-corner}
use Rattle.space.proofs.MoveEdges.{mode-block}
use Rattle.steps.proofs.Sets.{marked-few}
use Rattle.steps.proofs.Standing.{stand-proper, stand-corners, stand-among, row_inside, corners-ready, tight-grows, tried-one}

module _ {t : List ℕ} {s : Space} {x : NodeRegion} {z : Stand} {ws : List ℕ} (w : StepReady t s x z ws) (e : ℕ) (allowed : Allowed t z e) where
  abbrev a : Automaton
  a = automaton_of t

  abbrev p : Place
  p = place_at x

  abbrev next : PricedRegion
  next = (moved_to (automaton_of t) e (place_at x)).region

  there : e < length (automaton_of t).moves
  there = allowed.0

  few : e < 64
  few = omega (arith, there, (stand-proper w).few-moves)

  leads : step (automaton_of t) e (place_at x) ≡ some allowed.1.0
  leads = subst (λ (q : Place). step a e q ≡ some allowed.1.0) (sym w.here.place_is) allowed.1.1

  after : IsPlace (automaton_of t) (moved_to (automaton_of t) e (place_at x))
  after = moved-place a (stand-proper w) e there p w.here.corner.place

  corner-is :
      (j i : ℕ) → j ≤ top (view x.region) → LastAtMost next.prices (top next) j i
      → i ≡ reset_all_corner (move_at (automaton_of t) e).resets (view x.region) j
  corner-is j i b last = last-corner (stand-proper w) w.here.corner e there j i b last

  -- The image of its resets.
  module _ {image : ℕ} (is : IsImage s x (move_at (automaton_of t) e).resets image) where
    goes : Goes (moved_to (automaton_of t) e (place_at x)).region (image / 65536)
    goes = is.map

    -- The first node of the target, as code finds it.
    module _ {target : ℕ} (target_is : target ≡ (move_at (automaton_of t) e).target) where
      abbrev to : ℕ
      to = image % 65536 + target * s.block

      number : image % 65536 + target * s.block ≡ number_of (automaton_of t) (moved_to (automaton_of t) e (place_at x)) 0
      number =
          let set = w.ready.setting in
          let cs = region-ceilings set.is-table set.is-space x.region w.here.corner.timers-are in
          ap (λ (n : ℕ). image % 65536 + n * s.block) target_is
          ∙ mode-block set.is-space next (move_at a e).target 0 (is.first ∙ ap (λ (cs : List ℕ). node_number cs (node_of 0 next 0)) cs)

      row : (i : ℕ) → i ≤ top next → number_of a (moved_to a e p) i ≡ to + i
      row = place-row a (moved_to a e p) after to number

      inside : (i : ℕ) → i ≤ top next → to + i < s.nodes
      inside = row_inside w (moved_to a e p) after to number

      pub along-few : image % 65536 + target * s.block < 65536
      along-few = omega (arith, inside 0 (omega arith), w.ready.setting.few)

      small : (move_at (automaton_of t) e).price ≤ most_price
      small = omega (arith, price-within t w.ready.setting.is-table e there)

      -- To which corners it leads.
      module _ {set : ℕ} (led : IsLed z ws to (MoveEdges (image / 65536) (move_at (automaton_of t) e).price 4) set)
          (l : ℕ) (d : ℕ → Entry) (tells : Tells s z ws d) (i : ℕ) where
        moved-led : Marked set i → Led (automaton_of t) l d (place_at x) z.steps (Marked z.set) e allowed.1.0 i
        moved-led m =
            let o = (led.marks i).0 m in
            let j = o.0 in
            let last = subst (LastAtMost next.prices (top next) j) (sym o.2.1) (goes.each j o.2.0) in
            let b = last.within in
            let weight : o.1 ≡ (move_at a e).price = o.2.2 in
            let tight = (tight-grows w d tells j o.3.0 o.1 (omega (arith, weight, small)) (to + i) (inside i b)).0 o.3.1 in
            (led-move a (stand-proper w) l d z.steps w.here.corner.place (Marked z.set) (stand-among w) e leads few i).1
            (j, o.3.0, corner-is j i (stand-corners w j o.3.0) last, rw (weight, ← row i b) at tight)

        led-moved : Led (automaton_of t) l d (place_at x) z.steps (Marked z.set) e allowed.1.0 i → Marked set i
        led-moved m =
            let o = (led-move a (stand-proper w) l d z.steps w.here.corner.place (Marked z.set) (stand-among w) e leads few i).0 m in
            let j = o.0 in
            let low = marked-few z.set j w.ready.sixteen o.1 in
            let last = goes.each j low in
            let same : i ≡ corner_of (image / 65536) j = o.2 ∙ sym (corner-is j (corner_of (image / 65536) j) (stand-corners w j o.1) last) in
            let b : i ≤ top next = omega (arith, same, last.within) in
            (led.marks i).1
            (j, (move_at a e).price, (low, same, refl), (o.1, (tight-grows w d tells j o.1 (move_at a e).price small (to + i) (inside i b)).1 (rw (row i b) at o.3)))

      moved-first : image % 65536 + target * s.block ≡ number_of (automaton_of t) allowed.1.0 0
      moved-first = number ∙ sym (moved-number a p allowed.1.0 e leads few 0)

      module _ {price : ℕ} (price-is : price ≡ (move_at (automaton_of t) e).price) where
        pub led-move-ready : LedMoveReady z ws (image / 65536) (image % 65536 + target * s.block) price
        led-move-ready = record {
          corners = corners-ready w;
          there = λ j h. omega (arith, inside (corner_of (image / 65536) j) (goes.each j h).within, w.ready.words);
          small = omega (arith, price-is, small);
        }

        pub along-tried :
            {set : ℕ} → IsLed z ws (image % 65536 + target * s.block) (MoveEdges (image / 65536) price 4) set → {r : Option Next}
            → IsFound e (image % 65536 + target * s.block) set r → TriedOne t s z ws e r
        along-tried {set} given found =
            let led : IsLed z ws to (MoveEdges (image / 65536) (move_at a e).price 4) set =
            subst (λ (n : ℕ). IsLed z ws to (MoveEdges (image / 65536) n 4) set) price-is given in
            tried-one w e allowed.1.0 leads moved-first led.sixteen (λ l d tells i. (moved-led led l d tells i, led-moved led l d tells i)) found
