-- The region after a move: it is well-formed and has the same timers, its points are those before with the reset timers at 0, and it meets the
-- ceilings, which the step of a move does not test, since resets only lower values.
-- Assumes nothing.
use Rattle.std.specs.Prelude.{◌≡◌, refl, Bool, true, false, cond, ℕ, suc, ◌<◌, ◌≤◌, length}
use Rattle.std.proofs.Common.{◌∙◌, le_refl, arith}
use mathlib.Core.List.{List, Memᴰ}
use Rattle.semantics.specs.Automata.Proper.{Proper}
use Rattle.semantics.specs.Automaton.{Automaton, timers, mode_at, move_at}
use Rattle.semantics.specs.Region.{PricedRegion, WellFormed, top, reset_all, meets_all}
use Rattle.semantics.specs.Run.{among, zeroed, BelowCeilings}
use Rattle.semantics.specs.Corners.Edges.{reset_all_corner}
use Rattle.semantics.specs.Regions.Lengths.{reset_all-timers, charge-timers}
use Rattle.semantics.proofs.Regions.WellFormed.{reset_all-well-formed, charge-well-formed}
use Rattle.semantics.proofs.Regions.Points.{point_of}
use Rattle.semantics.proofs.Bounds.Inside.{Inside, inside-own, inside-shape}
use Rattle.semantics.proofs.Bounds.Reset.{ResetTo}
use Rattle.semantics.proofs.Bounds.Resets.{resets-to, inside-resets}
use Rattle.semantics.proofs.Bounds.Stays.{Admits, resets-in, ceilings-at}
use Rattle.semantics.proofs.Bounds.Steps.{moved_by}
use Rattle.semantics.proofs.Bounds.Shapes.{shape-top, shape-charge}
use Rattle.semantics.proofs.Bounds.Sides.{Sides, sides-resets}

-- Timers that are reset are only lowered.
zeroed-below : (xs : List ℕ) (v : ℕ → ℕ) (x : ℕ) → zeroed xs v x ≤ v x
zeroed-below xs v x = go (among x xs)
  where
    go : (b : Bool) → cond b 0 (v x) ≤ v x
    go true = omega arith
    go false = le_refl _

module _ (a : Automaton) (ok : Proper a) (e : ℕ) (r : PricedRegion) (w : WellFormed r) (sized : length r.whole ≡ timers a) where
  resets-there : (x : ℕ) → Memᴰ x (move_at a e).resets → x < length r.whole
  resets-there x m = rw sized (resets-in a ok e x m)

  pub reset-well-formed : WellFormed (reset_all (move_at a e).resets r)
  reset-well-formed = reset_all-well-formed (move_at a e).resets r w resets-there

  pub moved-well-formed : WellFormed (moved_by a e r)
  moved-well-formed = charge-well-formed _ reset-well-formed (move_at a e).price

  pub moved-sized : length (moved_by a e r).whole ≡ timers a
  moved-sized = (charge-timers _ (move_at a e).price).whole ∙ (reset_all-timers (move_at a e).resets r).whole ∙ sized

  -- How its groups and corners came from those before.
  pub moved-to : ResetTo (λ x. among x (move_at a e).resets) r (reset_all (move_at a e).resets r) (reset_all_corner (move_at a e).resets r)
  moved-to = resets-to (move_at a e).resets r w resets-there

  -- A point before is, with the reset timers at 0, a point after.
  pub moved_inside :
      (q : ℕ) (v f v' : ℕ → ℕ) → ((x : ℕ) → v' x ≡ zeroed (move_at a e).resets v x) → Inside q v f r
      → Inside q v' (λ i. f (moved-to.old i)) (moved_by a e r)
  moved_inside q v f v' h p =
      inside-shape q v' _ _ _ (shape-charge (move_at a e).price _) (inside-resets _ r _ _ moved-to q v f v' h p)

  -- It has as many corners as after the resets, and its groups are up at a corner exactly if they were before.
  pub moved-top : top (reset_all (move_at a e).resets r) ≡ top (moved_by a e r)
  moved-top = shape-top _ _ (shape-charge (move_at a e).price (reset_all (move_at a e).resets r))

  pub moved-sides :
      (j : ℕ) → j ≤ top r → (Down Up : ℕ → Type 0) → Sides (top r) j Down Up
      → Sides (top (moved_by a e r)) (reset_all_corner (move_at a e).resets r j) (λ i. Down (moved-to.old i)) (λ i. Up (moved-to.old i))
  moved-sides j h Down Up p =
      let s = sides-resets _ _ _ _ moved-to j h Down Up p in
      record {
        down = λ i l k. s.down i (omega (arith, moved-top)) (omega (arith, moved-top));
        up = λ i l k. s.up i (omega (arith, moved-top)) (omega (arith, moved-top));
      }

  -- The target's conditions are tested; the ceilings hold as they did before, since timers are only lowered.
  pub moved-admits :
      (l : ℕ) → Admits a l r → meets_all (mode_at a (move_at a e).target).conditions (moved_by a e r) ≡ true
      → Admits a (move_at a e).target (moved_by a e r)
  moved-admits l t m = record { conditions = m; ceilings = (ceilings-at a ok (moved_by a e r) moved-well-formed moved-sized q v' _ p').1 below }
    where
      q : ℕ
      q = suc (top r)

      v : ℕ → ℕ
      v = point_of r

      v' : ℕ → ℕ
      v' = zeroed (move_at a e).resets v

      p' : Inside q v' moved-to.old (moved_by a e r)
      p' = moved_inside q v (λ i. i) v' (λ x. refl) (inside-own r w)

      below : BelowCeilings q a.ceilings v'
      below x h = omega (arith, zeroed-below (move_at a e).resets v x, (ceilings-at a ok r w sized q v _ (inside-own r w)).0 t.ceilings x h)
