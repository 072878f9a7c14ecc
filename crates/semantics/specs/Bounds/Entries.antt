-- The whole part and the group of each timer after leave and arrive, and which timers are in r0.
-- Assumes nothing.
use Rattle.std.specs.Prelude.{◌≡◌, refl, List, [], ◌∷◌, eqb, length}
use Rattle.std.proofs.Math.Bool.{cond}
use Prim.Native.Nat.{ℕ, zero, suc, ◌<◌}
use Rattle.std.proofs.Common.{le_of_suc-le-suc, not-suc-le-zero, arith, eq-eqb, ne_eqb}
use Rattle.std.proofs.Math.Decide.{ℕ_discrete}
use Rattle.std.proofs.Math.ListN.{get_or}
use Rattle.semantics.specs.Region.{PricedRegion, WellFormed, count, top, risen, leave, arrive}
use Rattle.semantics.specs.Regions.Lists.{get_or_map}
use Rattle.semantics.specs.Regions.Count.{count-pos}
use Rattle.semantics.specs.Regions.Renumber.{wrapped}

get_or-risen :
    (k : ℕ) (gs ws : List ℕ) (x : ℕ) → length gs ≡ length ws → x < length ws
    → get_or (risen k gs ws) x 0 ≡ cond (eqb (get_or gs x 0) k) (suc (get_or ws x 0)) (get_or ws x 0)
get_or-risen k [] [] x e h = absurd (not-suc-le-zero h)
get_or-risen k [] (w ∷ ws) x e h = absurd (omega arith)
get_or-risen k (g ∷ gs) [] x e h = absurd (not-suc-le-zero h)
get_or-risen k (g ∷ gs) (w ∷ ws) zero e h = refl
get_or-risen k (g ∷ gs) (w ∷ ws) (suc x) e h = get_or-risen k gs ws x (omega arith) (le_of_suc-le-suc h)

-- Timer x after arrive: it was in the highest group, or not.
pub data Arrived (r : PricedRegion) (x : ℕ) : Type 0 where
  on :
      get_or r.group x 0 ≡ top r → get_or (arrive r).group x 0 ≡ 0 → get_or (arrive r).whole x 0 ≡ suc (get_or r.whole x 0) → Arrived r x
  off :
      (get_or r.group x 0 ≡ top r → ⊥) → get_or (arrive r).group x 0 ≡ get_or r.group x 0
      → get_or (arrive r).whole x 0 ≡ get_or r.whole x 0 → Arrived r x

module _ (r : PricedRegion) (w : WellFormed r) (x : ℕ) (h : x < length r.whole) where
  group-there : x < length r.group
  group-there = omega (arith, w.paired)

  -- Where r0 is empty, every timer is in a higher group.
  pub raised : count 0 r.group ≡ 0 → 0 < get_or r.group x 0
  raised z = go (get_or r.group x 0) refl
    where
      go : (g : ℕ) → get_or r.group x 0 ≡ g → 0 < g
      go zero e = absurd (omega (arith, count-pos 0 x r.group group-there e))
      go (suc g) e = omega arith

  pub leave-group : (rate : ℕ) → get_or (leave rate r).group x 0 ≡ suc (get_or r.group x 0)
  unfolding leave
  leave-group rate = get_or_map suc r.group x group-there

  pub arrived : Arrived r x
  unfolding arrive
  arrived = go (ℕ_discrete (get_or r.group x 0) (top r))
    where
      whole : get_or (arrive r).whole x 0 ≡ cond (eqb (get_or r.group x 0) (top r)) (suc (get_or r.whole x 0)) (get_or r.whole x 0)
      whole = get_or-risen (top r) r.group r.whole x w.paired h

      group : get_or (arrive r).group x 0 ≡ wrapped (top r) (get_or r.group x 0)
      group = get_or_map (wrapped (top r)) r.group x group-there

      go : Dec (get_or r.group x 0 ≡ top r) → Arrived r x
      go (yes e) = on e (rw (eq-eqb _ _ e) at group) (rw (eq-eqb _ _ e) at whole)
      go (no n) = off n (rw (ne_eqb _ _ n) at group) (rw (ne_eqb _ _ n) at whole)
