-- "A region meets a condition if all its points do": the tests of a region, of conditions and of ceilings, hold exactly where every point
-- of it, whatever its denominator, satisfies them. Every well-formed region has a point.
-- Assumes nothing.
use Rattle.std.specs.Prelude.{◌≡◌, true, ◌↔◌, ℕ, suc, ◌+◌, ◌*◌, ◌/◌, ◌%◌, ◌<◌, ◌≤◌, length, get_or}
use Rattle.std.proofs.Common.{ap, ◌∙◌, sym, mod-eq_of_lt, add-zero, arith}
use mathlib.Core.List.{List, Memᴰ}
use Rattle.std.proofs.Math.Nat.{mul-add-div, div-eq_of_lt, mul-add-mod_self_left}
use Rattle.semantics.specs.Condition.{Condition, Holds}
use Rattle.semantics.specs.Region.{PricedRegion, WellFormed, top, meets, meets_all, within}
use Rattle.semantics.specs.Point.{Point, AllPoints}
use Rattle.semantics.specs.Regions.Lengths.{prices-top}
use Rattle.semantics.proofs.Regions.Meets.{meets-point, meets_all-point, within-point}

-- The point whose denominator is k + 1 and whose fractions are the numbers of the groups.
abbrev pub point_of : PricedRegion → ℕ → ℕ
point_of r x = suc (top r) * get_or r.whole x 0 + get_or r.group x 0

module _ (r : PricedRegion) (wf : WellFormed r) where
  group-small : (x : ℕ) → get_or r.group x 0 < suc (top r)
  group-small x = omega (arith, wf.below x, prices-top r wf.priced)

  point-integer : (x : ℕ) → point_of r x / suc (top r) ≡ get_or r.whole x 0
  point-integer x =
      mul-add-div {m = suc (top r)} (omega arith) (get_or r.whole x 0) (get_or r.group x 0)
      ∙ ap (λ (n : ℕ). get_or r.whole x 0 + n) (div-eq_of_lt (group-small x)) ∙ add-zero (get_or r.whole x 0)

  point-fraction : (x : ℕ) → point_of r x % suc (top r) ≡ get_or r.group x 0
  point-fraction x = mul-add-mod_self_left (suc (top r)) (get_or r.whole x 0) (get_or r.group x 0) ∙ mod-eq_of_lt (group-small x)

  -- Every well-formed region has a point.
  pub region-point : Point (suc (top r)) (point_of r) r
  region-point = record {
    from_one = omega arith;
    integer = λ x h. sym (point-integer x);
    at_zero = λ x h. (λ e. point-fraction x ∙ e, λ e. sym (point-fraction x) ∙ e);
    same = λ x y h l e. point-fraction x ∙ e ∙ sym (point-fraction y);
    rising = λ x y h l e. rw (point-fraction x, point-fraction y) e;
  }

  -- What can be told from any one point can be told from all.
  all-points :
      (Tested : Type 0) (Does : ℕ → (ℕ → ℕ) → Type 0) → ((q : ℕ) (u : ℕ → ℕ) → Point q u r → Tested ↔ Does q u)
      → Tested ↔ AllPoints r Does
  all-points Tested Does one = (
    λ t q u p. (one q u p).0 t,
    λ a. (one (suc (top r)) (point_of r) region-point).1 (a (suc (top r)) (point_of r) region-point),
  )

  -- "A region meets a condition if all its points do".
  pub meets-points : (c : Condition) → c.timer < length r.whole → (meets c r ≡ true) ↔ AllPoints r (λ q u. Holds q c (u c.timer))
  meets-points c h = all-points _ _ (λ q u p. meets-point r q u p c h)

  -- "All conditions hold together."
  pub meets_all-points :
      (cs : List Condition) → ((c : Condition) → Memᴰ c cs → c.timer < length r.whole)
      → (meets_all cs r ≡ true) ↔ AllPoints r (λ q u. (c : Condition) → Memᴰ c cs → Holds q c (u c.timer))
  meets_all-points cs h = all-points _ _ (λ q u p. meets_all-point r q u p cs h)

  -- "each timer must also stay at or below its ceiling".
  pub within-points :
      (ceilings : List ℕ) → length ceilings ≤ length r.whole
      → (within ceilings r ≡ true) ↔ AllPoints r (λ q u. (x : ℕ) → x < length ceilings → u x ≤ q * get_or ceilings x 0)
  within-points ceilings h = all-points _ _ (λ q u p. within-point r q u p ceilings h)
