-- The points of a region: source document 001, definition 3.
-- Assumes nothing.
use Rattle.std.specs.Prelude.{◌≡◌, ◌↔◌, ℕ, ◌<◌, ◌/◌, ◌%◌, length, get_or}
use Rattle.semantics.specs.Region.{PricedRegion}

-- u gives the value of each timer in q-ths of a minute, q any whole number from 1: its integer part is u x / q, its fraction u x % q
-- q-ths. It is a point of the region r if
-- "1. h and u agree on the integer part of each clock in C,
--  2. x ∈ r0 iff frac(u(x)) = 0,
--  3. x, y ∈ ri ⇒ frac(u(x)) = frac(u(y)), and
--  4. x ∈ ri, y ∈ rj and i < j ⇒ frac(u(x)) < frac(u(y))."
pub record Point (q : ℕ) (u : ℕ → ℕ) (r : PricedRegion) : Type 0 where
  pub from_one : 0 < q
  pub integer : (x : ℕ) → x < length r.whole → get_or r.whole x 0 ≡ u x / q
  pub at_zero : (x : ℕ) → x < length r.whole → (get_or r.group x 0 ≡ 0) ↔ (u x % q ≡ 0)
  pub same : (x y : ℕ) → x < length r.whole → y < length r.whole → get_or r.group x 0 ≡ get_or r.group y 0 → u x % q ≡ u y % q
  pub rising : (x y : ℕ) → x < length r.whole → y < length r.whole → get_or r.group x 0 < get_or r.group y 0 → u x % q < u y % q

-- What all points of a region do, whatever their denominator.
abbrev pub AllPoints : PricedRegion → (ℕ → (ℕ → ℕ) → Type 0) → Type 0
AllPoints r Does = (q : ℕ) (u : ℕ → ℕ) → Point q u r → Does q u
