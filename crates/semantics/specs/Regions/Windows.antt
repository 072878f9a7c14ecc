-- Conditions as windows: in half minutes a timer of a region stands at one place, and the conditions on it are a lowest place and one that is
-- not reached.
-- Assumes nothing.
use Rattle.std.specs.Prelude.{◌≡◌, refl, true, ◌↔◌, List, [], ℕ, ◌+◌, ◌*◌, ◌≤◌, ◌<◌, get_or}
use Rattle.std.proofs.Common.{arith}
use Rattle.semantics.specs.Condition.{Comparison, less, at_most, equal, at_least, greater, Condition}
use Rattle.semantics.specs.Region.{PricedRegion, high, meets_all}

-- Where timer x of a region stands, in half minutes: at an even place on a whole minute, at an odd one between two.
abbrev pub half : PricedRegion → ℕ → ℕ
half r x = get_or r.whole x 0 + high (get_or r.whole x 0) (get_or r.group x 0)

-- No timer stands so far on.
abbrev pub free : ℕ
free = 255

-- The lowest place at which a comparison with v holds, and the first above it at which it does not.
abbrev pub lowest : Comparison → ℕ → ℕ
lowest less v = 0
lowest at_most v = 0
lowest equal v = 2 * v
lowest at_least v = 2 * v
lowest greater v = 2 * v + 1

abbrev pub above : Comparison → ℕ → ℕ
above less v = 2 * v
above at_most v = 2 * v + 1
above equal v = 2 * v + 1
above at_least v = free
above greater v = free

-- Windows for all timers: low and high give for each the lowest place, and the first above it that is outside.
abbrev pub InWindows : (ℕ → ℕ) → (ℕ → ℕ) → PricedRegion → Type 0
InWindows low high r = (x : ℕ) → (low x ≤ half r x) × (half r x < high x)

-- They are those of the conditions.
abbrev pub AreWindows : (ℕ → ℕ) → (ℕ → ℕ) → List Condition → Type 0
AreWindows low high cs = (r : PricedRegion) → ((x : ℕ) → half r x < free) → (meets_all cs r ≡ true) ↔ InWindows low high r

-- With no condition every place is inside.
pub windows-none : AreWindows (λ x. 0) (λ x. free) []
windows-none r f = (λ t x. (omega arith, f x), λ i. refl)
