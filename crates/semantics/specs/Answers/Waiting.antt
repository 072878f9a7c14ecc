-- What a delay makes of a place, and regions whose prices are the indices of their corners: prices then say from which corner each comes.
-- Assumes nothing.
use Rattle.std.specs.Prelude.{◌≡◌, ℕ, ◌≤◌}
use Rattle.semantics.specs.Region.{PricedRegion, top, delay}
use Rattle.semantics.specs.Chain.{Place}
use Rattle.semantics.specs.Bounds.Prices.{price}

-- The place after a delay, at the rate 0: prices then say from which corner each comes, and steps and edges do not go by the prices.
abbrev pub delayed_to : Place → Place
delayed_to p = record { mode = p.mode; region = delay 0 p.region }

-- The prices of a region are the indices of its corners.
abbrev pub Indexed : PricedRegion → Type 0
Indexed r = (j : ℕ) → j ≤ top r → price r j ≡ j
