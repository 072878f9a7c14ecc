-- `regions::Region::halves` meets its contract.
-- Assumes nothing.
use mathlib.Core.Path.{◌≡◌, ap₂, ◌∙◌}
use mathlib.Core.List.{◌∷◌, []}
use Prim.Native.Nat.{ℕ, ◌+◌, ◌<◌}
use native.Mathlib.Omega.{arith}
use lib.ListN.{get_or}
use Rattle.semantics.specs.Region.{high}
use Rattle.semantics.specs.Regions.Windows.{half}
use Rattle.regions.specs.Held.{view, Valid, HalfRoom}
use Rattle.regions.specs.declared.Region.{Region}
use Rattle.regions.specs.Laws.Fields.{holds, whole-at, group_at}
use Rattle.regions.proofs.Region.halves.Goals as goal

-- A whole part is low enough, and the place is that of the region.
low : (s : Region) → Valid s → HalfRoom (view s) → (i : ℕ) → get_or s.whole i 0 < 127
low s v h i = omega (arith, whole-at s (view s) (holds s v) i, h i)

same : (s : Region) → Valid s → (i r : ℕ) → r ≡ get_or s.whole i 0 + high (get_or s.whole i 0) (get_or s.group i 0) → r ≡ half (view s) i
same s v i r e = e ∙ ap₂ (λ (w g : ℕ). w + high w g) (whole-at s (view s) (holds s v) i) (group_at s (view s) (holds s v) i)

all : (s : Region) → Valid s → (a b c : ℕ)
    → a ≡ get_or s.whole 0 0 + high (get_or s.whole 0 0) (get_or s.group 0 0)
    → b ≡ get_or s.whole 1 0 + high (get_or s.whole 1 0) (get_or s.group 1 0)
    → c ≡ get_or s.whole 2 0 + high (get_or s.whole 2 0) (get_or s.group 2 0)
    → (a ∷ b ∷ c ∷ []) ≡ (half (view s) 0 ∷ half (view s) 1 ∷ half (view s) 2 ∷ [])
all s v a b c x y z = rw (same s v 0 a x, same s v 1 b y, same s v 2 c z)

pub half-requires : goal.half-requires
half-requires c = low c.args.self c.requires.0 c.requires.1 0

pub half-requires-2 : goal.half-requires-2
half-requires-2 c = low c.args.self c.requires.0 c.requires.1 1

pub half-requires-3 : goal.half-requires-3
half-requires-3 c = low c.args.self c.requires.0 c.requires.1 2

pub returns : goal.returns
returns c =
    all c.args.self c.requires.0 c.half.result c.half-2.result c.half-3.result c.half.ensures c.half-2.ensures c.half-3.ensures
