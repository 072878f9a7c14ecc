-- Lists of numbers after a map and after a store: their entries, and a bound of every entry.
-- Assumes nothing.
use Rattle.std.specs.Prelude.{◌≡◌, refl, List, [], ◌∷◌, map, ℕ, zero, suc, ◌<◌, length, get_or, set, replicate}
use Rattle.std.proofs.Common.{ap, le_of_suc-le-suc, not-suc-le-zero, arith}

pub get_or_map : (f : ℕ → ℕ) (l : List ℕ) (i : ℕ) → i < length l → get_or (map f l) i 0 ≡ f (get_or l i 0)
get_or_map f [] i h = absurd (not-suc-le-zero h)
get_or_map f (x ∷ l) zero h = refl
get_or_map f (x ∷ l) (suc i) h = get_or_map f l i (le_of_suc-le-suc h)

pub map-set : (f : ℕ → ℕ) (l : List ℕ) (i v : ℕ) → set (map f l) i (f v) ≡ map f (set l i v)
map-set f [] i v = refl
map-set f (x ∷ l) zero v = refl
map-set f (x ∷ l) (suc i) v = ap (λ (k : List ℕ). f x ∷ k) (map-set f l i v)

-- Every entry of the list after a map is below m; what is read past its end is 0, which is below m too.
pub map_below : (f : ℕ → ℕ) (m : ℕ) → 0 < m → (l : List ℕ) → ((i : ℕ) → i < length l → f (get_or l i 0) < m) → (i : ℕ) → get_or (map f l) i 0 < m
map_below f m p [] h i = p
map_below f m p (x ∷ l) h zero = h 0 (omega arith)
map_below f m p (x ∷ l) h (suc i) = map_below f m p l (λ j b. h (suc j) (omega arith)) i

-- A store of a number below m keeps every entry below m.
pub set_below : (m v : ℕ) → v < m → (l : List ℕ) (i : ℕ) → ((j : ℕ) → get_or l j 0 < m) → (j : ℕ) → get_or (set l i v) j 0 < m
set_below m v p [] i h j = h j
set_below m v p (x ∷ l) zero h zero = p
set_below m v p (x ∷ l) zero h (suc j) = h (suc j)
set_below m v p (x ∷ l) (suc i) h zero = h 0
set_below m v p (x ∷ l) (suc i) h (suc j) = set_below m v p l i (λ k. h (suc k)) j

pub replicate-zero : (n i : ℕ) → ◌≡◌ {A = ℕ} (get_or (replicate n 0) i 0) 0
replicate-zero zero i = refl
replicate-zero (suc n) zero = refl
replicate-zero (suc n) (suc i) = replicate-zero n i
