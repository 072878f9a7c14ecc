-- A new block comes in (`raised`) and a block that is empty is gone (`lowered`): each undoes the other.
-- Assumes nothing.
use Rattle.std.specs.Prelude.{◌≡◌, refl, Bool, true, false, cond, List, [], ◌∷◌, map, ℕ, suc, pred, ◌<◌, ◌≤◌, eqb}
use Rattle.std.proofs.Common.{ap₂, arith, le-leb, lt-ltb, le-ltb}
use Rattle.std.proofs.Math.Decide.{dec_lt}
use Rattle.std.proofs.lemmas.Bool.{eqb-false, lt-leb}
use Rattle.semantics.specs.Region.{count}
use Rattle.semantics.specs.Corners.Corner.{raised}
use Rattle.semantics.specs.Regions.Count.{count-map-none}
use Rattle.semantics.specs.Regions.Renumber.{lowered}

pub raised-low : (x y : ℕ) → y < x → raised x y ≡ y
raised-low x y h = rw (lt-leb x y h)

pub raised-high : (x y : ℕ) → x ≤ y → raised x y ≡ suc y
raised-high x y h = rw (le-leb x y h)

pub raised_below : (x y b : ℕ) → y < b → raised x y < suc b
raised_below x y b h = go (dec_lt y x)
  where
    go : Dec (y < x) → raised x y < suc b
    go (yes p) = omega (arith, raised-low x y p)
    go (no p) = omega (arith, raised-high x y (omega arith))

raised-other : (x y : ℕ) → raised x y ≡ x → ⊥
raised-other x y e = go (dec_lt y x)
  where
    go : Dec (y < x) → ⊥
    go (yes p) = omega (arith, raised-low x y p)
    go (no p) = omega (arith, raised-high x y (omega arith))

-- No timer is in the new block yet.
pub count-raised : (x : ℕ) (g : List ℕ) → count x (map (raised x) g) ≡ 0
count-raised x g = count-map-none (raised x) x (raised-other x) g

lowered-raised : (x y : ℕ) → lowered x (raised x y) ≡ y
lowered-raised x y = go (dec_lt y x)
  where
    go : Dec (y < x) → lowered x (raised x y) ≡ y
    go (yes p) = rw (raised-low x y p, le-ltb x y (omega arith)) refl
    go (no p) = rw (raised-high x y (omega arith), lt-ltb x (suc y) (omega arith)) refl

pub lower-raise : (x : ℕ) (g : List ℕ) → map (lowered x) (map (raised x) g) ≡ g
lower-raise x [] = refl
lower-raise x (y ∷ g) = ap₂ (λ (a : ℕ) (l : List ℕ). a ∷ l) (lowered-raised x y) (lower-raise x g)

raised-lowered : (x y : ℕ) → (y ≡ x → ⊥) → raised x (lowered x y) ≡ y
raised-lowered x y n = go (dec_lt x y)
  where
    go : Dec (x < y) → raised x (lowered x y) ≡ y
    go (yes p) =
        let e : suc (pred y) ≡ y = omega arith in
        rw (lt-ltb x y p, le-leb x (pred y) (omega arith)) e
    go (no p) = rw (le-ltb x y (omega arith), lt-leb x y (omega arith)) refl

-- Block x is empty, so that taking it out and putting it in again changes nothing.
pub raise-lower : (x : ℕ) (g : List ℕ) → count x g ≡ 0 → map (raised x) (map (lowered x) g) ≡ g
raise-lower x [] z = refl
raise-lower x (y ∷ g) z = go (raise-lower x g) (eqb y x) refl z
  where
    go :
        (count x g ≡ 0 → map (raised x) (map (lowered x) g) ≡ g) → (b : Bool) → eqb y x ≡ b → cond b (suc (count x g)) (count x g) ≡ 0
        → raised x (lowered x y) ∷ map (raised x) (map (lowered x) g) ≡ y ∷ g
    go ih true e z = absurd (omega arith)
    go ih false e z = ap₂ (λ (a : ℕ) (l : List ℕ). a ∷ l) (raised-lowered x y (eqb-false y x e)) (ih z)
