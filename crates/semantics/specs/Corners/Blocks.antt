-- Lists of block numbers in which each number below the number of blocks stands: one more timer, and one fewer.
-- Assumes nothing.
use Rattle.std.specs.Prelude.{◌≡◌, refl, ℕ, zero, suc, pred, ◌<◌, ◌≤◌, length, get_or}
use Rattle.std.proofs.Common.{subst, subst₂, le_of_suc-le-suc, arith, eq-eqb}
use mathlib.Core.List.Memᴰ
use mathlib.Core.List.{List, ◌∷◌, map, Memᴰ}
use Rattle.std.proofs.Math.Decide.{dec_lt, ℕ_discrete}
use Rattle.std.proofs.lemmas.List.{length-map}
use Rattle.semantics.specs.Region.{count}
use Rattle.semantics.specs.Answer.{count_from}
use Rattle.semantics.specs.Corners.Corner.{WeakOrder, raised, joining, opening, extended}
use Rattle.semantics.specs.Regions.Lists.{get_or_map}
use Rattle.semantics.specs.Regions.Count.{count-pos, count-place, count_map, count-other}
use Rattle.semantics.specs.Regions.Renumber.{lowered, lowered-low, lowered-high, lowered-below}
use Rattle.semantics.specs.Corners.Lists.{mem_below}
use Rattle.semantics.specs.Corners.Raise.{raised-low, raised-high, raised_below, raise-lower}

-- The numbers in g are those below b.
pub record Blocks (b : ℕ) (g : List ℕ) : Type 0 where
  pub below : (i : ℕ) → i < length g → get_or g i 0 < b
  pub full : (x : ℕ) → x < b → 0 < count x g

pub blocks-unique : (a b : ℕ) (g : List ℕ) → Blocks a g → Blocks b g → a ≡ b
blocks-unique a b g c d = go (dec_lt a b) (dec_lt b a)
  where
    within : (m x : ℕ) → Blocks m g → 0 < count x g → x < m
    within m x e h = let o = count-place x g h in subst (λ (y : ℕ). y < m) o.2 (e.below o.0 o.1)

    go : Dec (a < b) → Dec (b < a) → a ≡ b
    go (yes p) q = absurd (omega (arith, within a a c (d.full a p)))
    go (no p) (yes q) = absurd (omega (arith, within b b d (c.full b q)))
    go (no p) (no q) = omega arith

module _ (b x : ℕ) (g : List ℕ) (c : Blocks b g) where
  pub blocks-joining : x < b → Blocks b (x ∷ g)
  blocks-joining h = record { below = below; full = λ y p. full y (ℕ_discrete x y) (c.full y p) }
    where
      below : (i : ℕ) → i < suc (length g) → get_or (x ∷ g) i 0 < b
      below zero p = h
      below (suc i) p = c.below i (omega arith)

      full : (y : ℕ) → Dec (x ≡ y) → 0 < count y g → 0 < count y (x ∷ g)
      full y (yes e) p = rw (eq-eqb x y e) (omega arith)
      full y (no n) p = rw (count-other x y g n) p

  pub blocks-opening : x < suc b → Blocks (suc b) (x ∷ map (raised x) g)
  blocks-opening h = record { below = below; full = λ y p. full y p (ℕ_discrete x y) (dec_lt y x) }
    where
      below : (i : ℕ) → i < suc (length (map (raised x) g)) → get_or (x ∷ map (raised x) g) i 0 < suc b
      below zero p = h
      below (suc i) p =
          let k : i < length g = rw (length-map g (raised x)) at (le_of_suc-le-suc p) in
          rw (get_or_map (raised x) g i k) (raised_below x (get_or g i 0) b (c.below i k))

      full : (y : ℕ) → y < suc b → Dec (x ≡ y) → Dec (y < x) → 0 < count y (x ∷ map (raised x) g)
      full y p (yes e) d = rw (eq-eqb x y e) (omega arith)
      full y p (no n) (yes l) =
          rw (count-other x y (map (raised x) g) n) (omega (arith, count_map (raised x) y y (raised-low x y l) g, c.full y (omega arith)))
      full zero p (no n) (no l) = absurd (omega arith)
      full (suc y) p (no n) (no l) =
          rw (count-other x (suc y) (map (raised x) g) n)
          (omega (arith, count_map (raised x) y (suc y) (raised-high x y (omega arith)) g, c.full y (omega arith)))

-- A weak order without its first timer.
pub record Removed (b x : ℕ) (g : List ℕ) : Type 0 where
  pub left : WeakOrder
  pub good : Blocks left.blocks left.block
  pub size : length left.block ≡ length g
  pub made : Memᴰ (record { blocks = b; block = x ∷ g }) (extended left)

module _ (b x : ℕ) (g : List ℕ) (c : Blocks b (x ∷ g)) where
  x-in : x < b
  x-in = c.below 0 (omega arith)

  -- It had joined a block.
  removed-joined : 0 < count x g → Removed b x g
  removed-joined p =
      let w : WeakOrder = record { blocks = b; block = g } in
      record {
        left = w;
        good = record { below = λ i h. c.below (suc i) (omega arith); full = full };
        size = refl;
        made = Memᴰ.append_left (map (opening w) (count_from 0 (suc b))) (Memᴰ.map (joining w) (mem_below b x x-in));
      }
    where
      full : (y : ℕ) → y < b → 0 < count y g
      full y h = go (ℕ_discrete x y)
        where
          go : Dec (x ≡ y) → 0 < count y g
          go (yes e) = rw e at p
          go (no n) = rw (count-other x y g n) at (c.full y h)

  -- It was alone in its block, which is gone.
  removed-alone : count x g ≡ 0 → Removed b x g
  removed-alone z =
      let w : WeakOrder = record { blocks = pred b; block = map (lowered x) g } in
      let e : suc (pred b) ≡ b = omega (arith, x-in) in
      record {
        left = w;
        good = record { below = below; full = full };
        size = length-map g (lowered x);
        made =
            subst₂ (λ (m : ℕ) (l : List ℕ). Memᴰ (record { blocks = m; block = x ∷ l }) (extended w)) e (raise-lower x g z)
            (Memᴰ.append_right (map (joining w) (count_from 0 (pred b))) (Memᴰ.map (opening w) (mem_below (suc (pred b)) x (rw e x-in))));
      }
    where
      below : (i : ℕ) → i < length (map (lowered x) g) → get_or (map (lowered x) g) i 0 < pred b
      below i h =
          let k : i < length g = rw (length-map g (lowered x)) at h in
          let n : (get_or g i 0 ≡ x → ⊥) = λ e. omega (arith, count-pos x i g k e) in
          let h : get_or g i 0 ≤ pred b = omega (arith, c.below (suc i) (omega arith)) in
          rw (get_or_map (lowered x) g i k) (lowered-below x (get_or g i 0) (pred b) n h (omega (arith, x-in)))

      full : (y : ℕ) → y < pred b → 0 < count y (map (lowered x) g)
      full y h = go (dec_lt y x)
        where
          go : Dec (y < x) → 0 < count y (map (lowered x) g)
          go (yes p) =
              let m = count_map (lowered x) y y (lowered-low x y (omega arith)) g in
              omega (arith, count-other x y g (λ e. omega arith), c.full y (omega arith))
          go (no p) =
              let m = count_map (lowered x) (suc y) y (lowered-high x y (omega arith)) g in
              omega (arith, count-other x (suc y) g (λ e. omega arith), c.full (suc y) (omega arith))

  pub removed : Removed b x g
  removed = go (dec_lt 0 (count x g))
    where
      go : Dec (0 < count x g) → Removed b x g
      go (yes p) = removed-joined p
      go (no p) = removed-alone (omega arith)
