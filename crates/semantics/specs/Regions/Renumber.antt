-- The numbers of the groups after one of them is gone: `wrapped` where the highest becomes r0 (arrive), `lowered` where a group is
-- empty and those above it move down (reset).
-- Assumes nothing.
use Rattle.std.specs.Prelude.{◌≡◌, refl, Bool, true, false, cond, ℕ, suc, pred, ◌<◌, ◌≤◌, eqb, ltb}
use Rattle.std.proofs.Common.{suc-le-suc, arith, ne_eqb, lt-ltb, le-ltb}
use Rattle.std.proofs.Math.Decide.{dec_lt}
use Rattle.std.proofs.lemmas.Bool.{eqb-false}

-- Group k becomes r0.
abbrev pub wrapped : ℕ → ℕ → ℕ
wrapped k g = cond (eqb g k) 0 g

pub wrapped-other : (k g : ℕ) → (g ≡ k → ⊥) → wrapped k g ≡ g
wrapped-other k g n = rw (ne_eqb g k n)

pub wrapped-below : (k g : ℕ) → 0 < k → g ≤ k → wrapped k g < k
wrapped-below k g p h = go (eqb g k) refl
  where
    go : (b : Bool) → eqb g k ≡ b → cond b 0 g < k
    go true e = p
    go false e = let n = eqb-false g k e in omega arith

-- Group i is gone, and the groups above it move down one place.
abbrev pub lowered : ℕ → ℕ → ℕ
lowered i g = cond (ltb i g) (pred g) g

pub lowered-low : (i g : ℕ) → g ≤ i → lowered i g ≡ g
lowered-low i g h = rw (le-ltb i g h)

pub lowered-high : (i g : ℕ) → i ≤ g → lowered i (suc g) ≡ g
lowered-high i g h = rw (lt-ltb i (suc g) (suc-le-suc h))

pub lowered-below : (i g m : ℕ) → (g ≡ i → ⊥) → g ≤ m → i ≤ m → lowered i g < m
lowered-below i g m n h b = go (dec_lt i g)
  where
    go : Dec (i < g) → lowered i g < m
    go (yes p) =
        let r : pred g < m = omega arith in
        rw (lt-ltb i g p) r
    go (no p) =
        let r : g < m = omega arith in
        rw (le-ltb i g (omega arith)) r
