-- The numbers of groups and corners where group g of groups 0 to k goes: what each group that is left was before, and what each corner
-- becomes. A group i is up at corner j, taken one minute up, if k < i + j; what is left is up exactly if it was up before.
-- Assumes nothing.
use Rattle.std.specs.Prelude.{◌≡◌, refl, cond, ℕ, suc, pred, ◌+◌, ◌-◌, ◌<◌, ◌≤◌, ltb}
use Rattle.std.proofs.Math.Decide.{dec_lt}
use Rattle.std.proofs.Common.{arith, lt-ltb, le-ltb}
use Rattle.semantics.specs.Regions.Renumber.{lowered}

-- Group g is gone: those from it on were one place higher.
abbrev pub skip : ℕ → ℕ → ℕ
skip g i = cond (ltb i g) i (suc i)

-- The two cases of it.
data Skip (g i : ℕ) : Type 0 where
  low : i < g → skip g i ≡ i → Skip g i
  high : g ≤ i → skip g i ≡ suc i → Skip g i

skip-cases : (g i : ℕ) → Skip g i
skip-cases g i = go (dec_lt i g)
  where
    go : Dec (i < g) → Skip g i
    go (yes h) = low h (rw (lt-ltb i g h))
    go (no h) = high (omega arith) (rw (le-ltb i g (omega arith)))

pub skip-rising : (g i j : ℕ) → i < j → skip g i < skip g j
skip-rising g i j h = go (skip-cases g i) (skip-cases g j)
  where
    go : Skip g i → Skip g j → skip g i < skip g j
    go (low a e) (low b e') = omega arith
    go (low a e) (high b e') = omega arith
    go (high a e) (low b e') = omega arith
    go (high a e) (high b e') = omega arith

pub skip-lowered : (g h : ℕ) → (h ≡ g → ⊥) → skip g (lowered g h) ≡ h
skip-lowered g h n = go (dec_lt g h)
  where
    go : Dec (g < h) → skip g (lowered g h) ≡ h
    go (yes l) =
        let e : suc (pred h) ≡ h = omega arith in
        rw (lt-ltb g h l, le-ltb (pred h) g (omega arith)) e
    go (no l) = rw (le-ltb g h (omega arith), lt-ltb h g (omega arith)) refl

-- Corner j of a region with highest group k, where group g goes: it goes down by one if the group is up at it.
abbrev pub fallen : ℕ → ℕ → ℕ → ℕ
fallen k g j = cond (ltb (k - g) j) (pred j) j

pub data Fall (k g j : ℕ) : Type 0 where
  falls : k < g + j → fallen k g j ≡ pred j → Fall k g j
  stays : g + j ≤ k → fallen k g j ≡ j → Fall k g j

module _ (k g : ℕ) (pos : 0 < g) (b : g ≤ k) where
  pub fall-up : (j : ℕ) → k < g + j → fallen k g j ≡ pred j
  fall-up j h = rw (lt-ltb (k - g) j (omega arith))

  pub fall-down : (j : ℕ) → g + j ≤ k → fallen k g j ≡ j
  fall-down j h = rw (le-ltb (k - g) j (omega arith))

  pub fall-cases : (j : ℕ) → Fall k g j
  fall-cases j = go (dec_lt k (g + j))
    where
      go : Dec (k < g + j) → Fall k g j
      go (yes h) = falls h (fall-up j h)
      go (no h) = stays (omega arith) (fall-down j (omega arith))

  pub fallen-there : (j : ℕ) → j ≤ k → fallen k g j ≤ pred k
  fallen-there j h = go (fall-cases j)
    where
      go : Fall k g j → fallen k g j ≤ pred k
      go (falls u e) = omega arith
      go (stays u e) = omega arith

  pub fallen-down : (i j : ℕ) → i + fallen k g j ≤ pred k → skip g i + j ≤ k
  fallen-down i j h = go (fall-cases j) (skip-cases g i)
    where
      go : Fall k g j → Skip g i → skip g i + j ≤ k
      go (falls u e) (low l m) = omega arith
      go (falls u e) (high l m) = omega arith
      go (stays u e) (low l m) = omega arith
      go (stays u e) (high l m) = omega arith

  pub fallen-up : (i j : ℕ) → pred k < i + fallen k g j → k < skip g i + j
  fallen-up i j h = go (fall-cases j) (skip-cases g i)
    where
      go : Fall k g j → Skip g i → k < skip g i + j
      go (falls u e) (low l m) = omega arith
      go (falls u e) (high l m) = omega arith
      go (stays u e) (low l m) = omega arith
      go (stays u e) (high l m) = omega arith

  pub skip-bounded : (i : ℕ) → i ≤ pred k → skip g i ≤ k
  skip-bounded i h = go (skip-cases g i)
    where
      go : Skip g i → skip g i ≤ k
      go (low l m) = omega arith
      go (high l m) = omega arith
