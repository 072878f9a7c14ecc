-- The timers of a move, tested one after another.
-- Assumes nothing.
use mathlib.Core.Path.{◌≡◌, sym, ◌∙◌}
use mathlib.Core.Bool.{Bool, true, false, ◌&&◌, true≢false}
use mathlib.Core.List.{List}
use Prim.Native.Nat.{ℕ, ◌+◌, ◌≤◌, ◌<◌}
use native.Mathlib.Decide.{ℕ_discrete}
use native.Mathlib.Omega.{arith}
use lib.Dec.{leb, ltb}
use lib.ListN.{get_or}
use Rattle.rules.specs.Rules.{low_at, high_at, InRow}
use Rattle.rules.specs.Laws.Windows.{in_window}

-- The timers before i are in the windows of a row.
abbrev pub InUpTo : List ℕ → ℕ → List ℕ → ℕ → Type 0
InUpTo rs row hs i = (x : ℕ) → x < i → (low_at rs row x ≤ get_or hs x 0) × (get_or hs x 0 < high_at rs row x)

module _ (rs hs : List ℕ) (row i : ℕ) (b : Bool)
    (tested : b ≡ (leb (low_at rs row i) (get_or hs i 0) && ltb (get_or hs i 0) (high_at rs row i))) where
  -- One more of them.
  pub in-more : b ≡ true → InUpTo rs row hs i → InUpTo rs row hs (i + 1)
  in-more t before x l = at (ℕ_discrete x i)
    where
      at : Dec (x ≡ i) → (low_at rs row x ≤ get_or hs x 0) × (get_or hs x 0 < high_at rs row x)
      at (yes e) = rw e ((in_window (low_at rs row i) (get_or hs i 0) (high_at rs row i)).0 (sym tested ∙ t))
      at (no ne) = before x (omega arith)

  -- Or one that is outside.
  pub outside : b ≡ false → i < 3 → InRow rs row hs → ⊥
  outside t l all =
      true≢false (sym (sym t ∙ tested ∙ (in_window (low_at rs row i) (get_or hs i 0) (high_at rs row i)).1 (all i l)))
