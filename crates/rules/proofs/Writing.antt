-- Bytes that are written at once.
-- Assumes nothing.
use mathlib.Core.Path.{◌≡◌}
use mathlib.Core.List.{List}
use Prim.Native.Nat.{ℕ, ◌+◌, ◌≤◌}
use native.Mathlib.Omega.{arith}
use borrow.Rule.Slice.PartMut.{mid_of, put_mid}
use lib.ListN.{length, replicate}
use Rattle.std.proofs.Common.{rules}
use Rattle.std.proofs.lemmas.List.{places}
use Rattle.rules.specs.Making.{Wrote}

-- So many bytes become the same one.
pub filled_with :
    (y at n k : ℕ) (rs ys : List ℕ) → k ≡ n → at + n ≤ length rs → ys ≡ replicate (length (mid_of at k rs)) y → Wrote (λ m. y) at n rs (put_mid at k rs ys)
filled_with y at n k rs ys same inside e =
    let long : length (mid_of at k rs) ≡ n = grind (arith, places) in
    rw (same, e, long) (record {
      size = search (rules, places);
      there = λ i l. grind (arith, places);
      before = λ j l. grind (arith, places);
      behind = λ j l. grind (arith, places);
    })
