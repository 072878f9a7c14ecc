-- The constant tables are right: each by a test that is computed over the list of all corners of one, two and three timers.
-- Assumes nothing.
use mathlib.Core.Path.{◌≡◌, refl, ap, ◌∙◌}
use mathlib.Core.Bool.{Bool, true, ◌&&◌}
use mathlib.Core.List.{List, [], ◌∷◌}
use Prim.Native.Nat.{ℕ, zero, suc, ◌+◌, ◌-◌, ◌*◌, ◌/◌, ◌%◌, ◌<◌, ◌≤◌, max}
use native.Mathlib.Omega.{arith}
use borrow.Author.Tests.{eqb-true, lt-ltb, le-ltb}
use lib.Dec.{eqb}
use lib.ListN.{get_or}
use Rattle.semantics.specs.NodeCount.{corner_count}
use Rattle.semantics.specs.Answer.{count_from}
use Rattle.semantics.specs.Corners.Corner.{Corner, corners, same_list, corner_at}
use Rattle.semantics.specs.Regions.Compare.{and-true-iff}
use Rattle.semantics.specs.Corners.Lists.{length-count_from, get_or-count_from}
use Rattle.semantics.specs.Corners.Every.{every, every-mem, every_from, every-at}
use Rattle.semantics.specs.Corners.Number.{same_list-eq}
use Rattle.semantics.proofs.Corners.Number.{corner_at-listed}
use Rattle.semantics.specs.Graph.CornerGraph.{highest}
use Rattle.table.specs.Held.{pad}
use Rattle.corners.specs.declared.tables.CornerAt.{CornerAt}
use Rattle.corners.specs.Held.{pack_corner}
use Rattle.corners.specs.Tables.{entry_of, IsRow, byte_of, corner_byte}

-- What holds for no timer, one, two and three holds for every number of timers that the code takes.
up-to-three : (P : ℕ → Type 0) → P 0 → P 1 → P 2 → P 3 → (n : ℕ) → n ≤ 3 → P n
up-to-three P a b c d zero h = a
up-to-three P a b c d (suc zero) h = b
up-to-three P a b c d (suc (suc zero)) h = c
up-to-three P a b c d (suc (suc (suc zero))) h = d
up-to-three P a b c d (suc (suc (suc (suc n)))) h = absurd (omega arith)

-- A row is right if its four entries are.
unfoldable pub row_test : (ℕ → ℕ) → ℕ → ℕ → Bool
row_test f row r = every_from (λ column place. eqb (entry_of r column) (f place)) 0 (count_from (4 * row) 4)

pub row_is : (f : ℕ → ℕ) {row k r : ℕ} → row ≡ k → row_test f k r ≡ true → IsRow f row r
unfolding row_test
row_is f {row} {k} {r} e t = record {
  entry = λ column h.
      let at = eqb-true _ _ (every-at (λ c place. eqb (entry_of r c) (f place)) (count_from (4 * k) 4) t column 0 (rw (length-count_from (4 * k) 4) h)) in
      rw (e, ← get_or-count_from (4 * k) 4 column 0 h) at;
}

pub entry-is : (f : ℕ → ℕ) (place : ℕ) {r : ℕ} → IsRow f (place / 4) r → entry_of r (place % 4) ≡ f place
entry-is f place h =
    let column : place % 4 < 4 = omega arith in
    let back : 4 * (place / 4) + place % 4 ≡ place = omega arith in
    h.entry (place % 4) column ∙ ap f back

-- The code's table FIRST_PLACES.
abbrev pub first_places : List ℕ
first_places = 0 ∷ 0 ∷ 4 ∷ 20 ∷ []

-- The entry at the place of a corner is the corner.
pub byte-is : (n : ℕ) → 1 ≤ n → n ≤ 3 → (i : ℕ) → i < corner_count n 1 → corner_byte (get_or first_places n 0 + i) ≡ byte_of (corner_at n i)
byte-is zero some few i there = absurd (omega arith)
byte-is (suc zero) some few i there =
    let b : i < 3 = there in
    let e : 0 + i ≡ i = omega arith in
    rw (e, lt-ltb i 4 (omega arith)) refl
byte-is (suc (suc zero)) some few i there =
    let b : i < 13 = there in
    let f : 4 + i - 4 ≡ i = omega arith in
    rw (le-ltb (4 + i) 4 (omega arith), lt-ltb (4 + i) 20 (omega arith), f) refl
byte-is (suc (suc (suc zero))) some few i there =
    let f : 20 + i - 20 ≡ i = omega arith in
    rw (le-ltb (20 + i) 4 (omega arith), le-ltb (20 + i) 20 (omega arith), f) refl
byte-is (suc (suc (suc (suc n)))) some few i there = absurd (omega arith)

-- What the code makes of a byte.
abbrev decoded : ℕ → CornerAt
decoded x = record {
  group = x / 16 % 4 ∷ x / 4 % 4 ∷ x % 4 ∷ [];
  index = x / 64;
  top = max (x / 16 % 4) (max (x / 4 % 4) (x % 4));
}

holds_corner : CornerAt → Corner → Bool
holds_corner r c = same_list r.group (pad 3 c.group) && (eqb r.index c.index && eqb r.top (highest c.group))

holds-corner : (r : CornerAt) (c : Corner) → holds_corner r c ≡ true → r ≡ pack_corner c
unfolding holds_corner pack_corner
holds-corner r c e =
    let p = (and-true-iff (same_list r.group (pad 3 c.group)) _).0 e in
    let q = (and-true-iff (eqb r.index c.index) _).0 p.1 in
    let g = same_list-eq r.group (pad 3 c.group) p.0 in
    let i = eqb-true r.index c.index q.0 in
    let k = eqb-true r.top (highest c.group) q.1 in
    λ x. record { group = g x; index = i x; top = k x }

-- The byte of every corner gives the corner.
byte_test : ℕ → Bool
byte_test n = every (λ c. holds_corner (decoded (byte_of c)) c) (corners n)

bytes-right : (n : ℕ) → n ≤ 3 → byte_test n ≡ true
unfolding byte_test holds_corner
bytes-right = up-to-three (λ n. byte_test n ≡ true) refl refl refl refl

pub corner-is : (n i : ℕ) → n ≤ 3 → i < corner_count n 1 → decoded (byte_of (corner_at n i)) ≡ pack_corner (corner_at n i)
unfolding byte_test
corner-is n i few there = holds-corner _ _ (every-mem (λ c. holds_corner (decoded (byte_of c)) c) (corners n) (bytes-right n few) _ (corner_at-listed n i there))
