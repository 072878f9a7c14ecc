-- How many corners a cell has, and the place of a region's groups in the table of first corners.
-- Assumes nothing.
use Rattle.std.specs.Prelude.{◌≡◌, List, [], ◌∷◌, ℕ, zero, suc, ◌+◌, ◌-◌, ◌*◌, ◌/◌, ◌%◌, ◌<◌, ◌≤◌, length, get_or, take}
use Rattle.std.proofs.Common.{ap, ◌∙◌, arith}
use Rattle.semantics.specs.NodeCount.{corner_count}
use Rattle.semantics.specs.Corners.Corner.{corner_number}
use Rattle.corners.specs.Tables.{timers_at, first_at}

-- A cell of at most three timers has 1 to 75 corners.
pub corners-few : (n : ℕ) → n ≤ 3 → (1 ≤ corner_count n 1) × (corner_count n 1 ≤ 75)
corners-few zero h = omega arith
corners-few (suc zero) h = omega arith
corners-few (suc (suc zero)) h = omega arith
corners-few (suc (suc (suc zero))) h = omega arith
corners-few (suc (suc (suc (suc n)))) h = absurd (omega arith)

-- The place of the groups of n timers in the table of first corners.
abbrev pub place : ℕ → List ℕ → ℕ
place n group = 16 * (n - 1 + get_or group 2 0) + 4 * get_or group 0 0 + get_or group 1 0

-- The table's entry there is the number of the region's first corner.
first-from :
    (p n : ℕ) (group : List ℕ) → timers_at p ≡ n → take n (p / 4 % 4 ∷ p % 4 ∷ (p / 16 - 2) ∷ []) ≡ group
    → first_at p ≡ corner_number n (record { group = group; index = 0 })
first-from p n group e k =
    ap (λ (m : ℕ). corner_number m (record { group = take m (p / 4 % 4 ∷ p % 4 ∷ (p / 16 - 2) ∷ []); index = 0 })) e
    ∙ ap (λ (g : List ℕ). corner_number n (record { group = g; index = 0 })) k

pub first-is :
    (group : List ℕ) → 0 < length group → length group ≤ 3 → ((i : ℕ) → get_or group i 0 ≤ 3)
    → first_at (place (length group) group) ≡ corner_number (length group) (record { group = group; index = 0 })
first-is [] some few small = absurd (omega arith)
first-is (a ∷ []) some few small =
    let p = place 1 (a ∷ []) in
    let t : timers_at p ≡ 1 = omega (arith, small 0) in
    let x : p / 4 % 4 ≡ a = omega (arith, small 0) in
    first-from p 1 (a ∷ []) t (λ i. x i ∷ [])
first-is (a ∷ b ∷ []) some few small =
    let p = place 2 (a ∷ b ∷ []) in
    let t : timers_at p ≡ 2 = omega (arith, small 0, small 1) in
    let x : p / 4 % 4 ≡ a = omega (arith, small 0, small 1) in
    let y : p % 4 ≡ b = omega (arith, small 0, small 1) in
    first-from p 2 (a ∷ b ∷ []) t (λ i. x i ∷ y i ∷ [])
first-is (a ∷ b ∷ d ∷ []) some few small =
    let p = place 3 (a ∷ b ∷ d ∷ []) in
    let t : timers_at p ≡ 3 = omega (arith, small 0, small 1, small 2) in
    let x : p / 4 % 4 ≡ a = omega (arith, small 0, small 1, small 2) in
    let y : p % 4 ≡ b = omega (arith, small 0, small 1, small 2) in
    let z : p / 16 - 2 ≡ d = omega (arith, small 0, small 1, small 2) in
    first-from p 3 (a ∷ b ∷ d ∷ []) t (λ i. x i ∷ y i ∷ z i ∷ [])
first-is (a ∷ b ∷ d ∷ e ∷ l) some few small = absurd (omega arith)
