-- Two constructors of a data type are distinct: from an equation of values that begin with different ones, anything follows.
-- Assumes nothing.
use Rattle.std.specs.Prelude.{ℕ, ◌≡◌}
use Rattle.std.proofs.Common.{arith}

-- `cc` proves 0 ≡ 1 from such an equation: `distinct cc`.
pub distinct : {A : Type 0} → ◌≡◌ {A = ℕ} 0 1 → A
distinct e = absurd (omega arith)
