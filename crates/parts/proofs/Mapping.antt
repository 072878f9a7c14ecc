-- The bits of a map by threes.
-- Assumes nothing.
use Prim.Native.Nat.{ℕ, ◌+◌, ◌*◌}
use native.Mathlib.Omega.{arith}
use mathlib.Core.Path.{◌≡◌}
use mathlib.Core.List.{List, [], ◌∷◌, ◌++◌}
use lib.ListN.{length, get_or}
use Rattle.parts.specs.Format.{bit_of, bits_of}

pub bits-six : (low last : ℕ) (six : List ℕ) → length six ≡ 6 →
    bit_of low + 2 * bits_of (get_or six 0 0 ∷ get_or six 1 0 ∷ get_or six 2 0 ∷ []) + 16 * bits_of (get_or six 3 0 ∷ get_or six 4 0 ∷ get_or six 5 0 ∷ []) + 128 * bit_of last
    ≡ bits_of (low ∷ (six ++ last ∷ []))
bits-six low last [] h = absurd (omega arith)
bits-six low last (a ∷ []) h = absurd (omega arith)
bits-six low last (a ∷ b ∷ []) h = absurd (omega arith)
bits-six low last (a ∷ b ∷ c ∷ []) h = absurd (omega arith)
bits-six low last (a ∷ b ∷ c ∷ d ∷ []) h = absurd (omega arith)
bits-six low last (a ∷ b ∷ c ∷ d ∷ e ∷ []) h = absurd (omega arith)
bits-six low last (a ∷ b ∷ c ∷ d ∷ e ∷ f ∷ []) h = omega arith
bits-six low last (a ∷ b ∷ c ∷ d ∷ e ∷ f ∷ g ∷ l) h = absurd (omega arith)
