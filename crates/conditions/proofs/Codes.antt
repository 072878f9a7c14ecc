-- The comparison of a condition by its code. A code above 5 is read as 5: no table has it.
-- Assumes nothing.
use mathlib.Core.Path.{◌≡◌, refl}
use Prim.Native.Nat.{ℕ, zero, suc, ◌<◌}
use native.Mathlib.Numerals.{sub-one}
use native.Mathlib.Omega.{arith}
use Rattle.semantics.specs.Condition.{greater}
use Rattle.table.specs.Meaning.{comparison_of}

pub code-greater : (code : ℕ) → 4 < code → comparison_of code ≡ greater
code-greater zero h = absurd (omega arith)
code-greater (suc zero) h = absurd (omega arith)
code-greater (suc (suc zero)) h = absurd (omega arith)
code-greater (suc (suc (suc zero))) h = absurd (omega arith)
code-greater (suc (suc (suc (suc zero)))) h = absurd (omega arith)
code-greater (suc (suc (suc (suc (suc zero))))) h = refl
code-greater (suc (suc (suc (suc (suc (suc n)))))) h = rw sub-one
