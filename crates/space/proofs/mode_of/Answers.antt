-- `space::mode_of` meets its contract.
-- Assumes nothing.
use native.Mathlib.Nat.{div-le_self}
use native.Mathlib.Omega.{arith}
use Rattle.space.proofs.mode_of.Goals as goal

pub overflow_cast-result-3 : goal.overflow_cast-result-3
overflow_cast-result-3 c = let a = c.args in omega (arith, div-le_self a.node a.share, c.requires)
