-- Keys: their order is that of costs and then of nodes, and an edge leads to a greater one.
-- Assumes nothing.
use Rattle.std.specs.Prelude.{◌≡◌, List, ℕ, ◌≤◌, ◌<◌}
use Rattle.std.proofs.Common.{inl, inr, arith}
use Rattle.std.proofs.Math.Decide.{dec_lt}
use Rattle.semantics.specs.Order.{Cost, cost, ◌≼◌, ◌≺◌}
use Rattle.queue.specs.Queue.{key_of, key}

-- Keys of different nodes differ.
pub key-own : (ts : List ℕ) (u v : ℕ) → u < 65536 → v < 65536 → key ts u ≡ key ts v → u ≡ v
key-own ts u v h k e = omega arith

-- A cost that is less makes a key that is less.
pub key-less :
    (charge steps charge₀ steps₀ v : ℕ) → steps < 65536 → cost charge steps ≺ cost charge₀ steps₀
    → key_of charge steps v < key_of charge₀ steps₀ v
key-less charge steps charge₀ steps₀ v fits (inl h) = omega arith
key-less charge steps charge₀ steps₀ v fits (inr h) = omega arith

-- A key that is no greater has a cost that is no greater.
pub key-cost :
    (a b : Cost) (u v : ℕ) → b.steps < 65536 → v < 65536 → key_of a.charge a.steps u ≤ key_of b.charge b.steps v → a ≼ b
key-cost a b u v fits h e = at (dec_lt a.charge b.charge)
  where
    at : Dec (a.charge < b.charge) → a ≼ b
    at (yes less) = inl less
    at (no more) = inr (omega arith, omega arith)
