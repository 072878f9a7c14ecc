-- `cases::tokens::read` meets its contract.
-- Assumes nothing.
use Prim.Native.Nat.{◌<◌}
use Rattle.cases.proofs.tokens.read.Given as goal

abbrev pub invariant-loop-byte : goal.invariant-loop-byte
invariant-loop-byte l = l.at < 1024
