-- The rate at which a step of time is charged.
-- Assumes nothing.
use Prim.Native.Nat.{ℕ}
use Rattle.semantics.specs.Automaton.{Automaton, mode_at}
use Rattle.semantics.specs.Chain.{Place}

-- The rate of a place's mode.
abbrev pub rate_at : Automaton → Place → ℕ
rate_at a p = (mode_at a p.mode).rate
