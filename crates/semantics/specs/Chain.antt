-- Chains of priced regions: document 01, "The route".
-- Assumes nothing.
use Rattle.std.specs.Prelude.{ℕ, Bool, true, false, cond, ◌&&◌, List, [], ◌∷◌, ltb, eqb, length}
use Rattle.std.proofs.Math.Option.{Option, none, some}
use Rattle.semantics.specs.Automaton.{Automaton, timers, mode_at, move_at}
use Rattle.semantics.specs.Region.{PricedRegion, start, delay, linger, reset_all, charge, meets_all, within}

-- Where a chain stands: a mode and a priced region.
pub record Place : Type 0 where
  pub mode : ℕ
  pub region : PricedRegion

-- The place, if the step to it is allowed.
abbrev pub only_if : Bool → Place → Option Place
only_if true p = some p
only_if false p = none

-- Delay: "Allowed if the new region meets the mode's conditions and every ceiling."
unfoldable pub delay_step : Automaton → Place → Option Place
delay_step a p =
    let mode = mode_at a p.mode in
    let r = delay mode.rate p.region in
    only_if (meets_all mode.conditions r && within a.ceilings r) (record { mode = p.mode; region = r })

-- "linger is always allowed".
unfoldable pub linger_step : Automaton → Place → Option Place
linger_step a p = some (record { mode = p.mode; region = linger (mode_at a p.mode).rate p.region })

-- "A move's step tests its conditions, resets, charges, and tests the target's conditions."
unfoldable pub move_step : Automaton → ℕ → Place → Option Place
move_step a e p =
    let m = move_at a e in
    let r = charge m.price (reset_all m.resets p.region) in
    only_if (ltb e (length a.moves) && eqb m.source p.mode && meets_all m.conditions p.region && meets_all (mode_at a m.target).conditions r)
    (record { mode = m.target; region = r })

-- "A step is one byte: 0 to 63 the move of that number, 64 delay, 65 linger."
unfoldable pub step : Automaton → ℕ → Place → Option Place
step a byte p = cond (ltb byte 64) (move_step a byte p) (cond (eqb byte 64) (delay_step a p) (cond (eqb byte 65) (linger_step a p) none))

-- From a place, the steps in their order, if each is allowed.
unfoldable pub follow : Automaton → List ℕ → Place → Option Place
follow a [] p = some p
follow a (byte ∷ bytes) p = elim (step a byte p) [ none ↦ none | some p' ↦ follow a bytes p' ]

-- "A chain begins in mode 0 with the start region and takes allowed steps, or none".
abbrev pub begin : Automaton → Place
begin a = record { mode = 0; region = start (timers a) }

unfoldable pub chain : Automaton → List ℕ → Option Place
chain a bytes = follow a bytes (begin a)

-- "the route's moves are its bytes from 0 to 63 in their order".
unfoldable pub moves_of : List ℕ → List ℕ
moves_of [] = []
moves_of (byte ∷ bytes) = cond (ltb byte 64) (byte ∷ moves_of bytes) (moves_of bytes)
