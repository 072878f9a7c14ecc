-- The lower bound: a run into a mode is charged no less than the least corner price over the chains into it.
-- Assumes nothing.
use Rattle.std.specs.Prelude.{ℕ}
use Rattle.std.proofs.Common.{arith}
use Rattle.semantics.specs.Automata.Proper.{Proper}
use Rattle.semantics.specs.Automaton.{Automaton}
use Rattle.semantics.specs.Bounds.Floor.{Floor}
use Rattle.semantics.specs.Demand.{AtLeast}
use Rattle.semantics.specs.Regions.Lengths.{prices-top}
use Rattle.semantics.proofs.Bounds.Reached.{chain-reached}
use Rattle.semantics.specs.Bounds.Sum.{sum-at-least}
use Rattle.semantics.proofs.Bounds.Roundings.{roundings}

-- "every run from the start, timers at zero, into the goal, whatever its moves and whatever its delays, in fractions of a minute of any
-- denominator, is charged C or more", where every chain into the goal has all corner prices at C or more.
pub lower : (a : Automaton) → Proper a → (l C : ℕ) → Floor a l C → AtLeast a l C
lower a ok l C floor q ts run =
    let d = roundings a ok q run.from_one ts run.allowed in
    omega (
      arith,
      d.total,
      sum-at-least d.weight C q (λ φ h.
          let e = d.rounded φ h in
          let n = (chain-reached a ok e.steps _ e.found).well-formed.priced in
          omega (
            arith,
            e.cheap,
            floor e.steps _ e.found run.arrives e.corner (omega (arith, e.there, prices-top e.region n)),
          )),
    )
