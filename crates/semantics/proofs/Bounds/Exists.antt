-- A run into a mode exists exactly if a chain into it does: a run, rounded at any phase, is a chain, and a chain is approached by runs of its moves.
-- Assumes nothing.
use Rattle.std.specs.Prelude.{◌≡◌, ◌↔◌, List, ℕ}
use Rattle.std.proofs.Math.Option.{some}
use Rattle.std.proofs.Common.{arith}
use Rattle.semantics.specs.Automata.Proper.{Proper}
use Rattle.semantics.specs.Automaton.{Automaton}
use Rattle.semantics.specs.Run.{Act, moves_in, RunInto}
use Rattle.semantics.specs.Chain.{Place, chain, moves_of}
use Rattle.semantics.specs.Answer.{NoChain}
use Rattle.semantics.specs.Demand.{NoRun}
use Rattle.semantics.proofs.Bounds.Reached.{chain-reached}
use Rattle.semantics.proofs.Bounds.Roundings.{roundings}
use Rattle.semantics.proofs.Bounds.Upper.{upper}

module _ (a : Automaton) (ok : Proper a) (l : ℕ) where
  -- A run into mode l gives a chain into it.
  pub run-chain : (q : ℕ) (ts : List Act) → RunInto a l q ts → (bytes : List ℕ) × (p : Place) × (chain a bytes ≡ some p) × (p.mode ≡ l)
  run-chain q ts run =
      let d = (roundings a ok q run.from_one ts run.allowed).rounded 0 run.from_one in
      (d.steps, _, d.found, run.arrives)

  -- A chain into mode l gives a run into it of exactly its moves.
  pub chain_run :
      (bytes : List ℕ) (p : Place) → chain a bytes ≡ some p → p.mode ≡ l
      → (q : ℕ) × (ts : List Act) × RunInto a l q ts × (moves_in ts ≡ moves_of bytes)
  chain_run bytes p f e =
      let n = upper a ok bytes p l f e 0 (chain-reached a ok bytes p f).well-formed.priced 1 (omega arith) in
      (n.q, n.acts, n.run, n.moves-made)

  -- "the answer no route exactly when no run from the start comes into the goal".
  pub no_run : NoRun a l ↔ NoChain a l
  no_run = (
    λ none bytes p f e. let r = chain_run bytes p f e in none r.0 r.1 r.2,
    λ none q ts run. let c = run-chain q ts run in none c.0 c.1 c.2 c.3,
  )
