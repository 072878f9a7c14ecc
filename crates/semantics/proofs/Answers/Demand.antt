-- The answer meets demand 3: its charge bounds all runs into the goal from below, runs of its route's moves come as near to it as one likes,
-- and it is no route exactly if there is no run.
-- Assumes nothing.
use Rattle.std.specs.Prelude.{◌≡◌, ◌↔◌, List, ℕ, length, get_or}
use Rattle.std.proofs.Common.{subst}
use Rattle.semantics.specs.Automata.Proper.{Proper}
use Rattle.semantics.specs.Automaton.{Automaton}
use Rattle.semantics.specs.Order.{cost, Best}
use Rattle.semantics.specs.Chain.{moves_of}
use Rattle.semantics.specs.Answer.{Comes, NoChain, no_route, route, answer}
use Rattle.semantics.specs.Bounds.Floor.{Floor}
use Rattle.semantics.specs.Demand.{AtLeast, Approached, NoRun}
use Rattle.semantics.specs.Corners.Lists.{mem-get_or}
use Rattle.semantics.proofs.Bounds.Reached.{chain-reached}
use Rattle.semantics.proofs.Bounds.Lower.{lower}
use Rattle.semantics.proofs.Bounds.Upper.{upper}
use Rattle.semantics.proofs.Bounds.Exists.{no_run}
use Rattle.semantics.specs.Paths.Cost.{cost-charge}
use Rattle.semantics.proofs.Answers.System.{price-corner}
use Rattle.semantics.proofs.Answers.Best.{answer-best, answer-none}

module _ (a : Automaton) (ok : Proper a) (l : ℕ) where
  -- The charge of the best chain is a lower bound of all corner prices.
  best-floor : (C : ℕ) (ks : List ℕ) → Best (Comes a l) (cost C (length ks)) ks → Floor a l C
  best-floor C ks b bytes p f e j h =
      let c = get_or p.region.prices j 0 in
      cost-charge (cost C (length ks)) (cost c (length bytes))
      (b.least bytes c (record { place = p; ends = f; mode = e; corner = mem-get_or p.region.prices j 0 h }))

  -- Every chain has a corner, so that nothing comes exactly if there is no chain.
  none-chain : ((ks : List ℕ) (C : ℕ) → Comes a l ks C → ⊥) ↔ NoChain a l
  none-chain = (
    λ none bytes p f e.
        let h = (chain-reached a ok bytes p f).well-formed.priced in
        none bytes _ (record { place = p; ends = f; mode = e; corner = mem-get_or p.region.prices 0 0 h }),
    λ none ks C c. none ks c.place c.ends c.mode,
  )

  -- It is no route exactly if there is no chain.
  pub answer-no-chain : (answer a l ≡ no_route) ↔ NoChain a l
  answer-no-chain = (λ e. none-chain.0 ((answer-none a ok l).0 e), λ n. (answer-none a ok l).1 (none-chain.1 n))

  -- And exactly if there is no run.
  pub answer-no-run : (answer a l ≡ no_route) ↔ NoRun a l
  answer-no-run = (λ e. (no_run a ok l).1 (answer-no-chain.0 e), λ n. answer-no-chain.1 ((no_run a ok l).0 n))

  module _ (C : ℕ) (ks : List ℕ) (e : answer a l ≡ route C ks) where
    -- Every run is charged C or more.
    pub answer-at-least : AtLeast a l C
    answer-at-least = lower a ok l C (best-floor C ks ((answer-best a ok l C ks).0 e))

    -- Runs that make exactly the route's moves come as near to C as one likes.
    pub answer-approached : Approached a l (moves_of ks) C
    answer-approached =
        let c = ((answer-best a ok l C ks).0 e).first.good.0 in
        let o = (price-corner c.place.region.prices C).0 c.corner in
        subst (Approached a l (moves_of ks)) o.2 (upper a ok ks c.place l c.ends c.mode o.0 o.1)
