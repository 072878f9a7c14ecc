-- The answer: document 01, "The route". "Among chains that end in the goal with a corner at the least charge, the route is one with fewest
-- steps; among those the first in byte order."
-- Assumes nothing.
use Rattle.std.specs.Prelude.{ℕ, zero, suc, pred, min, ◌≡◌, Bool, true, false, cond, eqb, length}
use mathlib.Core.List.{List, [], ◌∷◌, Memᴰ}
use Rattle.std.proofs.Math.Option.{none, some}
use Rattle.semantics.specs.Automaton.{Automaton}
use Rattle.semantics.specs.NodeCount.{node_count}
use Rattle.semantics.specs.Chain.{Place, step, begin, chain}
use Rattle.semantics.specs.Order.{cost, is_less, earlier}

-- The chain of the steps ks ends in mode l with a corner at the price C.
pub record Comes (a : Automaton) (l : ℕ) (ks : List ℕ) (C : ℕ) : Type 0 where
  pub place : Place
  pub ends : chain a ks ≡ some place
  pub mode : place.mode ≡ l
  pub corner : Memᴰ C place.region.prices

-- No chain ends in mode l.
abbrev pub NoChain : Automaton → ℕ → Type 0
NoChain a l = (ks : List ℕ) (p : Place) → chain a ks ≡ some p → p.mode ≡ l → ⊥

-- No route, or a route with its charge.
pub data Answer : Type 0 where
  no_route : Answer
  route : ℕ → List ℕ → Answer

-- The first route is better: by charge, then by steps, then by byte order.
abbrev pub is_better : ℕ → List ℕ → ℕ → List ℕ → Bool
is_better C js D ks =
    let c = cost C (length js) in
    let d = cost D (length ks) in
    cond (is_less c d) true (cond (is_less d c) false (earlier js ks))

-- The better of two answers.
abbrev pub better : Answer → Answer → Answer
better no_route b = b
better (route C js) no_route = route C js
better (route C js) (route D ks) = cond (is_better D ks C js) (route D ks) (route C js)

-- A step in front of an answer.
abbrev pub behind : ℕ → Answer → Answer
behind byte no_route = no_route
behind byte (route C ks) = route C (byte ∷ ks)

-- The charge of a chain: demand 2, "the least corner price".
abbrev pub least : List ℕ → ℕ
least [] = 0
least (c ∷ []) = c
least (c ∷ d ∷ cs) = min c (least (d ∷ cs))

-- To stop at the place, if its mode is l.
abbrev pub stopping : ℕ → Place → Answer
stopping l p = cond (eqb p.mode l) (route (least p.region.prices) []) no_route

-- i, i + 1, .., so many numbers.
abbrev pub count_from : ℕ → ℕ → List ℕ
count_from i zero = []
count_from i (suc n) = i ∷ count_from (suc i) n

-- The step bytes.
abbrev pub step_bytes : List ℕ
step_bytes = count_from 0 66

-- The best of the allowed steps, each with what `go` finds from the place that it leads to.
abbrev pub over_steps : (Place → Answer) → Automaton → Place → List ℕ → Answer
over_steps go a p [] = no_route
over_steps go a p (byte ∷ bytes) = better (elim (step a byte p) [ none ↦ no_route | some p' ↦ behind byte (go p') ]) (over_steps go a p bytes)

-- The best way from a place into mode l in at most n steps: to stop there, or a step and the best way behind it.
unfoldable pub best_from : Automaton → ℕ → ℕ → Place → Answer
best_from a l zero p = stopping l p
best_from a l (suc n) p = better (stopping l p) (over_steps (λ p'. best_from a l n p') a p step_bytes)

-- The answer for the goal l: no chain of E steps or more is better than all shorter ones (Answers.Best), so that E - 1 steps are enough.
unfoldable pub answer : Automaton → ℕ → Answer
answer a l = best_from a l (pred (node_count a)) (begin a)
