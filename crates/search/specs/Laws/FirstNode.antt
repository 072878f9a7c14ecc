-- The first node of the queue is the next to be settled: its edges are in hand, or it ends the search; so does a queue that is empty.
-- Assumes nothing.
use Rattle.std.specs.Prelude.{◌≡◌, List, ℕ, ◌≤◌, ◌<◌}
use Rattle.std.proofs.Common.{ap, arith}
use Rattle.std.proofs.Math.Decide.{dec_lt}
use Rattle.semantics.specs.Order.{Cost}
use Rattle.semantics.specs.Graph.Path.{Graph, Target, unreached, reached}
use Rattle.semantics.specs.Paths.Words.{table-reached, reached-words}
use Rattle.semantics.specs.Paths.Cost.{cost-same}
use Rattle.semantics.specs.Paths.Explored.{Explored}
use Rattle.semantics.specs.Paths.Near.{BestTarget, TargetWithin}
use Rattle.semantics.specs.Paths.Settling.{key_of, IsFirst, settle-first, target-explored, target-within, target-best, all-explored, all-best}
use Rattle.queue.specs.Queue.{lows, slot_at, cost_in, Pending}
use Rattle.queue.specs.Tournament.{none}
use Rattle.queue.specs.Laws.First.{first-pending, first-least, first-none}
use Rattle.search.specs.Exploring.{costs_in, Between, InHand}

module _ {g : Graph} {s nodes upto : ℕ} {ws : List ℕ} (b : Between g s nodes upto ws) where
  nodes-few : g.nodes ≤ 65536
  nodes-few = omega (arith, b.queue.words.few, b.sized)

  -- A node that is reached and not settled is pending.
  is-pending : (v : ℕ) (a : Cost) → costs_in nodes ws v ≡ reached a → upto ≤ key_of a v → Pending upto (lows nodes ws) v
  is-pending v a q z =
      let w = reached-words (lows nodes ws) v a q in
      (w.known, omega (arith, z, ap (λ (x : Cost). key_of x v) (cost-same (cost_in nodes ws v) a w.charge w.steps)))

  -- If there is none, everything was explored.
  module _ (empty : slot_at ws 1 ≡ none) where
    all_settled : (v : ℕ) (a : Cost) → v < g.nodes → costs_in nodes ws v ≡ reached a → key_of a v < upto
    all_settled v a h q = at (dec_lt (key_of a v) upto)
      where
        at : Dec (key_of a v < upto) → key_of a v < upto
        at (yes z) = z
        at (no z) = absurd (first-none nodes upto ws b.queue empty v (omega (arith, h, b.sized)) (is-pending v a q (omega arith)))

    pub none-explored : Explored g s unreached (costs_in nodes ws)
    none-explored = all-explored nodes-few b.settling all_settled

    pub none-best : BestTarget g (costs_in nodes ws) unreached
    none-best = all-best nodes-few b.settling all_settled

  module _ (u : ℕ) (inside : u < nodes) (first : slot_at ws 1 ≡ u) where
    pending : Pending upto (lows nodes ws) u
    pending = first-pending nodes upto ws b.queue u inside first

    within : u < g.nodes
    within = omega (arith, inside, b.sized)

    is-first : IsFirst g upto (costs_in nodes ws) u (cost_in nodes ws u)
    is-first v a h q z =
        let w = reached-words (lows nodes ws) v a q in
        let low = first-least nodes upto ws b.queue u inside first v (omega (arith, h, b.sized)) (is-pending v a q z) in
        omega (arith, low, ap (λ (x : Cost). key_of x v) (cost-same (cost_in nodes ws v) a w.charge w.steps))

    -- A target ends the search.
    module _ (goal : Target g u) where
      pub goal-explored : Explored g s (reached (cost_in nodes ws u)) (costs_in nodes ws)
      goal-explored = target-explored nodes-few b.settling u (cost_in nodes ws u) within is-first goal (table-reached (lows nodes ws) u pending.0)

      pub goal-within : (a : Cost) → reached (cost_in nodes ws u) ≡ reached a → TargetWithin g (costs_in nodes ws) a
      goal-within = target-within nodes-few b.settling u (cost_in nodes ws u) within is-first goal (table-reached (lows nodes ws) u pending.0)

      pub goal-best : BestTarget g (costs_in nodes ws) (reached (cost_in nodes ws u))
      goal-best = target-best nodes-few b.settling u (cost_in nodes ws u) within is-first goal (table-reached (lows nodes ws) u pending.0)

    -- Any other node is in hand.
    pub first-hand : (Target g u → ⊥) → InHand (record { graph = g; start = s }) nodes u ws
    first-hand away = record {
      sized = b.sized;
      inside = inside;
      upto = upto;
      queue = b.queue;
      first = first;
      settling = settle-first nodes-few b.settling u (cost_in nodes ws u) within is-first away;
    }
