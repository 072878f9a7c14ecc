-- The loop that settles the nodes of a graph: what holds at each turn, that one turn leads to the next, and what holds at the end.
-- Assumes nothing.
use mathlib.Core.Path.{◌≡◌, refl, sym, ap, ap₂, subst, ◌∙◌}
use mathlib.Core.Bool.{cond}
use Rattle.std.specs.Prelude.{Option, Some, None}
use mathlib.Core.Logic.{◌≢◌}
use mathlib.Core.List.{List}
use Prim.Native.Nat.{ℕ, suc, ◌+◌, ◌*◌, ◌%◌, ◌≤◌, ◌<◌}
use native.Mathlib.Decide.{ℕ_discrete, dec_lt}
use native.Mathlib.Omega.{arith}
use borrow.Author.Tests.{eq-eqb, lt-ltb, le-ltb, le-leb, lt-leb}
use lib.Dec.{eqb, ltb, leb}
use lib.ListN.{length, drop}
use Rattle.semantics.specs.Distinct.{distinct}
use Rattle.semantics.specs.Order.{Cost, cost}
use Rattle.semantics.specs.Graph.Path.{Target, Entry, reached, infinity, charge_at, steps_at}
use Rattle.semantics.specs.Paths.Explored.{Explored}
use Rattle.semantics.specs.Paths.Near.{BestTarget}
use Rattle.semantics.specs.Paths.Settling.{key_of}
use Rattle.semantics.specs.Paths.Sum.{sum_same}
use Rattle.queue.specs.Queue.{lows, slot_at, as_node, key, cost_in, Queue, SettleReady, SettleDone}
use Rattle.queue.specs.Laws.Held.{some-first, no-first}
use Rattle.queue.specs.Laws.Lows.{lows-charge, lows-steps, costs-length, costs-rest}
use Rattle.queue.specs.Laws.First.{first-pending, first-least}
use Rattle.queue.specs.Laws.Once.{unsettled, unsettled_count, settled-once}
use Rattle.near.specs.declared.Cost.{Cost as CostHeld}
use Rattle.near.specs.Near.{cost_entry}
use Rattle.search.specs.Exploring.{Rooted, costs_in, Between, Relaxes, hand-settles, relaxes-done}
use Rattle.search.specs.Searches.{VisitReady, AnyEdge, FindReady, FoundTarget}
use Rattle.search.specs.Laws.FirstNode.{none-explored, none-best, goal-explored, goal-within, goal-best}

-- How many nodes are still to be settled, if `node` is the next one.
unfoldable pub turns_left : ℕ → ℕ → List ℕ → ℕ
turns_left nodes node ws = cond (ltb node nodes) (unsettled_count nodes (key (lows nodes ws) node) ws) 0

turns-here : (nodes u : ℕ) (ws : List ℕ) → u < nodes → turns_left nodes u ws ≡ unsettled_count nodes (key (lows nodes ws) u) ws
unfolding turns_left
turns-here nodes u ws there = rw (lt-ltb u nodes there) refl

module _ (nodes upto : ℕ) (ws : List ℕ) (q : Queue nodes upto ws) (u : ℕ) (first : slot_at ws 1 ≡ u) where
  abbrev ts : List ℕ
  ts = lows nodes ws

  -- All keys before that of the first node are settled.
  same-open : u < nodes → (v : ℕ) → v < nodes → unsettled (key (lows nodes ws) u) (lows nodes ws) v ≡ unsettled upto (lows nodes ws) v
  unfolding unsettled
  same-open there v h = at (ℕ_discrete (charge_at ts v) infinity) (dec_lt (key ts v) upto)
    where
      at :
          Dec (charge_at ts v ≡ infinity) → Dec (key ts v < upto)
          → ◌≡◌ {A = ℕ} (cond (eqb (charge_at ts v) infinity) 1 (cond (leb (key ts u) (key ts v)) 1 0))
          (cond (eqb (charge_at ts v) infinity) 1 (cond (leb upto (key ts v)) 1 0))
      at (yes e) d = rw (eq-eqb (charge_at ts v) infinity e) refl
      at (no n) (yes l) =
          rw (
            lt-leb (key ts u) (key ts v) (omega (arith, (first-pending nodes upto ws q u there first).1)),
            lt-leb upto (key ts v) l,
          )
          refl
      at (no n) (no l) =
          let k : upto ≤ key ts v = omega arith in
          rw (le-leb (key ts u) (key ts v) (first-least nodes upto ws q u there first v h (n, k)), le-leb upto (key ts v) k) refl

  turns-are : u < nodes → turns_left nodes u ws ≡ unsettled_count nodes upto ws
  turns-are there =
      turns-here nodes u ws there ∙ sum_same (λ v. unsettled (key ts u) ts v) (λ v. unsettled upto ts v) nodes (same-open there)

  none_left : nodes ≤ u → turns_left nodes u ws ≡ 0
  unfolding turns_left
  none_left h = rw (le-ltb u nodes h) refl

  turns-most : turns_left nodes u ws ≤ unsettled_count nodes upto ws
  turns-most = at (dec_lt u nodes)
    where
      at : Dec (u < nodes) → turns_left nodes u ws ≤ unsettled_count nodes upto ws
      at (yes there) = omega (arith, turns-are there)
      at (no n) = omega (arith, none_left (omega arith))

-- Nodes were settled up to some key.
pub record Turn (r : Rooted) (ws₀ ws : List ℕ) : Type 0 where
  pub upto : ℕ
  pub between : Between r.graph r.start r.graph.nodes upto ws
  pub rest : drop (2 * r.graph.nodes) ws ≡ drop (2 * r.graph.nodes) ws₀
  pub kept : length ws ≡ length ws₀

pub turn-starts : {r : Rooted} {ws : List ℕ} → FindReady r ws → Turn r ws ws
turn-starts k = record { upto = k.upto; between = k.between; rest = refl; kept = refl }

-- How many nodes are still to be settled.
abbrev pub turns : Rooted → List ℕ → ℕ
turns r ws = turns_left r.graph.nodes (slot_at ws 1) ws

module _ {r : Rooted} {ws₀ ws : List ℕ} (turn : Turn r ws₀ ws) where
  abbrev nodes : ℕ
  nodes = r.graph.nodes

  -- There are words for the first slot.
  pub first-room : 3 < length ws
  first-room = omega (arith, turn.between.queue.words.two, turn.between.queue.words.room)

  -- Nobody is pending.
  pub turn-none : {next : Option ℕ} → next ≡ as_node (slot_at ws 1) → next ≡ None → FoundTarget r ws₀ ws None
  turn-none is nobody =
      let empty = no-first turn.between.queue.words is nobody in
      record {
        explored = none-explored turn.between empty;
        within = λ a q. distinct cc;
        best = none-best turn.between empty;
        rest = turn.rest;
        kept = turn.kept;
      }

  -- A node is.
  pub turn-node : {next : Option ℕ} {node : ℕ} → next ≡ as_node (slot_at ws 1) → next ≡ Some node → (slot_at ws 1 ≡ node) × (node < r.graph.nodes)
  turn-node is some = some-first turn.between.queue.words is some

  module _ {node : ℕ} (o : (slot_at ws 1 ≡ node) × (node < r.graph.nodes)) where
    first : slot_at ws 1 ≡ node
    first = o.0

    there : node < r.graph.nodes
    there = o.1

    known : charge_at (lows r.graph.nodes ws) node ≢ infinity
    known = (first-pending r.graph.nodes turn.upto ws turn.between.queue node there first).0

    -- There are words for it.
    pub node-room : 2 * node + 1 < length ws
    node-room = omega (arith, there, turn.between.queue.words.room)

    -- Its cost is read.
    module _ {c : CostHeld} (charge-is : c.charge ≡ charge_at ws node) (steps-are : c.steps ≡ steps_at ws node % 65536) where
      pub visit-ready : VisitReady r node c ws
      visit-ready = record {
        upto = turn.upto;
        between = turn.between;
        first = first;
        there = there;
        charge-is = charge-is;
        steps-are = steps-are;
      }

      own-charge : c.charge ≡ charge_at (lows r.graph.nodes ws) node
      own-charge = charge-is ∙ sym (lows-charge r.graph.nodes ws node)

      own-steps : c.steps ≡ steps_at (lows r.graph.nodes ws) node
      own-steps = steps-are ∙ sym (lows-steps r.graph.nodes ws node there)

      -- A target ends the loop.
      pub turn-target : Target r.graph node → FoundTarget r ws₀ ws (Some c)
      turn-target target =
          let entry : reached (cost_in r.graph.nodes ws node) ≡ cost_entry (Some c) =
          ap₂ (λ (x y : ℕ). reached (cost x y)) (sym own-charge) (sym own-steps) in
          record {
            explored = subst (λ (x : Entry). Explored r.graph r.start x (costs_in r.graph.nodes ws)) entry (goal-explored turn.between node there first target);
            within = λ a q. goal-within turn.between node there first target a (entry ∙ q);
            best = subst (λ (x : Entry). BestTarget r.graph (costs_in r.graph.nodes ws) x) entry (goal-best turn.between node there first target);
            rest = turn.rest;
            kept = turn.kept;
          }

    -- All its edges were relaxed.
    module _ {ws₁ : List ℕ} (relaxed : Relaxes r r.graph.nodes node AnyEdge ws ws₁) where
      pub settle-ready : SettleReady r.graph.nodes node ws₁
      settle-ready = hand-settles relaxed.hand

      -- And it was settled.
      module _ {ws₂ : List ℕ} (done : SettleDone r.graph.nodes node ws₁ ws₂) where
        after : Between r.graph r.start r.graph.nodes (suc (key (lows r.graph.nodes ws₁) node)) ws₂
        after = relaxes-done (λ e l. tt) relaxed done

        pub turn-next : Turn r ws₀ ws₂
        turn-next = record {
          upto = suc (key (lows r.graph.nodes ws₁) node);
          between = after;
          rest = costs-rest r.graph.nodes ws₁ ws₂ done.costs ∙ relaxed.rest ∙ turn.rest;
          kept = costs-length r.graph.nodes ws₁ ws₂ done.costs ∙ relaxed.kept ∙ turn.kept;
        }

        -- One node less is to be settled.
        pub turn-less : turns r ws₂ < turns r ws
        turn-less =
            let h = relaxed.hand in
            let was : turns_left r.graph.nodes (slot_at ws 1) ws ≡ unsettled_count r.graph.nodes (key (lows r.graph.nodes ws) node) ws =
            rw first (turns-here r.graph.nodes node ws there) in
            let now = turns-are r.graph.nodes h.upto ws₁ h.queue node h.first there in
            let here = turns-here r.graph.nodes node ws₁ there in
            let keys : key (lows r.graph.nodes ws₁) node ≡ key (lows r.graph.nodes ws) node = ap (λ (c : Cost). key_of c node) relaxed.same in
            let same : unsettled_count r.graph.nodes (key (lows r.graph.nodes ws₁) node) ws₁ ≡ unsettled_count r.graph.nodes (key (lows r.graph.nodes ws) node) ws₁ =
            ap (λ (m : ℕ). unsettled_count r.graph.nodes m ws₁) keys in
            let once = settled-once r.graph.nodes node ws₁ ws₂ h.upto h.queue h.first there done in
            omega (arith, was, now, here, same, relaxed.unsettled, once, turns-most r.graph.nodes _ ws₂ after.queue (slot_at ws₂ 1) refl)
