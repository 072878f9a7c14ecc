-- The moves of a state in which some minutes were waited, looked at one after another for the first whose edge is tight.
-- Assumes nothing.
use mathlib.Core.Path.{◌≡◌, refl, sym, subst}
use mathlib.Core.Bool.{Bool, true, false}
use mathlib.Core.Logic.{◌↔◌}
use mathlib.Core.List.{List, map}
use Prim.Native.Nat.{ℕ, ◌+◌, ◌*◌, ◌≤◌, ◌<◌}
use native.Mathlib.Nat.{mul-le-mul}
use native.Mathlib.Decide.{ℕ_discrete, dec_lt}
use native.Mathlib.Omega.{arith}
use lib.ListN.{length}
use Rattle.semantics.specs.Automaton.{mode_at, move_at}
use Rattle.semantics.specs.Run.{wait, after}
use Rattle.semantics.specs.Graph.Path.{Edge, Leaves, infinity, charge_at}
use Rattle.semantics.specs.Graph.MinuteGraph.{minute_graph}
use Rattle.semantics.specs.Timetables.States.{state_at-state}
use Rattle.semantics.specs.Timetables.Edges.{minute-closed}
use Rattle.table.specs.Fields.{most_price}
use Rattle.table.specs.Held.{automaton_of}
use Rattle.table.specs.Theorems.Access.{table-proper, rate-within, price-within}
use Rattle.std.specs.Prelude.{Option, Some}
use Rattle.rules.specs.Rules.{none, as_move, after_of, IsRules}
use Rattle.rules.specs.Laws.Moves.{some-move}
use Rattle.space.specs.Moves.{NextDone, OpenMove, OpenFrom, OpenNamed}
use Rattle.space.proofs.MovesFrom.{after-open}
use Rattle.steps.proofs.Sets.{refused}
use Rattle.states.specs.declared.States.{States}
use Rattle.minutes.specs.declared.waits.Source.{Source}
use Rattle.states.specs.States.{LeadDone}
use Rattle.minutes.specs.Edges.{Setting, state_of}
use Rattle.minutes.specs.Laws.Pairs.{edge_at, edge-weight, ShownAfter, none_between, open-leaves, edge-labelled}
use Rattle.timetable.specs.Steps.{goal_graph, TightRoom, Tells, Along, NoneTight, AtNode, WaitedAt, MoveFound, NoMove}

-- The mode of the node at which the walk stands is there; and what so many minutes are charged.
module _ {t rs : List ℕ} {s : States} (set : Setting t rs s) {ws : List ℕ} {v : ℕ} (n : AtNode s ws v) where
  pub node-mode : (state_of t v).mode < length (automaton_of t).modes
  node-mode = (state_at-state (automaton_of t) v (omega (arith, n.inside, set.is-states.count-is))).mode

  pub wait-most : (d : ℕ) → d ≤ 15 → d * (mode_at (automaton_of t) (state_of t v).mode).rate ≤ 15 * most_price
  wait-most d few = mul-le-mul few (rate-within t set.is-table (state_of t v).mode node-mode)

-- The pairs of every such wait with the moves from `first` on and before e: no edge of theirs is tight.
pub record NoneTo (t : List ℕ) (s : States) (x : Source) (first : ℕ) (ws : List ℕ) (e : ℕ) : Type 0 where
  pub above : first ≤ e
  pub silent : (v d : ℕ) → AtNode s ws v → WaitedAt t x ws v d → NoneTight t ws v x.pairs (64 * d + first) (64 * d + e)

module _ {t rs : List ℕ} {s : States} (set : Setting t rs s) {x : Source} {ws hs : List ℕ} (twice : hs ≡ map (λ k. 2 * k) x.at.values) where
  module _ {v d : ℕ} (n : AtNode s ws v) (w : WaitedAt t x ws v d) where
    shown : ShownAfter t rs v d x.at.mode x.at.values hs
    shown = record {
      is-table = set.is-table;
      is-rules = set.is-rules;
      allows = w.allows;
      mode-is = w.stands.mode-is;
      shown = w.stands.shows;
      room = w.room;
      twice = twice;
    }

    -- Move e is not passed over: its edge leaves the node, for the one to which it leads, and weighs the wait and its price.
    module _ {e : ℕ} (some : e < none) (o : OpenMove t rs hs x.at.mode e) where
      leaves : Leaves (goal_graph t) v (edge_at t v d e)
      leaves = open-leaves shown (automaton_of t).goal e some o

      inside : (edge_at t v d e).to < s.count
      unfolding minute_graph
      inside =
          let count = set.is-states.count-is in
          rw count
          (minute-closed (automaton_of t) (table-proper t set.is-table) (automaton_of t).goal v (edge_at t v d e) (rw count at n.inside) leaves)

      pub move-room : {to : ℕ} → LeadDone t x.at.values e to → TightRoom to ws
      move-room led = omega (arith, led (after (automaton_of t) (wait d) (state_of t v)) w.stands.shows, inside, n.room)

      module _ {price : ℕ} (priced : price ≡ (move_at (automaton_of t) e).price) where
        pub move-sum : price + x.charge < infinity
        move-sum =
            let most = price-within t set.is-table e (o.there some) in
            omega (arith, priced, most, w.charge-is, wait-most set n d w.few, n.sum)

        sum_is : price + x.charge ≡ (edge_at t v d e).weight + charge_at ws v
        sum_is = omega (arith, priced, w.charge-is, edge-weight t v d e)

        -- What the words tell of that node is whether the edge is tight.
        told :
            {to : ℕ} {r : Bool} → LeadDone t x.at.values e to → Tells ws to (price + x.charge) x.pairs r
            → (r ≡ true) ↔ Along ws v x.pairs (edge_at t v d e)
        told {to} {r} led tells =
            let to_is = led (after (automaton_of t) (wait d) (state_of t v)) w.stands.shows in
            rw (to_is, sum_is) at tells

  -- No move was looked at yet.
  pub none_first : {first e : ℕ} → OpenFrom t rs hs x.at.mode first e → NoneTo t s x first ws e
  none_first {first} {e} f = record { above = f.low; silent = λ v d n w y l low high a. none_between (shown n w) (automaton_of t).goal first e f y l low high }

  -- All were.
  pub move-none : {first e : ℕ} → NoneTo t s x first ws e → none ≤ e → NoMove t s x first ws
  move-none h past v d n w y l low high a = h.silent v d n w y l low (omega arith) a

  -- Move e is not passed over, and its node was tested.
  module _ {first e : ℕ} (h : NoneTo t s x first ws e) (some : e < none) (o : OpenMove t rs hs x.at.mode e) {to price : ℕ} {r : Bool}
      (led : LeadDone t x.at.values e to) (priced : price ≡ (move_at (automaton_of t) e).price)
      (tells : Tells ws to (price + x.charge) x.pairs r) where
    pub move-found : r ≡ true → MoveFound t s x first ws (record { made = e; node = to })
    move-found is = record {
      few = some;
      is-first = λ v d n w. record {
        from = omega (arith, h.above);
        below = omega (arith, some);
        tight = record {
          edge = edge_at t v d e;
          leaves = leaves n w some o;
          labelled = refl;
          leads = sym (led (after (automaton_of t) (wait d) (state_of t v)) w.stands.shows);
          along = (told n w some o priced led tells).0 is;
        };
        none_before = h.silent v d n w;
      };
    }

    pub none-next : r ≡ false → {next : ℕ} → OpenFrom t rs hs x.at.mode (e + 1) next → NoneTo t s x first ws next
    none-next fails {next} f = record {
      above = omega (arith, h.above, f.low);
      silent = λ v d n w y l low high a. at v d n w y l low high a (dec_lt y.label (64 * d + e)) (ℕ_discrete y.label (64 * d + e));
    }
      where
        at :
            (v d : ℕ) → AtNode s ws v → WaitedAt t x ws v d → (y : Edge) → Leaves (goal_graph t) v y → 64 * d + first ≤ y.label
            → y.label < 64 * d + next → Along ws v x.pairs y → Dec (y.label < 64 * d + e) → Dec (y.label ≡ 64 * d + e) → ⊥
        at v d n w y l low high a (yes m) q = h.silent v d n w y l low m a
        at v d n w y l low high a (no m) (yes q) =
            let b : Along ws v x.pairs (edge_at t v d e) = subst (λ (z : Edge). Along ws v x.pairs z) (edge-labelled (shown n w) (automaton_of t).goal e some y l q) a in
            refused (told n w some o priced led tells) fails b
        at v d n w y l low high a (no m) (no q) = none_between (shown n w) (automaton_of t).goal (e + 1) next f y l (omega arith) high

-- What holds at each turn: no edge of the moves before the next one is tight, which is not passed over.
pub record Turn (t rs : List ℕ) (s : States) (x : Source) (first : ℕ) (ws hs : List ℕ) (next : Option ℕ) : Type 0 where
  pub byte : ℕ
  pub named : next ≡ as_move byte
  pub move : OpenMove t rs hs x.at.mode byte
  pub none-to : NoneTo t s x first ws byte

-- Move e is next.
pub record TurnAt (t rs : List ℕ) (s : States) (x : Source) (first : ℕ) (ws hs : List ℕ) (e : ℕ) : Type 0 where
  pub some : e < none
  pub move : OpenMove t rs hs x.at.mode e
  pub none-to : NoneTo t s x first ws e

pub turn-at :
    {t rs : List ℕ} {s : States} {x : Source} {first : ℕ} {ws hs : List ℕ} {next : Option ℕ} → Turn t rs s x first ws hs next → {e : ℕ}
    → next ≡ Some e → TurnAt t rs s x first ws hs e
turn-at turn q = let o = some-move turn.named turn.move.few q in record { some = o.1; move = rw o.0 at turn.move; none-to = rw o.0 at turn.none-to }

-- The next after it.
pub turn-next :
    {t rs : List ℕ} {s : States} {x : Source} {first : ℕ} {ws hs : List ℕ} {e : ℕ} → TurnAt t rs s x first ws hs e → IsRules t rs
    → {from result : Option ℕ} → from ≡ as_move (after_of rs e) → NextDone rs hs from result → OpenNamed t rs hs x.at.mode (e + 1) result
turn-next turn rules is done = after-open rules (turn.move.there turn.some) is (turn.move.source turn.some) done
