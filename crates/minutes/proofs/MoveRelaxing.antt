-- The pairs of one wait from the node in hand, relaxed one after another along the moves of its mode.
-- Assumes nothing.
use mathlib.Core.Path.{◌≡◌, sym, ap, ◌∙◌}
use mathlib.Core.Logic.{◌⊎◌, inl, inr}
use mathlib.Core.List.{List, map}
use Prim.Native.Nat.{ℕ, suc, ◌+◌, ◌*◌, ◌≤◌, ◌<◌}
use native.Mathlib.Decide.{ℕ_discrete, dec_lt}
use native.Mathlib.Omega.{arith}
use Rattle.semantics.specs.Order.{Cost}
use Rattle.semantics.specs.Automaton.{mode_at, move_at}
use Rattle.semantics.specs.Run.{wait, after}
use Rattle.semantics.specs.Graph.Path.{Edge, Leaves, infinity, charge_at}
use Rattle.table.specs.Held.{automaton_of}
use Rattle.std.specs.Prelude.{Option, Some, None}
use Rattle.rules.specs.Rules.{none, as_move}
use Rattle.rules.specs.Laws.Moves.{some-move, no-move, left, left-less}
use Rattle.queue.specs.Queue.{lows, RelaxReady, RelaxDone}
use Rattle.space.specs.Moves.{OpenMove, OpenFrom, OpenNamed}
use Rattle.search.specs.Exploring.{Relaxes, relaxes-none, relaxes-then}
use Rattle.states.specs.declared.States.{States}
use Rattle.minutes.specs.declared.waits.Source.{Source}
use Rattle.states.specs.States.{LeadDone}
use Rattle.minutes.specs.Waits.{Room}
use Rattle.minutes.specs.Edges.{Setting, graph_of, rooted_of, state_of, OfMinute, Short, Waited, MovesDone}
use Rattle.minutes.specs.Laws.Pairs.{edge_at, edge-weight, ShownAfter, none_between, open-leaves, edge-labelled}
use Rattle.minutes.proofs.Offers.{edge-sum, edge-ready, edge-relaxes}

-- When the words have changed the struct is still that of the node in hand.
pub wait-again :
    {t : List ℕ} {s : States} {x : Source} {goal u d : ℕ} {Fits : Edge → Type 0} {ws ws' : List ℕ} → Waited t s x ws goal u d
    → Relaxes (rooted_of t goal) s.count u Fits ws ws' → Waited t s x ws' goal u d
wait-again {t} {s} {x} {goal} {u} {d} h done = record {
  hand = done.hand;
  allows = h.allows;
  stands = h.stands;
  charge-is = h.charge-is ∙ ap (λ (c : Cost). d * (mode_at (automaton_of t) (state_of t u).mode).rate + c.charge) (sym done.same);
  pairs-are = h.pairs-are ∙ ap (λ (c : Cost). suc c.steps) (sym done.same);
}

-- The pairs of this wait with the moves before e.
abbrev pub Before : ℕ → ℕ → Edge → Type 0
Before d e y = OfMinute d y × (y.label < 64 * d + e)

-- They were relaxed.
abbrev pub MovesTo : List ℕ → States → Source → ℕ → List ℕ → List ℕ → Type 0
MovesTo t s x e ws ws' = (goal u d : ℕ) → Waited t s x ws goal u d → Relaxes (rooted_of t goal) s.count u (Before d e) ws ws'

-- What holds at each turn: the pairs with the moves before the next one were relaxed.
pub record Turn (t rs : List ℕ) (s : States) (x : Source) (hs : List ℕ) (next : Option ℕ) (ws ws' : List ℕ) : Type 0 where
  pub byte : ℕ
  pub named : next ≡ as_move byte
  pub move : OpenMove t rs hs x.at.mode byte
  pub moves : MovesTo t s x byte ws ws'

-- Move e is next.
pub record TurnAt (t rs : List ℕ) (s : States) (x : Source) (hs : List ℕ) (e : ℕ) (ws ws' : List ℕ) : Type 0 where
  pub some : e < none
  pub move : OpenMove t rs hs x.at.mode e
  pub moves : MovesTo t s x e ws ws'

pub turn-at :
    {t rs : List ℕ} {s : States} {x : Source} {hs : List ℕ} {next : Option ℕ} {ws ws' : List ℕ} → Turn t rs s x hs next ws ws' → {e : ℕ}
    → next ≡ Some e → TurnAt t rs s x hs e ws ws'
turn-at turn q = let o = some-move turn.named turn.move.few q in record { some = o.1; move = rw o.0 at turn.move; moves = rw o.0 at turn.moves }

-- A later one comes after it.
pub turn-less :
    {t rs : List ℕ} {s : States} {x : Source} {hs : List ℕ} {next later : Option ℕ} {ws ws' : List ℕ} → Turn t rs s x hs next ws ws' → {e : ℕ}
    → next ≡ Some e → OpenNamed t rs hs x.at.mode (e + 1) later → left later < left next
turn-less turn q o = rw q (left-less (some-move turn.named turn.move.few q).1 o.1 (omega (arith, o.2.low)))

module _ {t rs : List ℕ} {s : States} (z : Setting t rs s) (x : Source) (room : Room x.at.values) (hs : List ℕ)
    (twice : hs ≡ map (λ v. 2 * v) x.at.values) where
  shown : {ws : List ℕ} {goal u d : ℕ} → Waited t s x ws goal u d → ShownAfter t rs u d x.at.mode x.at.values hs
  shown h = record {
    is-table = z.is-table;
    is-rules = z.is-rules;
    allows = h.allows;
    mode-is = h.stands.mode-is;
    shown = h.stands.shows;
    room = room;
    twice = twice;
  }

  -- No move was looked at yet.
  moves-none : (e : ℕ) → OpenFrom t rs hs x.at.mode 0 e → (ws : List ℕ) → MovesTo t s x e ws ws
  moves-none e f ws goal u d h =
      relaxes-none h.hand (Before d e) (λ y l b. none_between (shown h) goal 0 e f y l (omega (arith, b.0.0)) b.1)

  pub turn-first : {next : Option ℕ} → OpenNamed t rs hs x.at.mode 0 next → {ws : List ℕ} → Turn t rs s x hs next ws ws
  turn-first o {ws} = record { byte = o.0; named = o.1; move = o.2.move; moves = moves-none o.0 o.2 ws }

  -- All were.
  pub turn-all : {next : Option ℕ} {ws ws' : List ℕ} → Turn t rs s x hs next ws ws' → next ≡ None → MovesDone t s x ws ws'
  turn-all turn q goal u d h =
      let past = no-move turn.named q in
      let done = turn.moves goal u d h in
      relaxes-then (OfMinute d) done
      (relaxes-none done.hand (λ y. Before d 64 y × (64 * d + 64 ≤ y.label)) (λ y l b. omega arith)) (λ y l b. inl (b, omega (arith, past)))

  -- Move e is not passed over.
  module _ (e : ℕ) (some : e < none) (o : OpenMove t rs hs x.at.mode e) where
    module _ {ws : List ℕ} {goal u d : ℕ} (h : Waited t s x ws goal u d) where
      leaves : Leaves (graph_of t goal) u (edge_at t u d e)
      leaves = open-leaves (shown h) goal e some o

      -- By the function that leads there, its node.
      pub move-node : (to : ℕ) → LeadDone t x.at.values e to → to ≡ (edge_at t u d e).to
      move-node to led = led (after (automaton_of t) (wait d) (state_of t u)) h.stands.shows

      sum_is : (price : ℕ) → price ≡ (move_at (automaton_of t) e).price → price + x.charge ≡ (edge_at t u d e).weight + charge_at (lows s.count ws) u
      sum_is price p = omega (arith, p, h.charge-is, edge-weight t u d e)

      module _ (short : Short s x) (price : ℕ) (priced : price ≡ (move_at (automaton_of t) e).price) where
        pub move-sum : price + x.charge < infinity
        move-sum = edge-sum z goal h.hand (edge_at t u d e) leaves (price + x.charge) x.pairs (sum_is price priced) h.pairs-are short

        pub move-ready : (to : ℕ) → LeadDone t x.at.values e to → RelaxReady s.count to (price + x.charge) x.pairs ws
        move-ready to led =
            rw (move-node to led)
            (edge-ready z goal h.hand (edge_at t u d e) leaves (price + x.charge) x.pairs (sum_is price priced) h.pairs-are short)

    moves_more :
        Short s x → (ws ws' ws'' : List ℕ) → MovesTo t s x e ws ws' → (price : ℕ) → price ≡ (move_at (automaton_of t) e).price
        → (to : ℕ) → LeadDone t x.at.values e to → RelaxDone s.count to (price + x.charge) x.pairs ws' ws''
        → (next : ℕ) → OpenFrom t rs hs x.at.mode (e + 1) next → MovesTo t s x next ws ws''
    moves_more short ws ws' ws'' done price priced to led made next f goal u d h =
        relaxes-then (Before d next) (done goal u d h)
        (edge-relaxes z goal k.hand (edge_at t u d e) (leaves k) (price + x.charge) x.pairs (sum_is k price priced) k.pairs-are short ws''
        (rw (move-node k to led) at made))
        (λ y l b. at y l b (dec_lt y.label (64 * d + e)) (ℕ_discrete y.label (64 * d + e)))
      where
        k : Waited t s x ws' goal u d
        k = wait-again h (done goal u d h)

        at :
            (y : Edge) → Leaves (graph_of t goal) u y → Before d next y → Dec (y.label < 64 * d + e) → Dec (y.label ≡ 64 * d + e)
            → Before d e y ⊎ (y ≡ edge_at t u d e)
        at y l b (yes m) q = inl (b.0, m)
        at y l b (no n) (yes q) = inr (edge-labelled (shown h) goal e some y l q)
        at y l b (no n) (no q) = absurd (none_between (shown h) goal (e + 1) next f y l (omega arith) b.1)

    -- It was relaxed too, and the next one is known.
    pub turn-next :
        Short s x → {ws ws' ws'' : List ℕ} → MovesTo t s x e ws ws' → (price : ℕ) → price ≡ (move_at (automaton_of t) e).price
        → (to : ℕ) → LeadDone t x.at.values e to → RelaxDone s.count to (price + x.charge) x.pairs ws' ws''
        → {next : Option ℕ} → OpenNamed t rs hs x.at.mode (e + 1) next → Turn t rs s x hs next ws ws''
    turn-next short {ws} {ws'} {ws''} done price priced to led made o = record {
      byte = o.0;
      named = o.1;
      move = o.2.move;
      moves = moves_more short ws ws' ws'' done price priced to led made o.0 o.2;
    }
