-- The pairs of the node in hand, relaxed wait by wait.
-- Assumes nothing.
use mathlib.Core.Path.{◌≡◌, sym, ap, ◌∙◌}
use mathlib.Core.Bool.{Bool, true, false, true≢false}
use mathlib.Core.Logic.{◌⊎◌, inl, inr}
use mathlib.Core.List.{List}
use Prim.Native.Nat.{ℕ, suc, ◌+◌, ◌*◌, ◌-◌, ◌≤◌, ◌<◌}
use native.Mathlib.Nat.{mul-le-mul}
use native.Mathlib.Decide.{dec_lt}
use native.Mathlib.Omega.{arith}
use lib.ListN.{length, get_or}
use Rattle.semantics.specs.Order.{Cost}
use Rattle.semantics.specs.Automaton.{timers, mode_at}
use Rattle.semantics.specs.Run.{wait, after}
use Rattle.semantics.specs.Graph.Path.{Edge, Leaves}
use Rattle.semantics.specs.Timetables.Allowed.{allowed-iff, stays-true}
use Rattle.semantics.specs.Timetables.Edges.{edge_of, pair-few}
use Rattle.table.specs.Held.{automaton_of}
use Rattle.table.specs.Theorems.Access.{table-proper, get_or-pad, rate-within}
use Rattle.search.specs.Exploring.{Relaxes, relaxes-already, relaxes-none, relaxes-then, long-relaxed}
use Rattle.states.specs.declared.States.{States}
use Rattle.minutes.specs.declared.waits.Source.{Source}
use Rattle.states.specs.States.{StandsAt}
use Rattle.minutes.specs.Waits.{WaitReady, WaitDone, OfRules, StaysReady, StaysDone}
use Rattle.minutes.specs.Edges.{Setting, graph_of, rooted_of, state_of, AnyPair, OfMinute, Short, Standing, PairsReady, PairsDone, MinuteReady, Waited, MovesReady, MovesDone}
use Rattle.states.specs.Laws.Bounds.{timers-some, ceiling-few}
use Rattle.states.specs.Laws.Shows.{value-below}
use Rattle.minutes.specs.Laws.Pairs.{minute-edge}
use Rattle.minutes.proofs.Offers.{hand-mode, hand-sum, edge-inside}

-- When the words have changed the struct is still that of the node in hand.
stand-again :
    {t : List ℕ} {s : States} {x : Source} {goal u : ℕ} {Fits : Edge → Type 0} {ws ws' : List ℕ} → Standing t s x ws goal u
    → Relaxes (rooted_of t goal) s.count u Fits ws ws' → Standing t s x ws' goal u
stand-again h done = record {
  hand = done.hand;
  stands = h.stands;
  charge-is = h.charge-is ∙ ap (λ (c : Cost). c.charge) (sym done.same);
  pairs-are = h.pairs-are ∙ ap (λ (c : Cost). suc c.steps) (sym done.same);
}

module _ {t rs : List ℕ} {s : States} (z : Setting t rs s) {x : Source} {ws : List ℕ} (p : PairsReady t s x ws) where
  mode-there : x.at.mode < length (automaton_of t).modes
  mode-there = omega (arith, hand-mode z p.goal p.standing.hand, p.standing.stands.mode-is)

  -- No value is above its ceiling.
  value-few : (i : ℕ) → get_or x.at.values i 0 ≤ get_or (automaton_of t).ceilings i 0
  value-few i = at (dec_lt i (timers (automaton_of t)))
    where
      at : Dec (i < timers (automaton_of t)) → get_or x.at.values i 0 ≤ get_or (automaton_of t).ceilings i 0
      at (yes h) = omega (arith, p.standing.stands.shows.there i h, value-below (automaton_of t) p.node i h)
      at (no n) = omega (arith, p.standing.stands.shows.spare i (omega arith))

  -- That of timer 0, as the struct has it, and the longest wait.
  pub first_below : get_or x.at.values 0 0 ≤ get_or s.ceilings 0 0
  first_below = rw (z.is-states.ceilings-are, get_or-pad 3 (automaton_of t).ceilings 0) (value-few 0)

  pub first-few : get_or s.ceilings 0 0 ≤ 15
  first-few = rw (z.is-states.ceilings-are, get_or-pad 3 (automaton_of t).ceilings 0) (ceiling-few t z.is-table 0)

  -- Where the edges arrive with too many pairs nothing is to be done.
  pub pairs-long : s.count ≤ x.pairs → PairsDone AnyPair t s x ws ws
  pairs-long many goal u h =
      relaxes-already h.hand AnyPair
      (λ e l f. long-relaxed h.hand e l (edge-inside z goal h.hand e l) (omega (arith, many, h.pairs-are)))

  -- No wait was looked at yet.
  pub pairs-none : PairsDone (λ e. e.label < 64 * 0) t s x ws ws
  pairs-none goal u h = relaxes-none h.hand (λ e. e.label < 64 * 0) (λ e l b. omega arith)

  module _ {ws' : List ℕ} (d : ℕ) (done : PairsDone (λ e. e.label < 64 * d) t s x ws ws') where
    -- Those before d were: the next can be.
    pub minute-ready : Short s x → d ≤ 15 → MinuteReady t s x d ws'
    minute-ready short few = record {
      pairs = record {
        goal = p.goal;
        node = p.node;
        standing = stand-again p.standing (done p.goal p.node p.standing);
      };
      short = short;
      few = few;
    }

    pub pairs-more : {ws'' : List ℕ} → PairsDone (OfMinute d) t s x ws' ws'' → PairsDone (λ e. e.label < 64 * (d + 1)) t s x ws ws''
    pairs-more more goal u h =
        relaxes-then (λ e. e.label < 64 * (d + 1)) (done goal u h) (more goal u (stand-again h (done goal u h)))
        (λ e l b. at e b (dec_lt e.label (64 * d)))
      where
        at : (e : Edge) → e.label < 64 * (d + 1) → Dec (e.label < 64 * d) → (e.label < 64 * d) ⊎ OfMinute d e
        at e b (yes m) = inl m
        at e b (no n) = inr (omega arith, omega arith)

    -- Beyond the ceiling of timer 0 there are no more.
    pub pairs-all :
        {ws'' : List ℕ} → PairsDone (OfMinute d) t s x ws' ws'' → get_or s.ceilings 0 0 - get_or x.at.values 0 0 ≤ d → PairsDone AnyPair t s x ws ws''
    pairs-all more past goal u h =
        let last = pairs-more more goal u h in
        relaxes-then AnyPair last
        (relaxes-none last.hand (λ e. ⊥) (λ e l b. b))
        (λ e l b. inl (below e l))
      where
        below : (e : Edge) → Leaves (graph_of t goal) u e → e.label < 64 * (d + 1)
        below e l =
            let a = automaton_of t in
            let ok = table-proper t z.is-table in
            let o = edge_of a ok goal u e l in
            let few = pair-few a ok o.pair (state_of t u) o.allowed in
            let label : e.label ≡ 64 * o.pair.minutes + o.pair.made = ap (λ (y : Edge). y.label) o.is in
            let some = timers-some t z.is-table in
            let under = o.allowed.waits.1 0 some in
            let own = h.stands.shows.there 0 some in
            let ceiling : get_or s.ceilings 0 0 ≡ get_or a.ceilings 0 0 = rw z.is-states.ceilings-are (get_or-pad 3 a.ceilings 0) in
            omega (arith, few, label, under, own, ceiling, past)

-- One wait.
module _ {t rs : List ℕ} {s : States} (z : Setting t rs s) {x : Source} {d : ℕ} {ws : List ℕ} (m : MinuteReady t s x d ws) where
  abbrev p : PairsReady t s x ws
  p = m.pairs

  pub wait-ready : WaitReady t x d
  wait-ready = record {
    standing = (state_of t p.node, p.standing.stands);
    mode-there = mode-there z p;
    values-few = λ i. omega (arith, value-few z p i, ceiling-few t z.is-table i, m.few);
    sum =
        let rate = rate-within t z.is-table x.at.mode (mode-there z p) in
        omega (
          arith,
          mul-le-mul m.few rate,
          hand-sum z p.goal p.standing.hand,
          p.standing.charge-is,
        );
  }

  module _ (r : Source) (later : WaitDone t x d r) where
    stands-later : StandsAt (automaton_of t) (after (automaton_of t) (wait d) (state_of t p.node)) r.at
    stands-later = later.stands (state_of t p.node) p.standing.stands

    of-rules : OfRules t rs r.at
    of-rules = record {
      is-table = z.is-table;
      is-rules = z.is-rules;
      mode-there = omega (arith, hand-mode z p.goal p.standing.hand, stands-later.mode-is);
    }

    pub stays-ready : StaysReady rs r.at
    stays-ready = record { table = t; rules = of-rules; standing = (after (automaton_of t) (wait d) (state_of t p.node), stands-later); room = later.room }

    -- Whether the wait is allowed.
    module _ (b : Bool) (told : StaysDone rs r.at b) where
      waited : b ≡ true → (goal u : ℕ) → Standing t s x ws goal u → Waited t s r ws goal u d
      waited y goal u h =
          let k = later.stands (state_of t u) h.stands in
          let stayed = (told t of-rules (after (automaton_of t) (wait d) (state_of t u)) k).0 y in
          record {
            hand = h.hand;
            allows = (allowed-iff (automaton_of t) (wait d) (state_of t u)).1 ((stays-true (automaton_of t) (state_of t u).mode _).0 stayed);
            stands = k;
            charge-is = later.charge-is ∙ ap (λ (i : ℕ). d * (mode_at (automaton_of t) i).rate + x.charge) h.stands.mode-is
                ∙ ap (λ (c : ℕ). d * (mode_at (automaton_of t) (state_of t u).mode).rate + c) h.charge-is;
            pairs-are = later.pairs-are ∙ h.pairs-are;
          }

      pub moves-ready : b ≡ true → MovesReady t s r ws
      moves-ready y = record {
        short = omega (arith, m.short, later.pairs-are);
        goal = p.goal;
        node = p.node;
        minutes = d;
        room = later.room;
        waited = waited y p.goal p.node p.standing;
      }

      pub minute-done : b ≡ true → {ws' : List ℕ} → MovesDone t s r ws ws' → PairsDone (OfMinute d) t s x ws ws'
      minute-done y done goal u h = done goal u d (waited y goal u h)

      pub minute-none : b ≡ false → PairsDone (OfMinute d) t s x ws ws
      minute-none n goal u h =
          relaxes-none h.hand (OfMinute d)
          (λ e l of.
          let k = later.stands (state_of t u) h.stands in
          let w = (minute-edge t z.is-table goal u d e l of).waits in
          let y = (told t of-rules (after (automaton_of t) (wait d) (state_of t u)) k).1 ((stays-true (automaton_of t) (state_of t u).mode _).1 w) in
          true≢false (sym y ∙ n))
