-- The edges of the pairs that wait so many minutes at a node: they are those of the moves that the state then allows, and these are the moves that are not
-- passed over by the rules.
-- Assumes nothing.
use Rattle.std.specs.Prelude.{◌≡◌, refl, true, ◌↔◌, List, [], ◌∷◌, map, ℕ, zero, suc, ◌+◌, ◌*◌, ◌≤◌, ◌<◌, length, get_or}
use Rattle.std.proofs.Common.{sym, ap, subst, ◌∙◌, arith}
use Rattle.semantics.specs.Automaton.{mode_at, move_at}
use Rattle.semantics.specs.Run.{wait, move, after, Allowed}
use Rattle.semantics.specs.Timetable.{Pair, after_pair, allowed}
use Rattle.semantics.specs.Graph.Path.{Edge, Leaves}
use Rattle.semantics.specs.Timetables.Allowed.{allowed-iff}
use Rattle.semantics.specs.Timetables.Edges.{pair_edge, EdgeOf, pair-few, edge_of, edge-from}
use Rattle.table.specs.Held.{automaton_of, IsTable}
use Rattle.table.specs.Theorems.Access.{table-proper}
use Rattle.rules.specs.Rules.{none, IsRules}
use Rattle.space.specs.Moves.{Open, OpenMove, OpenFrom}
use Rattle.states.specs.States.{Shows}
use Rattle.minutes.specs.Waits.{Room}
use Rattle.minutes.specs.Edges.{graph_of, state_of, OfMinute}
use Rattle.minutes.specs.Laws.Rows.{move_row}

-- d minutes and then the move e.
abbrev pub pair_at : ℕ → ℕ → Pair
pair_at d e = record { minutes = d; made = e }

-- Its edge from node u.
abbrev pub edge_at : List ℕ → ℕ → ℕ → ℕ → Edge
edge_at t u d e = pair_edge (automaton_of t) (pair_at d e) (state_of t u) (after_pair (automaton_of t) (pair_at d e) (state_of t u))

-- What it weighs: the wait, and the price.
pub edge-weight :
    (t : List ℕ) (u d e : ℕ)
    → (edge_at t u d e).weight ≡ d * (mode_at (automaton_of t) (state_of t u).mode).rate + (move_at (automaton_of t) e).price
edge-weight t u d e = omega arith

-- An edge of that wait is one of these.
pub record MinuteEdge (t : List ℕ) (u d : ℕ) (y : Edge) : Type 0 where
  pub made : ℕ
  pub few : made < 64
  pub waits : Allowed (automaton_of t) 1 (wait d) (state_of t u)
  pub allows : Allowed (automaton_of t) 1 (move made) (after (automaton_of t) (wait d) (state_of t u))
  pub labelled : y.label ≡ 64 * d + made
  pub is : y ≡ edge_at t u d made

module _ (t : List ℕ) (table : IsTable t) (goal u d : ℕ) where
  pub minute-edge : (y : Edge) → Leaves (graph_of t goal) u y → OfMinute d y → MinuteEdge t u d y
  minute-edge y leaves of = go (edge_of (automaton_of t) (table-proper t table) goal u y leaves)
    where
      go : EdgeOf (automaton_of t) u y → MinuteEdge t u d y
      go o =
          let few = pair-few (automaton_of t) (table-proper t table) o.pair (state_of t u) o.allowed in
          let label : y.label ≡ 64 * o.pair.minutes + o.pair.made = ap (λ (z : Edge). z.label) o.is in
          let same : o.pair.minutes ≡ d = omega (arith, few, label, of) in
          record {
            made = o.pair.made;
            few = few;
            waits = rw same at o.allowed.waits;
            allows = rw same at o.allowed.moves;
            labelled = omega (arith, label, same);
            is = rw same at o.is;
          }

  -- There is one for every move that the state then allows.
  pub edge-leaves :
      allowed (automaton_of t) (wait d) (state_of t u) ≡ true → (e : ℕ) → Allowed (automaton_of t) 1 (move e) (after (automaton_of t) (wait d) (state_of t u))
      → Leaves (graph_of t goal) u (edge_at t u d e)
  edge-leaves waits e moves =
      edge-from (automaton_of t) (table-proper t table) goal u (pair_at d e)
      (record { waits = (allowed-iff (automaton_of t) (wait d) (state_of t u)).0 waits; moves = moves })

-- Entries twice as high.
pub twice-at : (l : List ℕ) (i : ℕ) → get_or (map (λ v. 2 * v) l) i 0 ≡ 2 * get_or l i 0
twice-at [] i = refl
twice-at (x ∷ l) zero = refl
twice-at (x ∷ l) (suc i) = twice-at l i

-- d minutes were waited at node u: the array shows the state then, and hs where its timers stand in half minutes.
pub record ShownAfter (t rs : List ℕ) (u d mode : ℕ) (values hs : List ℕ) : Type 0 where
  pub is-table : IsTable t
  pub is-rules : IsRules t rs
  pub allows : allowed (automaton_of t) (wait d) (state_of t u) ≡ true
  pub mode-is : mode ≡ (state_of t u).mode
  pub shown : Shows (automaton_of t) (after (automaton_of t) (wait d) (state_of t u)) values
  pub room : Room values
  pub twice : hs ≡ map (λ v. 2 * v) values

module _ {t rs : List ℕ} {u d mode : ℕ} {values hs : List ℕ} (k : ShownAfter t rs u d mode values hs) where
  -- The moves that it allows then are those of its mode whose rows have the timers in their windows.
  opens :
      (e : ℕ) → e < length (automaton_of t).moves → (move_at (automaton_of t) e).source ≡ (state_of t u).mode
      → Open rs hs e ↔ Allowed (automaton_of t) 1 (move e) (after (automaton_of t) (wait d) (state_of t u))
  opens e there source =
      move_row t rs k.is-table k.is-rules (after (automaton_of t) (wait d) (state_of t u)) values hs k.shown
      (λ x. rw k.twice (twice-at values x)) k.room e there source ((allowed-iff (automaton_of t) (wait d) (state_of t u)).0 k.allows).1

  module _ (goal : ℕ) where
    -- No edge is between the moves from a byte on and the first that is not passed over.
    pub none_between :
        (byte e : ℕ) → OpenFrom t rs hs mode byte e → (y : Edge) → Leaves (graph_of t goal) u y → 64 * d + byte ≤ y.label → y.label < 64 * d + e → ⊥
    none_between byte e f y l low high =
        let m = minute-edge t k.is-table goal u d y l (omega arith, omega (arith, f.move.few)) in
        let there = m.allows.0 in
        let source = m.allows.1 in
        f.passed m.made (omega (arith, m.labelled)) (omega (arith, m.labelled)) there (source ∙ sym k.mode-is)
        ((opens m.made there source).1 m.allows)

    -- A move that is not passed over has its edge.
    pub open-leaves : (e : ℕ) → e < none → OpenMove t rs hs mode e → Leaves (graph_of t goal) u (edge_at t u d e)
    open-leaves e some o =
        edge-leaves t k.is-table goal u d k.allows e ((opens e (o.there some) (o.source some ∙ k.mode-is)).0 (o.is_open some))

    -- An edge with the label of a pair is that of the pair.
    pub edge-labelled : (e : ℕ) → e < none → (y : Edge) → Leaves (graph_of t goal) u y → y.label ≡ 64 * d + e → y ≡ edge_at t u d e
    edge-labelled e some y l q =
        let m = minute-edge t k.is-table goal u d y l (omega arith, omega arith) in
        let same : m.made ≡ e = omega (arith, m.labelled, q) in
        subst (λ (i : ℕ). y ≡ edge_at t u d i) same m.is
