-- A search in Dijkstra's order, by the words: the first node of the queue is in hand, its edges are relaxed one after another, and then it is settled.
-- Assumes nothing.
use Rattle.std.specs.Prelude.{◌≡◌, refl, ◌≢◌, ◌⊎◌, List, ℕ, suc, ◌+◌, ◌*◌, ◌≤◌, ◌<◌, length, drop}
use Rattle.std.proofs.Common.{sym, ap, subst, ◌∙◌, inl, inr, arith}
use Rattle.std.proofs.Math.Decide.{dec_lt}
use Rattle.semantics.specs.Order.{Cost, ◌≼◌, ◌≺◌}
use Rattle.semantics.specs.Graph.Path.{Edge, Graph, Leaves, Entry, reached, Within, along, infinity, charge_at, steps_at, table}
use Rattle.semantics.specs.Paths.Words.{table-reached, reached-words, table-stored, table-other, stored-length, stored-rest}
use Rattle.semantics.specs.Paths.Cost.{cost-same, cost-total}
use Rattle.semantics.specs.Paths.Explored.{RelaxedFrom}
use Rattle.semantics.specs.Paths.Settling.{key_of, IsSettled, Settling, None, Only, Lowering, lowering-none, lowering-then, lowering-relaxed, lowering-settling, settle-done, offered-later, relaxed-already, stored-lowering, stored-relaxed}
use Rattle.queue.specs.Queue.{lows, slot_at, key, cost_in, Pending, Seated, Queue, RelaxReady, LowerDone, RelaxDone, SettleReady, SettleDone}
use Rattle.queue.specs.Laws.Keys.{key-own}
use Rattle.queue.specs.Laws.Lows.{lows-length, lows-rest}
use Rattle.queue.specs.Laws.First.{first-pending, first-least, first-none}
use Rattle.queue.specs.Laws.Once.{unsettled_count, lowered-unsettled}

-- The costs that the words hold.
abbrev pub costs_in : ℕ → List ℕ → ℕ → Entry
costs_in nodes ws = table (lows nodes ws)

-- Every node whose key is below `upto` is settled, and those that are reached beyond it are in the queue.
pub record Between (g : Graph) (s nodes upto : ℕ) (ws : List ℕ) : Type 0 where
  pub sized : g.nodes ≡ nodes
  pub queue : Queue nodes upto ws
  pub settling : Settling g s upto None (costs_in nodes ws)

-- A graph, and the node at which its ways begin.
pub record Rooted : Type 0 where
  pub graph : Graph
  pub start : ℕ

-- Node u is the first of the queue, and its edges are in hand. By the costs it is settled already: no edge of it lowers a node below its key.
pub record InHand (r : Rooted) (nodes u : ℕ) (ws : List ℕ) : Type 0 where
  pub sized : r.graph.nodes ≡ nodes
  pub inside : u < nodes
  pub upto : ℕ
  pub queue : Queue nodes upto ws
  pub first : slot_at ws 1 ≡ u
  pub settling : Settling r.graph r.start (suc (key (lows nodes ws) u)) (Only u) (costs_in nodes ws)

-- The words became others: of u the edges that fit were relaxed, it is still the first, and its own cost stayed.
pub record Relaxes (r : Rooted) (nodes u : ℕ) (Fits : Edge → Type 0) (ws ws' : List ℕ) : Type 0 where
  pub hand : InHand r nodes u ws'
  pub same : cost_in nodes ws' u ≡ cost_in nodes ws u
  pub low : Lowering r.graph r.start (suc (key (lows nodes ws) u)) (costs_in nodes ws) (costs_in nodes ws')
  pub edges : (e : Edge) → Leaves r.graph u e → Fits e → RelaxedFrom r.graph r.start (costs_in nodes ws') u e
  pub unsettled : unsettled_count nodes (key (lows nodes ws) u) ws' ≡ unsettled_count nodes (key (lows nodes ws) u) ws
  pub rest : drop (2 * nodes) ws' ≡ drop (2 * nodes) ws
  pub kept : length ws' ≡ length ws

module _ {r : Rooted} {nodes u : ℕ} {ws : List ℕ} (h : InHand r nodes u ws) where
  pub hand-inside : u < r.graph.nodes
  hand-inside = omega (arith, h.inside, h.sized)

  -- It is pending.
  pub hand-pending : Pending h.upto (lows nodes ws) u
  hand-pending = first-pending nodes h.upto ws h.queue u h.inside h.first

  -- The entry of u.
  pub hand-entry : costs_in nodes ws u ≡ reached (cost_in nodes ws u)
  hand-entry = table-reached (lows nodes ws) u hand-pending.0

  hand-settled : IsSettled (suc (key (lows nodes ws) u)) (costs_in nodes ws) u (cost_in nodes ws u)
  hand-settled = record { entry = hand-entry; before = omega arith }

  -- Nothing is to be done where the edges that fit are relaxed already, or none fits.
  pub relaxes-already :
      (Fits : Edge → Type 0) → ((e : Edge) → Leaves r.graph u e → Fits e → RelaxedFrom r.graph r.start (costs_in nodes ws) u e)
      → Relaxes r nodes u Fits ws ws
  relaxes-already Fits already =
      record { hand = h; same = refl; low = lowering-none h.settling.costs; edges = already; unsettled = refl; rest = refl; kept = refl }

  pub relaxes-none : (Fits : Edge → Type 0) → ((e : Edge) → Leaves r.graph u e → Fits e → ⊥) → Relaxes r nodes u Fits ws ws
  relaxes-none Fits unfit = relaxes-already Fits (λ e l f. absurd (unfit e l f))

  -- When its edges are relaxed it can be settled.
  pub hand-settles : SettleReady nodes u ws
  hand-settles = record { upto = h.upto; queue = h.queue; first = h.first; there = h.inside }

-- One part and then another.
pub relaxes-then :
    {r : Rooted} {nodes u : ℕ} {P Q : Edge → Type 0} {ws ws' ws'' : List ℕ} (Fits : Edge → Type 0) → Relaxes r nodes u P ws ws'
    → Relaxes r nodes u Q ws' ws'' → ((e : Edge) → Leaves r.graph u e → Fits e → P e ⊎ Q e) → Relaxes r nodes u Fits ws ws''
relaxes-then {r} {nodes} {u} {P} {Q} {ws} {ws'} {ws''} Fits p q split = record {
  hand = q.hand;
  same = q.same ∙ p.same;
  low = lowering-then p.low later;
  edges = λ e l f. at e l (split e l f);
  unsettled = subst (λ (k : ℕ). unsettled_count nodes k ws'' ≡ unsettled_count nodes k ws') same_key q.unsettled ∙ p.unsettled;
  rest = q.rest ∙ p.rest;
  kept = q.kept ∙ p.kept;
}
  where
    same_key : key (lows nodes ws') u ≡ key (lows nodes ws) u
    same_key = ap (λ (c : Cost). key_of c u) p.same

    later : Lowering r.graph r.start (suc (key (lows nodes ws) u)) (costs_in nodes ws') (costs_in nodes ws'')
    later = subst (λ (k : ℕ). Lowering r.graph r.start (suc k) (costs_in nodes ws') (costs_in nodes ws'')) same_key q.low

    at : (e : Edge) → Leaves r.graph u e → P e ⊎ Q e → RelaxedFrom r.graph r.start (costs_in nodes ws'') u e
    at e l (inl f) =
        lowering-relaxed q.low u e (cost_in nodes ws' u) (hand-inside p.hand) (hand-settled p.hand) (p.edges e l f)
    at e l (inr f) = q.edges e l f

-- When all its edges are relaxed and it is settled the node is out of hand.
pub relaxes-done :
    {r : Rooted} {nodes u : ℕ} {ws ws' ws'' : List ℕ} {Fits : Edge → Type 0} → ((e : Edge) → Leaves r.graph u e → Fits e)
    → Relaxes r nodes u Fits ws ws' → SettleDone nodes u ws' ws'' → Between r.graph r.start nodes (suc (key (lows nodes ws') u)) ws''
relaxes-done {r} {nodes} {u} {ws} {ws'} {ws''} all x done = record {
  sized = x.hand.sized;
  queue = done.queue;
  settling = subst (λ (l : List ℕ). Settling r.graph r.start (suc (key (lows nodes ws') u)) None (table l)) (sym done.costs)
      (settle-done x.hand.settling (λ e l. x.edges e l (all e l)));
}

-- The first of a queue is the node that is pending and than which no pending node has a smaller key.
first-is :
    (nodes upto : ℕ) (ws : List ℕ) → Queue nodes upto ws → (u : ℕ) → u < nodes → Pending upto (lows nodes ws) u
    → ((v : ℕ) → v < nodes → Pending upto (lows nodes ws) v → key (lows nodes ws) u ≤ key (lows nodes ws) v) → slot_at ws 1 ≡ u
first-is nodes upto ws q u there pends least = at (q.words.slots 1 (omega arith) (omega (arith, q.words.two)))
  where
    at : Seated nodes (slot_at ws 1) → slot_at ws 1 ≡ u
    at (inl e) = absurd (first-none nodes upto ws q e u there pends)
    at (inr h) =
        let x = slot_at ws 1 in
        let below = least x h (first-pending nodes upto ws q x h refl) in
        let above = first-least nodes upto ws q x h refl u there pends in
        key-own (lows nodes ws) x u (omega (arith, q.words.few)) (omega (arith, q.words.few)) (omega (arith, below, above))

-- An edge of the node in hand that makes its offer is relaxed.
module _ {r : Rooted} {nodes u : ℕ} {ws : List ℕ} (h : InHand r nodes u ws) (e : Edge) (leaves : Leaves r.graph u e) (to : e.to < nodes) where
  abbrev c : Cost
  c = cost_in nodes ws u

  small : r.graph.nodes ≤ 65536
  small = omega (arith, h.queue.words.few, h.sized)

  end-inside : e.to < r.graph.nodes
  end-inside = omega (arith, to, h.sized)

  -- What it offers comes later than the node.
  after-hand : suc (key (lows nodes ws) u) ≤ key_of (along e (cost_in nodes ws u)) e.to
  after-hand = offered-later small h.settling.costs (hand-inside h) (hand-entry h) e leaves end-inside e.to

  -- With E steps or more it need not be made.
  pub long-relaxed : nodes ≤ suc (steps_at (lows nodes ws) u) → RelaxedFrom r.graph r.start (costs_in nodes ws) u e
  long-relaxed many =
      relaxed-already small h.settling.costs (hand-inside h) (hand-entry h) e leaves end-inside (λ k. absurd (omega (arith, k, h.sized)))

  -- Otherwise it can be made, if the sum is below infinity.
  module _ (short : suc (steps_at (lows nodes ws) u) < nodes) (sum : e.weight + charge_at (lows nodes ws) u < infinity) where
    pub hand-ready : RelaxReady nodes e.to (e.weight + charge_at (lows nodes ws) u) (suc (steps_at (lows nodes ws) u)) ws
    hand-ready = record {
      upto = h.upto;
      queue = h.queue;
      later = omega (arith, after-hand, (hand-pending h).1);
      there = to;
      fits = omega (arith, short, h.queue.words.few);
      known = λ q. omega (arith, q, sum);
    }

    module _ (ws' : List ℕ) (less : along e (cost_in nodes ws u) ≺ cost_in nodes ws e.to)
        (lowered : LowerDone nodes e.to (e.weight + charge_at (lows nodes ws) u) (suc (steps_at (lows nodes ws) u)) ws ws') where
      room : 2 * e.to + 1 < length (lows nodes ws)
      room = omega (arith, to, h.queue.words.room, lows-length nodes ws)

      entry : costs_in nodes ws' e.to ≡ reached (along e c)
      entry = ap (λ (l : List ℕ). table l e.to) lowered.costs ∙ table-stored (lows nodes ws) e.to (along e c) room hand-ready.known

      others : (v : ℕ) → v ≢ e.to → costs_in nodes ws' v ≡ costs_in nodes ws v
      others v ne = ap (λ (l : List ℕ). table l v) lowered.costs ∙ table-other (lows nodes ws) e.to (along e c) v ne

      less-than : (b : Cost) → costs_in nodes ws e.to ≡ reached b → along e c ≺ b
      less-than b q =
          let w = reached-words (lows nodes ws) e.to b q in
          subst (λ (x : Cost). along e c ≺ x) (cost-same (cost_in nodes ws e.to) b w.charge w.steps) less

      low : Lowering r.graph r.start (suc (key (lows nodes ws) u)) (costs_in nodes ws) (costs_in nodes ws')
      low =
          stored-lowering small h.settling.costs (hand-inside h) (hand-entry h) e leaves end-inside (costs_in nodes ws') entry others
          (omega (arith, short, h.sized)) less-than

      -- The cost of u stays.
      own : costs_in nodes ws' u ≡ reached c
      own = low.kept u c (hand-inside h) (hand-settled h) ∙ hand-entry h

      own-cost : cost_in nodes ws' u ≡ cost_in nodes ws u
      own-cost = let w = reached-words (lows nodes ws') u c own in cost-same (cost_in nodes ws' u) c w.charge w.steps

      own_key : key (lows nodes ws) u ≡ key (lows nodes ws') u
      own_key = ap (λ (x : Cost). key_of x u) (sym own-cost)

      queued : Queue nodes h.upto ws'
      queued = lowered.queue h.upto h.queue (omega (arith, after-hand, (hand-pending h).1))

      -- And it stays the first: a node with a smaller key would have had that key before.
      still-pends : Pending h.upto (lows nodes ws') u
      still-pends = ((reached-words (lows nodes ws') u c own).known, omega (arith, (hand-pending h).1, own_key))

      still-least : (v : ℕ) → v < nodes → Pending h.upto (lows nodes ws') v → key (lows nodes ws') u ≤ key (lows nodes ws') v
      still-least v there pends = at (dec_lt (key (lows nodes ws') v) (key (lows nodes ws') u))
        where
          at : Dec (key (lows nodes ws') v < key (lows nodes ws') u) → key (lows nodes ws') u ≤ key (lows nodes ws') v
          at (no n) = omega arith
          at (yes below) =
              let a = cost_in nodes ws' v in
              let old : costs_in nodes ws v ≡ reached a =
              low.fresh v a (omega (arith, there, h.sized))
              (record { entry = table-reached (lows nodes ws') v pends.0; before = omega (arith, below, own_key) }) in
              let w = reached-words (lows nodes ws) v a old in
              let same : key (lows nodes ws) v ≡ key (lows nodes ws') v =
              ap (λ (x : Cost). key_of x v) (cost-same (cost_in nodes ws v) a w.charge w.steps) in
              let least =
              first-least nodes h.upto ws h.queue u h.inside h.first v there (w.known, omega (arith, pends.1, same)) in
              omega (arith, least, same, own_key)

      cheaper-relaxes : Relaxes r nodes u (λ x. x ≡ e) ws ws'
      cheaper-relaxes = record {
        hand = record {
          sized = h.sized;
          inside = h.inside;
          upto = h.upto;
          queue = queued;
          first = first-is nodes h.upto ws' queued u h.inside still-pends still-least;
          settling = subst (λ (k : ℕ). Settling r.graph r.start (suc k) (Only u) (costs_in nodes ws')) own_key
              (lowering-settling low h.settling);
        };
        same = own-cost;
        low = low;
        edges = λ x l q. rw q
            (stored-relaxed small h.settling.costs (hand-inside h) (hand-entry h) e leaves end-inside (costs_in nodes ws') entry others
            (omega (arith, short, h.sized)) less-than);
        unsettled =
            lowered-unsettled nodes e.to ws ws' (key (lows nodes ws) u) (along e c).charge (along e c).steps
            (record { relax = hand-ready; less = less }) lowered (omega (arith, after-hand));
        rest =
            sym (lows-rest nodes ws') ∙ ap (λ (l : List ℕ). drop (2 * nodes) l) lowered.costs
            ∙ stored-rest (lows nodes ws) e.to (along e c) nodes to ∙ lows-rest nodes ws;
        kept = sym (lows-length nodes ws') ∙ ap length lowered.costs ∙ stored-length (lows nodes ws) e.to (along e c) ∙ lows-length nodes ws;
      }

    -- What is passed over is within what stands there.
    passed-within : cost_in nodes ws e.to ≼ along e (cost_in nodes ws u) → Within (costs_in nodes ws e.to) (along e (cost_in nodes ws u))
    passed-within less = rw (table-reached (lows nodes ws) e.to (reached-at less)) less
      where
        reached-at : cost_in nodes ws e.to ≼ along e (cost_in nodes ws u) → charge_at (lows nodes ws) e.to ≢ infinity
        reached-at (inl x) q = omega arith
        reached-at (inr x) q = omega arith

    dearer-relaxes : cost_in nodes ws e.to ≼ along e (cost_in nodes ws u) → Relaxes r nodes u (λ x. x ≡ e) ws ws
    dearer-relaxes less =
        relaxes-already h (λ x. x ≡ e)
        (λ x l q. rw q
        (relaxed-already small h.settling.costs (hand-inside h) (hand-entry h) e leaves end-inside (λ k. passed-within less)))

    pub tried-relaxes :
        (ws' : List ℕ) → RelaxDone nodes e.to (e.weight + charge_at (lows nodes ws) u) (suc (steps_at (lows nodes ws) u)) ws ws'
        → Relaxes r nodes u (λ x. x ≡ e) ws ws'
    tried-relaxes ws' done = at (cost-total (cost_in nodes ws e.to) (along e (cost_in nodes ws u)))
      where
        at :
            (cost_in nodes ws e.to ≼ along e (cost_in nodes ws u)) ⊎ (along e (cost_in nodes ws u) ≺ cost_in nodes ws e.to)
            → Relaxes r nodes u (λ x. x ≡ e) ws ws'
        at (inl less) = subst (λ (l : List ℕ). Relaxes r nodes u (λ x. x ≡ e) ws l) (sym (done.passed less)) (dearer-relaxes less)
        at (inr less) = cheaper-relaxes ws' less (done.taken less)
