-- The words of nodes that are no dearer and no farther than a cost, kept node by node.
-- Assumes nothing.
use mathlib.Core.Path.{◌≡◌, refl, sym, ap, ap₂, ◌∙◌}
use mathlib.Core.Bool.{Bool, true, false, cond}
use Rattle.std.specs.Prelude.{Option, Some, None}
use mathlib.Core.Logic.{◌≢◌}
use mathlib.Core.List.{List, [], ◌∷◌}
use Prim.Native.Nat.{ℕ, ◌+◌, ◌*◌, ◌%◌, ◌≤◌, ◌<◌}
use native.Mathlib.Decide.{ℕ_discrete}
use native.Mathlib.Omega.{arith}
use borrow.Author.Tests.{eq-eqb, ne_eqb, le-leb, lt-leb}
use lib.Dec.{eqb, leb}
use lib.ListN.{length, drop}
use Rattle.semantics.specs.Order.{Cost, cost}
use Rattle.semantics.specs.Graph.Path.{Entry, unreached, reached, infinity, charge_at, steps_at}
use Rattle.semantics.specs.Graph.Distance.{entry_words}
use Rattle.semantics.specs.Graph.Near.{near}
use Rattle.semantics.specs.Paths.Words.{table-unreached, table-reached, stored, stored-length, stored-rest, stored-charge, stored-steps, other-charge, other-steps}
use Rattle.semantics.specs.Paths.Found.{words_at}
use Rattle.queue.specs.Queue.{lows}
use Rattle.queue.specs.Laws.Lows.{lows-charge, lows-steps}
use Rattle.near.specs.declared.Cost.{Cost as CostHeld}
use Rattle.near.specs.Near.{cost_entry}
use Rattle.search.specs.Exploring.{costs_in}
use Rattle.search.specs.Keep.{no_farther, is_near, KeptNear}

-- The test of a cost that is not reached.
module _ (charge steps : ℕ) (best : Option CostHeld) where
  pub unreached-far : charge ≡ infinity → false ≡ is_near charge steps best
  unfolding is_near
  unreached-far e = rw (eq-eqb charge infinity e) refl

-- Of one that is, all are near where there is no best; otherwise the best decides.
module _ (charge steps : ℕ) (best : Option CostHeld) (known : charge ≢ infinity) where
  reached-near : no_farther charge steps best ≡ is_near charge steps best
  unfolding is_near
  reached-near = rw (ne_eqb charge infinity known) refl

  pub none-nearer : best ≡ None → true ≡ is_near charge steps best
  none-nearer e = sym (ap (no_farther charge steps) e) ∙ reached-near

  module _ {b : CostHeld} (is : best ≡ Some b) where
    pub best-cheaper : charge ≤ b.charge → leb steps b.steps ≡ is_near charge steps best
    best-cheaper h =
        let both : no_farther charge steps (Some b) ≡ leb steps b.steps = rw (le-leb charge b.charge h) refl in
        sym both ∙ sym (ap (no_farther charge steps) is) ∙ reached-near

    pub best-dearer : b.charge < charge → leb charge b.charge ≡ is_near charge steps best
    best-dearer h =
        let both : no_farther charge steps (Some b) ≡ leb charge b.charge = rw (lt-leb charge b.charge h) refl in
        sym both ∙ sym (ap (no_farther charge steps) is) ∙ reached-near

-- The entry that is left of a cost, and its words.
near_none : (best : Option CostHeld) → near (cost_entry best) unreached ≡ unreached
near_none None = refl
near_none (Some b) = refl

near-test :
    (charge steps : ℕ) (best : Option CostHeld) → near (cost_entry best) (reached (cost charge steps))
    ≡ cond (no_farther charge steps best) (reached (cost charge steps)) unreached
near-test charge steps None = refl
near-test charge steps (Some b) = refl

module _ (best : Option CostHeld) where
  module _ (charge steps : ℕ) where
    left-words : (b : Bool) → entry_words (cond b (reached (cost charge steps)) unreached) ≡ cond b (charge ∷ steps ∷ []) (infinity ∷ infinity ∷ [])
    left-words true = refl
    left-words false = refl

    -- By the test.
    kept-words :
        (x : Entry) → (charge ≡ infinity → x ≡ unreached) → (charge ≢ infinity → x ≡ reached (cost charge steps))
        → entry_words (near (cost_entry best) x) ≡ cond (is_near charge steps best) (charge ∷ steps ∷ []) (infinity ∷ infinity ∷ [])
    unfolding is_near
    kept-words x none some = at (ℕ_discrete charge infinity)
      where
        at :
            Dec (charge ≡ infinity)
            → entry_words (near (cost_entry best) x)
            ≡ cond (cond (eqb charge infinity) false (no_farther charge steps best)) (charge ∷ steps ∷ []) (infinity ∷ infinity ∷ [])
        at (yes e) =
            ap (λ (y : Entry). entry_words (near (cost_entry best) y)) (none e) ∙ ap entry_words (near_none best)
            ∙ ap (λ (b : Bool). cond (cond b false (no_farther charge steps best)) (charge ∷ steps ∷ []) (infinity ∷ infinity ∷ []))
            (sym (eq-eqb charge infinity e))
        at (no n) =
            ap (λ (y : Entry). entry_words (near (cost_entry best) y)) (some n) ∙ ap entry_words (near-test charge steps best)
            ∙ left-words (no_farther charge steps best)
            ∙ ap (λ (b : Bool). cond (cond b false (no_farther charge steps best)) (charge ∷ steps ∷ []) (infinity ∷ infinity ∷ []))
            (sym (ne_eqb charge infinity n))

-- The words of the first v nodes are done, and all others are the same.
pub record Keeping (nodes : ℕ) (best : Option CostHeld) (v : ℕ) (ws ws' : List ℕ) : Type 0 where
  pub done : (u : ℕ) → u < v → words_at ws' u ≡ entry_words (near (cost_entry best) (costs_in nodes ws u))
  pub ahead : (u : ℕ) → v ≤ u → (charge_at ws' u ≡ charge_at ws u) × (steps_at ws' u ≡ steps_at ws u)
  pub rest : drop (2 * nodes) ws' ≡ drop (2 * nodes) ws
  pub kept : length ws' ≡ length ws

pub keeping_none : (nodes : ℕ) (best : Option CostHeld) (ws : List ℕ) → Keeping nodes best 0 ws ws
keeping_none nodes best ws = record { done = λ u h. absurd (omega arith); ahead = λ u h. (refl, refl); rest = refl; kept = refl }

pub keeping_all : (nodes : ℕ) (best : Option CostHeld) (ws ws' : List ℕ) → Keeping nodes best nodes ws ws' → KeptNear nodes best ws ws'
keeping_all nodes best ws ws' k = record { entries = k.done; rest = k.rest; kept = k.kept }

-- One node more.
module _ (nodes : ℕ) (best : Option CostHeld) (v : ℕ) (ws ws' : List ℕ) (room : 2 * nodes ≤ length ws) (h : v < nodes) (k : Keeping nodes best v ws ws') where
  keeping-next :
      (c : Cost) → c.charge ∷ c.steps ∷ [] ≡ entry_words (near (cost_entry best) (costs_in nodes ws v))
      → Keeping nodes best (v + 1) ws (stored ws' v c)
  keeping-next c e = record {
    done = λ u l. at u l (ℕ_discrete u v);
    ahead = λ u l.
        let q = k.ahead u (omega arith) in
        (other-charge ws' v c u (λ q. omega arith) ∙ q.0, other-steps ws' v c u (λ q. omega arith) ∙ q.1);
    rest = stored-rest ws' v c nodes h ∙ k.rest;
    kept = stored-length ws' v c ∙ k.kept;
  }
    where
      there : 2 * v + 1 < length ws'
      there = omega (arith, k.kept)

      at : (u : ℕ) → u < v + 1 → Dec (u ≡ v) → words_at (stored ws' v c) u ≡ entry_words (near (cost_entry best) (costs_in nodes ws u))
      at u l (yes q) =
          rw q (ap₂ (λ (x y : ℕ). x ∷ y ∷ []) (stored-charge ws' v c there) (stored-steps ws' v c there) ∙ e)
      at u l (no n) =
          ap₂ (λ (x y : ℕ). x ∷ y ∷ []) (other-charge ws' v c u n) (other-steps ws' v c u n) ∙ k.done u (omega arith)

  -- Its charge and steps, as they are read.
  module _ (charge steps : ℕ)
      (charge-is : charge ≡ charge_at ws' v) (steps-are : steps ≡ steps_at ws' v % 65536) where
    own-charge : charge ≡ charge_at (lows nodes ws) v
    own-charge = charge-is ∙ (k.ahead v (omega arith)).0 ∙ sym (lows-charge nodes ws v)

    own-steps : steps ≡ steps_at (lows nodes ws) v
    own-steps = steps-are ∙ ap (λ (n : ℕ). n % 65536) (k.ahead v (omega arith)).1 ∙ sym (lows-steps nodes ws v h)

    left : entry_words (near (cost_entry best) (costs_in nodes ws v)) ≡ cond (is_near charge steps best) (charge ∷ steps ∷ []) (infinity ∷ infinity ∷ [])
    left =
        kept-words best charge steps (costs_in nodes ws v)
        (λ q. table-unreached (lows nodes ws) v (sym own-charge ∙ q))
        (λ n. table-reached (lows nodes ws) v (λ q. n (own-charge ∙ q)) ∙ ap₂ (λ (x y : ℕ). reached (cost x y)) (sym own-charge) (sym own-steps))

    -- The words that are stored are by the test.
    pub keeping-chosen :
        (b : Bool) → is_near charge steps best ≡ b
        → Keeping nodes best (v + 1) ws (stored ws' v (cost (cond b charge infinity) (cond b steps infinity)))
    keeping-chosen true q = keeping-next (cost charge steps) (sym (left ∙ rw q refl))
    keeping-chosen false q = keeping-next (cost infinity infinity) (sym (left ∙ rw q refl))
