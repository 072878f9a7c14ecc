-- No node is settled twice: each call of `settle` settles one node more, and a call of `lower` none less.
-- Assumes nothing.
use Rattle.std.specs.Prelude.{◌≡◌, refl, cond, ◌⊎◌, ◌≢◌, List, ℕ, zero, suc, ◌+◌, ◌≤◌, ◌<◌, eqb, leb}
use Rattle.std.proofs.Common.{sym, ap, ◌∙◌, inl, inr, arith}
use Rattle.std.proofs.Math.Decide.{ℕ_discrete}
use borrow.Author.Tests.{eq-eqb, ne_eqb, le-leb, lt-leb}
use Rattle.semantics.specs.Order.{cost}
use Rattle.semantics.specs.Graph.Path.{infinity, charge_at, steps_at}
use Rattle.semantics.specs.Paths.Sum.{sum, sum_same}
use Rattle.semantics.specs.Paths.Words.{stored, other-charge}
use Rattle.queue.specs.Queue.{lows, slot_at, key_of, key, Pending, Queue, LowerReady, LowerDone, SettleDone}
use Rattle.queue.specs.Laws.Lows.{lows-length}
use Rattle.queue.specs.Laws.Keys.{key-less}
use Rattle.queue.specs.Laws.Pendings.{pending-or}
use Rattle.queue.specs.Laws.First.{first-pending}
use Rattle.queue.specs.Laws.Changes.{key-stored, key-other, settle_other, settle-back}

-- A node is not settled if it is unreached or pending: 1 for such a node, and 0 for the others.
unfoldable pub unsettled : ℕ → List ℕ → ℕ → ℕ
unsettled upto ts v = cond (eqb (charge_at ts v) infinity) 1 (cond (leb upto (key ts v)) 1 0)

-- How many nodes are not settled.
abbrev pub unsettled_count : ℕ → ℕ → List ℕ → ℕ
unsettled_count nodes upto ws = sum (λ v. unsettled upto (lows nodes ws) v) nodes

module _ (upto : ℕ) (ts : List ℕ) (v : ℕ) where
  unreached-open : charge_at ts v ≡ infinity → unsettled upto ts v ≡ 1
  unfolding unsettled
  unreached-open e = rw (eq-eqb (charge_at ts v) infinity e)

  high-open : upto ≤ key ts v → unsettled upto ts v ≡ 1
  unfolding unsettled
  high-open h = at (ℕ_discrete (charge_at ts v) infinity)
    where
      at : Dec (charge_at ts v ≡ infinity) → unsettled upto ts v ≡ 1
      at (yes e) = unreached-open e
      at (no n) = rw (ne_eqb (charge_at ts v) infinity n, le-leb upto (key ts v) h)

  low-settled : charge_at ts v ≢ infinity → key ts v < upto → unsettled upto ts v ≡ 0
  unfolding unsettled
  low-settled n h = rw (ne_eqb (charge_at ts v) infinity n, lt-leb upto (key ts v) h)

  out-settled : charge_at ts v ≢ infinity → (Pending upto ts v → ⊥) → unsettled upto ts v ≡ 0
  out-settled n p =
      let low : upto ≤ key ts v → ⊥ = λ h. p (n, h) in
      low-settled n (omega arith)

-- Nodes that are reached in both and pending in both or in neither are settled in both or in neither.
unsettled-same :
    (a b : ℕ) (ts us : List ℕ) (v : ℕ) → charge_at us v ≡ charge_at ts v → (Pending a ts v → Pending b us v) → (Pending b us v → Pending a ts v)
    → unsettled b us v ≡ unsettled a ts v
unsettled-same a b ts us v e there back = at (ℕ_discrete (charge_at ts v) infinity) (pending-or a ts v) (pending-or b us v)
  where
    at :
        Dec (charge_at ts v ≡ infinity) → Pending a ts v ⊎ (Pending a ts v → ⊥) → Pending b us v ⊎ (Pending b us v → ⊥)
        → unsettled b us v ≡ unsettled a ts v
    at (yes u) p q = unreached-open b us v (e ∙ u) ∙ sym (unreached-open a ts v u)
    at (no n) (inl p) q = high-open b us v (there p).1 ∙ sym (high-open a ts v p.1)
    at (no n) (inr p) (inl q) = absurd (p (back q))
    at (no n) (inr p) (inr q) = out-settled b us v (λ u. n (sym e ∙ u)) q ∙ sym (out-settled a ts v n p)

-- A sum is one less where one of its terms is one less and the others are the same.
sum_one : (f g : ℕ → ℕ) (n v : ℕ) → v < n → suc (f v) ≡ g v → ((u : ℕ) → u < n → u ≢ v → f u ≡ g u) → suc (sum f n) ≡ sum g n
unfolding sum
sum_one f g zero v h less same = absurd (omega arith)
sum_one f g (suc n) v h less same = at (ℕ_discrete v n) (sum_one f g n v)
  where
    at :
        Dec (v ≡ n) → (v < n → suc (f v) ≡ g v → ((u : ℕ) → u < n → u ≢ v → f u ≡ g u) → suc (sum f n) ≡ sum g n)
        → suc (sum f n + f n) ≡ sum g n + g n
    at (yes e) ih =
        let l : suc (f n) ≡ g n = rw e at less in
        omega (arith, sum_same f g n (λ u k. same u (omega arith) (omega arith)))
    at (no ne) ih = omega (arith, same n (omega arith) (omega arith), ih (omega arith) less (λ u k. same u (omega arith)))

module _ (nodes v : ℕ) (ws ws' : List ℕ) where
  -- `settle` settles its node and no other.
  pub settled-once :
      (upto : ℕ) → Queue nodes upto ws → slot_at ws 1 ≡ v → v < nodes → SettleDone nodes v ws ws'
      → suc (unsettled_count nodes (suc (key (lows nodes ws) v)) ws') ≡ unsettled_count nodes upto ws
  settled-once upto q first there s =
      let ts = lows nodes ws in
      let p : Pending upto ts v = first-pending nodes upto ws q v there first in
      rw s.costs
      (sum_one (λ u. unsettled (suc (key ts v)) ts u) (λ u. unsettled upto ts u) nodes v there
      (ap suc (low-settled (suc (key ts v)) ts v p.0 (omega arith)) ∙ sym (high-open upto ts v p.1))
      (λ u h n.
      unsettled-same upto (suc (key ts v)) ts ts u refl (settle_other nodes upto ws q v there first u h n)
      (settle-back nodes upto ws q v there first u)))

  -- `lower` leaves as many settled as were.
  pub lowered-unsettled :
      (upto charge steps : ℕ) → LowerReady nodes v charge steps ws → LowerDone nodes v charge steps ws ws' → upto ≤ key_of charge steps v
      → unsettled_count nodes upto ws' ≡ unsettled_count nodes upto ws
  lowered-unsettled upto charge steps l s still =
      let ts = lows nodes ws in
      rw s.costs
      (sum_same (λ u. unsettled upto (stored ts v (cost charge steps)) u) (λ u. unsettled upto ts u) nodes
      (λ u h. at u (ℕ_discrete u v)))
    where
      at :
          (u : ℕ) → Dec (u ≡ v)
          → unsettled upto (stored (lows nodes ws) v (cost charge steps)) u ≡ unsettled upto (lows nodes ws) u
      at u (yes e) = rw e own
        where
          own : unsettled upto (stored (lows nodes ws) v (cost charge steps)) v ≡ unsettled upto (lows nodes ws) v
          own =
              high-open upto (stored (lows nodes ws) v (cost charge steps)) v
              (omega (
                arith,
                key-stored (lows nodes ws) v charge steps (omega (arith, l.relax.queue.words.room, l.relax.there, lows-length nodes ws)),
              ))
              ∙ sym
              (high-open upto (lows nodes ws) v
              (omega (arith, key-less charge steps (charge_at (lows nodes ws) v) (steps_at (lows nodes ws) v) v l.relax.fits l.less)))
      at u (no n) =
          let c = other-charge (lows nodes ws) v (cost charge steps) u n in
          let k = key-other (lows nodes ws) v charge steps u n in
          unsettled-same upto upto (lows nodes ws) (stored (lows nodes ws) v (cost charge steps)) u c
          (λ p. ((λ e. p.0 (sym c ∙ e)), omega (arith, p.1, k)))
          (λ p. ((λ e. p.0 (c ∙ e)), omega (arith, p.1, k)))
