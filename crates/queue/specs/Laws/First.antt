-- Slot 1 of a queue: the first of the pending nodes, or nobody if none is pending. And the empty queue.
-- Assumes nothing.
use Rattle.std.specs.Prelude.{◌≡◌, ◌≢◌, List, ◌++◌, ℕ, ◌+◌, ◌*◌, ◌-◌, ◌/◌, ◌≤◌, ◌<◌, get_or, replicate}
use Rattle.std.proofs.Math.Path.{sym}
use Rattle.std.proofs.Common.{ap, ◌∙◌, subst, inr, length-append}
use Rattle.std.proofs.Math.Logic.{inl}
use Rattle.std.proofs.Math.Decide.{dec_lt}
use native.Mathlib.Omega.{arith}
use Rattle.std.proofs.Math.ListN.{length-replicate, get_or-replicate, get_or-append}
use Rattle.semantics.specs.Graph.Path.{infinity, charge_at}
use Rattle.queue.specs.Tournament.{none, Before, winner}
use Rattle.queue.specs.Tournaments.Matches.{winner-slot, winner-leaf}
use Rattle.queue.specs.Tournaments.Least.{least, entered}
use Rattle.queue.specs.Queue.{lows, slot_at, key, Pending, players, Queue}
use Rattle.queue.specs.Laws.Lows.{lows-charge}
use Rattle.queue.specs.Laws.Pendings.{entrant-in, entrant-out, in-pending, own-leaves}

module _ (nodes upto : ℕ) (ws : List ℕ) (queue : Queue nodes upto ws) where
  -- Nobody is before a pending node that slot 1 is not before.
  first-before : (v : ℕ) → v < nodes → Pending upto (lows nodes ws) v → Before (λ u. key (lows nodes ws) u) (slot_at ws 1) v
  first-before v h p =
      subst (λ (a : ℕ). Before (λ u. key (lows nodes ws) u) (slot_at ws 1) a) (entrant-in upto (lows nodes ws) v p)
      (least nodes (players upto (lows nodes ws)) (slot_at ws) queue.fair queue.words.two v h)

  -- A node in slot 1 is pending.
  pub first-pending : (u : ℕ) → u < nodes → slot_at ws 1 ≡ u → Pending upto (lows nodes ws) u
  first-pending u h e =
      let s = queue.words in
      let n : u ≢ none = omega arith in
      in-pending upto (lows nodes ws) u n
      (entered nodes (players upto (lows nodes ws)) (slot_at ws) queue.fair (own-leaves upto (lows nodes ws)) 1 u (omega arith) (omega arith)
      (winner-slot nodes (players upto (lows nodes ws)) (slot_at ws) 1 (omega arith) ∙ e)
      n
      ).plays

  -- And no pending node has a smaller key.
  pub first-least :
      (u : ℕ) → u < nodes → slot_at ws 1 ≡ u → (v : ℕ) → v < nodes → Pending upto (lows nodes ws) v
      → key (lows nodes ws) u ≤ key (lows nodes ws) v
  first-least u h e v k p = at (first-before v k p)
    where
      at : Before (λ w. key (lows nodes ws) w) (slot_at ws 1) v → key (lows nodes ws) u ≤ key (lows nodes ws) v
      at (inl n) = absurd (omega (arith, queue.words))
      at (inr b) = subst (λ (w : ℕ). key (lows nodes ws) w ≤ key (lows nodes ws) v) e b.1

  -- With nobody in slot 1 no node is pending.
  pub first-none : slot_at ws 1 ≡ none → (v : ℕ) → v < nodes → Pending upto (lows nodes ws) v → ⊥
  first-none e v k p = at (first-before v k p)
    where
      at : Before (λ w. key (lows nodes ws) w) (slot_at ws 1) v → ⊥
      at (inl n) = omega (arith, queue.words)
      at (inr b) = b.0 e

-- Words that are all infinity are the empty queue.
module _ (nodes upto : ℕ) (rest : List ℕ) (two : 2 ≤ nodes) (few : nodes ≤ none) where
  blank : List ℕ
  blank = replicate (2 * nodes) infinity ++ rest

  blank-word : (i : ℕ) → i < 2 * nodes → get_or blank i 0 ≡ infinity
  unfolding blank
  blank-word i h =
      get_or-append (replicate (2 * nodes) infinity) rest 0 i (rw length-replicate h) ∙ get_or-replicate (2 * nodes) i infinity 0 h

  pub empty-unreached : (v : ℕ) → v < nodes → charge_at (lows nodes (replicate (2 * nodes) infinity ++ rest)) v ≡ infinity
  unfolding blank
  empty-unreached v h = lows-charge nodes blank v ∙ blank-word (2 * v) (omega arith)

  blank-winner : (z : ℕ) → z < 2 * nodes → winner nodes (players upto (lows nodes blank)) (slot_at blank) z ≡ none
  blank-winner z h = at (dec_lt z nodes)
    where
      at : Dec (z < nodes) → winner nodes (players upto (lows nodes blank)) (slot_at blank) z ≡ none
      at (yes k) =
          winner-slot nodes (players upto (lows nodes blank)) (slot_at blank) z k ∙ ap (λ (w : ℕ). w / 65536) (blank-word (2 * z + 1) (omega arith))
      at (no k) =
          winner-leaf nodes (players upto (lows nodes blank)) (slot_at blank) z (omega arith)
          ∙ entrant-out upto (lows nodes blank) (z - nodes)
          (λ p. p.0 (lows-charge nodes blank (z - nodes) ∙ blank-word (2 * (z - nodes)) (omega arith)))

  blank-slot : (z : ℕ) → z < nodes → slot_at blank z ≡ none
  blank-slot z h = ap (λ (w : ℕ). w / 65536) (blank-word (2 * z + 1) (omega arith))

  pub empty-queue : Queue nodes upto (replicate (2 * nodes) infinity ++ rest)
  unfolding blank
  empty-queue =
      record {
        words =
            record {
              two = two;
              few = few;
              room = rw (length-append, length-replicate) (omega arith);
              slots = λ z o k. inl (blank-slot z k);
            };
        fair =
            λ z o k. record {
              won = (2 * z, omega arith, blank-slot z k ∙ sym (blank-winner (2 * z) (omega arith)));
              first = λ c e. inl (blank-winner c (omega arith));
            };
      }
