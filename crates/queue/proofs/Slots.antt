-- What storing a slot does, and matches by the keys in the words.
-- Assumes nothing.
use mathlib.Core.Path.{◌≡◌, refl, sym, ap, ◌∙◌, subst}
use mathlib.Core.Logic.{inl, inr, ◌≢◌}
use mathlib.Core.List.{List}
use Prim.Native.Nat.{ℕ, ◌+◌, ◌*◌, ◌/◌, ◌%◌, ◌≤◌, ◌<◌}
use native.Mathlib.Decide.{ℕ_discrete}
use native.Mathlib.Omega.{arith}
use lib.ListN.{length, length-set}
use lib.Seq.{get_or-set_same, get_or-set_other}
use Rattle.semantics.specs.Graph.Path.{steps_at}
use Rattle.queue.specs.Tournament.{none, Before, Match, Put}
use Rattle.queue.specs.Tournaments.Matches.{before-refl}
use Rattle.queue.specs.Queue.{lows, slot_at, key, Seated, QueueRoom}
use Rattle.queue.specs.Playing.{key_in, Seat, put}
use Rattle.queue.specs.Laws.Lows.{lows-charge, lows-steps, lows-same}

-- Who has won a match.
pub match-left : (keys : ℕ → ℕ) (a b : ℕ) → Before keys a b → Match keys a b a
match-left keys a b h = record { one = inl refl; left = before-refl keys a; right = h }

pub match-right : (keys : ℕ → ℕ) (a b : ℕ) → Before keys b a → Match keys a b b
match-right keys a b h = record { one = inr refl; left = h; right = before-refl keys b }

-- A player that is not nobody has words.
pub seat-words : (ws : List ℕ) (a : ℕ) → Seat ws a → a ≢ none → (a < none) × (2 * a + 1 < length ws)
seat-words ws a (inl e) n = absurd (n e)
seat-words ws a (inr h) n = h

-- The keys of the nodes are the same by their words and by the costs in them.
pub key-lows : (nodes : ℕ) (ws ts : List ℕ) (v : ℕ) → lows nodes ws ≡ ts → v < nodes → key ts v ≡ key_in ws v
key-lows nodes ws ts v e h =
    subst (λ (us : List ℕ). key us v ≡ key_in ws v) e (rw (lows-charge nodes ws v, lows-steps nodes ws v h))

module _ (nodes : ℕ) (ws : List ℕ) (words : QueueRoom nodes ws) where
  pub seat : (a : ℕ) → Seated nodes a → Seat ws a
  seat a (inl e) = inl e
  seat a (inr h) = inr (omega arith, omega arith)

  module _ (x b : ℕ) (h : x < nodes) where
    pub put-puts : Put (slot_at ws) x b (slot_at (put ws x b))
    put-puts =
        record {
          at_x =
              ap (λ (y : ℕ). y / 65536) (get_or-set_same ws (2 * x + 1) (b * 65536 + steps_at ws x % 65536) 0 (omega arith)) ∙ omega arith;
          others =
              λ z n. ap (λ (y : ℕ). y / 65536)
              (get_or-set_other ws (2 * x + 1) (2 * z + 1) (b * 65536 + steps_at ws x % 65536) 0 (omega arith));
        }

    pub put-lows : lows nodes (put ws x b) ≡ lows nodes ws
    put-lows = lows-same nodes ws x (b * 65536 + steps_at ws x % 65536) h (omega arith)

    pub put-words : Seated nodes b → QueueRoom nodes (put ws x b)
    put-words s =
        record {
          two = words.two;
          few = words.few;
          room = omega (arith, length-set ws (2 * x + 1) (b * 65536 + steps_at ws x % 65536));
          slots = λ z o k. at z o k (ℕ_discrete z x);
        }
      where
        at : (z : ℕ) → 1 ≤ z → z < nodes → Dec (z ≡ x) → Seated nodes (slot_at (put ws x b) z)
        at z o k (yes e) =
            subst (λ (a : ℕ). Seated nodes a) (sym (subst (λ (y : ℕ). slot_at (put ws x b) y ≡ b) (sym e) put-puts.at_x)) s
        at z o k (no n) = subst (λ (a : ℕ). Seated nodes a) (sym (put-puts.others z n)) (words.slots z o k)
