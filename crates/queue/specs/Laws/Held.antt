-- What a caller concludes from the node that a slot holds.
-- Assumes nothing.
use Rattle.std.specs.Prelude.{◌≡◌, List, ℕ, ◌<◌, Option, Some, None}
use Rattle.std.proofs.Common.{inl, inr, arith}
use Rattle.queue.specs.Tournament.{none}
use Rattle.queue.specs.Queue.{slot_at, as_node, Seated, QueueRoom}

module _ {nodes : ℕ} {ws : List ℕ} (words : QueueRoom nodes ws) {first : Option ℕ} (is : first ≡ as_node (slot_at ws 1)) where
  -- A node that is first is one of the queue's, and slot 1 holds it.
  pub some-first : {v : ℕ} → first ≡ Some v → (slot_at ws 1 ≡ v) × (v < nodes)
  some-first {v} some = at (words.slots 1 (omega arith) (omega (arith, words.two)))
    where
      at : Seated nodes (slot_at ws 1) → (slot_at ws 1 ≡ v) × (v < nodes)
      at (inl n) = grind arith
      at (inr l) = grind arith

  -- If none is, slot 1 holds nobody.
  pub no-first : first ≡ None → slot_at ws 1 ≡ none
  no-first nobody = at (words.slots 1 (omega arith) (omega (arith, words.two)))
    where
      at : Seated nodes (slot_at ws 1) → slot_at ws 1 ≡ none
      at (inl n) = n
      at (inr l) = grind (arith, words.few)
