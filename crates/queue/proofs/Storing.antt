-- Storing a cost below a slot.
-- Assumes nothing.
use mathlib.Core.Path.{◌≡◌, sym, ap, ◌∙◌, subst}
use mathlib.Core.List.{List}
use Prim.Native.Nat.{ℕ, ◌+◌, ◌*◌, ◌/◌, ◌%◌, ◌<◌}
use native.Mathlib.Decide.{ℕ_discrete}
use native.Mathlib.Omega.{arith}
use lib.ListN.{length, set, length-set}
use lib.Seq.{get_or-set_same, get_or-set_other}
use Rattle.semantics.specs.Order.{cost}
use Rattle.semantics.specs.Paths.Words.{stored}
use Rattle.queue.specs.Tournament.{AllFair}
use Rattle.queue.specs.Tournaments.Raising.{raise-start}
use Rattle.queue.specs.Queue.{lows, slot_at, players, LowerReady, LowerDone}
use Rattle.queue.specs.Playing.{GoneUp}
use Rattle.queue.specs.Laws.Lows.{lows-length, lows-set-charge, lows-set-steps}
use Rattle.queue.specs.Laws.Pendings.{own-leaves}
use Rattle.queue.specs.Laws.Changes.{lower-raised}

-- The words with a cost stored below the slot of the node.
abbrev pub put_cost : List ℕ → ℕ → ℕ → ℕ → List ℕ
put_cost ws v charge steps = set (set ws (2 * v) charge) (2 * v + 1) (slot_at ws v * 65536 + steps)

module _ (nodes v charge steps : ℕ) (ws : List ℕ) (low : LowerReady nodes v charge steps ws) where
  abbrev ts : List ℕ
  ts = lows nodes ws

  abbrev us : List ℕ
  us = put_cost ws v charge steps

  room : 2 * v + 1 < length ws
  room = omega (arith, low.relax.queue.words.room, low.relax.there)

  cost-lows : lows nodes us ≡ stored ts v (cost charge steps)
  cost-lows =
      lows-set-steps nodes (set ws (2 * v) charge) v (slot_at ws v * 65536 + steps) low.relax.there
      ∙ ap (λ (y : ℕ). set (lows nodes (set ws (2 * v) charge)) (2 * v + 1) y) steps-only
      ∙ ap (λ (l : List ℕ). set l (2 * v + 1) steps) (lows-set-charge nodes ws v charge low.relax.there)
    where
      steps-only : (slot_at ws v * 65536 + steps) % 65536 ≡ steps
      steps-only = omega (arith, low.relax.fits)

  cost-slot : (z : ℕ) → slot_at us z ≡ slot_at ws z
  cost-slot z = at (ℕ_discrete z v)
    where
      at : Dec (z ≡ v) → slot_at us z ≡ slot_at ws z
      at (yes e) =
          subst (λ (y : ℕ). slot_at us y ≡ slot_at ws y) (sym e)
          (ap (λ (y : ℕ). y / 65536)
          (get_or-set_same (set ws (2 * v) charge) (2 * v + 1) (slot_at ws v * 65536 + steps) 0
          (omega (arith, room, length-set ws (2 * v) charge)))
          ∙ omega (arith, low.relax.fits))
      at (no n) =
          ap (λ (y : ℕ). y / 65536)
          (get_or-set_other (set ws (2 * v) charge) (2 * v + 1) (2 * z + 1) (slot_at ws v * 65536 + steps) 0 (omega arith)
          ∙ get_or-set_other ws (2 * v) (2 * z + 1) charge 0 (omega arith))

  cost-slots : slot_at ws ≡ slot_at us
  cost-slots = λ i z. sym (cost-slot z) i

  pub lowered : (ws' : List ℕ) → GoneUp nodes v us ws' → LowerDone nodes v charge steps ws ws'
  lowered ws' up =
      record {
        costs = up.costs ∙ cost-lows;
        queue =
            λ upto q still.
            record {
              words = up.words;
              fair =
                  rw up.costs
                  (up.fair upto
                  (rw cost-lows
                  (raise-start nodes (players upto ts) (players upto (stored ts v (cost charge steps))) (slot_at us) v low.relax.there
                  (omega (arith, low.relax.queue.words.few, low.relax.there))
                  (own-leaves upto ts)
                  (subst (λ (s : ℕ → ℕ). AllFair nodes (players upto ts) s) cost-slots q.fair)
                  (lower-raised ts v charge steps (omega (arith, room, lows-length nodes ws)) upto low.relax.known low.relax.fits low.less still))));
            };
        outside = up.outside ∙ cost-slot 0;
      }
