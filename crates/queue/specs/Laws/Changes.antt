-- How the players change: one is lowered, or the first is settled.
-- Assumes nothing.
use Rattle.std.specs.Prelude.{◌≡◌, ◌≢◌, List, ℕ, suc, ◌+◌, ◌*◌, ◌≤◌, ◌<◌, length}
use Rattle.std.proofs.Common.{sym, subst, inl, inr, arith}
use Rattle.std.proofs.Math.Decide.{ℕ_discrete}
use Rattle.semantics.specs.Order.{cost, ◌≺◌}
use Rattle.semantics.specs.Graph.Path.{infinity, charge_at, steps_at}
use Rattle.semantics.specs.Paths.Words.{stored, stored-charge, stored-steps, other-charge, other-steps}
use Rattle.queue.specs.Tournament.{Before}
use Rattle.queue.specs.Tournaments.Raising.{Raised}
use Rattle.queue.specs.Tournaments.Replaying.{Without}
use Rattle.queue.specs.Queue.{lows, slot_at, key_of, key, Pending, players, Queue}
use Rattle.queue.specs.Laws.Keys.{key-own, key-less}
use Rattle.queue.specs.Laws.Pendings.{entrant-in, entrant-out, entrant-same}
use Rattle.queue.specs.Laws.First.{first-pending, first-least}

module _ (ts : List ℕ) (v charge steps : ℕ) where
  abbrev after : List ℕ
  after = stored ts v (cost charge steps)

  pub key-other : (u : ℕ) → u ≢ v → key after u ≡ key ts u
  key-other u n = rw (other-charge ts v (cost charge steps) u n, other-steps ts v (cost charge steps) u n)

  module _ (room : 2 * v + 1 < length ts) where
    pub key-stored : key after v ≡ key_of charge steps v
    key-stored = rw (stored-charge ts v (cost charge steps) room, stored-steps ts v (cost charge steps) room)

    -- The players after a store of a cost that is less.
    pub lower-raised :
        (upto : ℕ) → charge ≢ infinity → steps < 65536 → cost charge steps ≺ cost (charge_at ts v) (steps_at ts v)
        → upto ≤ key_of charge steps v → Raised (players upto ts) (players upto after) v
    lower-raised upto known fits less still =
        record {
          plays =
              entrant-in upto after v
              (rw (stored-charge ts v (cost charge steps) room) known, omega (arith, key-stored));
          others =
              λ u n. entrant-same upto upto ts after u
              (λ p. (rw (other-charge ts v (cost charge steps) u n) p.0, omega (arith, p.1, key-other u n)))
              (λ p. ((rw (other-charge ts v (cost charge steps) u n) at p.0), omega (arith, p.1, key-other u n)));
          order = λ a b n. order a b n (ℕ_discrete a v);
        }
      where
        order :
            (a b : ℕ) → b ≢ v → Dec (a ≡ v) → Before (λ u. key ts u) a b → Before (λ u. key after u) a b
        order a b n d (inl e) = inl e
        order a b n (yes e) (inr (some, h)) =
            inr (
              some,
              subst (λ (w : ℕ). key after w ≤ key after b) (sym e)
                  (omega (
                    arith,
                    key-stored,
                    key-other b n,
                    key-less charge steps (charge_at ts v) (steps_at ts v) v fits less,
                    subst (λ (w : ℕ). key ts w ≤ key ts b) e h,
                  )),
            )
        order a b n (no m) (inr (some, h)) = inr (some, omega (arith, key-other a m, key-other b n))

-- The players after the first is settled.
module _ (nodes upto : ℕ) (ws : List ℕ) (queue : Queue nodes upto ws) (v : ℕ) (there : v < nodes) (first : slot_at ws 1 ≡ v) where
  abbrev ts : List ℕ
  ts = lows nodes ws

  -- Another node is pending as before.
  pub settle_other : (u : ℕ) → u < nodes → u ≢ v → Pending upto ts u → Pending (suc (key ts v)) ts u
  settle_other u h n p =
      let d : key ts u ≢ key ts v = λ e. n (key-own ts u v (omega (arith, queue.words)) (omega (arith, queue.words)) e) in
      (p.0, omega (arith, first-least nodes upto ws queue v there first u h p))

  pub settle-back : (u : ℕ) → Pending (suc (key ts v)) ts u → Pending upto ts u
  settle-back u p = (p.0, omega (arith, p.1, (first-pending nodes upto ws queue v there first).1))

  pub settle-without : Without nodes (players upto ts) (players (suc (key ts v)) ts) v
  settle-without =
      record {
        gone = entrant-out (suc (key ts v)) ts v (λ p. omega (arith, p.1));
        others = λ u h n. entrant-same upto (suc (key ts v)) ts ts u (settle_other u h n) (settle-back u);
        order = λ a b o. o;
      }
