-- The winner at a place, as the code finds it.
-- Assumes nothing.
use mathlib.Core.Path.{◌≡◌, refl, sym, ◌∙◌, subst}
use mathlib.Core.Logic.{◌⊎◌, inl, inr, ◌≢◌}
use mathlib.Core.List.{List}
use Prim.Native.Nat.{ℕ, suc, ◌*◌, ◌-◌, ◌≤◌, ◌<◌}
use native.Mathlib.Decide.{dec_lt}
use native.Mathlib.Omega.{arith}
use Rattle.semantics.specs.Graph.Path.{infinity, charge_at}
use Rattle.queue.specs.Tournament.{none, winner}
use Rattle.queue.specs.Tournaments.Matches.{winner-slot, winner-leaf}
use Rattle.queue.specs.Queue.{lows, slot_at, players, Seated, QueueRoom}
use Rattle.queue.specs.Playing.{key_in}
use Rattle.queue.specs.Laws.Lows.{lows-charge}
use Rattle.queue.specs.Laws.Pendings.{entrant-in, entrant-out, own-leaves}
use Rattle.queue.proofs.Slots.{key-lows}

module _ (nodes : ℕ) (ws : List ℕ) (words : QueueRoom nodes ws) (settled z : ℕ) where
  abbrev won : ℕ
  won = winner nodes (players (suc settled) (lows nodes ws)) (slot_at ws) z

  pub won-slot : z < nodes → slot_at ws z ≡ won
  won-slot h = sym (winner-slot nodes (players (suc settled) (lows nodes ws)) (slot_at ws) z h)

  won-leaf : nodes ≤ z → won ≡ (players (suc settled) (lows nodes ws)).entrant (z - nodes)
  won-leaf h = winner-leaf nodes (players (suc settled) (lows nodes ws)) (slot_at ws) z h

  pub won-unreached : nodes ≤ z → charge_at ws (z - nodes) ≡ infinity → none ≡ won
  won-unreached h e =
      sym
      (won-leaf h ∙ entrant-out (suc settled) (lows nodes ws) (z - nodes) (λ p. p.0 (lows-charge nodes ws (z - nodes) ∙ e)))

  module _ (h : nodes ≤ z) (k : z < 2 * nodes) where
    pub won-pending : charge_at ws (z - nodes) ≢ infinity → settled < key_in ws (z - nodes) → z - nodes ≡ won
    won-pending n less =
        sym
        (won-leaf h
        ∙ entrant-in (suc settled) (lows nodes ws) (z - nodes)
        ((λ e. n (sym (lows-charge nodes ws (z - nodes)) ∙ e)), omega (arith, key-lows nodes ws (lows nodes ws) (z - nodes) refl (omega arith))))

    pub won-settled : key_in ws (z - nodes) ≤ settled → none ≡ won
    won-settled less =
        sym
        (won-leaf h
        ∙ entrant-out (suc settled) (lows nodes ws) (z - nodes)
        (λ p. omega (arith, p.1, key-lows nodes ws (lows nodes ws) (z - nodes) refl (omega arith))))

  pub won-seated : 1 ≤ z → z < 2 * nodes → Seated nodes won
  won-seated one h = at (dec_lt z nodes)
    where
      leaf :
          (u : ℕ) → u < nodes → ((players (suc settled) (lows nodes ws)).entrant u ≡ u) ⊎ ((players (suc settled) (lows nodes ws)).entrant u ≡ none)
          → Seated nodes ((players (suc settled) (lows nodes ws)).entrant u)
      leaf u k (inl e) = inr (omega (arith, e))
      leaf u k (inr e) = inl e

      at : Dec (z < nodes) → Seated nodes won
      at (yes k) = subst (λ (a : ℕ). Seated nodes a) (won-slot k) (words.slots z one k)
      at (no k) =
          subst (λ (a : ℕ). Seated nodes a) (sym (won-leaf (omega arith)))
          (leaf (z - nodes) (omega arith) (own-leaves (suc settled) (lows nodes ws) (z - nodes)))
