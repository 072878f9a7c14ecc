-- The turns of the loop that raises a node.
-- Assumes nothing.
use mathlib.Core.Path.{◌≡◌, refl, sym, ◌∙◌, subst}
use mathlib.Core.Bool.{Bool, true, false}
use mathlib.Core.Logic.{inl, inr, ⊎_elim}
use mathlib.Core.List.{List}
use Prim.Native.Nat.{ℕ, ◌+◌, ◌/◌, ◌≤◌, ◌<◌}
use native.Mathlib.Omega.{arith}
use Rattle.queue.specs.Tournament.{none, Before}
use Rattle.queue.specs.Tournaments.Raising.{Raising, raise-up, raise-stop, raise-end}
use Rattle.queue.specs.Queue.{lows, slot_at, key, players, Seated, QueueRoom}
use Rattle.queue.specs.Playing.{key_in, Ahead, Behind, Told, put, GoneUp}
use Rattle.queue.proofs.Slots.{key-lows, put-puts, put-lows, put-words}

-- The node has come up to the match at x.
pub record Rising (nodes node : ℕ) (ws ws' : List ℕ) (x : ℕ) : Type 0 where
  pub costs : lows nodes ws' ≡ lows nodes ws
  pub words : QueueRoom nodes ws'
  pub inside : x < nodes
  pub raising :
      (upto : ℕ) → Raising nodes (players upto (lows nodes ws)) (slot_at ws) node ((nodes + node) / 2)
      → Raising nodes (players upto (lows nodes ws)) (slot_at ws') node x
  pub outside : slot_at ws' 0 ≡ slot_at ws 0

module _ (nodes node : ℕ) (ws : List ℕ) (there : node < nodes) where
  -- The match at x, between the node and who is in its slot.
  module _
      (ws' : List ℕ) (x : ℕ) (one : 1 ≤ x) (up : Rising nodes node ws ws' x) (own w : ℕ) (r : Bool) (mine : own ≡ key_in ws node)
      (held : slot_at ws' x ≡ w) (t : Told ws' w own r)
    where
      abbrev keys : ℕ → ℕ
      keys v = key (lows nodes ws) v

      seated : Seated nodes w
      seated = subst (λ (a : ℕ). Seated nodes a) held (up.words.slots x one up.inside)

      own_key : keys node ≡ own
      own_key = key-lows nodes ws (lows nodes ws) node refl there ∙ sym mine

      wins : Seated nodes w → Behind ws' w own → Before keys node w
      wins s (inl e) = inl e
      wins (inl e) (inr k) = inl e
      wins (inr h) (inr k) =
          inr ((λ (e : node ≡ none). omega (arith, up.words)), omega (arith, k.0, own_key, key-lows nodes ws' (lows nodes ws) w up.costs h))

      loses : Seated nodes w → Ahead ws' w own → Before keys w node × (Before keys node w → ⊥)
      loses (inl e) k = absurd (k.0 e)
      loses (inr h) k =
          let less : keys w < keys node = omega (arith, k.1, own_key, key-lows nodes ws' (lows nodes ws) w up.costs h) in
          (inr (k.0, omega arith), ⊎_elim (λ e. k.0 e) (λ b. omega (arith, b.1)))

      pub rising-up : r ≡ false → Rising nodes node ws (put ws' x node) (x / 2)
      rising-up e =
          record {
            costs = put-lows nodes ws' up.words x node up.inside ∙ up.costs;
            words = put-words nodes ws' up.words x node up.inside (inr there);
            inside = omega (arith, up.inside);
            raising =
                λ upto s.
                raise-up nodes (players upto (lows nodes ws)) node (slot_at ws') (slot_at (put ws' x node)) x one up.inside
                (subst (λ (a : ℕ). Before keys node a) (sym held) (wins seated (t.behind e)))
                (put-puts nodes ws' up.words x node up.inside)
                (up.raising upto s);
            outside = (put-puts nodes ws' up.words x node up.inside).others 0 (omega arith) ∙ up.outside;
          }

      pub rising-stop : r ≡ true → GoneUp nodes node ws ws'
      rising-stop e =
          let lost : Before keys (slot_at ws' x) node × (Before keys node (slot_at ws' x) → ⊥) =
          subst (λ (a : ℕ). Before keys a node × (Before keys node a → ⊥)) (sym held) (loses seated (t.ahead e)) in
          record {
            costs = up.costs;
            words = up.words;
            fair =
                λ upto s.
                raise-stop nodes (players upto (lows nodes ws)) node (slot_at ws') x one up.inside lost.0 lost.1
                (up.raising upto s);
            outside = up.outside;
          }

  pub rising-end : (ws' : List ℕ) (x : ℕ) → x ≡ 0 → Rising nodes node ws ws' x → GoneUp nodes node ws ws'
  rising-end ws' x e up =
      record {
        costs = up.costs;
        words = up.words;
        fair =
            λ upto s.
            raise-end nodes (players upto (lows nodes ws)) node (slot_at ws')
            (subst (λ (y : ℕ). Raising nodes (players upto (lows nodes ws)) (slot_at ws') node y) e (up.raising upto s));
        outside = up.outside;
      }
