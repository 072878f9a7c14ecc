-- The turns of the loop that settles a node.
-- Assumes nothing.
use mathlib.Core.Path.{◌≡◌, refl, sym, ap, ◌∙◌, subst, subst₂}
use mathlib.Core.Logic.{◌⊎◌, inl, inr, ⊎_elim}
use mathlib.Core.List.{List}
use Prim.Native.Nat.{ℕ, suc, ◌+◌, ◌*◌, ◌-◌, ◌/◌, ◌≤◌, ◌<◌}
use native.Mathlib.Omega.{arith}
use Rattle.queue.specs.Tournament.{none, Before, Match, winner, AllFair}
use Rattle.queue.specs.Tournaments.Replaying.{Replaying, replay-start, replay-up, replay-end}
use Rattle.queue.specs.Queue.{lows, slot_at, key, players, Seated, QueueRoom, SettleReady, SettleDone}
use Rattle.queue.specs.Playing.{key_in, no_key, Ahead, Behind, put}
use Rattle.queue.specs.Laws.Changes.{settle-without}
use Rattle.queue.proofs.Slots.{match-left, match-right, key-lows, put-puts, put-lows, put-words}
use Rattle.queue.proofs.Winning.{won-seated}

-- a is nobody or one of the nodes, and this is its key by the costs.
abbrev Holds : ℕ → List ℕ → ℕ → ℕ → Type 0
Holds nodes ts a k = ((a ≡ none) × (k ≡ no_key)) ⊎ ((a < nodes) × (k ≡ key ts a))

holds-seated : (nodes : ℕ) (ts : List ℕ) (a k : ℕ) → Holds nodes ts a k → Seated nodes a
holds-seated nodes ts a k = ⊎_elim (λ h. inl h.0) (λ h. inr h.0)

-- After the test of the other: it is ahead and taken with its key, or the best stays.
abbrev pub Taken : List ℕ → ℕ → ℕ → ℕ → ℕ → ℕ → Type 0
Taken ws best least other a k =
    ((a ≡ other) × (k ≡ key_in ws other) × Ahead ws other least) ⊎ ((a ≡ best) × (k ≡ least) × Behind ws other least)

-- The matches up to place x were played again, once all keys up to `settled` are; the least key is that of the best.
pub record Replayed (nodes settled : ℕ) (ws ws' : List ℕ) (x best least : ℕ) : Type 0 where
  pub costs : lows nodes ws' ≡ lows nodes ws
  pub words : QueueRoom nodes ws'
  pub low : 1 ≤ x
  pub high : x < 2 * nodes
  pub holds : Holds nodes (lows nodes ws) best least
  pub replaying : Replaying nodes (players (suc settled) (lows nodes ws)) (slot_at ws') x best

pub replayed-start :
    (nodes node settled : ℕ) (ws : List ℕ) → SettleReady nodes node ws → settled ≡ key (lows nodes ws) node
    → Replayed nodes settled ws ws (nodes + node) none no_key
replayed-start nodes node settled ws s e =
    record {
      costs = refl;
      words = s.queue.words;
      low = omega (arith, s.queue.words);
      high = omega (arith, s.there);
      holds = inl (refl, refl);
      replaying =
          subst (λ (k : ℕ). Replaying nodes (players (suc k) (lows nodes ws)) (slot_at ws) (nodes + node) none) (sym e)
          (replay-start nodes (players s.upto (lows nodes ws)) (players (suc (key (lows nodes ws) node)) (lows nodes ws)) (slot_at ws) node
          s.queue.fair
          (settle-without nodes s.upto ws s.queue node s.there s.first));
    }

module _ (nodes settled : ℕ) (ws ws' : List ℕ) where
  -- The other place below the match above x, and who has won there.
  abbrev pub beside : ℕ → ℕ
  beside x = 4 * (x / 2) + 1 - x

  abbrev pub beside_won : ℕ → ℕ
  beside_won x = winner nodes (players (suc settled) (lows nodes ws')) (slot_at ws') (beside x)

  module _ (x best least : ℕ) (more : 1 < x) (r : Replayed nodes settled ws ws' x best least) (other : ℕ) (e : other ≡ beside_won x) where
    pub beside-seated : Seated nodes other
    beside-seated =
        subst (λ (a : ℕ). Seated nodes a) (sym e)
        (won-seated nodes ws' r.words settled (beside x) (omega arith) (omega (arith, r.high)))

    abbrev keys : ℕ → ℕ
    keys v = key (lows nodes ws) v

    other_key : other < nodes → keys other ≡ key_in ws' other
    other_key h = key-lows nodes ws' (lows nodes ws) other r.costs h

    takes : Holds nodes (lows nodes ws) best least → Seated nodes other → Ahead ws' other least → Before keys other best
    takes (inl h) s b = inl h.0
    takes (inr h) (inl q) b = absurd (b.0 q)
    takes (inr h) (inr k) b = inr (b.0, omega (arith, h.1, b.1, other_key k))

    stays : Holds nodes (lows nodes ws) best least → Seated nodes other → Behind ws' other least → Before keys best other
    stays h s (inl q) = inl q
    stays (inl h) s (inr b) = absurd (omega (arith, h.1, b.1))
    stays (inr h) (inl q) (inr b) = inl q
    stays (inr h) (inr k) (inr b) =
        inr ((λ (q : best ≡ none). omega (arith, h.0, r.words)), omega (arith, h.1, b.0, other_key k))

    module _ (a k : ℕ) (m : Taken ws' best least other a k) where
      held : Holds nodes (lows nodes ws) a k
      held = at beside-seated m
        where
          at : Seated nodes other → Taken ws' best least other a k → Holds nodes (lows nodes ws) a k
          at (inl q) (inl (t, l, b)) = absurd (b.0 q)
          at (inr h) (inl (t, l, b)) = inr (omega arith, l ∙ sym (other_key h) ∙ ap keys (sym t))
          at s (inr (t, l, b)) = subst₂ (λ (y z : ℕ). Holds nodes (lows nodes ws) y z) (sym t) (sym l) r.holds

      pub match-seated : Seated nodes a
      match-seated = holds-seated nodes (lows nodes ws) a k held

      played : Match keys best other a
      played = at m
        where
          at : Taken ws' best least other a k → Match keys best other a
          at (inl (t, l, b)) =
              subst (λ (y : ℕ). Match keys best other y) (sym t) (match-right keys best other (takes r.holds beside-seated b))
          at (inr (t, l, b)) =
              subst (λ (y : ℕ). Match keys best other y) (sym t) (match-left keys best other (stays r.holds beside-seated b))

      beside-played : Match keys best (winner nodes (players (suc settled) (lows nodes ws)) (slot_at ws') (beside x)) a
      beside-played =
          subst (λ (ts : List ℕ). Match keys best (winner nodes (players (suc settled) ts) (slot_at ws') (beside x)) a) r.costs
          (subst (λ (o : ℕ). Match keys best o a) e played)

      pub replayed-up : Replayed nodes settled ws (put ws' (x / 2) a) (x / 2) a k
      replayed-up =
          let inside : x / 2 < nodes = omega (arith, r.high) in
          record {
            costs = put-lows nodes ws' r.words (x / 2) a inside ∙ r.costs;
            words = put-words nodes ws' r.words (x / 2) a inside match-seated;
            low = omega arith;
            high = omega arith;
            holds = held;
            replaying =
                replay-up nodes (players (suc settled) (lows nodes ws)) (slot_at ws') (slot_at (put ws' (x / 2) a)) x (beside x) best a
                (omega arith) inside (omega arith) beside-played (put-puts nodes ws' r.words (x / 2) a inside) r.replaying;
          }

  pub replayed-end :
      (node x best least : ℕ) → settled ≡ key (lows nodes ws) node → x ≤ 1 → slot_at ws' 0 ≡ slot_at ws 0
      → Replayed nodes settled ws ws' x best least → SettleDone nodes node ws ws'
  replayed-end node x best least e h outside r =
      record {
        costs = r.costs;
        queue =
            record {
              words = r.words;
              fair =
                  rw r.costs (subst (λ (k : ℕ). AllFair nodes (players (suc k) (lows nodes ws)) (slot_at ws')) e
                  (replay-end nodes (players (suc settled) (lows nodes ws)) (slot_at ws') x best h r.replaying));
            };
        outside = outside;
      }
