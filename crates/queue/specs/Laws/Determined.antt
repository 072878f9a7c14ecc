-- The costs determine the slots of a queue: each holds the first of the pending nodes below it, and keys of different nodes differ.
-- Assumes nothing.
use Rattle.std.specs.Prelude.{◌≡◌, refl, List, ℕ, zero, suc, ◌+◌, ◌*◌, ◌-◌, ◌/◌, ◌≤◌, ◌<◌, get_or}
use Rattle.std.proofs.Common.{sym, ap, ◌∙◌, subst, inl, inr, arith, get_or-drop, ext_get_or}
use Rattle.std.proofs.Math.Decide.{ℕ_discrete, dec_lt}
use Rattle.semantics.specs.Graph.Path.{charge_at, steps_at}
use Rattle.queue.specs.Tournament.{none, Players, Before, winner, Fair, AllFair}
use Rattle.queue.specs.Tournaments.Matches.{winner-same}
use Rattle.queue.specs.Queue.{lows, slot_at, key, players, Seated, Queue}
use Rattle.queue.specs.Laws.Keys.{key-own}
use Rattle.queue.specs.Laws.Lows.{lows-charge, lows-steps, costs-length, costs-rest}

-- Two that are before each other are the same.
before-both :
    (nodes : ℕ) (ts : List ℕ) (a b : ℕ) → nodes ≤ none → Seated nodes a → Seated nodes b → Before (λ v. key ts v) a b
    → Before (λ v. key ts v) b a → a ≡ b
before-both nodes ts a b few s t (inl e) (inl f) = f ∙ sym e
before-both nodes ts a b few s t (inl e) (inr g) = absurd (g.0 e)
before-both nodes ts a b few s t (inr f) (inl e) = absurd (f.0 e)
before-both nodes ts a b few (inl e) t (inr f) (inr g) = absurd (f.0 e)
before-both nodes ts a b few (inr h) (inl e) (inr f) (inr g) = absurd (g.0 e)
before-both nodes ts a b few (inr h) (inr k) (inr f) (inr g) =
    key-own ts a b (omega arith) (omega arith) (omega (arith, f.1, g.1))

-- Slots that are fair for the same players are the same, from the leaves up.
module _
    (nodes : ℕ) (p : Players) (s t : ℕ → ℕ) (fair : AllFair nodes p s) (fair' : AllFair nodes p t)
    (both : (z : ℕ) → 1 ≤ z → z < nodes → Before p.key (s z) (t z) → Before p.key (t z) (s z) → s z ≡ t z)
  where
    slots_same : (n z : ℕ) → 2 * nodes ≤ z + n → 1 ≤ z → z < nodes → s z ≡ t z
    slots_same zero z more one h = absurd (omega arith)
    slots_same (suc n) z more one h = at (slots_same n) (fair z one h) (fair' z one h)
      where
        at : ((c : ℕ) → 2 * nodes ≤ c + n → 1 ≤ c → c < nodes → s c ≡ t c) → Fair nodes p s z → Fair nodes p t z → s z ≡ t z
        at ih f g =
            both z one h
            (subst (λ (a : ℕ). Before p.key (s z) a) (sym (g.won.2 ∙ below g.won.0 g.won.1)) (f.first g.won.0 g.won.1))
            (subst (λ (a : ℕ). Before p.key (t z) a) (below f.won.0 f.won.1 ∙ sym f.won.2) (g.first f.won.0 f.won.1))
          where
            below : (c : ℕ) → c / 2 ≡ z → winner nodes p t c ≡ winner nodes p s c
            below c e = winner-same nodes p p s t c (λ k. sym (ih c (omega arith) (omega arith) k)) (λ k. refl)

-- Two queues with the same costs have the same slots.
pub queue-determined :
    (nodes upto : ℕ) (ws ws' : List ℕ) → Queue nodes upto ws → Queue nodes upto ws' → lows nodes ws ≡ lows nodes ws'
    → (z : ℕ) → 1 ≤ z → z < nodes → slot_at ws z ≡ slot_at ws' z
queue-determined nodes upto ws ws' q q' same z one h =
    slots_same nodes (players upto (lows nodes ws)) (slot_at ws) (slot_at ws') q.fair
    (subst (λ (ts : List ℕ). AllFair nodes (players upto ts) (slot_at ws')) (sym same) q'.fair)
    (λ y o k. before-both nodes (lows nodes ws) (slot_at ws y) (slot_at ws' y) q.words.few (q.words.slots y o k) (q'.words.slots y o k))
    (2 * nodes) z (omega arith) one h

-- With the same slot 0 too, they are the same words.
pub words-determined :
    (nodes upto : ℕ) (ws ws' : List ℕ) → Queue nodes upto ws → Queue nodes upto ws' → lows nodes ws ≡ lows nodes ws'
    → slot_at ws 0 ≡ slot_at ws' 0 → ws ≡ ws'
words-determined nodes upto ws ws' q q' same outside =
    ext_get_or 0 ws ws' (costs-length nodes ws' ws same) (λ i h. word i (dec_lt i (2 * nodes)) (ℕ_discrete i (2 * (i / 2))))
  where
    slot : (v : ℕ) → v < nodes → Dec (v ≡ 0) → slot_at ws v ≡ slot_at ws' v
    slot v h (yes e) = subst (λ (y : ℕ). slot_at ws y ≡ slot_at ws' y) (sym e) outside
    slot v h (no n) = queue-determined nodes upto ws ws' q q' same v (omega arith) h

    charge : (v : ℕ) → charge_at ws v ≡ charge_at ws' v
    charge v = sym (lows-charge nodes ws v) ∙ ap (λ (ts : List ℕ). charge_at ts v) same ∙ lows-charge nodes ws' v

    steps : (v : ℕ) → v < nodes → steps_at ws v ≡ steps_at ws' v
    steps v h =
        omega (
          arith,
          lows-steps nodes ws v h,
          lows-steps nodes ws' v h,
          ap (λ (ts : List ℕ). steps_at ts v) same,
          slot v h (ℕ_discrete v 0),
        )

    rest : (i : ℕ) → get_or ws (2 * nodes + i) 0 ≡ get_or ws' (2 * nodes + i) 0
    rest i =
        sym (get_or-drop (2 * nodes) ws i 0) ∙ ap (λ (l : List ℕ). get_or l i 0) (costs-rest nodes ws' ws same) ∙ get_or-drop (2 * nodes) ws' i 0

    word : (i : ℕ) → Dec (i < 2 * nodes) → Dec (i ≡ 2 * (i / 2)) → get_or ws i 0 ≡ get_or ws' i 0
    word i (no n) d =
        let e : 2 * nodes + (i - 2 * nodes) ≡ i = omega arith in
        subst (λ (j : ℕ). get_or ws j 0 ≡ get_or ws' j 0) e (rest (i - 2 * nodes))
    word i (yes h) (yes e) = subst (λ (j : ℕ). get_or ws j 0 ≡ get_or ws' j 0) (sym e) (charge (i / 2))
    word i (yes h) (no n) =
        let e : 2 * (i / 2) + 1 ≡ i = omega arith in
        subst (λ (j : ℕ). get_or ws j 0 ≡ get_or ws' j 0) e (steps (i / 2) (omega arith))
