-- The order of players, the winners at slots and leaves, and ways up. A match stays fair if nothing of it changes, and a new fair match shortens the
-- way that is left.
-- Assumes nothing.
use Rattle.std.specs.Prelude.{◌≡◌, refl, ◌⊎◌, ◌≢◌, ℕ, ◌-◌, ◌/◌, ◌≤◌, ◌<◌}
use Rattle.std.proofs.Common.{sym, ◌∙◌, subst, subst₂, inl, inr, le_refl, arith, lt-ltb, le-ltb}
use Rattle.std.proofs.Math.Decide.{ℕ_discrete, dec_lt}
use Rattle.queue.specs.Tournament.{none, Players, Before, winner, Fair, AllFair, OnWay, here, up, Put}

module _ (key : ℕ → ℕ) where
  pub before-refl : (a : ℕ) → Before key a a
  before-refl a = at (ℕ_discrete a none)
    where
      at : Dec (a ≡ none) → Before key a a
      at (yes e) = inl e
      at (no n) = inr (n, le_refl (key a))

  pub before_same : (a b : ℕ) → b ≡ a → Before key a b
  before_same a b e = subst (λ (x : ℕ). Before key a x) (sym e) (before-refl a)

  pub before-trans : (a b c : ℕ) → Before key a b → Before key b c → Before key a c
  before-trans a b c x (inl e) = inl e
  before-trans a b c (inl e) (inr y) = absurd (y.0 e)
  before-trans a b c (inr x) (inr y) = inr (x.0, omega arith)

module _ (nodes : ℕ) (p : Players) (slots : ℕ → ℕ) where
  pub winner-slot : (z : ℕ) → z < nodes → winner nodes p slots z ≡ slots z
  unfolding winner
  winner-slot z h = rw (lt-ltb z nodes h)

  pub winner-leaf : (z : ℕ) → nodes ≤ z → winner nodes p slots z ≡ p.entrant (z - nodes)
  unfolding winner
  winner-leaf z h = rw (le-ltb z nodes h)

-- Ways.
pub way_on : {x z : ℕ} → OnWay x z → OnWay x (z / 2)
way_on here = up here
way_on (up w) = up (way_on w)

pub way-zero : {x z : ℕ} → OnWay x z → x ≡ 0 → z ≡ 0
way-zero here e = e
way-zero (up w) e = way-zero w (omega arith)

pub way_next : {x z : ℕ} → OnWay x z → z ≢ x → OnWay (x / 2) z
way_next here n = absurd (n refl)
way_next (up w) n = w

-- The winner at a place is the same if the slot and the entrant there are.
pub winner-same :
    (nodes : ℕ) (p q : Players) (s t : ℕ → ℕ) (c : ℕ) → (c < nodes → t c ≡ s c) → (nodes ≤ c → q.entrant (c - nodes) ≡ p.entrant (c - nodes))
    → winner nodes q t c ≡ winner nodes p s c
winner-same nodes p q s t c slot leaf = at (dec_lt c nodes)
  where
    at : Dec (c < nodes) → winner nodes q t c ≡ winner nodes p s c
    at (yes h) = winner-slot nodes q t c h ∙ slot h ∙ sym (winner-slot nodes p s c h)
    at (no h) =
        let k : nodes ≤ c = omega arith in
        winner-leaf nodes q t c k ∙ leaf k ∙ sym (winner-leaf nodes p s c k)

-- A match stays fair if its slot and the winners below are the same, and are in the same order.
pub fair-same :
    (nodes : ℕ) (p q : Players) (s t : ℕ → ℕ) (z : ℕ) → t z ≡ s z → ((c : ℕ) → c / 2 ≡ z → winner nodes q t c ≡ winner nodes p s c)
    → ((c : ℕ) → c / 2 ≡ z → Before p.key (s z) (winner nodes p s c) → Before q.key (s z) (winner nodes p s c))
    → Fair nodes p s z → Fair nodes q t z
fair-same nodes p q s t z slot same order f =
    record {
      won = (f.won.0, f.won.1, slot ∙ f.won.2 ∙ sym (same f.won.0 f.won.1));
      first =
          λ c e. subst₂ (λ (a b : ℕ). Before q.key a b) (sym slot) (sym (same c e)) (order c e (f.first c e));
    }

-- All matches are fair, but for some on the way up from x.
abbrev pub FairButOn : ℕ → Players → (ℕ → ℕ) → ℕ → Type 0
FairButOn nodes p slots x = (z : ℕ) → 1 ≤ z → z < nodes → Fair nodes p slots z ⊎ OnWay x z

-- Once the match at x is fair, only those above it are left.
pub fair-next :
    (nodes : ℕ) (p : Players) (s t : ℕ → ℕ) (x b : ℕ) → Put s x b t → Fair nodes p t x → FairButOn nodes p s x → FairButOn nodes p t (x / 2)
fair-next nodes p s t x b put f rest z one h = at (ℕ_discrete z x) (ℕ_discrete z (x / 2)) (rest z one h)
  where
    at : Dec (z ≡ x) → Dec (z ≡ x / 2) → Fair nodes p s z ⊎ OnWay x z → Fair nodes p t z ⊎ OnWay (x / 2) z
    at (yes e) d g = inl (subst (λ (y : ℕ). Fair nodes p t y) (sym e) f)
    at (no n) (yes e) g = inr (subst (λ (y : ℕ). OnWay (x / 2) y) (sym e) here)
    at (no n) (no m) (inl g) =
        inl
        (fair-same nodes p p s t z (put.others z n)
        (λ c e. winner-same nodes p p s t c (λ k. put.others c (λ (q : c ≡ x). m (omega arith))) (λ k. refl))
        (λ c e o. o)
        g)
    at (no n) (no m) (inr w) = inr (way_next w n)

-- With nothing left, all are fair.
pub fair-done : (nodes : ℕ) (p : Players) (slots : ℕ → ℕ) (x : ℕ) → x ≡ 0 → FairButOn nodes p slots x → AllFair nodes p slots
fair-done nodes p slots x e rest z one h = at (rest z one h)
  where
    at : Fair nodes p slots z ⊎ OnWay x z → Fair nodes p slots z
    at (inl f) = f
    at (inr w) = absurd (omega (arith, way-zero w e))
