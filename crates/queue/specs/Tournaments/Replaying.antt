-- A node that no longer plays is taken out: the matches on the way up from its leaf are played again.
-- Assumes nothing.
use Rattle.std.specs.Prelude.{◌≡◌, refl, ◌⊎◌, ◌≢◌, ℕ, ◌+◌, ◌*◌, ◌-◌, ◌/◌, ◌≤◌, ◌<◌}
use Rattle.std.proofs.Common.{sym, ◌∙◌, subst, inl, inr, ⊎_elim, arith}
use Rattle.std.proofs.Math.Decide.{ℕ_discrete}
use Rattle.queue.specs.Tournament.{none, Players, Before, winner, Fair, AllFair, OnWay, here, Put, Match}
use Rattle.queue.specs.Tournaments.Matches.{winner-slot, winner-leaf, winner-same, fair-same, FairButOn, fair-next, fair-done}

-- The matches up to place x were played again, and `best` has won there.
pub record Replaying (nodes : ℕ) (p : Players) (slots : ℕ → ℕ) (x best : ℕ) : Type 0 where
  pub rest : FairButOn nodes p slots (x / 2)
  pub winning : winner nodes p slots x ≡ best

-- q is p without v.
pub record Without (nodes : ℕ) (p q : Players) (v : ℕ) : Type 0 where
  pub gone : q.entrant v ≡ none
  pub others : (u : ℕ) → u < nodes → u ≢ v → q.entrant u ≡ p.entrant u
  pub order : (a b : ℕ) → Before p.key a b → Before q.key a b

-- The start, at the leaf of v.
pub replay-start :
    (nodes : ℕ) (p q : Players) (s : ℕ → ℕ) (v : ℕ) → AllFair nodes p s → Without nodes p q v → Replaying nodes q s (nodes + v) none
replay-start nodes p q s v fair out =
    record {
      rest = λ z o k. rest z o k (ℕ_discrete z ((nodes + v) / 2));
      winning = winner-leaf nodes q s (nodes + v) (omega arith) ∙ leaf (nodes + v - nodes) (omega arith);
    }
  where
    leaf : (u : ℕ) → u ≡ v → q.entrant u ≡ none
    leaf u e = subst (λ (y : ℕ). q.entrant y ≡ none) (sym e) out.gone

    rest : (z : ℕ) → 1 ≤ z → z < nodes → Dec (z ≡ (nodes + v) / 2) → Fair nodes q s z ⊎ OnWay ((nodes + v) / 2) z
    rest z o k (yes e) = inr (subst (λ (y : ℕ). OnWay ((nodes + v) / 2) y) (sym e) here)
    rest z o k (no n) =
        inl
        (fair-same nodes p q s s z refl
        (λ c e. winner-same nodes p q s s c (λ h. refl) (λ h. out.others (c - nodes) (omega arith) (λ (w : c - nodes ≡ v). n (omega arith))))
        (λ c e b. out.order (s z) (winner nodes p s c) b)
        (fair z o k))

module _ (nodes : ℕ) (p : Players) where
  -- The match above x is played again, with the winner of the other place.
  pub replay-up :
      (s t : ℕ → ℕ) (x other best a : ℕ) → 2 ≤ x → x / 2 < nodes → other + x ≡ 4 * (x / 2) + 1 → Match p.key best (winner nodes p s other) a
      → Put s (x / 2) a t → Replaying nodes p s x best → Replaying nodes p t (x / 2) a
  replay-up s t x other best a two h pair m put r =
      record {
        rest = fair-next nodes p s t (x / 2) a put fair r.rest;
        winning = winner-slot nodes p t (x / 2) h ∙ put.at_x;
      }
    where
      same : (c : ℕ) → c ≢ x / 2 → winner nodes p t c ≡ winner nodes p s c
      same c n = winner-same nodes p p s t c (λ k. put.others c n) (λ k. refl)

      at-best : winner nodes p t x ≡ best
      at-best = same x (omega arith) ∙ r.winning

      at_other : winner nodes p t other ≡ winner nodes p s other
      at_other = same other (omega arith)

      first : (c : ℕ) → c / 2 ≡ x / 2 → Dec (c ≡ x) → Before p.key a (winner nodes p t c)
      first c e (yes k) =
          subst (λ (y : ℕ). Before p.key a (winner nodes p t y)) (sym k) (subst (λ (b : ℕ). Before p.key a b) (sym at-best) m.left)
      first c e (no k) =
          let l : c ≡ other = omega arith in
          subst (λ (y : ℕ). Before p.key a (winner nodes p t y)) (sym l) (subst (λ (b : ℕ). Before p.key a b) (sym at_other) m.right)

      fair : Fair nodes p t (x / 2)
      fair =
          record {
            won =
                ⊎_elim (λ e. (x, refl, put.at_x ∙ e ∙ sym at-best)) (λ e. (other, omega arith, put.at_x ∙ e ∙ sym at_other)) m.one;
            first = λ c e. subst (λ (b : ℕ). Before p.key b (winner nodes p t c)) (sym put.at_x) (first c e (ℕ_discrete c x));
          }

  -- The last match was played again.
  pub replay-end : (s : ℕ → ℕ) (x best : ℕ) → x ≤ 1 → Replaying nodes p s x best → AllFair nodes p s
  replay-end s x best h r = fair-done nodes p s (x / 2) (omega arith) r.rest
