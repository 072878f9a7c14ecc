-- Where all matches are fair, slot 1 comes before every entrant; and a winner has entered, at a leaf from which the way leads up to its place.
-- Assumes nothing.
use Rattle.std.specs.Prelude.{◌≡◌, refl, ◌⊎◌, ◌≢◌, ℕ, zero, suc, ◌+◌, ◌*◌, ◌-◌, ◌/◌, ◌≤◌, ◌<◌}
use Rattle.std.proofs.Common.{sym, ◌∙◌, subst, inl, inr, arith}
use Rattle.std.proofs.Math.Decide.{dec_lt}
use Rattle.queue.specs.Tournament.{none, Players, OwnLeaves, Before, winner, Fair, AllFair, OnWay, here}
use Rattle.queue.specs.Tournaments.Matches.{before_same, before-trans, winner-slot, winner-leaf, way_on}

-- v plays, and the way up from its leaf leads to z.
pub record Entered (nodes : ℕ) (p : Players) (v z : ℕ) : Type 0 where
  pub below : v < nodes
  pub plays : p.entrant v ≡ v
  pub way : OnWay (nodes + v) z

module _ (nodes : ℕ) (p : Players) (slots : ℕ → ℕ) (fair : AllFair nodes p slots) where
  place-least : 2 ≤ nodes → (n z : ℕ) → z < n → 1 ≤ z → z < 2 * nodes → Before p.key (slots 1) (winner nodes p slots z)
  place-least two zero z h one room = absurd (omega arith)
  place-least two (suc n) z h one room = at (dec_lt 1 z) (place-least two n (z / 2))
    where
      at :
          Dec (1 < z) → (z / 2 < n → 1 ≤ z / 2 → z / 2 < 2 * nodes → Before p.key (slots 1) (winner nodes p slots (z / 2)))
          → Before p.key (slots 1) (winner nodes p slots z)
      at (no k) ih =
          let e : z ≡ 1 = omega arith in
          before_same p.key (slots 1) (winner nodes p slots z)
          (subst (λ (y : ℕ). winner nodes p slots y ≡ slots 1) (sym e) (winner-slot nodes p slots 1 (omega arith)))
      at (yes k) ih =
          before-trans p.key (slots 1) (slots (z / 2)) (winner nodes p slots z)
          (subst (λ (a : ℕ). Before p.key (slots 1) a) (winner-slot nodes p slots (z / 2) (omega arith))
          (ih (omega arith) (omega arith) (omega arith)))
          ((fair (z / 2) (omega arith) (omega arith)).first z refl)

  pub least : 2 ≤ nodes → (v : ℕ) → v < nodes → Before p.key (slots 1) (p.entrant v)
  least two v h =
      subst (λ (a : ℕ). Before p.key (slots 1) a)
      (winner-leaf nodes p slots (nodes + v) (omega arith) ∙ leaf (nodes + v - nodes) (omega arith))
      (place-least two (suc (nodes + v)) (nodes + v) (omega arith) (omega arith) (omega arith))
    where
      leaf : (u : ℕ) → u ≡ v → p.entrant u ≡ p.entrant v
      leaf u e = cc

  module _ (own : OwnLeaves p) where
    descend :
        (n z v : ℕ) → 2 * nodes ≤ z + n → 1 ≤ z → z < 2 * nodes → winner nodes p slots z ≡ v → v ≢ none → Entered nodes p v z
    descend zero z v more one room e plays = absurd (omega arith)
    descend (suc n) z v more one room e plays = at (dec_lt z nodes) (descend n)
      where
        leaf : nodes ≤ z → (u : ℕ) → u ≡ z - nodes → p.entrant u ≡ v → (p.entrant u ≡ u) ⊎ (p.entrant u ≡ none) → Entered nodes p v z
        leaf h u d q (inl o) =
            let same : v ≡ u = cc in
            let there : z ≡ nodes + v = omega arith in
            record {
              below = omega arith;
              plays = cc;
              way = subst (λ (y : ℕ). OnWay (nodes + v) y) (sym there) here;
            }
        leaf h u d q (inr o) = absurd (plays (cc))

        slot :
            z < nodes → (f : Fair nodes p slots z) → Entered nodes p v f.won.0 → Entered nodes p v z
        slot h f t =
            record {
              below = t.below;
              plays = t.plays;
              way = subst (λ (y : ℕ). OnWay (nodes + v) y) f.won.1 (way_on t.way);
            }

        at :
            Dec (z < nodes)
            → ((y u : ℕ) → 2 * nodes ≤ y + n → 1 ≤ y → y < 2 * nodes → winner nodes p slots y ≡ u → u ≢ none → Entered nodes p u y)
            → Entered nodes p v z
        at (no h) ih =
            leaf (omega arith) (z - nodes) refl (sym (winner-leaf nodes p slots z (omega arith)) ∙ e) (own (z - nodes))
        at (yes h) ih =
            let f : Fair nodes p slots z = fair z one h in
            let half : f.won.0 / 2 ≡ z = f.won.1 in
            slot h f
            (ih f.won.0 v (omega arith) (omega arith) (omega arith)
            (sym f.won.2 ∙ sym (winner-slot nodes p slots z h) ∙ e)
            plays)

    pub entered : (z v : ℕ) → 1 ≤ z → z < 2 * nodes → winner nodes p slots z ≡ v → v ≢ none → Entered nodes p v z
    entered z v = descend (2 * nodes) z v (omega arith)
