-- A node that comes before more nodes than it did goes up from its leaf as far as it wins; then all matches are fair again.
-- Assumes nothing.
use Rattle.std.specs.Prelude.{◌≡◌, refl, ◌⊎◌, ◌≢◌, ℕ, ◌+◌, ◌*◌, ◌-◌, ◌/◌, ◌≤◌, ◌<◌}
use Rattle.std.proofs.Common.{sym, ◌∙◌, subst, subst₂, inl, inr, ⊎_elim, arith}
use Rattle.std.proofs.Math.Decide.{ℕ_discrete}
use Rattle.queue.specs.Tournament.{none, Players, OwnLeaves, Before, winner, Won, Fair, AllFair, OnWay, here, up, Put}
use Rattle.queue.specs.Tournaments.Matches.{before-refl, before_same, before-trans, winner-slot, winner-leaf, winner-same}
use Rattle.queue.specs.Tournaments.Matches.{fair-same, way_on, way_next, way-zero, FairButOn, fair-next, fair-done}
use Rattle.queue.specs.Tournaments.Least.{entered}

-- The match at z is fair, but for v: v may come before the winner.
pub record FairButFor (nodes : ℕ) (p : Players) (slots : ℕ → ℕ) (v z : ℕ) : Type 0 where
  pub won : Won nodes p slots z ⊎ Before p.key v (slots z)
  pub first : (c : ℕ) → c / 2 ≡ z → Before p.key (slots z) (winner nodes p slots c) ⊎ (winner nodes p slots c ≡ v)

-- v goes up: it has won all matches on its way below x, and is the winner of a place whose half is x.
pub record Raising (nodes : ℕ) (p : Players) (slots : ℕ → ℕ) (v x : ℕ) : Type 0 where
  pub rest : FairButOn nodes p slots x
  pub nearly : (z : ℕ) → 1 ≤ z → z < nodes → FairButFor nodes p slots v z
  pub from : ℕ
  pub half : from / 2 ≡ x
  pub winning : winner nodes p slots from ≡ v

-- q is p with v before more than it was; v plays.
pub record Raised (p q : Players) (v : ℕ) : Type 0 where
  pub plays : q.entrant v ≡ v
  pub others : (u : ℕ) → u ≢ v → q.entrant u ≡ p.entrant u
  pub order : (a b : ℕ) → b ≢ v → Before p.key a b → Before q.key a b

module _ (nodes : ℕ) (p : Players) (v : ℕ) where
  -- v wins the match at x.
  pub raise-up :
      (s t : ℕ → ℕ) (x : ℕ) → 1 ≤ x → x < nodes → Before p.key v (s x) → Put s x v t → Raising nodes p s v x → Raising nodes p t v (x / 2)
  raise-up s t x one h wins put r =
      record {
        rest = fair-next nodes p s t x v put fair r.rest;
        nearly = λ z o k. near z (ℕ_discrete z x) (r.nearly z o k);
        from = x;
        half = refl;
        winning = now-won;
      }
    where
      now-won : winner nodes p t x ≡ v
      now-won = winner-slot nodes p t x h ∙ put.at_x

      same : (c : ℕ) → c ≢ x → winner nodes p t c ≡ winner nodes p s c
      same c n = winner-same nodes p p s t c (λ k. put.others c n) (λ k. refl)

      fair : Fair nodes p t x
      fair =
          record {
            won = (
              r.from,
              r.half,
              put.at_x ∙ sym r.winning ∙ sym (same r.from (λ (e : r.from ≡ x). omega (arith, r.half))),
            );
            first =
                λ c e. subst₂ (λ (a b : ℕ). Before p.key a b) (sym put.at_x) (sym (same c (λ (q : c ≡ x). omega arith)))
                (⊎_elim (λ b. before-trans p.key v (s x) (winner nodes p s c) wins b) (λ q. before_same p.key v (winner nodes p s c) q)
                ((r.nearly x one h).first c e));
          }

      near_w : (z : ℕ) → t z ≡ s z → Won nodes p s z → Won nodes p t z ⊎ Before p.key v (t z)
      near_w z q (c, e, w) = at (ℕ_discrete c x)
        where
          at : Dec (c ≡ x) → Won nodes p t z ⊎ Before p.key v (t z)
          at (yes k) =
              let was : t z ≡ s x = q ∙ w ∙ subst (λ (y : ℕ). winner nodes p s y ≡ s x) (sym k) (winner-slot nodes p s x h) in
              inr (subst (λ (a : ℕ). Before p.key v a) (sym was) wins)
          at (no k) = inl (c, e, q ∙ w ∙ sym (same c k))

      near : (z : ℕ) → Dec (z ≡ x) → FairButFor nodes p s v z → FairButFor nodes p t v z
      near z (yes e) f =
          subst (λ (y : ℕ). FairButFor nodes p t v y) (sym e) (record { won = inl fair.won; first = λ c q. inl (fair.first c q) })
      near z (no n) f =
          let q : t z ≡ s z = put.others z n in
          record {
            won = ⊎_elim (near_w z q) (λ b. inr (subst (λ (a : ℕ). Before p.key v a) (sym q) b)) f.won;
            first = λ c e. at c (ℕ_discrete c x) q (f.first c e);
          }
        where
          at :
              (c : ℕ) → Dec (c ≡ x) → t z ≡ s z → Before p.key (s z) (winner nodes p s c) ⊎ (winner nodes p s c ≡ v)
              → Before p.key (t z) (winner nodes p t c) ⊎ (winner nodes p t c ≡ v)
          at c (yes k) q g = inr (subst (λ (y : ℕ). winner nodes p t y ≡ v) (sym k) now-won)
          at c (no k) q (inl b) = inl (subst₂ (λ (a d : ℕ). Before p.key a d) (sym q) (sym (same c k)) b)
          at c (no k) q (inr e) = inr (same c k ∙ e)

  -- The winners on the way up from x come before that of x, if v does not.
  above :
      (s : ℕ → ℕ) → ((z : ℕ) → 1 ≤ z → z < nodes → FairButFor nodes p s v z) → {x z : ℕ} → OnWay x z → x < nodes → 1 ≤ z
      → (Before p.key v (s x) → ⊥) → Before p.key (s z) (s x)
  above s nearly {x} here h one not = before-refl p.key (s x)
  above s nearly {x} {z} (up w) h one not = at (ℕ_discrete (x / 2) 0) (above s nearly w)
    where
      at :
          Dec (x / 2 ≡ 0) → (x / 2 < nodes → 1 ≤ z → (Before p.key v (s (x / 2)) → ⊥) → Before p.key (s z) (s (x / 2)))
          → Before p.key (s z) (s x)
      at (yes e) ih = absurd (omega (arith, way-zero w e))
      at (no n) ih = go ((nearly (x / 2) (omega arith) (omega arith)).first x refl)
        where
          won : winner nodes p s x ≡ s x
          won = winner-slot nodes p s x h

          go : Before p.key (s (x / 2)) (winner nodes p s x) ⊎ (winner nodes p s x ≡ v) → Before p.key (s z) (s x)
          go (inr e) = absurd (not (before_same p.key v (s x) (sym won ∙ e)))
          go (inl b) =
              let b' : Before p.key (s (x / 2)) (s x) = subst (λ (a : ℕ). Before p.key (s (x / 2)) a) won b in
              before-trans p.key (s z) (s (x / 2)) (s x)
              (ih (omega arith) one (λ k. not (before-trans p.key v (s (x / 2)) (s x) k b')))
              b'

  -- v loses the match at x.
  pub raise-stop :
      (s : ℕ → ℕ) (x : ℕ) → 1 ≤ x → x < nodes → Before p.key (s x) v → (Before p.key v (s x) → ⊥) → Raising nodes p s v x → AllFair nodes p s
  raise-stop s x one h loses not r z o k = at (r.rest z o k)
    where
      at : Fair nodes p s z ⊎ OnWay x z → Fair nodes p s z
      at (inl f) = f
      at (inr w) =
          let b : Before p.key (s z) (s x) = above s r.nearly w h o not in
          let f = r.nearly z o k in
          record {
            won = ⊎_elim (λ a. a) (λ a. absurd (not (before-trans p.key v (s z) (s x) a b))) f.won;
            first =
                λ c e. ⊎_elim (λ a. a)
                (λ q. subst (λ (d : ℕ). Before p.key (s z) d) (sym q) (before-trans p.key (s z) (s x) v b loses))
                (f.first c e);
          }

  -- v wins the last match.
  pub raise-end : (s : ℕ → ℕ) → Raising nodes p s v 0 → AllFair nodes p s
  raise-end s r = fair-done nodes p s 0 refl r.rest

-- The start, at the match above the leaf of v.
pub raise-start :
    (nodes : ℕ) (p q : Players) (s : ℕ → ℕ) (v : ℕ) → v < nodes → v ≢ none → OwnLeaves p → AllFair nodes p s → Raised p q v
    → Raising nodes q s v ((nodes + v) / 2)
raise-start nodes p q s v h some own fair raised =
    record {
      rest = λ z o k. rest z o k (ℕ_discrete z ((nodes + v) / 2));
      nearly = λ z o k. near z (fair z o k);
      from = nodes + v;
      half = refl;
      winning = now-won;
    }
  where
    leaf : (u : ℕ) → u ≡ v → q.entrant u ≡ v
    leaf u e = subst (λ (y : ℕ). q.entrant y ≡ v) (sym e) raised.plays

    now-won : winner nodes q s (nodes + v) ≡ v
    now-won = winner-leaf nodes q s (nodes + v) (omega arith) ∙ leaf (nodes + v - nodes) (omega arith)

    same : (c : ℕ) → c ≢ nodes + v → winner nodes q s c ≡ winner nodes p s c
    same c n = winner-same nodes p q s s c (λ k. refl) (λ k. raised.others (c - nodes) (λ (e : c - nodes ≡ v). n (omega arith)))

    other : (z c : ℕ) → z ≢ (nodes + v) / 2 → c / 2 ≡ z → winner nodes q s c ≡ winner nodes p s c
    other z c n e = same c (λ (k : c ≡ nodes + v). n (omega arith))

    -- A match whose winner below is v is on the way.
    caught : (z c : ℕ) → 1 ≤ z → z < nodes → c / 2 ≡ z → winner nodes p s c ≡ v → OnWay ((nodes + v) / 2) z
    caught z c o k e w =
        way_next
        (subst (λ (y : ℕ). OnWay (nodes + v) y) e (way_on (entered nodes p s fair own c v (omega arith) (omega arith) w some).way))
        (omega arith)

    rest : (z : ℕ) → 1 ≤ z → z < nodes → Dec (z ≡ (nodes + v) / 2) → Fair nodes q s z ⊎ OnWay ((nodes + v) / 2) z
    rest z o k (yes e) = inr (subst (λ (y : ℕ). OnWay ((nodes + v) / 2) y) (sym e) here)
    rest z o k (no n) = at (ℕ_discrete (winner nodes p s (2 * z)) v) (ℕ_discrete (winner nodes p s (2 * z + 1)) v)
      where
        at :
            Dec (winner nodes p s (2 * z) ≡ v) → Dec (winner nodes p s (2 * z + 1) ≡ v)
            → Fair nodes q s z ⊎ OnWay ((nodes + v) / 2) z
        at (yes w) d = inr (caught z (2 * z) o k (omega arith) w)
        at (no w) (yes w') = inr (caught z (2 * z + 1) o k (omega arith) w')
        at (no w) (no w') =
            inl
            (fair-same nodes p q s s z refl (λ c e. other z c n e)
            (λ c e b. raised.order (s z) (winner nodes p s c) (not-v c e (ℕ_discrete c (2 * z))) b)
            (fair z o k))
          where
            not-v : (c : ℕ) → c / 2 ≡ z → Dec (c ≡ 2 * z) → winner nodes p s c ≢ v
            not-v c e (yes l) = subst (λ (y : ℕ). winner nodes p s y ≢ v) (sym l) w
            not-v c e (no l) =
                let r : c ≡ 2 * z + 1 = omega arith in
                subst (λ (y : ℕ). winner nodes p s y ≢ v) (sym r) w'

    -- Who entered at the leaf of v came behind v.
    behind : (u a : ℕ) → u ≡ v → a ≡ p.entrant u → (p.entrant u ≡ u) ⊎ (p.entrant u ≡ none) → Before q.key v a
    behind u a e w (inl o) = before_same q.key v a (cc)
    behind u a e w (inr o) = inl (cc)

    near : (z : ℕ) → Fair nodes p s z → FairButFor nodes q s v z
    near z f =
        record {
          won = won f.won.0 f.won.1 f.won.2 (ℕ_discrete f.won.0 (nodes + v));
          first = λ c e. first c (ℕ_discrete c (nodes + v)) (ℕ_discrete (winner nodes p s c) v) (f.first c e);
        }
      where
        won : (c : ℕ) → c / 2 ≡ z → s z ≡ winner nodes p s c → Dec (c ≡ nodes + v) → Won nodes q s z ⊎ Before q.key v (s z)
        won c e w (yes k) =
            inr (behind (c - nodes) (s z) (omega arith) (w ∙ winner-leaf nodes p s c (omega arith)) (own (c - nodes)))
        won c e w (no k) = inl (c, e, w ∙ sym (same c k))

        first :
            (c : ℕ) → Dec (c ≡ nodes + v) → Dec (winner nodes p s c ≡ v) → Before p.key (s z) (winner nodes p s c)
            → Before q.key (s z) (winner nodes q s c) ⊎ (winner nodes q s c ≡ v)
        first c (yes k) d b = inr (subst (λ (y : ℕ). winner nodes q s y ≡ v) (sym k) now-won)
        first c (no k) (yes w) b = inr (same c k ∙ w)
        first c (no k) (no w) b =
            inl (subst (λ (a : ℕ). Before q.key (s z) a) (sym (same c k)) (raised.order (s z) (winner nodes p s c) w b))
