-- The q roundings of a run in q-ths: one for each phase, and their prices add up to at most the run's charge, S. A tick turns the phases by one place
-- and costs the rate at one of them; a move costs its price at each, and S grows by q times it.
-- Assumes nothing.
use Rattle.std.specs.Prelude.{◌≡◌, refl, Bool, true, false, cond, List, [], ◌∷◌, ◌++◌, ℕ, zero, suc, pred, ◌+◌, ◌*◌, ◌<◌, length}
use Rattle.std.proofs.Common.{ap, ◌∙◌, sym, subst, subst₂, arith}
use Rattle.std.proofs.Math.Path.{fun_ext}
use mathlib.Core.List.Memᴰ
use Rattle.semantics.specs.Automata.Proper.{Proper}
use Rattle.semantics.specs.Automaton.{Automaton, timers, mode_at, move_at}
use Rattle.semantics.specs.Region.{start}
use Rattle.semantics.specs.Run.{State, initial, Act, wait, move, among, zeroed, after, AllHold, Stays, AllAllowed, final, charge_from, charge}
use Rattle.semantics.specs.Chain.{chain, follow}
use Rattle.semantics.specs.Corners.Edges.{reset_all_corner}
use Rattle.semantics.specs.Regions.Lengths.{start-prices}
use Rattle.semantics.proofs.Bounds.Inside.{start-inside}
use Rattle.semantics.proofs.Bounds.Stays.{Admits, guard-at, stays_at, holds-double, stays-double, stays-between, start-stays}
use Rattle.semantics.proofs.Bounds.Steps.{moved_by, moves, chain_snoc}
use Rattle.semantics.proofs.Bounds.Moved.{moved-to, moved-sides, moved_inside, moved-well-formed, moved-sized}
use Rattle.semantics.proofs.Bounds.Reached.{chain-reached}
use Rattle.semantics.proofs.Bounds.Flow.{move-flow}
use Rattle.semantics.proofs.Bounds.Rounding.{Rounded}
use Rattle.semantics.proofs.Bounds.Ticks.{tick-rounded, tick-round}
use Rattle.semantics.specs.Bounds.Sum.{sum_below, sum-zero, sum-add, turn, sum-turn}

-- The roundings of a run that ends in mode l with the timers at v, charged S.
pub record Roundings (a : Automaton) (q l : ℕ) (v : ℕ → ℕ) (S : ℕ) : Type 0 where
  pub stays : Stays a q l v
  pub weight : ℕ → ℕ
  pub rounded : (φ : ℕ) → φ < q → Rounded a (2 * q) l (λ x. 2 * v x) (2 * φ + 1) (weight φ)
  pub total : sum_below weight q ≡ S

-- Twice the values after resets.
twice-zeroed : (xs : List ℕ) (v : ℕ → ℕ) (x : ℕ) → 2 * zeroed xs v x ≡ zeroed xs (λ y. 2 * v y) x
twice-zeroed xs v x = go (among x xs)
  where
    go : (b : Bool) → 2 * cond b 0 (v x) ≡ cond b 0 (2 * v x)
    go true = refl
    go false = refl

module _ (a : Automaton) (ok : Proper a) (q : ℕ) (pos : 0 < q) where
  rounded-start : (φ : ℕ) → Rounded a (2 * q) 0 (λ x. 2 * 0) (2 * φ + 1) 0
  unfolding chain follow start
  rounded-start φ = record {
    steps = [];
    region = start (timers a);
    found = refl;
    corner = 0;
    there = omega arith;
    cheap = omega arith;
    fraction = λ i. i;
    inside = start-inside (timers a) (2 * q) (omega arith);
    sides = record { down = λ i b k. omega (arith, start-prices (timers a)); up = λ i b k. absurd (omega arith) };
  }

  roundings-start : Roundings a q 0 (λ x. 0) 0
  roundings-start = record { stays = start-stays a ok q pos; weight = λ φ. 0; rounded = λ φ h. rounded-start φ; total = sum-zero q }

  -- A move, which is allowed, rounded at any phase.
  module _ (l e : ℕ) (v : ℕ → ℕ) (i : e < length a.moves) (o : (move_at a e).source ≡ l) (g : AllHold q (move_at a e).conditions v)
      (h : Stays a q (move_at a e).target (zeroed (move_at a e).resets v)) where
    rounded-move :
        (ψ w : ℕ) → Rounded a (2 * q) l (λ x. 2 * v x) ψ w
        → Rounded a (2 * q) (move_at a e).target (λ x. 2 * zeroed (move_at a e).resets v x) ψ (w + (move_at a e).price)
    rounded-move ψ w d =
        let r = d.region in
        let n = chain-reached a ok d.steps _ d.found in
        let to = moved-to a ok e r n.well-formed n.sized in
        let p =
        moved_inside a ok e r n.well-formed n.sized (2 * q) (λ x. 2 * v x) d.fraction (λ x. 2 * zeroed (move_at a e).resets v x)
        (twice-zeroed (move_at a e).resets v) d.inside in
        let guard =
        (guard-at a ok r n.well-formed n.sized (2 * q) _ _ d.inside e).1 (holds-double q (move_at a e).conditions v _ (λ x. refl) g) in
        let target : Admits a (move_at a e).target (moved_by a e r) =
        (stays_at a ok (moved_by a e r) (moved-well-formed a ok e r n.well-formed n.sized) (moved-sized a ok e r n.well-formed n.sized)
        (2 * q) _ _ p (move_at a e).target).1 (stays-double a q (move_at a e).target _ _ (λ x. refl) h) in
        let out = (move-flow a ok e r n.well-formed n.sized).least d.corner d.there _ (Memᴰ.head refl) in
        record {
          steps = d.steps ++ e ∷ [];
          region = moved_by a e r;
          found = chain_snoc a d.steps e _ _ d.found (moves e (omega (arith, ok.few-moves)) i o guard target.conditions);
          corner = reset_all_corner (move_at a e).resets r d.corner;
          there = out.there;
          cheap = omega (arith, d.cheap, out.least);
          fraction = λ i. d.fraction (to.old i);
          inside = p;
          sides = moved-sides a ok e r n.well-formed n.sized d.corner d.there _ _ d.sides;
        }

    roundings-move : (S : ℕ) → Roundings a q l v S → Roundings a q (move_at a e).target (zeroed (move_at a e).resets v) (S + q * (move_at a e).price)
    roundings-move S r = record {
      stays = h;
      weight = λ φ. r.weight φ + (move_at a e).price;
      rounded = λ φ b. rounded-move (2 * φ + 1) (r.weight φ) (r.rounded φ b);
      total = omega (arith, sum-add r.weight (move_at a e).price q, r.total);
    }

  -- A tick: the last phase becomes the first.
  roundings-tick :
      (l : ℕ) (v : ℕ → ℕ) (S : ℕ) → Stays a q l (λ x. v x + 1) → Roundings a q l v S
      → Roundings a q l (λ x. v x + 1) (S + (mode_at a l).rate)
  roundings-tick l v S h r = record { stays = h; weight = turn last (mode_at a l).rate r.weight; rounded = rounded; total = total }
    where
      last : ℕ
      last = pred q

      last-is : suc last ≡ q
      last-is = let e : suc (pred q) ≡ q = omega arith in e

      rounded : (φ : ℕ) → φ < q → Rounded a (2 * q) l (λ x. 2 * (v x + 1)) (2 * φ + 1) (turn last (mode_at a l).rate r.weight φ)
      rounded zero b = tick-round a ok q l pos v r.stays h last (r.weight last) last-is (r.rounded last (omega (arith, last-is)))
      rounded (suc φ) b = tick-rounded a ok q l pos v r.stays h φ (r.weight φ) b (r.rounded φ (omega arith))

      total : sum_below (turn last (mode_at a l).rate r.weight) q ≡ S + (mode_at a l).rate
      total =
          ap (sum_below (turn last (mode_at a l).rate r.weight)) (sym last-is) ∙ sum-turn last (mode_at a l).rate r.weight
          ∙ omega (arith, ap (sum_below r.weight) last-is, r.total)

  roundings-cast : (l : ℕ) (v v' : ℕ → ℕ) (S S' : ℕ) → ((x : ℕ) → v x ≡ v' x) → S ≡ S' → Roundings a q l v S → Roundings a q l v' S'
  roundings-cast l v v' S S' e s r = subst₂ (λ (u : ℕ → ℕ) (t : ℕ). Roundings a q l u t) (fun_ext e) s r

  -- A wait, tick by tick: the mode may be stayed in at each since it may before and after.
  roundings-wait :
      (l : ℕ) (v : ℕ → ℕ) (S d : ℕ) → Stays a q l (λ x. v x + d) → Roundings a q l v S
      → Roundings a q l (λ x. v x + d) (S + d * (mode_at a l).rate)
  roundings-wait l v S zero h r = roundings-cast l v _ S _ (λ x. omega arith) (omega arith) r
  roundings-wait l v S (suc d) h r =
      let b : Stays a q l (λ x. v x + d) =
      stays-between a q l v (λ x. v x + d) (λ x. v x + suc d) (λ x. omega arith) (λ x. omega arith) r.stays h in
      let n : Stays a q l (λ x. v x + d + 1) = subst (Stays a q l) (fun_ext (λ x. omega arith)) h in
      roundings-cast l (λ x. v x + d + 1) _ (S + d * (mode_at a l).rate + (mode_at a l).rate) _ (λ x. omega arith) (omega arith)
      (roundings-tick l (λ x. v x + d) _ n (roundings-wait l v S d b r))

  -- Any run.
  roundings-acts :
      (ts : List Act) (s : State) (S : ℕ) → AllAllowed a q ts s → Roundings a q s.mode s.value S
      → Roundings a q (final a ts s).mode (final a ts s).value (S + charge_from a q ts s)
  roundings-acts [] s S h r = roundings-cast s.mode s.value s.value S _ (λ x. refl) (omega arith) r
  roundings-acts (wait d ∷ ts) s S h r =
      roundings-cast _ _ _ _ _ (λ x. refl) (omega arith)
      (roundings-acts ts (after a (wait d) s) (S + d * (mode_at a s.mode).rate) h.1 (roundings-wait s.mode s.value S d h.0 r))
  roundings-acts (move e ∷ ts) s S h r =
      roundings-cast _ _ _ _ _ (λ x. refl) (omega arith)
      (roundings-acts ts (after a (move e) s) (S + q * (move_at a e).price) h.1
      (roundings-move s.mode e s.value h.0.0 h.0.1 h.0.2 h.0.3 S r))

  pub roundings : (ts : List Act) → AllAllowed a q ts initial → Roundings a q (final a ts initial).mode (final a ts initial).value (charge a q ts)
  roundings ts h = roundings-cast _ _ _ _ _ (λ x. refl) (omega arith) (roundings-acts ts initial 0 h roundings-start)
