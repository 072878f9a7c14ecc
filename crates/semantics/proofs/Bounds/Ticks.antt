-- A tick, a q-th of a minute, is two halves. Counted in 2q-ths, values are even before and after it, and odd half-way; so no timer comes to a
-- whole minute in the first half, and none is on one when the second begins. The phases of a run are the odd numbers below 2q.
-- Assumes nothing.
use Rattle.std.specs.Prelude.{◌≡◌, refl, ℕ, zero, suc, ◌+◌, ◌*◌, ◌<◌}
use Rattle.std.proofs.Common.{ap, subst, ⊎_elim, arith}
use Rattle.semantics.specs.Automata.Proper.{Proper}
use Rattle.semantics.specs.Automaton.{Automaton, mode_at}
use Rattle.semantics.specs.Region.{PricedRegion, WellFormed, count, top}
use Rattle.semantics.specs.Run.{Stays}
use Rattle.semantics.specs.Regions.Count.{count-place}
use Rattle.semantics.specs.Regions.Cases.{zero-cases}
use Rattle.semantics.specs.Regions.Groups.{top-full}
use Rattle.semantics.proofs.Bounds.Inside.{Inside}
use Rattle.semantics.proofs.Bounds.Stays.{stays-between, stays-double}
use Rattle.semantics.proofs.Bounds.Reached.{chain-reached}
use Rattle.semantics.proofs.Bounds.Rounding.{Rounded, leave-part, round-part, arrive-part}

module _ (r : PricedRegion) (w : WellFormed r) (q : ℕ) (v f u : ℕ → ℕ) (p : Inside (2 * q) v f r) where
  -- At even values no timer is a 2q-th before a whole minute.
  even-short : ((x : ℕ) → v x ≡ 2 * u x) → f (top r) + 1 < 2 * q
  even-short e = go (top r) refl
    where
      go : (k : ℕ) → top r ≡ k → f (top r) + 1 < 2 * q
      go zero h = omega (arith, p.small 0 (omega arith), p.grounded, ap f h)
      go (suc k) h =
          let o = count-place (top r) r.group (top-full r w (omega arith)) in
          omega (arith, p.small (top r) (omega arith), e o.0, p.value o.0 (omega (arith, o.1, w.paired)), ap f o.2)

  -- At odd values no timer is on a whole minute.
  odd-empty : ((x : ℕ) → v x ≡ 2 * u x + 1) → count 0 r.group ≡ 0
  odd-empty e = ⊎_elim (λ z. z) (λ z. absurd (full z)) (zero-cases r)
    where
      full : 0 < count 0 r.group → ⊥
      full z =
          let o = count-place 0 r.group z in
          omega (arith, p.grounded, e o.0, p.value o.0 (omega (arith, o.1, w.paired)), ap f o.2)

-- A tick from the values u, at each of which the mode may be stayed in.
module _ (a : Automaton) (ok : Proper a) (q l : ℕ) (pos : 0 < q) (u : ℕ → ℕ) (now : Stays a q l u) (next : Stays a q l (λ x. u x + 1)) where
  half-way : Stays a (2 * q) l (λ x. 2 * u x + 1)
  half-way =
      stays-between a (2 * q) l (λ x. 2 * u x) (λ x. 2 * u x + 1) (λ x. 2 * (u x + 1)) (λ x. omega arith) (λ x. omega arith)
      (stays-double a q l u (λ x. 2 * u x) (λ x. refl) now) (stays-double a q l (λ x. u x + 1) (λ x. 2 * (u x + 1)) (λ x. refl) next)

  -- The second half.
  arrives-tick :
      (ψ w : ℕ) → suc ψ < 2 * q → Rounded a (2 * q) l (λ x. 2 * u x + 1) ψ w → Rounded a (2 * q) l (λ x. 2 * (u x + 1)) (suc ψ) w
  arrives-tick ψ w h d =
      arrive-part a ok (2 * q) l (λ x. 2 * u x + 1) (λ x. 2 * (u x + 1)) (λ x. omega arith)
      (stays-double a q l (λ x. u x + 1) (λ x. 2 * (u x + 1)) (λ x. refl) next) ψ w d
      (odd-empty d.region (chain-reached a ok d.steps _ d.found).well-formed q _ d.fraction u d.inside (λ x. refl)) h

  short : (ψ w : ℕ) (d : Rounded a (2 * q) l (λ x. 2 * u x) ψ w) → d.fraction (top d.region) + 1 < 2 * q
  short ψ w d = even-short d.region (chain-reached a ok d.steps _ d.found).well-formed q _ d.fraction u d.inside (λ x. refl)

  -- A tick at a phase below the last costs nothing.
  pub tick-rounded :
      (φ w : ℕ) → suc φ < q → Rounded a (2 * q) l (λ x. 2 * u x) (2 * φ + 1) w → Rounded a (2 * q) l (λ x. 2 * (u x + 1)) (2 * suc φ + 1) w
  tick-rounded φ w h d =
      subst (λ (ψ : ℕ). Rounded a (2 * q) l (λ x. 2 * (u x + 1)) ψ w) (omega arith)
      (arrives-tick (suc (2 * φ + 1)) w (omega arith)
      (leave-part a ok (2 * q) l _ (λ x. 2 * u x + 1) (λ x. refl) half-way (2 * φ + 1) w d (short (2 * φ + 1) w d) (omega arith)))

  -- At the last phase it costs the rate, and the first phase follows.
  pub tick-round :
      (φ w : ℕ) → suc φ ≡ q → Rounded a (2 * q) l (λ x. 2 * u x) (2 * φ + 1) w
      → Rounded a (2 * q) l (λ x. 2 * (u x + 1)) (2 * 0 + 1) (w + (mode_at a l).rate)
  tick-round φ w h d =
      arrives-tick 0 (w + (mode_at a l).rate) (omega arith)
      (round-part a ok (2 * q) l _ (λ x. 2 * u x + 1) (λ x. refl) half-way (2 * φ + 1) w d (short (2 * φ + 1) w d) (omega arith))
