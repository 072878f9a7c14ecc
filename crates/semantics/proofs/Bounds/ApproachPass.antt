-- Corner 0 passes to the last corner, by delay out of r0 or by linger where r0 is empty, for the runs that come near a corner: the run waits
-- until σ times its limit is left of the minute, and is charged at most the rate for it.
-- Assumes nothing.
use Rattle.std.specs.Prelude.{◌≡◌, refl, List, ℕ, zero, suc, ◌+◌, ◌*◌, ◌-◌, ◌<◌, ◌≤◌, length}
use Rattle.std.proofs.Common.{◌∙◌, mul-le-mul_left, mul-le-mul_right, arith}
use Rattle.std.proofs.Math.Nat.{mul-sub}
use Rattle.semantics.specs.Automata.Proper.{Proper}
use Rattle.semantics.specs.Automaton.{Automaton, timers, mode_at}
use Rattle.semantics.specs.Region.{PricedRegion, WellFormed, count, top, leave}
use Rattle.semantics.specs.Regions.Lengths.{leave-timers, leave-top}
use Rattle.semantics.proofs.Regions.WellFormed.{leave-well-formed}
use Rattle.semantics.proofs.Bounds.Inside.{Inside, later, inside-leave, inside-stay}
use Rattle.semantics.proofs.Bounds.Stays.{Admits}
use Rattle.semantics.proofs.Bounds.Approach.{ApproachAt, Approach, approach-wait}

-- The offsets at the last corner: what is left of the limit.
abbrev pass_offset : (ℕ → ℕ) → ℕ → (ℕ → ℕ) → ℕ → ℕ
pass_offset was M o zero = 0
pass_offset was M o (suc i) = M - o (was i)

-- A wait in r leads to s, where group i + 1 is what was group `was i`.
module _ (a : Automaton) (ok : Proper a) (moves : List ℕ) (l : ℕ) (r s : PricedRegion) (ws : WellFormed s) (sized : length s.whole ≡ timers a)
    (t : Admits a l s) (was : ℕ → ℕ) (was-in : (i : ℕ) → suc i ≤ top s → was i ≤ top r)
    (waits : (q d : ℕ) (v f : ℕ → ℕ) → Inside q v f r → 0 < d → f (top r) + d < q → Inside q (λ x. v x + d) (later was d f) s) where
  pass-run :
      (w : ℕ) (o : ℕ → ℕ) (M x σ q : ℕ) → ((i : ℕ) → i ≤ top r → o i < M) → 0 < σ → σ * (M + 1) ≤ q → ApproachAt a moves l r 0 w o x σ q
      → ApproachAt a moves l s (top s) (w + (mode_at a l).rate) (pass_offset was M o) x σ q
  pass-run w o M x σ q bound pos large u =
      approach-wait a ok moves l s ws sized t u (q - σ * M) (later was (q - σ * M) u.fraction)
      (waits q (q - σ * M) u.v u.fraction u.inside (omega arith) short) (top s) (w + (mode_at a l).rate) (pass_offset was M o) x σ
      (record { down = down; up = up }) (omega (arith, u.charged, mul-le-mul_right (mode_at a l).rate less))
    where
      less : q - σ * M ≤ q
      less = omega arith

      room : (i : ℕ) → i ≤ top r → σ * o i + σ ≤ σ * M
      room i b = omega (arith, mul-le-mul_left σ (bound i b))

      -- At corner 0 every group is down.
      low : (i : ℕ) → i ≤ top r → u.fraction i ≡ σ * o i
      low i b = u.sides.down i b (omega arith)

      short : u.fraction (top r) + (q - σ * M) < q
      short = omega (arith, low (top r) (omega arith), room (top r) (omega arith))

      down : (i : ℕ) → i ≤ top s → i + top s ≤ top s → later was (q - σ * M) u.fraction i ≡ σ * pass_offset was M o i
      down zero b k = omega arith
      down (suc i) b k = absurd (omega arith)

      up : (i : ℕ) → i ≤ top s → top s < i + top s → later was (q - σ * M) u.fraction i + σ * pass_offset was M o i ≡ q
      up zero b k = absurd (omega arith)
      up (suc i) b k = omega (arith, low (was i) (was-in i b), room (was i) (was-in i b), mul-sub σ M (o (was i)))

  approach-pass : (w : ℕ) → Approach a moves l r 0 w → Approach a moves l s (top s) (w + (mode_at a l).rate)
  approach-pass w n = record {
    offset = pass_offset was n.limit n.offset;
    limit = n.limit + 1;
    extra = n.extra;
    there = omega arith;
    bound = λ i h. bound i;
    runs = λ σ q h b. pass-run w n.offset n.limit n.extra σ q n.bound h b (n.runs σ q h (omega arith));
  }
    where
      bound : (i : ℕ) → pass_offset was n.limit n.offset i < n.limit + 1
      bound zero = omega arith
      bound (suc i) = omega arith

module _ (a : Automaton) (ok : Proper a) (moves : List ℕ) (l : ℕ) (r : PricedRegion) (wf : WellFormed r) (sized : length r.whole ≡ timers a)
    (w : ℕ) where
  -- Delay out of r0.
  pub approach-jump :
      0 < count 0 r.group → Admits a l (leave (mode_at a l).rate r) → Approach a moves l r 0 w
      → Approach a moves l (leave (mode_at a l).rate r) (top (leave (mode_at a l).rate r)) (w + (mode_at a l).rate)
  approach-jump z t =
      approach-pass a ok moves l r (leave (mode_at a l).rate r) (leave-well-formed r wf (mode_at a l).rate z)
      ((leave-timers r (mode_at a l).rate).whole ∙ sized) t (λ i. i) (λ i b. omega (arith, leave-top r wf (mode_at a l).rate))
      (λ q d v f p pos short. inside-leave r wf q v f p d _ (λ x. refl) (mode_at a l).rate pos short) w

  -- Linger where r0 is empty.
  pub approach-linger :
      count 0 r.group ≡ 0 → Admits a l r → Approach a moves l r 0 w
      → Approach a moves l r (top r) (w + (mode_at a l).rate)
  approach-linger z t =
      approach-pass a ok moves l r r wf sized t suc (λ i b. b) (λ q d v f p pos short. inside-stay r wf q v f p d _ (λ x. refl) z short) w
