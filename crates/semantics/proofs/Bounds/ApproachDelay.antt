-- Delay along an edge of weight 0, for the runs that come near a corner. Out of r0 the corner stays, and a run at twice the scale waits σ.
-- Where r0 is empty the corner goes down by one, and the run waits until the highest group is on its minute.
-- Assumes nothing.
use Rattle.std.specs.Prelude.{◌≡◌, refl, cond, List, ℕ, zero, suc, pred, ◌+◌, ◌*◌, ◌-◌, ◌<◌, ◌≤◌, ltb, length}
use Rattle.std.proofs.Common.{ap, ◌∙◌, mul-le-mul_left, arith, lt-ltb, le-ltb}
use Rattle.std.proofs.Math.Nat.{mul-sub}
use Rattle.std.proofs.Math.Decide.{dec_lt}
use Rattle.semantics.specs.Automata.Proper.{Proper}
use Rattle.semantics.specs.Automaton.{Automaton, timers, mode_at}
use Rattle.semantics.specs.Region.{PricedRegion, WellFormed, count, top, leave, arrive}
use Rattle.semantics.specs.Regions.Lengths.{leave-timers, leave-top, arrive-timers}
use Rattle.semantics.proofs.Regions.Lengths.{arrive-top}
use Rattle.semantics.proofs.Regions.WellFormed.{leave-well-formed, arrive-well-formed}
use Rattle.semantics.proofs.Bounds.Inside.{later, inside-leave, inside-arrive}
use Rattle.semantics.proofs.Bounds.Stays.{Admits}
use Rattle.semantics.proofs.Bounds.Approach.{ApproachAt, Approach, approach-wait}

-- The offset of a group, by whether it is up at corner j of a region with groups 0 to k.
abbrev by_side : ℕ → ℕ → ℕ → ℕ → ℕ → ℕ
by_side k j i down up = cond (ltb k (i + j)) up down

side-down : (k j i down up : ℕ) → i + j ≤ k → by_side k j i down up ≡ down
side-down k j i down up h = rw (le-ltb k (i + j) h)

side-up : (k j i down up : ℕ) → k < i + j → by_side k j i down up ≡ up
side-up k j i down up h = rw (lt-ltb k (i + j) h)

-- A bound of both is one of it.
side-below : (k j i down up m : ℕ) → down < m → up < m → by_side k j i down up < m
side-below k j i down up m h l = go (dec_lt k (i + j))
  where
    go : Dec (k < i + j) → by_side k j i down up < m
    go (yes b) = rw (side-up k j i down up b) l
    go (no b) = rw (side-down k j i down up (omega arith)) h

-- The offsets after leave and after arrive.
abbrev leave_offset : ℕ → ℕ → (ℕ → ℕ) → ℕ → ℕ
leave_offset k j o zero = 0
leave_offset k j o (suc i) = by_side k j i (2 * o i + 1) (pred (2 * o i))

abbrev arrive_offset : ℕ → ℕ → (ℕ → ℕ) → ℕ → ℕ
arrive_offset k j o zero = 0
arrive_offset k j o (suc i) = by_side k (suc j) (suc i) (o (suc i) + o k) (o (suc i) - o k)

module _ (a : Automaton) (ok : Proper a) (moves : List ℕ) (l : ℕ) (r : PricedRegion) (wf : WellFormed r) (sized : length r.whole ≡ timers a) where
  -- Delay out of r0, the corner stays: a run at twice the scale waits σ.
  module _ (z : 0 < count 0 r.group) (t : Admits a l (leave (mode_at a l).rate r)) where
    leave-run :
        (j w : ℕ) (o : ℕ → ℕ) (M x σ q : ℕ) → j ≤ top r → ((i : ℕ) → i ≤ top r → o i < M) → 0 < σ → σ * (2 * M) ≤ q
        → ApproachAt a moves l r j w o x (2 * σ) q
        → ApproachAt a moves l (leave (mode_at a l).rate r) j w (leave_offset (top r) j o) (2 * x + (mode_at a l).rate) σ q
    leave-run j w o M x σ q there bound pos large u =
        approach-wait a ok moves l (leave (mode_at a l).rate r) (leave-well-formed r wf (mode_at a l).rate z)
        ((leave-timers r (mode_at a l).rate).whole ∙ sized) t u σ (later (λ i. i) σ u.fraction)
        (inside-leave r wf q u.v u.fraction u.inside σ _ (λ x. refl) (mode_at a l).rate pos short) j w (leave_offset (top r) j o)
        (2 * x + (mode_at a l).rate) σ
        (record {
          down = λ i b k. down i (omega (arith, leave-top r wf (mode_at a l).rate)) (omega (arith, leave-top r wf (mode_at a l).rate));
          up = λ i b k. up i (omega (arith, leave-top r wf (mode_at a l).rate)) (omega (arith, leave-top r wf (mode_at a l).rate));
        })
        (omega (arith, u.charged))
      where
        -- An offset of a group that is up is not 0.
        high : (i : ℕ) → i ≤ top r → top r < i + j → 0 < o i
        high i b k = go (o i) refl
          where
            go : (n : ℕ) → o i ≡ n → 0 < n
            go zero e = absurd (omega (arith, u.sides.up i b k, u.inside.small i b, ap (λ (n : ℕ). 2 * σ * n) e))
            go (suc n) e = omega arith

        short : u.fraction (top r) + σ < q
        short = go (dec_lt (top r) (top r + j))
          where
            go : Dec (top r < top r + j) → u.fraction (top r) + σ < q
            go (yes k) = omega (arith, u.sides.up (top r) (omega arith) k, mul-le-mul_left (2 * σ) (high (top r) (omega arith) k))
            go (no k) = omega (arith, u.sides.down (top r) (omega arith) (omega arith), mul-le-mul_left (2 * σ) (bound (top r) (omega arith)))

        down : (i : ℕ) → i ≤ suc (top r) → i + j ≤ suc (top r) → later (λ i. i) σ u.fraction i ≡ σ * leave_offset (top r) j o i
        down zero b k = omega arith
        down (suc i) b k =
            rw (side-down (top r) j i (2 * o i + 1) (pred (2 * o i)) (omega arith))
            (omega (arith, u.sides.down i (omega arith) (omega arith)))

        up : (i : ℕ) → i ≤ suc (top r) → suc (top r) < i + j → later (λ i. i) σ u.fraction i + σ * leave_offset (top r) j o i ≡ q
        up zero b k = absurd (omega arith)
        up (suc i) b k =
            let p = high i (omega arith) (omega arith) in
            let e : suc (pred (2 * o i)) ≡ 2 * o i = omega arith in
            rw (side-up (top r) j i (2 * o i + 1) (pred (2 * o i)) (omega arith))
            (omega (arith, u.sides.up i (omega arith) (omega arith), ap (λ (n : ℕ). σ * n) e))

    pub approach-leave : (j w : ℕ) → Approach a moves l r j w → Approach a moves l (leave (mode_at a l).rate r) j w
    approach-leave j w n = record {
      offset = leave_offset (top r) j n.offset;
      limit = 2 * n.limit;
      extra = 2 * n.extra + (mode_at a l).rate;
      there = omega (arith, n.there, leave-top r wf (mode_at a l).rate);
      bound = λ i h. bound i (omega (arith, leave-top r wf (mode_at a l).rate));
      runs = λ σ q h b.
          leave-run j w n.offset n.limit n.extra σ q n.there n.bound h b (n.runs (2 * σ) q (omega arith) (omega arith));
    }
      where
        bound : (i : ℕ) → i ≤ suc (top r) → leave_offset (top r) j n.offset i < 2 * n.limit
        bound zero h = omega (arith, n.bound 0 (omega arith))
        bound (suc i) h =
            let p : pred (2 * n.offset i) < 2 * n.limit = omega (arith, n.bound i (omega arith)) in
            side-below (top r) j i _ _ _ (omega (arith, n.bound i (omega arith))) p

  -- Delay where r0 is empty: the run waits until the highest group is on its minute.
  module _ (z : count 0 r.group ≡ 0) (t : Admits a l (arrive r)) where
    arrive-run :
        (j w : ℕ) (o : ℕ → ℕ) (x σ q : ℕ) → suc j ≤ top r → ApproachAt a moves l r (suc j) w o x σ q
        → ApproachAt a moves l (arrive r) j w (arrive_offset (top r) j o) (x + o (top r) * (mode_at a l).rate) σ q
    arrive-run j w o x σ q there u =
        approach-wait a ok moves l (arrive r) (arrive-well-formed r wf z) ((arrive-timers r).whole ∙ sized) t u (σ * o (top r))
        (later suc (σ * o (top r)) u.fraction)
        (inside-arrive r wf q u.v u.fraction u.inside (σ * o (top r)) _ (λ x. refl) z (u.sides.up (top r) (omega arith) (omega arith)))
        j w (arrive_offset (top r) j o) (x + o (top r) * (mode_at a l).rate) σ
        (record {
          down = λ i b k. down i (omega (arith, arrive-top r wf)) (omega (arith, arrive-top r wf));
          up = λ i b k. up i (omega (arith, arrive-top r wf)) (omega (arith, arrive-top r wf));
        })
        (omega (arith, u.charged))
      where
        down : (i : ℕ) → i ≤ pred (top r) → i + j ≤ pred (top r) → later suc (σ * o (top r)) u.fraction i ≡ σ * arrive_offset (top r) j o i
        down zero b k = omega arith
        down (suc i) b k =
            rw (side-down (top r) (suc j) (suc i) (o (suc i) + o (top r)) (o (suc i) - o (top r)) (omega arith))
            (omega (arith, u.sides.down (suc i) (omega arith) (omega arith)))

        up : (i : ℕ) → i ≤ pred (top r) → pred (top r) < i + j → later suc (σ * o (top r)) u.fraction i + σ * arrive_offset (top r) j o i ≡ q
        up zero b k = absurd (omega arith)
        up (suc i) b k =
            rw (side-up (top r) (suc j) (suc i) (o (suc i) + o (top r)) (o (suc i) - o (top r)) (omega arith))
            (omega (
              arith,
              u.sides.up (suc i) (omega arith) (omega arith),
              u.sides.up (top r) (omega arith) (omega arith),
              u.inside.rising (suc i) (top r) (omega arith) (omega arith),
              mul-sub σ (o (suc i)) (o (top r)),
            ))

    pub approach-arrive : (j w : ℕ) → suc j ≤ top r → Approach a moves l r (suc j) w → Approach a moves l (arrive r) j w
    approach-arrive j w there n = record {
      offset = arrive_offset (top r) j n.offset;
      limit = 2 * n.limit;
      extra = n.extra + n.offset (top r) * (mode_at a l).rate;
      there = omega (arith, arrive-top r wf);
      bound = λ i h. bound i (omega (arith, arrive-top r wf));
      runs = λ σ q h b. arrive-run j w n.offset n.extra σ q there (n.runs σ q h (omega arith));
    }
      where
        bound : (i : ℕ) → i ≤ pred (top r) → arrive_offset (top r) j n.offset i < 2 * n.limit
        bound zero h = omega (arith, n.bound 0 (omega arith))
        bound (suc i) h =
            side-below (top r) (suc j) (suc i) _ _ _ (omega (arith, n.bound (suc i) (omega arith), n.bound (top r) (omega arith)))
            (omega (arith, n.bound (suc i) (omega arith)))
