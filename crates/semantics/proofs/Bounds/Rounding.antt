-- A run rounded at a phase: at the phase ψ each timer whose fraction is above ψ is taken up to the next whole minute, and each other down.
-- That is a corner of the region in which the run is, and as time goes on and the phase with it, the corners are those of a chain.
-- Assumes nothing.
use Rattle.std.specs.Prelude.{◌≡◌, refl, List, [], ◌∷◌, ◌++◌, ℕ, zero, suc, pred, ◌+◌, ◌<◌, ◌≤◌, length}
use Rattle.std.proofs.Common.{ap, ◌∙◌, ⊎_elim, arith}
use Rattle.std.proofs.Math.Option.{some}
use Rattle.std.proofs.Math.Decide.{ℕ_discrete}
use Rattle.semantics.specs.Automata.Proper.{Proper}
use Rattle.semantics.specs.Automaton.{Automaton, timers, mode_at}
use Rattle.semantics.specs.Region.{PricedRegion, WellFormed, count, top, leave, arrive}
use Rattle.semantics.specs.Run.{Stays}
use Rattle.semantics.specs.Chain.{chain}
use Rattle.semantics.specs.Regions.Cases.{lingered, zero-cases}
use Rattle.semantics.specs.Regions.Lengths.{leave-timers, leave-top, arrive-timers}
use Rattle.semantics.proofs.Regions.Lengths.{arrive-top}
use Rattle.semantics.proofs.Regions.WellFormed.{leave-well-formed, arrive-well-formed}
use Rattle.semantics.proofs.Bounds.Inside.{Inside, later, inside-shape, inside-leave, inside-stay, inside-arrive}
use Rattle.semantics.specs.Bounds.Prices.{price, leave-price, leave-last, linger-last, arrive-price}
use Rattle.semantics.proofs.Bounds.Sides.{Sides}
use Rattle.semantics.proofs.Bounds.Stays.{stays_at}
use Rattle.semantics.proofs.Bounds.Steps.{leaves, arrives, lingers, chain_snoc}
use Rattle.semantics.proofs.Bounds.Shapes.{shape-top, shape-linger}
use Rattle.semantics.proofs.Bounds.Reached.{Reached, chain-reached}

-- A chain into mode l whose region holds the values v, in Q-ths, and its corner to which v is rounded at the phase ψ. The price is at most w.
pub record Rounded (a : Automaton) (Q l : ℕ) (v : ℕ → ℕ) (ψ w : ℕ) : Type 0 where
  pub steps : List ℕ
  pub region : PricedRegion
  pub found : chain a steps ≡ some (record { mode = l; region = region })
  pub corner : ℕ
  pub there : corner ≤ top region
  pub cheap : price region corner ≤ w
  pub fraction : ℕ → ℕ
  pub inside : Inside Q v fraction region
  pub sides : Sides (top region) corner (λ i. fraction i ≤ ψ) (λ i. ψ < fraction i)

-- One part of time: v' is one Q-th later than v, and the mode may be stayed in then.
module _ (a : Automaton) (ok : Proper a) (Q l : ℕ) (v v' : ℕ → ℕ) (waited : (x : ℕ) → v' x ≡ v x + 1) (stays : Stays a Q l v') where
  module _ (ψ w : ℕ) (d : Rounded a Q l v ψ w) where
    reached : Reached a (record { mode = l; region = d.region })
    reached = chain-reached a ok d.steps _ d.found

    -- No timer comes to a whole minute, and r0 is empty: the region stays.
    stay-rounded : suc ψ < Q → count 0 d.region.group ≡ 0 → d.fraction (top d.region) + 1 < Q → Rounded a Q l v' (suc ψ) w
    stay-rounded s z h = record {
      steps = d.steps;
      region = d.region;
      found = d.found;
      corner = d.corner;
      there = d.there;
      cheap = d.cheap;
      fraction = later suc 1 d.fraction;
      inside = inside-stay d.region reached.well-formed Q v d.fraction d.inside 1 v' waited z h;
      sides = record { down = down; up = up };
    }
      where
        down : (i : ℕ) → i ≤ top d.region → i + d.corner ≤ top d.region → later suc 1 d.fraction i ≤ suc ψ
        down zero b k = omega arith
        down (suc i) b k = omega (arith, d.sides.down (suc i) b k)

        up : (i : ℕ) → i ≤ top d.region → top d.region < i + d.corner → suc ψ < later suc 1 d.fraction i
        up zero b k = absurd (omega (arith, d.there))
        up (suc i) b k = omega (arith, d.sides.up (suc i) b k)

    -- No timer comes to a whole minute, and r0 is not empty: its timers leave it.
    module _ (z : 0 < count 0 d.region.group) (h : d.fraction (top d.region) + 1 < Q) where
      left-inside : Inside Q v' (later (λ i. i) 1 d.fraction) (leave (mode_at a l).rate d.region)
      left-inside =
          inside-leave d.region reached.well-formed Q v d.fraction d.inside 1 v' waited (mode_at a l).rate (omega arith) h

      left-found : chain a (d.steps ++ 64 ∷ []) ≡ some (record { mode = l; region = leave (mode_at a l).rate d.region })
      left-found =
          let u = leave-well-formed d.region reached.well-formed (mode_at a l).rate z in
          let n = (leave-timers d.region (mode_at a l).rate).whole ∙ reached.sized in
          chain_snoc a d.steps 64 _ _ d.found
          (leaves z ((stays_at a ok _ u n Q v' _ left-inside l).1 stays))

      left-top : top (leave (mode_at a l).rate d.region) ≡ suc (top d.region)
      left-top = leave-top d.region reached.well-formed (mode_at a l).rate

      leave-rounded : suc ψ < Q → Rounded a Q l v' (suc ψ) w
      leave-rounded s = record {
        steps = d.steps ++ 64 ∷ [];
        region = leave (mode_at a l).rate d.region;
        found = left-found;
        corner = d.corner;
        there = omega (arith, left-top, d.there);
        cheap = omega (arith, d.cheap, leave-price d.region reached.well-formed (mode_at a l).rate d.corner d.there);
        fraction = later (λ i. i) 1 d.fraction;
        inside = left-inside;
        sides = record {
          down = λ i b k. down i (omega (arith, left-top)) (omega (arith, left-top));
          up = λ i b k. up i (omega (arith, left-top)) (omega (arith, left-top));
        };
      }
        where
          down : (i : ℕ) → i ≤ suc (top d.region) → i + d.corner ≤ suc (top d.region) → later (λ i. i) 1 d.fraction i ≤ suc ψ
          down zero b k = omega arith
          down (suc i) b k = omega (arith, d.sides.down i (omega arith) (omega arith))

          up : (i : ℕ) → i ≤ suc (top d.region) → suc (top d.region) < i + d.corner → suc ψ < later (λ i. i) 1 d.fraction i
          up zero b k = absurd (omega (arith, d.there))
          up (suc i) b k = omega (arith, d.sides.up i (omega arith) (omega arith))

      -- The phase comes round: no group was up, and each is now.
      leave-round : d.corner ≡ 0 → Rounded a Q l v' 0 (w + (mode_at a l).rate)
      leave-round c = record {
        steps = d.steps ++ 64 ∷ [];
        region = leave (mode_at a l).rate d.region;
        found = left-found;
        corner = suc (top d.region);
        there = omega (arith, left-top);
        cheap = omega (arith, d.cheap, leave-last d.region reached.well-formed (mode_at a l).rate, ap (price d.region) c);
        fraction = later (λ i. i) 1 d.fraction;
        inside = left-inside;
        sides = record { down = λ i b k. down i (omega (arith, left-top)); up = λ i b k. up i (omega (arith, left-top)) };
      }
        where
          down : (i : ℕ) → i + suc (top d.region) ≤ suc (top d.region) → later (λ i. i) 1 d.fraction i ≤ 0
          down zero k = omega arith
          down (suc i) k = absurd (omega arith)

          up : (i : ℕ) → suc (top d.region) < i + suc (top d.region) → 0 < later (λ i. i) 1 d.fraction i
          up zero k = absurd (omega arith)
          up (suc i) k = omega arith

    -- The phase comes round in a region with r0 empty: linger.
    linger-round :
        count 0 d.region.group ≡ 0 → d.fraction (top d.region) + 1 < Q → d.corner ≡ 0 → Rounded a Q l v' 0 (w + (mode_at a l).rate)
    linger-round z h c = record {
      steps = d.steps ++ 65 ∷ [];
      region = lingered (mode_at a l).rate d.region;
      found = chain_snoc a d.steps 65 _ _ d.found (lingers z);
      corner = top d.region;
      there = omega (arith, same-top);
      cheap = omega (arith, d.cheap, linger-last d.region reached.well-formed (mode_at a l).rate, ap (price d.region) c);
      fraction = later suc 1 d.fraction;
      inside =
          inside-shape Q v' _ _ _ (shape-linger (mode_at a l).rate d.region)
          (inside-stay d.region reached.well-formed Q v d.fraction d.inside 1 v' waited z h);
      sides = record { down = λ i b k. down i (omega (arith, same-top)); up = λ i b k. up i (omega (arith, same-top)) };
    }
      where
        same-top : top d.region ≡ top (lingered (mode_at a l).rate d.region)
        same-top = shape-top _ _ (shape-linger (mode_at a l).rate d.region)

        down : (i : ℕ) → i + top d.region ≤ top d.region → later suc 1 d.fraction i ≤ 0
        down zero k = omega arith
        down (suc i) k = absurd (omega arith)

        up : (i : ℕ) → top d.region < i + top d.region → 0 < later suc 1 d.fraction i
        up zero k = absurd (omega arith)
        up (suc i) k = omega arith

    -- The highest group comes to its whole minute.
    arrive-rounded : suc ψ < Q → count 0 d.region.group ≡ 0 → d.fraction (top d.region) + 1 ≡ Q → Rounded a Q l v' (suc ψ) w
    arrive-rounded s z h = record {
      steps = d.steps ++ 64 ∷ [];
      region = arrive d.region;
      found =
          chain_snoc a d.steps 64 _ _ d.found
          (arrives z ((stays_at a ok _ u n Q v' _ p l).1 stays));
      corner = pred d.corner;
      there = (let c : pred d.corner ≤ top (arrive d.region) = omega (arith, d.there, low-top) in c);
      cheap = omega (arith, d.cheap, arrive-price d.region (pred d.corner), ap (price d.region) one);
      fraction = later suc 1 d.fraction;
      inside = p;
      sides = record {
        down = λ i b k. down i (omega (arith, low-top)) (omega (arith, low-top));
        up = λ i b k. up i (omega (arith, low-top)) (omega (arith, low-top));
      };
    }
      where
        u : WellFormed (arrive d.region)
        u = arrive-well-formed d.region reached.well-formed z

        n : length (arrive d.region).whole ≡ timers a
        n = (arrive-timers d.region).whole ∙ reached.sized

        p : Inside Q v' (later suc 1 d.fraction) (arrive d.region)
        p = inside-arrive d.region reached.well-formed Q v d.fraction d.inside 1 v' waited z h

        low-top : top (arrive d.region) ≡ pred (top d.region)
        low-top = arrive-top d.region reached.well-formed

        -- The highest group is up.
        pos : 0 < d.corner
        pos = go d.corner refl
          where
            go : (j : ℕ) → d.corner ≡ j → 0 < j
            go zero e = absurd (omega (arith, d.sides.down (top d.region) (omega arith) (omega arith)))
            go (suc j) e = omega arith

        one : suc (pred d.corner) ≡ d.corner
        one = omega (arith, pos)

        down : (i : ℕ) → i ≤ pred (top d.region) → i + pred d.corner ≤ pred (top d.region) → later suc 1 d.fraction i ≤ suc ψ
        down zero b k = omega arith
        down (suc i) b k = omega (arith, d.sides.down (suc i) (omega arith) (omega (arith, pos)))

        up : (i : ℕ) → i ≤ pred (top d.region) → pred (top d.region) < i + pred d.corner → suc ψ < later suc 1 d.fraction i
        up zero b k = absurd (omega (arith, d.there))
        up (suc i) b k = omega (arith, d.sides.up (suc i) (omega arith) (omega (arith, pos)))

    -- Part of time in which no timer comes to a whole minute, the phase below the last or at it.
    pub leave-part : d.fraction (top d.region) + 1 < Q → suc ψ < Q → Rounded a Q l v' (suc ψ) w
    leave-part h s = ⊎_elim (λ z. stay-rounded s z h) (λ z. leave-rounded z h s) (zero-cases d.region)

    pub round-part : d.fraction (top d.region) + 1 < Q → suc ψ ≡ Q → Rounded a Q l v' 0 (w + (mode_at a l).rate)
    round-part h s = ⊎_elim (λ z. linger-round z h (first d.corner refl)) (λ z. leave-round z h (first d.corner refl)) (zero-cases d.region)
      where
        -- At the last phase no group is up.
        first : (j : ℕ) → d.corner ≡ j → d.corner ≡ 0
        first zero e = e
        first (suc j) e =
            absurd (omega (arith, d.sides.up (top d.region) (omega arith) (omega arith), d.inside.small (top d.region) (omega arith)))

    -- A part of time that begins with r0 empty.
    pub arrive-part : count 0 d.region.group ≡ 0 → suc ψ < Q → Rounded a Q l v' (suc ψ) w
    arrive-part z s = go (ℕ_discrete (d.fraction (top d.region) + 1) Q)
      where
        go : Dec (d.fraction (top d.region) + 1 ≡ Q) → Rounded a Q l v' (suc ψ) w
        go (yes e) = arrive-rounded s z e
        go (no n) = stay-rounded s z (omega (arith, d.inside.small (top d.region) (omega arith)))
