-- Runs that come near a corner. For each scale σ and each q that is large enough there is a run whose timers are σ times some offset above their
-- whole minutes, if the corner leaves them down, or below their next whole minutes, if it takes them up; and it is charged, in q-ths, at
-- most q times the corner's price and σ times some constant.
-- Assumes nothing.
use Rattle.std.specs.Prelude.{◌≡◌, refl, true, List, [], ◌∷◌, ◌++◌, ℕ, ◌+◌, ◌*◌, ◌<◌, ◌≤◌, length}
use Rattle.std.proofs.Common.{arith}
use Rattle.semantics.specs.Automata.Proper.{Proper}
use Rattle.semantics.specs.Automaton.{Automaton, timers, mode_at, move_at}
use Rattle.semantics.specs.Region.{PricedRegion, WellFormed, top, start, reset_all, meets_all}
use Rattle.semantics.specs.Run.{among, zeroed}
use Rattle.semantics.specs.Corners.Edges.{reset_all_corner, SameShape}
use Rattle.semantics.proofs.Bounds.Inside.{Inside, inside-shape, start-inside}
use Rattle.semantics.proofs.Bounds.Reset.{ResetTo}
use Rattle.semantics.proofs.Bounds.Sides.{Sides}
use Rattle.semantics.proofs.Bounds.Stays.{Admits, guard-at, stays_at}
use Rattle.semantics.proofs.Bounds.Steps.{moved_by}
use Rattle.semantics.proofs.Bounds.Shapes.{shape-top}
use Rattle.semantics.proofs.Bounds.Moved.{moved-to, moved-top, moved-sides, moved_inside, moved-well-formed, moved-sized}
use Rattle.semantics.specs.Bounds.Runs.{RunTo, run_none, run-wait, run-move}

-- A run in q-ths of these moves into mode l, near corner j of the region r: group i is σ times `offset i` from the corner.
pub record ApproachAt (a : Automaton) (moves : List ℕ) (l : ℕ) (r : PricedRegion) (j w : ℕ) (offset : ℕ → ℕ) (extra σ q : ℕ) : Type 0 where
  pub v : ℕ → ℕ
  pub S : ℕ
  pub run : RunTo a q l v S moves
  pub fraction : ℕ → ℕ
  pub inside : Inside q v fraction r
  pub sides : Sides (top r) j (λ i. fraction i ≡ σ * offset i) (λ i. fraction i + σ * offset i ≡ q)
  pub charged : S ≤ q * w + σ * extra

-- There is one for every scale, and every q large enough.
pub record Approach (a : Automaton) (moves : List ℕ) (l : ℕ) (r : PricedRegion) (j w : ℕ) : Type 0 where
  pub offset : ℕ → ℕ
  pub limit : ℕ
  pub extra : ℕ
  pub there : j ≤ top r
  pub bound : (i : ℕ) → i ≤ top r → offset i < limit
  pub runs : (σ q : ℕ) → 0 < σ → σ * limit ≤ q → ApproachAt a moves l r j w offset extra σ q

module _ (a : Automaton) (ok : Proper a) where
  -- At the start, the run of no steps.
  pub approach-start : Approach a [] 0 (start (timers a)) 0 0
  unfolding start
  approach-start = record {
    offset = λ i. i;
    limit = 1;
    extra = 0;
    there = omega arith;
    bound = λ i h. omega arith;
    runs = λ σ q h b. record {
      v = λ x. 0;
      S = 0;
      run = run_none a q;
      fraction = λ i. i;
      inside = start-inside (timers a) q (omega arith);
      sides = record { down = λ i c k. low σ i (omega arith); up = λ i c k. absurd (omega arith) };
      charged = omega arith;
    };
  }
    where
      low : (σ i : ℕ) → i ≡ 0 → i ≡ σ * i
      low σ i e = rw e (omega arith)

  -- Prices do not matter.
  pub approach-shape : (moves : List ℕ) (l : ℕ) (r s : PricedRegion) (j w : ℕ) → SameShape r s → Approach a moves l r j w → Approach a moves l s j w
  approach-shape moves l r s j w e n = record {
    offset = n.offset;
    limit = n.limit;
    extra = n.extra;
    there = omega (arith, n.there, shape-top r s e);
    bound = λ i h. n.bound i (omega (arith, shape-top r s e));
    runs = λ σ q h b.
        let u = n.runs σ q h b in
        record {
          v = u.v;
          S = u.S;
          run = u.run;
          fraction = u.fraction;
          inside = inside-shape q u.v u.fraction r s e u.inside;
          sides = record {
            down = λ i c k. u.sides.down i (omega (arith, shape-top r s e)) (omega (arith, shape-top r s e));
            up = λ i c k. u.sides.up i (omega (arith, shape-top r s e)) (omega (arith, shape-top r s e));
          };
          charged = u.charged;
        };
  }

  -- A move.
  pub approach-move :
      (moves : List ℕ) (l e : ℕ) (r : PricedRegion) → WellFormed r → length r.whole ≡ timers a → (j w : ℕ) → e < length a.moves
      → (move_at a e).source ≡ l → meets_all (move_at a e).conditions r ≡ true → Admits a (move_at a e).target (moved_by a e r)
      → Approach a moves l r j w
      → Approach a (moves ++ e ∷ []) (move_at a e).target (moved_by a e r) (reset_all_corner (move_at a e).resets r j) (w + (move_at a e).price)
  approach-move moves l e r wf sized j w i o g t n = record {
    offset = λ i. n.offset (to.old i);
    limit = n.limit;
    extra = n.extra;
    there = omega (arith, to.there j n.there, moved-top a ok e r wf sized);
    bound = λ i h. n.bound (to.old i) (to.bounded i (omega (arith, moved-top a ok e r wf sized)));
    runs = λ σ q h b.
        let u = n.runs σ q h b in
        let v' = zeroed (move_at a e).resets u.v in
        let p = moved_inside a ok e r wf sized q u.v u.fraction v' (λ x. refl) u.inside in
        let guard = (guard-at a ok r wf sized q u.v u.fraction u.inside e).0 g in
        let target =
        (stays_at a ok (moved_by a e r) (moved-well-formed a ok e r wf sized) (moved-sized a ok e r wf sized) q v' _ p (move_at a e).target).0 t in
        record {
          v = v';
          S = u.S + q * (move_at a e).price;
          run = run-move a q l u.v u.S moves u.run e i o guard target;
          fraction = λ i. u.fraction (to.old i);
          inside = p;
          sides = moved-sides a ok e r wf sized j n.there _ _ u.sides;
          charged = omega (arith, u.charged);
        };
  }
    where
      to : ResetTo (λ x. among x (move_at a e).resets) r (reset_all (move_at a e).resets r) (reset_all_corner (move_at a e).resets r)
      to = moved-to a ok e r wf sized

-- A run near a corner of r waits d, and is then near a corner of s, which its mode admits.
pub approach-wait :
    (a : Automaton) → Proper a → (moves : List ℕ) (l : ℕ) (s : PricedRegion) → WellFormed s → length s.whole ≡ timers a → Admits a l s
    → {r : PricedRegion} {j w : ℕ} {o : ℕ → ℕ} {x σ q : ℕ} (u : ApproachAt a moves l r j w o x σ q) (d : ℕ) (f : ℕ → ℕ)
    → Inside q (λ y. u.v y + d) f s → (j' w' : ℕ) (o' : ℕ → ℕ) (x' σ' : ℕ)
    → Sides (top s) j' (λ i. f i ≡ σ' * o' i) (λ i. f i + σ' * o' i ≡ q) → u.S + d * (mode_at a l).rate ≤ q * w' + σ' * x'
    → ApproachAt a moves l s j' w' o' x' σ' q
approach-wait a ok moves l s ws n t {q = q} u d f p j' w' o' x' σ' sides charged = record {
  v = λ y. u.v y + d;
  S = u.S + d * (mode_at a l).rate;
  run = run-wait a q l u.v u.S moves u.run d ((stays_at a ok s ws n q _ f p l).0 t);
  fraction = f;
  inside = p;
  sides = sides;
  charged = charged;
}
