-- The upper bound: each corner of a chain is approached by runs that make exactly the chain's moves, so that for every m some such run is
-- charged less than the corner's price and 1/m.
-- Assumes nothing.
use Rattle.std.specs.Prelude.{◌≡◌, refl, Bool, true, false, cond, ℕ, suc, ◌+◌, ◌*◌, ◌<◌, ◌≤◌, ltb, length, get_or}
use Rattle.std.proofs.Math.Path.{ap, subst}
use Rattle.std.proofs.Common.{◌∙◌, sym, subst₂, mul-le-mul_left, lt-ltb}
use mathlib.Core.List.Memᴰ
use mathlib.Core.List.{List, [], ◌∷◌, ◌++◌, append-nil, append_assoc}
use Rattle.std.proofs.Math.Option.{some, some-injective}
use native.Mathlib.Omega.{arith}
use Rattle.semantics.specs.Automata.Proper.{Proper}
use Rattle.semantics.specs.Automaton.{Automaton, timers, mode_at, move_at}
use Rattle.semantics.specs.Region.{PricedRegion, WellFormed, count, top, start, leave, arrive, meets_all}
use Rattle.semantics.specs.Chain.{Place, follow, begin, chain, moves_of}
use Rattle.semantics.specs.Corners.Edges.{Edge}
use Rattle.semantics.specs.Demand.{Approached}
use Rattle.semantics.specs.Regions.Cases.{lingered}
use Rattle.semantics.specs.Regions.Groups.{top_pos}
use Rattle.semantics.specs.Regions.Lengths.{prices-top, leave-top}
use Rattle.semantics.proofs.Regions.Lengths.{arrive-top}
use Rattle.semantics.specs.Bounds.Prices.{price, PassedFrom, kept, passed, leave-source, linger-source, arrive-price}
use Rattle.semantics.proofs.Bounds.Stays.{Admits}
use Rattle.semantics.proofs.Bounds.Steps.{moved_by, Stepped, leaves, arrives, lingers, idles, moves, step-view, follow-first}
use Rattle.semantics.proofs.Bounds.Shapes.{shape-top, shape-linger}
use Rattle.semantics.proofs.Bounds.Moved.{moved-admits}
use Rattle.semantics.proofs.Bounds.Reached.{Reached, reached-begin, reached-step}
use Rattle.semantics.proofs.Bounds.Flow.{move-flow}
use Rattle.semantics.specs.Bounds.Runs.{run-into}
use Rattle.semantics.proofs.Bounds.Approach.{Approach, approach-start, approach-shape, approach-move}
use Rattle.semantics.proofs.Bounds.ApproachDelay.{approach-leave, approach-arrive}
use Rattle.semantics.proofs.Bounds.ApproachPass.{approach-jump, approach-linger}

-- Every corner of the place is approached by runs of these moves.
abbrev Approaches : Automaton → List ℕ → Place → Type 0
Approaches a made p = (i : ℕ) → i ≤ top p.region → Approach a made p.mode p.region i (price p.region i)

approach-cast :
    {a : Automaton} {made : List ℕ} {l : ℕ} {r : PricedRegion} {j j' w w' : ℕ} → j ≡ j' → w ≡ w' → Approach a made l r j w
    → Approach a made l r j' w'
approach-cast {a} {made} {l} {r} e f n = subst₂ (λ (j w : ℕ). Approach a made l r j w) e f n

-- What each step makes of the approaches to the corners of a region r in mode l.
module _ (a : Automaton) (ok : Proper a) (made : List ℕ) (l : ℕ) (r : PricedRegion) (w : WellFormed r) (sized : length r.whole ≡ timers a)
    (n : Approaches a made (record { mode = l; region = r })) where
  -- Delay out of r0.
  leave-approaches :
      0 < count 0 r.group → Admits a l (leave (mode_at a l).rate r)
      → Approaches a made (record { mode = l; region = leave (mode_at a l).rate r })
  leave-approaches z t i b = go (leave-source r w (mode_at a l).rate i (omega (arith, leave-top r w (mode_at a l).rate)))
    where
      s : PricedRegion
      s = leave (mode_at a l).rate r

      go : PassedFrom r s (suc (top r)) (mode_at a l).rate i → Approach a made l s i (price s i)
      go (kept h e) = approach-cast refl (sym e) (approach-leave a ok made l r w sized z t i (price r i) (n i h))
      go (passed h e) =
          approach-cast (leave-top r w (mode_at a l).rate ∙ sym h) (sym e) (approach-jump a ok made l r w sized (price r 0) z t (n 0 (omega arith)))

  -- Delay where r0 is empty.
  arrive-approaches : count 0 r.group ≡ 0 → Admits a l (arrive r) → Approaches a made (record { mode = l; region = arrive r })
  arrive-approaches z t i b =
      let d : suc i ≤ top r = omega (arith, arrive-top r w, top_pos r w z) in
      approach-cast refl (sym (arrive-price r i)) (approach-arrive a ok made l r w sized z t i (price r (suc i)) d (n (suc i) d))

  -- Linger where r0 is empty.
  linger-approaches :
      count 0 r.group ≡ 0 → Admits a l r → Approaches a made (record { mode = l; region = lingered (mode_at a l).rate r })
  linger-approaches z t i b =
      approach-shape a ok made l r s i (price s i) (shape-linger (mode_at a l).rate r)
      (go (linger-source r w (mode_at a l).rate i (omega (arith, shape-top _ _ (shape-linger (mode_at a l).rate r)))))
    where
      s : PricedRegion
      s = lingered (mode_at a l).rate r

      go : PassedFrom r s (top r) (mode_at a l).rate i → Approach a made l r i (price s i)
      go (kept h e) = approach-cast refl (sym e) (n i h)
      go (passed h e) = approach-cast (sym h) (sym e) (approach-linger a ok made l r w sized (price r 0) z t (n 0 (omega arith)))

  -- A move.
  move-approaches :
      (e : ℕ) → e < length a.moves → (move_at a e).source ≡ l → meets_all (move_at a e).conditions r ≡ true
      → Admits a (move_at a e).target (moved_by a e r)
      → Approaches a (made ++ e ∷ []) (record { mode = (move_at a e).target; region = moved_by a e r })
  move-approaches e j o g t i b =
      let c = (move-flow a ok e r w sized).attained i b in
      let d = Memᴰ.eq_of_singleton c.listed in
      approach-cast (sym (ap (λ (u : Edge). u.corner) d) ∙ c.leads) (sym (c.sum ∙ ap (λ (u : Edge). price r c.from + u.weight) d))
      (approach-move a ok made l e r w sized c.from (price r c.from) j o g t (n c.from c.there))

pub moves_of-cons : (byte : ℕ) (bytes : List ℕ) → moves_of (byte ∷ bytes) ≡ moves_of (byte ∷ []) ++ moves_of bytes
unfolding moves_of
moves_of-cons byte bytes = go (ltb byte 64)
  where
    go : (b : Bool) → cond b (byte ∷ moves_of bytes) (moves_of bytes) ≡ cond b (byte ∷ []) [] ++ moves_of bytes
    go true = refl
    go false = refl

module _ (a : Automaton) (ok : Proper a) where
  step-approaches :
      (byte : ℕ) (p p' : Place) (made : List ℕ) → Reached a p → Stepped a p byte p' → Approaches a made p
      → Approaches a (made ++ moves_of (byte ∷ [])) p'
  unfolding moves_of
  step-approaches byte p p' made h (leaves z t) n =
      rw (append-nil made) (leave-approaches a ok made p.mode p.region h.well-formed h.sized n z t)
  step-approaches byte p p' made h (arrives z t) n =
      rw (append-nil made) (arrive-approaches a ok made p.mode p.region h.well-formed h.sized n z t)
  step-approaches byte p p' made h (lingers z) n =
      rw (append-nil made) (linger-approaches a ok made p.mode p.region h.well-formed h.sized n z h.admits)
  step-approaches byte p p' made h (idles z) n = rw (append-nil made) n
  step-approaches byte p p' made h (moves e b i o g m) n =
      let t = moved-admits a ok e p.region h.well-formed h.sized p.mode h.admits m in
      rw (lt-ltb e 64 b) (move-approaches a ok made p.mode p.region h.well-formed h.sized n e i o g t)

  follow-approaches :
      (bytes : List ℕ) (p p' : Place) (made : List ℕ) → Reached a p → follow a bytes p ≡ some p' → Approaches a made p
      → Approaches a (made ++ moves_of bytes) p'
  unfolding follow moves_of
  follow-approaches [] p p' made h f n = subst (Approaches a (made ++ [])) (some-injective p p' f) (rw (append-nil made) n)
  follow-approaches (byte ∷ bytes) p p' made h f n =
      let s = follow-first a byte bytes p p' f in
      let v = step-view a p s.0 byte s.1 in
      let one = moves_of (byte ∷ []) in
      let all : (made ++ one) ++ moves_of bytes ≡ made ++ moves_of (byte ∷ bytes) =
      append_assoc made one (moves_of bytes) ∙ ap (λ (es : List ℕ). made ++ es) (sym (moves_of-cons byte bytes)) in
      subst (λ (es : List ℕ). Approaches a es p') all
      (follow-approaches bytes s.0 p' (made ++ one) (reached-step a ok byte p s.0 h v) s.2 (step-approaches byte p s.0 made h v n))

  -- Every corner of a chain is approached by runs of its moves.
  chain-approaches : (bytes : List ℕ) (p : Place) → chain a bytes ≡ some p → Approaches a (moves_of bytes) p
  unfolding chain start
  chain-approaches bytes p f =
      follow-approaches bytes (begin a) p [] (reached-begin a ok) f
      (λ i b. let e : 0 ≡ i = omega arith in approach-cast e (ap (price (start (timers a))) e) (approach-start a ok))

  -- At scale 1, with q large enough: "some such run, making exactly the route's moves in their order, is charged less than C + 1/m".
  approach-near : (made : List ℕ) (l : ℕ) (r : PricedRegion) (j w : ℕ) → Approach a made l r j w → Approached a l made w
  approach-near made l r j w n m h =
      let q = n.limit + m * n.extra + 1 in
      let u = n.runs 1 q (omega arith) (omega arith) in
      let b : u.S ≤ q * w + n.extra = omega (arith, u.charged) in
      record {
        q = q;
        acts = u.run.acts;
        run = run-into a q l u.v u.S made u.run (omega arith);
        moves-made = u.run.moves-made;
        charged = rw u.run.charged (omega (arith, mul-le-mul_left m b));
      }

  -- "for every whole m from 1".
  pub upper :
      (bytes : List ℕ) (p : Place) (l : ℕ) → chain a bytes ≡ some p → p.mode ≡ l → (j : ℕ) → j < length p.region.prices
      → Approached a l (moves_of bytes) (get_or p.region.prices j 0)
  upper bytes p l f e j b =
      let n = chain-approaches bytes p f j (omega (arith, prices-top p.region (omega arith))) in
      rw (← e) (approach-near (moves_of bytes) p.mode p.region j (price p.region j) n)
