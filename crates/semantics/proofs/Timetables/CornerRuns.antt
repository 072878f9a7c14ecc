-- A corner path of a closed table is a run in whole minutes: every corner of a chain is the end of a run from corner to corner that makes exactly
-- the chain's moves and is charged exactly the corner's price. A price that passes to a last corner is a minute waited, a price that a corner keeps
-- is no act, and a move is the move.
-- Assumes nothing.
use Rattle.std.specs.Prelude.{◌≡◌, refl, true, ℕ, suc, ◌+◌, ◌*◌, ◌<◌, ◌≤◌, length}
use Rattle.std.proofs.Math.Path.{ap, subst}
use Rattle.std.proofs.Common.{◌∙◌, sym, subst₂, lt-ltb}
use mathlib.Core.List.Memᴰ
use mathlib.Core.List.{List, [], ◌∷◌, ◌++◌, append-nil, append_assoc}
use Rattle.std.proofs.Math.Option.{some, some-injective}
use native.Mathlib.Omega.{arith}
use Rattle.semantics.specs.Automata.Proper.{Proper}
use Rattle.semantics.specs.Automaton.{Automaton, timers, mode_at, move_at}
use Rattle.semantics.specs.Region.{PricedRegion, WellFormed, count, top, start, leave, arrive, meets_all}
use Rattle.semantics.specs.Run.{Act, zeroed, Stays, moves_in, RunInto, charge}
use Rattle.semantics.specs.Chain.{Place, follow, begin, chain, moves_of}
use Rattle.semantics.specs.Answer.{Comes}
use Rattle.semantics.specs.Closed.{closed_table}
use Rattle.semantics.specs.Corners.Edges.{Edge, reset_all_corner}
use Rattle.semantics.specs.Regions.Cases.{lingered}
use Rattle.semantics.specs.Regions.Groups.{top_pos}
use Rattle.semantics.specs.Regions.Lengths.{prices-top, leave-top, leave-timers}
use Rattle.semantics.proofs.Regions.Lengths.{arrive-top}
use Rattle.semantics.proofs.Regions.WellFormed.{leave-well-formed}
use Rattle.semantics.specs.Bounds.Prices.{price, PassedFrom, kept, passed, leave-source, linger-source, arrive-price}
use Rattle.semantics.proofs.Bounds.Stays.{Admits}
use Rattle.semantics.proofs.Bounds.Steps.{moved_by, Stepped, leaves, arrives, lingers, idles, moves, step-view, follow-first}
use Rattle.semantics.proofs.Bounds.Shapes.{shape-top, shape-linger}
use Rattle.semantics.proofs.Bounds.Moved.{moved-well-formed, moved-sized, moved-to, moved-top}
use Rattle.semantics.proofs.Bounds.Reached.{Reached, reached-begin, reached-step}
use Rattle.semantics.proofs.Bounds.Flow.{move-flow}
use Rattle.semantics.specs.Bounds.Runs.{RunTo, run-wait, run-move, run-into, run_none}
use Rattle.semantics.proofs.Bounds.Upper.{moves_of-cons}
use Rattle.semantics.proofs.Answers.System.{price-corner}
use Rattle.semantics.proofs.Timetables.Points.{AtCorner, corner-shape, corner-start, corner-leave, corner-jump, corner-linger, corner-arrive, corner-move, corner-guard, corner-stays}

-- A run in minutes of these moves comes to corner j of the region r in mode l, charged c.
record RunToCorner (a : Automaton) (made : List ℕ) (l : ℕ) (r : PricedRegion) (j c : ℕ) : Type 0 where
  values : ℕ → ℕ
  run : RunTo a 1 l values c made
  stands : AtCorner r j values

-- Every corner of the place has such a run, charged its price.
abbrev RunToCorners : Automaton → List ℕ → Place → Type 0
RunToCorners a made p = (i : ℕ) → i ≤ top p.region → RunToCorner a made p.mode p.region i (price p.region i)

corner-cast :
    {a : Automaton} {made : List ℕ} {l : ℕ} {r : PricedRegion} {j j' c c' : ℕ} → j ≡ j' → c ≡ c' → RunToCorner a made l r j c
    → RunToCorner a made l r j' c'
corner-cast {a} {made} {l} {r} e f n = subst₂ (λ (j c : ℕ). RunToCorner a made l r j c) e f n

-- A run a minute longer.
wait-minute :
    (a : Automaton) (made : List ℕ) (l : ℕ) (v : ℕ → ℕ) (c : ℕ) → RunTo a 1 l v c made → Stays a 1 l (λ x. v x + 1)
    → RunTo a 1 l (λ x. v x + 1) (c + (mode_at a l).rate) made
wait-minute a made l v c n s =
    let e : c + 1 * (mode_at a l).rate ≡ c + (mode_at a l).rate = omega arith in
    subst (λ (d : ℕ). RunTo a 1 l (λ x. v x + 1) d made) e (run-wait a 1 l v c made n 1 s)

-- What each step makes of the runs to the corners of a region r in mode l.
module _ (a : Automaton) (ok : Proper a) (closed : closed_table a ≡ true) (made : List ℕ) (l : ℕ) (there : l < length a.modes)
    (r : PricedRegion) (w : WellFormed r) (sized : length r.whole ≡ timers a)
    (n : RunToCorners a made (record { mode = l; region = r })) where
  -- Delay out of r0.
  leave_runs :
      0 < count 0 r.group → Admits a l (leave (mode_at a l).rate r)
      → RunToCorners a made (record { mode = l; region = leave (mode_at a l).rate r })
  leave_runs z t i b = go (leave-source r w rate i (omega (arith, leave-top r w rate)))
    where
      rate : ℕ
      rate = (mode_at a l).rate

      s : PricedRegion
      s = leave rate r

      jump : RunToCorner a made l s (suc (top r)) (price r 0 + rate)
      jump =
          let m = n 0 (omega arith) in
          let p = corner-jump r w m.values m.stands rate in
          record {
            values = λ x. m.values x + 1;
            run =
                wait-minute a made l m.values (price r 0) m.run
                (corner-stays a ok closed s (leave-well-formed r w rate z) ((leave-timers r rate).whole ∙ sized) (suc (top r)) _
                (omega (arith, leave-top r w rate)) p l there t);
            stands = p;
          }

      go : PassedFrom r s (suc (top r)) rate i → RunToCorner a made l s i (price s i)
      go (kept h e) =
          let m = n i h in
          corner-cast refl (sym e) (record { values = m.values; run = m.run; stands = corner-leave r w i m.values m.stands rate })
      go (passed h e) = corner-cast (sym h) (sym e) jump

  -- Delay where r0 is empty.
  arrive-runs : count 0 r.group ≡ 0 → RunToCorners a made (record { mode = l; region = arrive r })
  arrive-runs z i b =
      let d : suc i ≤ top r = omega (arith, arrive-top r w, top_pos r w z) in
      let m = n (suc i) d in
      corner-cast refl (sym (arrive-price r i))
      (record { values = m.values; run = m.run; stands = corner-arrive r w z i m.values d m.stands })

  -- Linger where r0 is empty.
  linger-runs : count 0 r.group ≡ 0 → Admits a l r → RunToCorners a made (record { mode = l; region = lingered (mode_at a l).rate r })
  linger-runs z t i b = same (go (linger-source r w rate i (omega (arith, shape-top _ _ (shape-linger rate r)))))
    where
      rate : ℕ
      rate = (mode_at a l).rate

      s : PricedRegion
      s = lingered rate r

      same : RunToCorner a made l r i (price s i) → RunToCorner a made l s i (price s i)
      same m = record { values = m.values; run = m.run; stands = corner-shape r s i m.values (shape-linger rate r) m.stands }

      minute : RunToCorner a made l r (top r) (price r 0 + rate)
      minute =
          let m = n 0 (omega arith) in
          let p = corner-linger r w m.values m.stands z in
          record {
            values = λ x. m.values x + 1;
            run =
                wait-minute a made l m.values (price r 0) m.run
                (corner-stays a ok closed r w sized (top r) _ (omega arith) p l there t);
            stands = p;
          }

      go : PassedFrom r s (top r) rate i → RunToCorner a made l r i (price s i)
      go (kept h e) = corner-cast refl (sym e) (n i h)
      go (passed h e) = corner-cast (sym h) (sym e) minute

  -- A move.
  move-runs :
      (e : ℕ) → e < length a.moves → (move_at a e).source ≡ l → meets_all (move_at a e).conditions r ≡ true
      → (move_at a e).target < length a.modes → Admits a (move_at a e).target (moved_by a e r)
      → RunToCorners a (made ++ e ∷ []) (record { mode = (move_at a e).target; region = moved_by a e r })
  move-runs e f o g k t i b =
      let c = (move-flow a ok e r w sized).attained i b in
      let d = Memᴰ.eq_of_singleton c.listed in
      corner-cast (sym (ap (λ (u : Edge). u.corner) d) ∙ c.leads) (sym (c.sum ∙ ap (λ (u : Edge). price r c.from + u.weight) d))
      (moved c.from c.there)
    where
      moved :
          (j : ℕ) → j ≤ top r
          → RunToCorner a (made ++ e ∷ []) (move_at a e).target (moved_by a e r) (reset_all_corner (move_at a e).resets r j)
          (price r j + (move_at a e).price)
      moved j h =
          let m = n j h in
          let p = corner-move a ok e r w sized j m.values h m.stands in
          let u = corner-guard a ok closed r w sized j m.values h m.stands e f g in
          let y =
          corner-stays a ok closed (moved_by a e r) (moved-well-formed a ok e r w sized) (moved-sized a ok e r w sized)
          (reset_all_corner (move_at a e).resets r j) (zeroed (move_at a e).resets m.values)
          (omega (arith, (moved-to a ok e r w sized).there j h, moved-top a ok e r w sized)) p (move_at a e).target k t in
          let q : price r j + 1 * (move_at a e).price ≡ price r j + (move_at a e).price = omega arith in
          record {
            values = zeroed (move_at a e).resets m.values;
            run =
                subst (λ (d : ℕ). RunTo a 1 (move_at a e).target (zeroed (move_at a e).resets m.values) d (made ++ e ∷ [])) q
                (run-move a 1 l m.values (price r j) made m.run e f o u y);
            stands = p;
          }

module _ (a : Automaton) (ok : Proper a) (closed : closed_table a ≡ true) where
  step-runs :
      (byte : ℕ) (p p' : Place) (made : List ℕ) → Reached a p → Reached a p' → Stepped a p byte p' → RunToCorners a made p
      → RunToCorners a (made ++ moves_of (byte ∷ [])) p'
  unfolding moves_of
  step-runs byte p p' made h k (leaves z t) n =
      rw (append-nil made) (leave_runs a ok closed made p.mode h.in-modes p.region h.well-formed h.sized n z t)
  step-runs byte p p' made h k (arrives z t) n =
      rw (append-nil made) (arrive-runs a ok closed made p.mode h.in-modes p.region h.well-formed h.sized n z)
  step-runs byte p p' made h k (lingers z) n =
      rw (append-nil made) (linger-runs a ok closed made p.mode h.in-modes p.region h.well-formed h.sized n z h.admits)
  step-runs byte p p' made h k (idles z) n = rw (append-nil made) n
  step-runs byte p p' made h k (moves e b i o g m) n =
      rw (lt-ltb e 64 b)
      (move-runs a ok closed made p.mode h.in-modes p.region h.well-formed h.sized n e i o g k.in-modes k.admits)

  follow-runs :
      (bytes : List ℕ) (p p' : Place) (made : List ℕ) → Reached a p → follow a bytes p ≡ some p' → RunToCorners a made p
      → RunToCorners a (made ++ moves_of bytes) p'
  unfolding follow moves_of
  follow-runs [] p p' made h f n = subst (RunToCorners a (made ++ [])) (some-injective p p' f) (rw (append-nil made) n)
  follow-runs (byte ∷ bytes) p p' made h f n =
      let s = follow-first a byte bytes p p' f in
      let v = step-view a p s.0 byte s.1 in
      let k = reached-step a ok byte p s.0 h v in
      let one = moves_of (byte ∷ []) in
      let all : (made ++ one) ++ moves_of bytes ≡ made ++ moves_of (byte ∷ bytes) =
      append_assoc made one (moves_of bytes) ∙ ap (λ (es : List ℕ). made ++ es) (sym (moves_of-cons byte bytes)) in
      subst (λ (es : List ℕ). RunToCorners a es p') all
      (follow-runs bytes s.0 p' (made ++ one) k s.2 (step-runs byte p s.0 made h k v n))

  -- Every corner of a chain has a run of its moves, charged its price.
  chain_runs : (bytes : List ℕ) (p : Place) → chain a bytes ≡ some p → RunToCorners a (moves_of bytes) p
  unfolding chain start
  chain_runs bytes p f =
      follow-runs bytes (begin a) p [] (reached-begin a ok) f
      (λ i b.
      let e : 0 ≡ i = omega arith in
      corner-cast e (ap (price (start (timers a))) e)
      (record { values = λ x. 0; run = run_none a 1; stands = corner-start (timers a) }))

-- A run in whole minutes into mode l, of the moves of the chain ks, charged C.
pub record WholeRun (a : Automaton) (l : ℕ) (ks : List ℕ) (C : ℕ) : Type 0 where
  pub acts : List Act
  pub run : RunInto a l 1 acts
  pub charged : charge a 1 acts ≡ C
  pub moves-made : moves_in acts ≡ moves_of ks

-- What comes into mode l along a chain is a run in whole minutes.
pub corner-run :
    (a : Automaton) → Proper a → closed_table a ≡ true → (l : ℕ) (ks : List ℕ) (C : ℕ) → Comes a l ks C → WholeRun a l ks C
corner-run a ok closed l ks C c =
    let o = (price-corner c.place.region.prices C).0 c.corner in
    let b = o.1 in
    let i : o.0 ≤ top c.place.region = omega (arith, prices-top c.place.region (omega arith)) in
    let n = chain_runs a ok closed ks c.place c.ends o.0 i in
    let r = n.run in
    record {
      acts = r.acts;
      run = rw (← c.mode) (run-into a 1 c.place.mode n.values (price c.place.region o.0) (moves_of ks) r (omega arith));
      charged = r.charged ∙ o.2;
      moves-made = r.moves-made;
    }
