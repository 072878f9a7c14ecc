-- Prices pass along edges: after a step, the price of a corner is the least sum of a price before it and the weight of an edge that leads there.
-- Assumes nothing.
use Rattle.std.specs.Prelude.{◌≡◌, refl, ◌⊎◌, ℕ, zero, suc, ◌+◌, ◌≤◌, length}
use Rattle.std.proofs.Common.{sym, ap, subst, inl, inr, ⊎_elim, arith, eq-eqb, ne_eqb, lt-ltb}
use Rattle.std.proofs.Math.Path.{fun_ext}
use mathlib.Core.List.Memᴰ
use mathlib.Core.List.{List, [], ◌∷◌, Memᴰ}
use Rattle.semantics.specs.Automata.Proper.{Proper}
use Rattle.semantics.specs.Automaton.{Automaton, timers, move_at}
use Rattle.semantics.specs.Region.{PricedRegion, WellFormed, count, top, leave, arrive, reset_all}
use Rattle.semantics.specs.Run.{among}
use Rattle.semantics.specs.Chain.{Place}
use Rattle.semantics.specs.Corners.Edges.{Edge, pass_edges, drop_edges, move_edges, reset_all_corner, edges}
use Rattle.semantics.specs.Regions.Cases.{lingered}
use Rattle.semantics.specs.Regions.Lengths.{leave-top}
use Rattle.semantics.proofs.Regions.Lengths.{arrive-top}
use Rattle.semantics.specs.Regions.Groups.{top_pos}
use Rattle.semantics.specs.Bounds.Prices.{price, leave-price, leave-last, linger-last, linger-least, PassedFrom, kept, passed, leave-source, linger-source, arrive-price, charge-price}
use Rattle.semantics.proofs.Bounds.Reset.{ResetTo}
use Rattle.semantics.specs.Bounds.Steps.{rate_at}
use Rattle.semantics.proofs.Bounds.Steps.{moved_by, Stepped, leaves, arrives, lingers, idles, moves}
use Rattle.semantics.proofs.Bounds.Shapes.{shape-top, shape-linger}
use Rattle.semantics.proofs.Bounds.Moved.{reset-well-formed, moved-to, moved-top}

-- A price after the step, at corner i, is the sum of a price before it and the weight of an edge that leads to i.
pub record Incoming (r : PricedRegion) (out : ℕ → List Edge) (i c : ℕ) : Type 0 where
  pub from : ℕ
  pub there : from ≤ top r
  pub edge : Edge
  pub listed : Memᴰ edge (out from)
  pub leads : edge.corner ≡ i
  pub sum : c ≡ price r from + edge.weight

-- The edge e from corner j of r leads to a corner of s, whose price is at most the sum.
pub record Outgoing (r s : PricedRegion) (j : ℕ) (e : Edge) : Type 0 where
  pub there : e.corner ≤ top s
  pub least : price s e.corner ≤ price r j + e.weight

-- The prices of s come from those of r along the edges `out`, and no edge would make one less.
pub record Flow (r s : PricedRegion) (out : ℕ → List Edge) : Type 0 where
  pub attained : (i : ℕ) → i ≤ top s → Incoming r out i (price s i)
  pub least : (j : ℕ) → j ≤ top r → (e : Edge) → Memᴰ e (out j) → Outgoing r s j e

-- The law goes with equal edges.
by-edges : {r s : PricedRegion} {out out' : ℕ → List Edge} → ((j : ℕ) → out j ≡ out' j) → Flow r s out' → Flow r s out
by-edges {r} {s} e f = subst (Flow r s) (sym (fun_ext e)) f

-- The edges that they are made of.
abbrev pub keeps : ℕ → Edge
keeps j = record { corner = j; weight = 0 }

abbrev pub passes : ℕ → ℕ → Edge
passes last rate = record { corner = last; weight = rate }

pub pass-keeps : (last rate j : ℕ) → Memᴰ (keeps j) (pass_edges last rate j)
pass-keeps last rate zero = Memᴰ.head refl
pass-keeps last rate (suc j) = Memᴰ.head refl

pub pass-passes : (last rate : ℕ) → Memᴰ (passes last rate) (pass_edges last rate 0)
pass-passes last rate = Memᴰ.tail (Memᴰ.head refl)

pub pass-cases :
    (last rate j : ℕ) (e : Edge) → Memᴰ e (pass_edges last rate j) → (e ≡ keeps j) ⊎ ((j ≡ 0) × (e ≡ passes last rate))
pass-cases last rate zero e m = ⊎_elim inl (λ n. inr (refl, Memᴰ.eq_of_singleton n)) (Memᴰ.cases_cons m)
pass-cases last rate (suc j) e m = inl (Memᴰ.eq_of_singleton m)

pub drop-cases : (j : ℕ) (e : Edge) → Memᴰ e (drop_edges j) → (i : ℕ) × (j ≡ suc i) × (e ≡ keeps i)
drop-cases zero e m = absurd (Memᴰ.not-nil m)
drop-cases (suc j) e m = (j, refl, Memᴰ.eq_of_singleton m)

-- Delay out of r0, and linger where r0 is empty.
pass-flow :
    (r s : PricedRegion) (last rate : ℕ) → ((j : ℕ) → j ≤ top r → Outgoing r s j (keeps j)) → Outgoing r s 0 (passes last rate)
    → ((i : ℕ) → i ≤ top s → PassedFrom r s last rate i) → Flow r s (pass_edges last rate)
pass-flow r s last rate keep pass source = record { attained = λ i h. attained i (source i h); least = least }
  where
    attained : (i : ℕ) → PassedFrom r s last rate i → Incoming r (pass_edges last rate) i (price s i)
    attained i (kept h e) = record { from = i; there = h; edge = keeps i; listed = pass-keeps last rate i; leads = refl; sum = omega arith }
    attained i (passed h e) = record {
      from = 0;
      there = omega arith;
      edge = passes last rate;
      listed = pass-passes last rate;
      leads = sym h;
      sum = e;
    }

    least : (j : ℕ) → j ≤ top r → (e : Edge) → Memᴰ e (pass_edges last rate j) → Outgoing r s j e
    least j h e m =
        ⊎_elim (λ q. subst (Outgoing r s j) (sym q) (keep j h))
        (λ q. subst (Outgoing r s j) (sym q.1) (subst (λ (i : ℕ). Outgoing r s i (passes last rate)) (sym q.0) pass))
        (pass-cases last rate j e m)

module _ (r : PricedRegion) (w : WellFormed r) (rate : ℕ) where
  leave-flow : Flow r (leave rate r) (pass_edges (suc (top r)) rate)
  leave-flow =
      pass-flow r (leave rate r) (suc (top r)) rate
      (λ j h. record { there = omega (arith, leave-top r w rate); least = omega (arith, leave-price r w rate j h) })
      (record { there = omega (arith, leave-top r w rate); least = omega (arith, leave-last r w rate) })
      (λ i h. leave-source r w rate i (omega (arith, leave-top r w rate)))

  linger-flow : Flow r (lingered rate r) (pass_edges (top r) rate)
  linger-flow =
      pass-flow r (lingered rate r) (top r) rate
      (λ j h. record { there = omega (arith, same-top); least = omega (arith, linger-least r w rate j) })
      (record { there = omega (arith, same-top); least = omega (arith, linger-last r w rate) })
      (λ i h. linger-source r w rate i (omega (arith, same-top)))
    where
      same-top : top r ≡ top (lingered rate r)
      same-top = shape-top r (lingered rate r) (shape-linger rate r)

-- Linger where r0 holds a timer.
idle-flow : (r : PricedRegion) → Flow r r (λ j. keeps j ∷ [])
idle-flow r = record {
  attained = λ i h. record { from = i; there = h; edge = keeps i; listed = Memᴰ.head refl; leads = refl; sum = omega arith };
  least = λ j h e m. subst (Outgoing r r j) (sym (Memᴰ.eq_of_singleton m)) (record { there = h; least = omega arith });
}

-- Delay where r0 is empty.
arrive-flow : (r : PricedRegion) → WellFormed r → count 0 r.group ≡ 0 → Flow r (arrive r) drop_edges
arrive-flow r w empty = record { attained = attained; least = least }
  where
    attained : (i : ℕ) → i ≤ top (arrive r) → Incoming r drop_edges i (price (arrive r) i)
    attained i h = record {
      from = suc i;
      there = omega (arith, arrive-top r w, top_pos r w empty);
      edge = keeps i;
      listed = Memᴰ.head refl;
      leads = refl;
      sum = omega (arith, arrive-price r i);
    }

    least : (j : ℕ) → j ≤ top r → (e : Edge) → Memᴰ e (drop_edges j) → Outgoing r (arrive r) j e
    least j h e m =
        let o = drop-cases j e m in
        subst (Outgoing r (arrive r) j) (sym o.2)
        (record { there = omega (arith, arrive-top r w, o.1); least = omega (arith, arrive-price r o.0, ap (price r) o.1) })

-- A move: resets, and its price on every corner.
module _ (a : Automaton) (ok : Proper a) (e : ℕ) (r : PricedRegion) (w : WellFormed r) (sized : length r.whole ≡ timers a) where
  pub move-flow : Flow r (moved_by a e r) (move_edges (move_at a e) r)
  move-flow = record { attained = λ i h. attained i (omega (arith, moved-top a ok e r w sized)); least = least }
    where
      s : PricedRegion
      s = reset_all (move_at a e).resets r

      to : ResetTo (λ x. among x (move_at a e).resets) r s (reset_all_corner (move_at a e).resets r)
      to = moved-to a ok e r w sized

      charged : (i : ℕ) → i ≤ top s → price (moved_by a e r) i ≡ price s i + (move_at a e).price
      charged i h = charge-price s (reset-well-formed a ok e r w sized) (move_at a e).price i h

      attained : (i : ℕ) → i ≤ top s → Incoming r (move_edges (move_at a e) r) i (price (moved_by a e r) i)
      attained i h =
          let o = to.source i h in
          record {
            from = o.from;
            there = o.there;
            edge = record { corner = reset_all_corner (move_at a e).resets r o.from; weight = (move_at a e).price };
            listed = Memᴰ.head refl;
            leads = o.becomes;
            sum = omega (arith, charged i h, o.same);
          }

      least : (j : ℕ) → j ≤ top r → (d : Edge) → Memᴰ d (move_edges (move_at a e) r j) → Outgoing r (moved_by a e r) j d
      least j h d n =
          subst (Outgoing r (moved_by a e r) j) (sym (Memᴰ.eq_of_singleton n))
          (record { there = omega (arith, to.there j h, moved-top a ok e r w sized); least = omega (arith, charged _ (to.there j h), to.least j h) })

-- Every allowed step.
module _ (a : Automaton) (ok : Proper a) (p : Place) (w : WellFormed p.region) (sized : length p.region.whole ≡ timers a) where
  pub step-flow : {byte : ℕ} {p' : Place} → Stepped a p byte p' → Flow p.region p'.region (edges a byte p)
  unfolding edges
  step-flow (leaves z t) =
      by-edges (λ j. rw (ne_eqb (count 0 p.region.group) 0 (λ e. omega arith))) (leave-flow p.region w (rate_at a p))
  step-flow (arrives z t) = by-edges (λ j. rw (eq-eqb (count 0 p.region.group) 0 z)) (arrive-flow p.region w z)
  step-flow (lingers z) =
      by-edges (λ j. rw (eq-eqb (count 0 p.region.group) 0 z)) (linger-flow p.region w (rate_at a p))
  step-flow (idles z) = by-edges (λ j. rw (ne_eqb (count 0 p.region.group) 0 (λ e. omega arith))) (idle-flow p.region)
  step-flow (moves e b i o g m) = by-edges (λ j. rw (lt-ltb e 64 b)) (move-flow a ok e p.region w sized)
