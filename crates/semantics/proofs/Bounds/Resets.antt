-- What the resets of a move do to a region and to its points: those of one reset (Bounds.Reset), one after another.
-- Assumes nothing.
use Rattle.std.specs.Prelude.{◌≡◌, refl, Bool, true, false, cond, ◌||◌, ℕ, zero, suc, ◌+◌, ◌*◌, ◌<◌, ◌≤◌, eqb, length, get_or}
use Rattle.std.proofs.Common.{ap, ◌∙◌, sym, true≢false, le_refl, arith}
use mathlib.Core.List.{List, [], ◌∷◌, Memᴰ}
use Rattle.semantics.specs.Region.{PricedRegion, WellFormed, top, reset, reset_all}
use Rattle.semantics.specs.Run.{among}
use Rattle.semantics.specs.Corners.Edges.{reset_corner, reset_all_corner}
use Rattle.semantics.specs.Regions.Lengths.{prices-top, reset-timers}
use Rattle.semantics.proofs.Regions.WellFormed.{reset-well-formed, reset_all-well-formed}
use Rattle.semantics.proofs.Bounds.Inside.{Inside}
use Rattle.semantics.specs.Bounds.Prices.{price}
use Rattle.semantics.proofs.Bounds.Reset.{Source, ResetTo, reset-to}

-- Resets after resets.
module _ (gone gone' : ℕ → Bool) (r s t : PricedRegion) (corner corner' : ℕ → ℕ) (w : WellFormed t)
    (a : ResetTo gone r s corner) (b : ResetTo gone' s t corner') where
  -- A timer that is at 0 stays there.
  stays-zero : (x : ℕ) → x < length r.whole → gone x ≡ true → (g : ℕ) → g ≤ top t → b.old g ≡ get_or s.group x 0 → g ≡ 0
  stays-zero x h e zero l o = refl
  stays-zero x h e (suc g) l o = absurd (omega (arith, b.rising 0 (suc g) (omega arith) l, a.zero-group x h e))

  both_to : ResetTo (λ x. gone x || gone' x) r t (λ j. corner' (corner j))
  both_to = record {
    old = λ i. a.old (b.old i);
    timers = b.timers ∙ a.timers;
    grounded = ap a.old b.grounded ∙ a.grounded;
    rising = λ i j h l. a.rising (b.old i) (b.old j) (b.rising i j h l) (b.bounded j l);
    bounded = λ i h. a.bounded (b.old i) (b.bounded i h);
    zero-whole = λ x h e. zero-whole x h (gone x) refl (gone' x) refl e;
    zero-group = λ x h e. zero-group x h (gone x) refl (gone' x) refl e;
    same_whole = λ x h e. let n = neither (gone x) (gone' x) e in b.same_whole x (there x h) n.1 ∙ a.same_whole x h n.0;
    old-group = λ x h e. let n = neither (gone x) (gone' x) e in ap a.old (b.old-group x (there x h) n.1) ∙ a.old-group x h n.0;
    there = λ j h. b.there (corner j) (a.there j h);
    down = λ i j h l k. a.down (b.old i) j (b.bounded i h) l (b.down i (corner j) h (a.there j l) k);
    up = λ i j h l k. a.up (b.old i) j (b.bounded i h) l (b.up i (corner j) h (a.there j l) k);
    least = λ j h. omega (arith, a.least j h, b.least (corner j) (a.there j h));
    source = λ i h. source i (b.source i h);
  }
    where
      there : (x : ℕ) → x < length r.whole → x < length s.whole
      there x h = omega (arith, a.timers)

      source : (i : ℕ) → Source s corner' i (price t i) → Source r (λ j. corner' (corner j)) i (price t i)
      source i o =
          let u = a.source o.from o.there in
          record { from = u.from; there = u.there; becomes = ap corner' u.becomes ∙ o.becomes; same = o.same ∙ u.same }

      neither : (g g' : Bool) → (g || g') ≡ false → (g ≡ false) × (g' ≡ false)
      neither true g' e = absurd (true≢false e)
      neither false g' e = (refl, e)

      zero-whole : (x : ℕ) → x < length r.whole → (g : Bool) → gone x ≡ g → (g' : Bool) → gone' x ≡ g' → (g || g') ≡ true → get_or t.whole x 0 ≡ 0
      zero-whole x h g e true e' o = b.zero-whole x (there x h) e'
      zero-whole x h true e false e' o = b.same_whole x (there x h) e' ∙ a.zero-whole x h e
      zero-whole x h false e false e' o = absurd (true≢false (sym o))

      zero-group : (x : ℕ) → x < length r.whole → (g : Bool) → gone x ≡ g → (g' : Bool) → gone' x ≡ g' → (g || g') ≡ true → get_or t.group x 0 ≡ 0
      zero-group x h g e true e' o = b.zero-group x (there x h) e'
      zero-group x h true e false e' o =
          stays-zero x h e (get_or t.group x 0) (omega (arith, w.below x, prices-top t w.priced)) (b.old-group x (there x h) e')
      zero-group x h false e false e' o = absurd (true≢false (sym o))

-- No reset.
none-to : (r : PricedRegion) → ResetTo (λ x. false) r r (λ j. j)
none-to r = record {
  old = λ i. i;
  timers = refl;
  grounded = refl;
  rising = λ i j h l. h;
  bounded = λ i h. h;
  zero-whole = λ x h e. absurd (true≢false (sym e));
  zero-group = λ x h e. absurd (true≢false (sym e));
  same_whole = λ x h e. refl;
  old-group = λ x h e. refl;
  there = λ j h. h;
  down = λ i j h l k. k;
  up = λ i j h l k. k;
  least = λ j h. le_refl _;
  source = λ i h. record { from = i; there = h; becomes = refl; same = refl };
}

-- "Several timers are reset one after another", in any order, and a timer named twice counts once.
pub resets-to :
    (xs : List ℕ) (r : PricedRegion) → WellFormed r → ((x : ℕ) → Memᴰ x xs → x < length r.whole)
    → ResetTo (λ x. among x xs) r (reset_all xs r) (reset_all_corner xs r)
unfolding reset_all reset_all_corner
resets-to [] r w h = none-to r
resets-to (x ∷ xs) r w h =
    let l = h x (Memᴰ.head refl) in
    let u = reset-well-formed r w x l in
    let m : (y : ℕ) → Memᴰ y xs → y < length (reset x r).whole = λ y m. rw (reset-timers r x).whole (h y (Memᴰ.tail m)) in
    both_to (λ y. eqb y x) (λ y. among y xs) r (reset x r) (reset_all xs (reset x r)) (reset_corner x r) (reset_all_corner xs (reset x r))
    (reset_all-well-formed xs (reset x r) u m) (reset-to r w x l) (resets-to xs (reset x r) u m)

-- A point of the region before is, with the reset timers at 0, a point of the region after.
pub inside-resets :
    (gone : ℕ → Bool) (r s : PricedRegion) (corner : ℕ → ℕ) (d : ResetTo gone r s corner) (q : ℕ) (v f v' : ℕ → ℕ)
    → ((x : ℕ) → v' x ≡ cond (gone x) 0 (v x)) → Inside q v f r → Inside q v' (λ i. f (d.old i)) s
inside-resets gone r s corner d q v f v' e p = record {
  grounded = ap f d.grounded ∙ p.grounded;
  rising = λ i j h l. p.rising (d.old i) (d.old j) (d.rising i j h l) (d.bounded j l);
  small = λ i h. p.small (d.old i) (d.bounded i h);
  value = λ x h. value x (omega (arith, d.timers)) (gone x) refl;
}
  where
    value : (x : ℕ) → x < length r.whole → (b : Bool) → gone x ≡ b → v' x ≡ q * get_or s.whole x 0 + f (d.old (get_or s.group x 0))
    value x h true b = rw (d.zero-whole x h b, d.zero-group x h b, d.grounded, p.grounded) (e x ∙ rw b (omega arith))
    value x h false b = rw (d.same_whole x h b, d.old-group x h b) (e x ∙ rw b (p.value x h))
