-- Where timers stand after resets, in half minutes: those that were reset at 0, the others where they were.
-- Assumes nothing.
use Rattle.std.specs.Prelude.{◌≡◌, refl, Bool, true, false, cond, ℕ, zero, suc, pred, ◌+◌, ◌≤◌, ◌<◌, length, get_or}
use Rattle.std.proofs.Common.{sym, ap, ◌∙◌, arith, eq-eqb, ne_eqb}
use mathlib.Core.List.{List, Memᴰ}
use Rattle.std.proofs.Math.Decide.{dec_lt}
use Rattle.semantics.specs.Region.{PricedRegion, WellFormed, high, top, reset_all}
use Rattle.semantics.specs.Run.{among}
use Rattle.semantics.specs.Regions.Windows.{half}
use Rattle.semantics.proofs.Regions.WellFormed.{reset_all-well-formed}
use Rattle.semantics.specs.Corners.Edges.{reset_all_corner}
use Rattle.semantics.proofs.Bounds.Reset.{ResetTo}
use Rattle.semantics.proofs.Bounds.Resets.{resets-to}

-- On a whole minute, or between two: groups that are both 0, or both not, give the same.
high-alike : (w g h : ℕ) → (g ≡ 0 → h ≡ 0) → (h ≡ 0 → g ≡ 0) → high w g ≡ high w h
high-alike w zero h to from = sym (ap (λ (b : Bool). cond b w (suc w)) (eq-eqb h 0 (to refl)))
high-alike w (suc g) h to from =
    ap (λ (b : Bool). cond b w (suc w)) (ne_eqb (suc g) 0 (λ q. omega arith) ∙ sym (ne_eqb h 0 (λ q. omega (arith, from q))))

module _ (xs : List ℕ) (r : PricedRegion) (w : WellFormed r) (named : (x : ℕ) → Memᴰ x xs → x < length r.whole) where
  abbrev s : PricedRegion
  s = reset_all xs r

  to : ResetTo (λ x. among x xs) r (reset_all xs r) (reset_all_corner xs r)
  to = resets-to xs r w named

  pub half-resets : (y : ℕ) → y < length r.whole → half (reset_all xs r) y ≡ cond (among y xs) 0 (half r y)
  half-resets y h = at (among y xs) refl
    where
      at : (b : Bool) → among y xs ≡ b → half (reset_all xs r) y ≡ cond b 0 (half r y)
      at true e = rw (to.zero-whole y h e, to.zero-group y h e) refl
      at false e =
          let g = get_or s.group y 0 in
          let old = to.old-group y h e in
          let k : get_or (reset_all xs r).group y 0 ≤ pred (length (reset_all xs r).prices) = omega (arith, (reset_all-well-formed xs r w named).below y) in
          let few : g ≤ top (reset_all xs r) = k in
          rw (to.same_whole y h e)
          (ap (λ (k : ℕ). get_or r.whole y 0 + k) (high-alike (get_or r.whole y 0) g (get_or r.group y 0) (λ q. zero-kept q) (λ q. zero-was q few (dec_lt 0 g))))
        where
          zero-kept : get_or s.group y 0 ≡ 0 → get_or r.group y 0 ≡ 0
          zero-kept q = sym (to.old-group y h e) ∙ ap to.old q ∙ to.grounded

          zero-was : get_or r.group y 0 ≡ 0 → get_or s.group y 0 ≤ top (reset_all xs r) → Dec (0 < get_or s.group y 0) → get_or s.group y 0 ≡ 0
          zero-was q few (no n) = omega arith
          zero-was q few (yes p) = absurd (omega (arith, to.rising 0 (get_or s.group y 0) p few, to.grounded, to.old-group y h e))
