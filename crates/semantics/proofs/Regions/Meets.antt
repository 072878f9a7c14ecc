-- At any one point of a region the tests of the region say whether the point satisfies the conditions.
-- Assumes nothing.
use Rattle.std.specs.Prelude.{◌≡◌, refl, true, ◌&&◌, ◌↔◌, ℕ, zero, suc, ◌+◌, ◌*◌, ◌%◌, ◌<◌, ◌≤◌, eqb, length}
use Rattle.std.proofs.Math.Path.{ap, sym}
use Rattle.std.proofs.Common.{◌∙◌, subst, ⊎_elim, mul-le-mul_left, mul-suc, not-suc-le-zero, le_of_suc-le-suc, add-zero, arith, ltb-true, lt-ltb, leb-true, le-leb, eqb-true, eq-eqb}
use mathlib.Core.List.Memᴰ
use mathlib.Core.List.{List, [], ◌∷◌, Memᴰ}
use Rattle.std.proofs.Math.Nat.{div-add-mod, mod-lt, zero-add}
use Rattle.std.proofs.Math.Dec.{eqb-suc-zero}
use Rattle.std.proofs.Math.ListN.{get_or}
use Rattle.semantics.specs.Condition.{Comparison, less, at_most, equal, at_least, greater, Compares, Condition, Holds}
use Rattle.semantics.specs.Region.{PricedRegion, high, meets_at, meets, meets_all, within_from, within}
use Rattle.semantics.specs.Point.{Point}
use Rattle.semantics.specs.Regions.Compare.{Alike, below, even, above, alike-sym, alike-compares, Order, order, and-true-iff}

-- A timer is on a whole minute, or between two.
data High (w g : ℕ) : Type 0 where
  on : g ≡ 0 → high w g ≡ w → High w g
  between : 0 < g → high w g ≡ suc w → High w g

high-cases : (w g : ℕ) → High w g
high-cases w zero = on refl refl
high-cases w (suc g) = between (omega arith) (rw (eqb-suc-zero g))

high-bounds : (w g : ℕ) → (w ≤ high w g) × (high w g ≤ suc w)
high-bounds w g = go (high-cases w g)
  where
    go : High w g → (w ≤ high w g) × (high w g ≤ suc w)
    go (on z e) = omega arith
    go (between z e) = omega arith

-- The test compares the middle of the timer's interval, taken twice, with the value taken twice.
pub test-middle : (k : Comparison) (v w g : ℕ) → (meets_at k v w g ≡ true) ↔ Compares k (w + high w g) (v + v)
test-middle less v w g =
    let b = high-bounds w g in
    (λ t. omega (arith, ltb-true w v t), λ h. lt-ltb w v (omega arith))
test-middle at_most v w g =
    let b = high-bounds w g in
    (λ t. omega (arith, leb-true (high w g) v t), λ h. le-leb (high w g) v (omega arith))
test-middle equal v w g = go (and-true-iff (eqb g 0) (eqb w v)) (high-cases w g)
  where
    go :
        ((eqb g 0 && eqb w v) ≡ true) ↔ ((eqb g 0 ≡ true) × (eqb w v ≡ true)) → High w g
        → ((eqb g 0 && eqb w v) ≡ true) ↔ (w + high w g ≡ v + v)
    go i (on z e) = (λ t. omega (arith, eqb-true w v (i.0 t).1), λ h. i.1 (eq-eqb g 0 z, eq-eqb w v (omega arith)))
    go i (between z e) = (λ t. absurd (omega (arith, eqb-true g 0 (i.0 t).0)), λ h. absurd (omega arith))
test-middle at_least v w g =
    let b = high-bounds w g in
    (λ t. omega (arith, leb-true v w t), λ h. le-leb v w (omega arith))
test-middle greater v w g =
    let b = high-bounds w g in
    (λ t. omega (arith, ltb-true v (high w g) t), λ h. lt-ltb v (high w g) (omega arith))

-- A step in the whole part is a step of q in the value.
pub scale-lt : (q : ℕ) {a b : ℕ} → a < b → q * a + q ≤ q * b
scale-lt q {a} {b} h = omega (arith, mul-le-mul_left q h, mul-suc q a)

-- The value of a timer, w minutes and f q-ths, is to v minutes as the middle of its interval is.
middle-alike :
    (q u w f g v : ℕ) → u ≡ q * w + f → f < q → (g ≡ 0) ↔ (f ≡ 0) → High w g → Order w v → Alike u (q * v) (w + high w g) (v + v)
middle-alike q u w f g v e l z (on o h) (below p) = below (omega (arith, scale-lt q p)) (omega arith)
middle-alike q u w f g v e l z (on o h) (even p) = even (omega (arith, z.0 o, ap (λ (n : ℕ). q * n) p)) (omega arith)
middle-alike q u w f g v e l z (on o h) (above p) = above (omega (arith, scale-lt q p)) (omega arith)
middle-alike q u w f g v e l z (between o h) (below p) = below (omega (arith, scale-lt q p)) (omega arith)
middle-alike q u w f g v e l z (between o h) (even p) =
    let n : (f ≡ 0 → ⊥) = λ e. omega (arith, z.1 e) in
    above (omega (arith, ap (λ (n : ℕ). q * n) p)) (omega arith)
middle-alike q u w f g v e l z (between o h) (above p) = above (omega (arith, scale-lt q p)) (omega arith)

module _ (r : PricedRegion) (q : ℕ) (u : ℕ → ℕ) (p : Point q u r) where
  pub meets-point : (c : Condition) → c.timer < length r.whole → (meets c r ≡ true) ↔ Holds q c (u c.timer)
  unfolding meets
  meets-point c h =
      let x = c.timer in
      let w = get_or r.whole x 0 in
      let g = get_or r.group x 0 in
      let e : u x ≡ q * w + u x % q = sym (div-add-mod (u x) q) ∙ ap (λ (n : ℕ). q * n + u x % q) (sym (p.integer x h)) in
      let l = mod-lt (u x) p.from_one in
      let a = middle-alike q (u x) w (u x % q) g c.value e l (p.at_zero x h) (high-cases w g) (order w c.value) in
      let t = test-middle c.comparison c.value w g in
      (λ m. alike-compares c.comparison (alike-sym a) (t.0 m), λ m. t.1 (alike-compares c.comparison a m))

  pub meets_all-point :
      (cs : List Condition) → ((c : Condition) → Memᴰ c cs → c.timer < length r.whole)
      → (meets_all cs r ≡ true) ↔ ((c : Condition) → Memᴰ c cs → Holds q c (u c.timer))
  meets_all-point [] h = (λ t c m. absurd (Memᴰ.not-nil m), λ a. refl)
  meets_all-point (c ∷ cs) h =
      let i = and-true-iff (meets c r) (meets_all cs r) in
      let one = meets-point c (h c (Memᴰ.head refl)) in
      let rest = meets_all-point cs (λ d m. h d (Memᴰ.tail m)) in (
        λ t d m.
            ⊎_elim (λ e. subst (λ (b : Condition). Holds q b (u b.timer)) (sym e) (one.0 (i.0 t).0))
            (rest.0 (i.0 t).1 d)
            (Memᴰ.cases_cons m),
        λ a. i.1 (one.1 (a c (Memᴰ.head refl)), rest.1 (λ d m. a d (Memᴰ.tail m))),
      )

  -- The ceilings of the timers from x on.
  within_from-point :
      (x : ℕ) (cs : List ℕ) → x + length cs ≤ length r.whole
      → (within_from x cs r ≡ true) ↔ ((i : ℕ) → i < length cs → u (x + i) ≤ q * get_or cs i 0)
  within_from-point x [] h = (λ t i l. absurd (not-suc-le-zero l), λ a. refl)
  within_from-point x (c ∷ cs) h =
      let i = and-true-iff (meets (record { timer = x; comparison = at_most; value = c }) r) (within_from (suc x) cs r) in
      let one = meets-point (record { timer = x; comparison = at_most; value = c }) (omega arith) in
      let rest = within_from-point (suc x) cs (omega arith) in (
        λ t. both (one.0 (i.0 t).0) (rest.0 (i.0 t).1),
        λ a.
            let b : (j : ℕ) → j < length cs → u (suc x + j) ≤ q * get_or cs j 0 = λ j l. rw (next j) (a (suc j) (omega arith)) in
            i.1 (one.1 (rw add-zero at (a 0 (omega arith))), rest.1 b),
      )
    where
      next : (j : ℕ) → suc x + j ≡ x + suc j
      next j = omega arith

      both :
          u x ≤ q * c → ((j : ℕ) → j < length cs → u (suc x + j) ≤ q * get_or cs j 0) → (j : ℕ) → j < suc (length cs)
          → u (x + j) ≤ q * get_or (c ∷ cs) j 0
      both a b zero l = rw add-zero a
      both a b (suc j) l = rw (← next j) (b j (le_of_suc-le-suc l))

  pub within-point :
      (ceilings : List ℕ) → length ceilings ≤ length r.whole
      → (within ceilings r ≡ true) ↔ ((x : ℕ) → x < length ceilings → u x ≤ q * get_or ceilings x 0)
  unfolding within
  within-point ceilings h =
      let i = within_from-point 0 ceilings (omega arith) in
      (λ t x l. rw zero-add at (i.0 t x l), λ a. i.1 (λ x l. rw zero-add (a x l)))
