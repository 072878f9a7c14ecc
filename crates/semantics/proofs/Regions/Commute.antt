-- Resets in any order: what they leave of a region goes by which timers are reset, and by nothing else.
-- Assumes nothing.
use Rattle.std.specs.Prelude.{◌≡◌, refl, Bool, true, false, ◌||◌, ℕ, zero, suc, ◌+◌, ◌-◌, ◌<◌, ◌≤◌, eqb, length, get_or}
use Rattle.std.proofs.Common.{ap, ◌∙◌, sym, subst, true≢false, arith, eqb-true, eq-eqb, ext_get_or}
use Rattle.std.proofs.Math.Path.{fun_ext}
use Rattle.std.proofs.Math.Logic.{⊎_elim}
use mathlib.Core.List.Memᴰ
use mathlib.Core.List.{List, [], ◌∷◌, Memᴰ, Permᴰ}
use Rattle.std.proofs.Math.Decide.{dec_lt, dec_le, ℕ_discrete}
use Rattle.semantics.specs.Region.{PricedRegion, WellFormed, top, reset, reset_all}
use Rattle.semantics.specs.Run.{among}
use Rattle.semantics.specs.Corners.Edges.{reset_all_corner}
use Rattle.semantics.specs.Regions.Count.{count-place}
use Rattle.semantics.specs.Regions.Lengths.{prices-top, reset-timers}
use Rattle.semantics.proofs.Regions.WellFormed.{reset_all-well-formed}
use Rattle.semantics.proofs.Regions.Absent.{reset-absent, reset-any-well-formed}
use Rattle.semantics.specs.Bounds.Prices.{price}
use Rattle.semantics.proofs.Bounds.Reset.{ResetTo}
use Rattle.semantics.proofs.Bounds.Resets.{resets-to}

-- A rising function is lower only at a lower place.
lower-place : (f : ℕ → ℕ) (k : ℕ) → ((i j : ℕ) → i < j → j ≤ k → f i < f j) → (i j : ℕ) → i ≤ k → f i < f j → i < j
lower-place f k rising i j there h = go (dec_lt i j) (ℕ_discrete i j)
  where
    go : Dec (i < j) → Dec (i ≡ j) → i < j
    go (yes p) d = p
    go (no p) (yes e) = absurd (omega (arith, ap f e))
    go (no p) (no n) = absurd (omega (arith, rising j i (omega arith) there))

-- Two rising functions, where each value of the first is one of the second: it has no lower place there.
module _
    (f g : ℕ → ℕ) (k l : ℕ) (rising-f : (i j : ℕ) → i < j → j ≤ k → f i < f j) (rising-g : (i j : ℕ) → i < j → j ≤ l → g i < g j)
    (found : (i : ℕ) → i ≤ k → (j : ℕ) × (j ≤ l) × (g j ≡ f i)) where
  no_lower : (i j : ℕ) → i ≤ k → j ≤ l → g j ≡ f i → i ≤ j
  no_lower zero j a b e = omega arith
  no_lower (suc i) j a b e =
      let o = found i (omega arith) in
      let h : g o.0 < g j = omega (arith, rising-f i (suc i) (omega arith) a, o.2) in
      omega (arith, no_lower i o.0 (omega arith) o.1 o.2, lower-place g l rising-g o.0 j o.1 h)

below_top : (r : PricedRegion) → WellFormed r → (x : ℕ) → get_or r.group x 0 ≤ top r
below_top r w x = omega (arith, w.below x, prices-top r w.priced)

-- Two regions that come from r by resets of the same timers: corner j of r becomes corner `at j` of s, and `at' j` of t.
pub record Alike (r s t : PricedRegion) : Type 0 where
  pub gone : ℕ → Bool
  pub at : ℕ → ℕ
  pub at' : ℕ → ℕ
  pub ok : WellFormed s
  pub ok' : WellFormed t
  pub to : ResetTo gone r s at
  pub to' : ResetTo gone r t at'

abbrev turned : {r s t : PricedRegion} → Alike r s t → Alike r t s
turned h = record { gone = h.gone; at = h.at'; at' = h.at; ok = h.ok'; ok' = h.ok; to = h.to'; to' = h.to }

module _ {r s t : PricedRegion} (h : Alike r s t) where
  -- A group of s other than r0 has a timer that was not reset, and what was its group in r is a group of t too.
  found : (i : ℕ) → i ≤ top s → (j : ℕ) × (j ≤ top t) × (h.to'.old j ≡ h.to.old i)
  found zero l = (0, omega arith, h.to'.grounded ∙ sym h.to.grounded)
  found (suc i) l =
      let w = h.ok in
      let o = count-place (suc i) s.group (w.full (suc i) (omega arith) (omega (arith, prices-top s w.priced))) in
      go o.0 (omega (arith, o.1, w.paired, h.to.timers)) o.2 (h.gone o.0) refl
    where
      go :
          (x : ℕ) → x < length r.whole → get_or s.group x 0 ≡ suc i → (c : Bool) → h.gone x ≡ c
          → (j : ℕ) × (j ≤ top t) × (h.to'.old j ≡ h.to.old (suc i))
      go x there e true g = absurd (omega (arith, h.to.zero-group x there g))
      go x there e false g = (
        get_or t.group x 0,
        below_top t h.ok' x,
        h.to'.old-group x there g ∙ sym (h.to.old-group x there g) ∙ ap h.to.old e,
      )

  not_lower : (i j : ℕ) → i ≤ top s → j ≤ top t → h.to'.old j ≡ h.to.old i → i ≤ j
  not_lower = no_lower h.to.old h.to'.old (top s) (top t) h.to.rising h.to'.rising found

module _ {r s t : PricedRegion} (h : Alike r s t) where
  -- Groups of s and t that were one group in r have the same number.
  same_place : (i j : ℕ) → i ≤ top s → j ≤ top t → h.to'.old j ≡ h.to.old i → i ≡ j
  same_place i j l m e = omega (arith, not_lower h i j l m e, not_lower (turned h) j i m l (sym e))

  same_old : (i : ℕ) → i ≤ top s → (i ≤ top t) × (h.to'.old i ≡ h.to.old i)
  same_old i l =
      let o = found h i l in
      let e = same_place i o.0 l o.1 o.2 in
      (omega arith, ap h.to'.old e ∙ o.2)

  -- A corner of r comes no higher in t than in s: the highest group that is down there in s is down in t.
  no-higher : top s ≡ top t → (j : ℕ) → j ≤ top r → h.at' j ≤ h.at j
  no-higher e j l =
      let there = h.to.there j l in
      go (dec_le (h.at' j) (h.at j)) (h.to.down i j (omega arith) l (omega arith)) (same_old i (omega arith)).1
    where
      i : ℕ
      i = top s - h.at j

      go : Dec (h.at' j ≤ h.at j) → h.to.old i + j ≤ top r → h.to'.old i ≡ h.to.old i → h.at' j ≤ h.at j
      go (yes p) low o = p
      go (no n) low o = absurd (omega (arith, h.to'.up i j (omega arith) l (omega (arith, h.to.there j l))))

  -- So no price of t is above that of s.
  no-dearer : ((j : ℕ) → j ≤ top r → h.at' j ≡ h.at j) → (i : ℕ) → i ≤ top s → price t i ≤ price s i
  no-dearer same i l =
      let o = h.to.source i l in
      omega (arith, h.to'.least o.from o.there, o.same, ap (price t) (same o.from o.there ∙ o.becomes))

module _ {r s t : PricedRegion} (h : Alike r s t) where
  same-top : top s ≡ top t
  same-top = omega (arith, (same_old h (top s) (omega arith)).0, (same_old (turned h) (top t) (omega arith)).0)

  same-corner : (j : ℕ) → j ≤ top r → h.at' j ≡ h.at j
  same-corner j l = omega (arith, no-higher h same-top j l, no-higher (turned h) (sym same-top) j l)

  same_whole : (x : ℕ) → x < length r.whole → (c : Bool) → h.gone x ≡ c → get_or s.whole x 0 ≡ get_or t.whole x 0
  same_whole x l true e = h.to.zero-whole x l e ∙ sym (h.to'.zero-whole x l e)
  same_whole x l false e = h.to.same_whole x l e ∙ sym (h.to'.same_whole x l e)

  same-group : (x : ℕ) → x < length r.whole → (c : Bool) → h.gone x ≡ c → get_or s.group x 0 ≡ get_or t.group x 0
  same-group x l true e = h.to.zero-group x l e ∙ sym (h.to'.zero-group x l e)
  same-group x l false e =
      same_place h _ _ (below_top s h.ok x) (below_top t h.ok' x) (h.to'.old-group x l e ∙ sym (h.to.old-group x l e))

  same-price : (i : ℕ) → i ≤ top s → price s i ≡ price t i
  same-price i l =
      omega (arith, no-dearer h same-corner i l, no-dearer (turned h) (λ j m. sym (same-corner j m)) i (omega (arith, same-top)))

  -- They are the same region.
  pub same-region : s ≡ t
  same-region =
      let w = h.ok in
      let w' = h.ok' in
      let timers = h.to.timers in
      let whole = ext_get_or 0 s.whole t.whole (timers ∙ sym h.to'.timers) (λ x l. same_whole x (omega (arith, timers)) (h.gone x) refl) in
      let group =
      ext_get_or 0 s.group t.group (w.paired ∙ timers ∙ sym (w'.paired ∙ h.to'.timers))
      (λ x l. same-group x (omega (arith, w.paired, timers)) (h.gone x) refl) in
      let prices =
      ext_get_or 0 s.prices t.prices (omega (arith, prices-top s w.priced, prices-top t w'.priced, same-top))
      (λ i l. same-price i (omega (arith, prices-top s w.priced))) in
      λ i. record { whole = whole i; group = group i; prices = prices i }

-- A timer is among those that are in the list.
among_in : (x : ℕ) (xs : List ℕ) → among x xs ≡ true → Memᴰ x xs
among_in x [] e = absurd (true≢false (sym e))
among_in x (y ∷ ys) e = go (among_in x ys) (eqb x y) refl e
  where
    go : (among x ys ≡ true → Memᴰ x ys) → (b : Bool) → eqb x y ≡ b → (b || among x ys) ≡ true → Memᴰ x (y ∷ ys)
    go ih true p e = Memᴰ.head (eqb-true x y p)
    go ih false p e = Memᴰ.tail (ih e)

in-among : (x : ℕ) (xs : List ℕ) → Memᴰ x xs → among x xs ≡ true
in-among x [] m = absurd (Memᴰ.not-nil m)
in-among x (y ∷ ys) m =
    ⊎_elim (λ e. rw (eq-eqb x y e) refl) (λ n. rw (in-among x ys n) (or-true (eqb x y))) (Memᴰ.cases_cons m)
  where
    or-true : (b : Bool) → (b || true) ≡ true
    or-true true = refl
    or-true false = refl

same_test : (b c : Bool) → (b ≡ true → c ≡ true) → (c ≡ true → b ≡ true) → b ≡ c
same_test true c h k = sym (h refl)
same_test false true h k = k refl
same_test false false h k = refl

-- "Several timers are reset one after another": lists with the same timers, in whatever order and however often each is named, give the same region.
module _ (r : PricedRegion) (w : WellFormed r) where
  pub resets-same :
      (xs ys : List ℕ) → ((x : ℕ) → Memᴰ x xs → x < length r.whole) → ((x : ℕ) → Memᴰ x xs → Memᴰ x ys)
      → ((x : ℕ) → Memᴰ x ys → Memᴰ x xs) → reset_all xs r ≡ reset_all ys r
  resets-same xs ys in-xs to from =
      let in_ys : (x : ℕ) → Memᴰ x ys → x < length r.whole = λ x m. in-xs x (from x m) in
      let same : ◌≡◌ {A = ℕ → Bool} (λ x. among x xs) (λ x. among x ys) =
      fun_ext (λ x.
      same_test (among x xs) (among x ys) (λ e. in-among x ys (to x (among_in x xs e))) (λ e. in-among x xs (from x (among_in x ys e)))) in
      same-region
      (record {
        gone = λ x. among x ys;
        at = reset_all_corner xs r;
        at' = reset_all_corner ys r;
        ok = reset_all-well-formed xs r w in-xs;
        ok' = reset_all-well-formed ys r w in_ys;
        to = subst (λ (gone : ℕ → Bool). ResetTo gone r (reset_all xs r) (reset_all_corner xs r)) same (resets-to xs r w in-xs);
        to' = resets-to ys r w in_ys;
      })

  -- Two resets of timers that the region has. Two timers alone in one group are covered too: the first reset merges no prices, the second does.
  there-commute : (x y : ℕ) → x < length r.whole → y < length r.whole → reset x (reset y r) ≡ reset y (reset x r)
  unfolding reset_all
  there-commute x y in-x in-y = resets-same (y ∷ x ∷ []) (x ∷ y ∷ []) both (swap y x) (swap x y)
    where
      two : (a b z : ℕ) (P : Type 0) → (z ≡ a → P) → (z ≡ b → P) → Memᴰ z (a ∷ b ∷ []) → P
      two a b z P f g m =
          ⊎_elim f (λ n. ⊎_elim g (λ o. absurd (Memᴰ.not-nil o)) (Memᴰ.cases_cons n)) (Memᴰ.cases_cons m)

      both : (z : ℕ) → Memᴰ z (y ∷ x ∷ []) → z < length r.whole
      both z = two y x z (z < length r.whole) (λ e. omega arith) (λ e. omega arith)

      swap : (a b z : ℕ) → Memᴰ z (a ∷ b ∷ []) → Memᴰ z (b ∷ a ∷ [])
      swap a b z = two a b z (Memᴰ z (b ∷ a ∷ [])) (λ e. Memᴰ.tail (Memᴰ.head e)) (λ e. Memᴰ.head e)

  -- The reset of a timer that it does not have changes nothing.
  absent-commute : (x y : ℕ) → length r.whole ≤ x → reset x (reset y r) ≡ reset y (reset x r)
  absent-commute x y h =
      reset-absent (reset y r) (reset-any-well-formed r w y) x (rw (reset-timers r y).whole h) ∙ ap (reset y) (sym (reset-absent r w x h))

  -- Two resets commute.
  pub resets-commute : (x y : ℕ) → reset x (reset y r) ≡ reset y (reset x r)
  resets-commute x y = go (dec_lt x (length r.whole)) (dec_lt y (length r.whole))
    where
      go : Dec (x < length r.whole) → Dec (y < length r.whole) → reset x (reset y r) ≡ reset y (reset x r)
      go (yes p) (yes q) = there-commute x y p q
      go (yes p) (no q) = sym (absent-commute y x (omega arith))
      go (no p) d = absent-commute x y (omega arith)

  -- To name a timer twice is to name it once.
  pub resets-twice : (x : ℕ) → reset x (reset x r) ≡ reset x r
  unfolding reset_all
  resets-twice x = go (dec_lt x (length r.whole))
    where
      once : (z : ℕ) → Memᴰ z (x ∷ x ∷ []) → Memᴰ z (x ∷ [])
      once z m = ⊎_elim (λ e. Memᴰ.head e) (λ n. n) (Memᴰ.cases_cons m)

      is : (z : ℕ) → Memᴰ z (x ∷ []) → z ≡ x
      is z m = ⊎_elim (λ e. e) (λ n. absurd (Memᴰ.not-nil n)) (Memᴰ.cases_cons m)

      go : Dec (x < length r.whole) → reset x (reset x r) ≡ reset x r
      go (yes p) = resets-same (x ∷ x ∷ []) (x ∷ []) (λ z m. rw (is z (once z m)) p) once (λ z m. Memᴰ.tail m)
      go (no p) = reset-absent (reset x r) (reset-any-well-formed r w x) x (rw (reset-timers r x).whole (omega arith))

-- "The region and its prices come out the same in every order": by a list of timers and by any rearrangement of it, whatever timers they are and
-- however often it names each.
pub resets-rearranged : {xs ys : List ℕ} → Permᴰ xs ys → (r : PricedRegion) → WellFormed r → reset_all xs r ≡ reset_all ys r
unfolding reset_all
resets-rearranged Permᴰ.nil r w = refl
resets-rearranged (Permᴰ.cons {a = x} e p) r w = rw (sym e) (resets-rearranged p (reset x r) (reset-any-well-formed r w x))
resets-rearranged (Permᴰ.swap {a = x} {b = y} {l = zs} e f) r w = rw (sym e, sym f) (ap (reset_all zs) (resets-commute r w y x))
resets-rearranged (Permᴰ.trans p q) r w = resets-rearranged p r w ∙ resets-rearranged q r w
