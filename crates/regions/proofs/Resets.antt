-- Reset of the timers that a byte names, from the highest number to the lowest. In what order they are reset plays no part.
-- Assumes nothing.
use mathlib.Core.Path.{◌≡◌, refl, ap, ◌∙◌, sym}
use mathlib.Core.Bool.{Bool, true, false, cond}
use mathlib.Core.List.Permᴰ
use mathlib.Core.List.{List, [], ◌∷◌, Permᴰ}
use Prim.Native.Nat.{ℕ, zero, suc, ◌-◌, ◌/◌, ◌%◌, ◌^◌, ◌<◌, ◌≤◌}
use native.Mathlib.Numerals.{sub-one}
use native.Mathlib.Omega.{arith}
use borrow.Author.Tests.{eq-eqb, ne_eqb}
use Rattle.semantics.specs.Region.{PricedRegion, reset, reset_all}
use Rattle.semantics.proofs.Regions.Commute.{resets-rearranged}
use Rattle.table.specs.Meaning.{stands, named, named_timers}
use Rattle.regions.specs.declared.Region.{Region}
use Rattle.regions.specs.Held.{most_timers, pack, view, Valid}
use Rattle.regions.specs.Laws.Chain.{reset-gives}

-- Of timers in another order a byte names the same, in another order.
named-rearranged : (byte : ℕ) {xs ys : List ℕ} → Permᴰ xs ys → Permᴰ (named byte xs) (named byte ys)
named-rearranged byte Permᴰ.nil = Permᴰ.nil
named-rearranged byte (Permᴰ.cons {a = x} {l₁ = xs} {l₂ = ys} e p) = rw (sym e) (go (stands byte x) (named-rearranged byte p))
  where
    go :
        (b : Bool) → Permᴰ (named byte xs) (named byte ys)
        → Permᴰ (cond b (x ∷ named byte xs) (named byte xs)) (cond b (x ∷ named byte ys) (named byte ys))
    go true q = Permᴰ.cons refl q
    go false q = q
named-rearranged byte (Permᴰ.swap {a = x} {b = y} {l = zs} e f) = rw (sym e, sym f) (go (stands byte x) (stands byte y) (named byte zs))
  where
    go :
        (b c : Bool) (l : List ℕ)
        → Permᴰ (cond b (x ∷ cond c (y ∷ l) l) (cond c (y ∷ l) l)) (cond c (y ∷ cond b (x ∷ l) l) (cond b (x ∷ l) l))
    go true true l = Permᴰ.swap refl refl
    go true false l = Permᴰ.refl (x ∷ l)
    go false true l = Permᴰ.refl (y ∷ l)
    go false false l = Permᴰ.refl l
named-rearranged byte (Permᴰ.trans p q) = Permᴰ.trans (named-rearranged byte p) (named-rearranged byte q)

-- The first n timers, from the highest number to the lowest.
abbrev left : ℕ → List ℕ
left zero = []
left (suc n) = n ∷ left n

left-next :
    (byte n : ℕ) → 0 < n
    → named byte (left n) ≡ cond (stands byte (n - 1)) ((n - 1) ∷ named byte (left (n - 1))) (named byte (left (n - 1)))
left-next byte zero h = absurd (omega arith)
left-next byte (suc n) h = rw (sub-one (suc n)) refl

-- The first n timers are left, and s is r after the others: the named ones that are left, reset of s, give what all give of r.
pub record ResetSome (byte : ℕ) (r : PricedRegion) (n : ℕ) (s : Region) : Type 0 where
  pub few : n ≤ most_timers
  pub valid : Valid s
  pub gives : reset_all (named byte (left n)) (view s) ≡ reset_all (named_timers byte) r

-- Before the first one: all of them, in the order of the loop.
pub none-reset : (byte : ℕ) (s : Region) → Valid s → ResetSome byte (view s) most_timers s
none-reset byte s v = record {
  few = omega arith;
  valid = v;
  gives = resets-rearranged (named-rearranged byte (Permᴰ.reverse (0 ∷ 1 ∷ 2 ∷ []))) (view s) v.well_formed;
}

module _ (byte : ℕ) (r : PricedRegion) (n : ℕ) (s : Region) (h : ResetSome byte r n s) where
  -- The byte names the next timer, and it is reset.
  pub named-reset : (t : Region) → 0 < n → byte / 2 ^ (n - 1) % 2 ≡ 1 → t ≡ pack (reset (n - 1) (view s)) → ResetSome byte r (n - 1) t
  unfolding reset_all
  named-reset t some e is =
      let g = reset-gives s t h.valid (n - 1) is in
      let next = rw (eq-eqb _ 1 e) at (left-next byte n some) in
      record {
        few = omega (arith, h.few);
        valid = g.valid;
        gives = ap (reset_all (named byte (left (n - 1)))) g.seen ∙ (rw next at h.gives);
      }

  -- The byte does not name it.
  pub unnamed-kept : 0 < n → (byte / 2 ^ (n - 1) % 2 ≡ 1 → ⊥) → ResetSome byte r (n - 1) s
  unnamed-kept some other =
      let next = rw (ne_eqb _ 1 other) at (left-next byte n some) in
      record { few = omega (arith, h.few); valid = h.valid; gives = rw next at h.gives }

  -- No timer is left.
  pub all-reset : n ≡ 0 → s ≡ pack (reset_all (named_timers byte) r)
  unfolding reset_all
  all-reset e = h.valid.held ∙ ap pack (ap (λ (k : ℕ). reset_all (named byte (left k)) (view s)) (sym e) ∙ h.gives)
