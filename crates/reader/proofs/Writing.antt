-- Bytes that are written into a table one part after another.
-- Assumes nothing.
use Prim.Native.Nat.{ℕ, suc, ◌+◌, ◌*◌, ◌%◌, ◌<◌}
use native.Mathlib.Nat.{add-zero, mul-add}
use native.Mathlib.Numerals.{add-one}
use native.Mathlib.Omega.{arith}
use mathlib.Core.Path.{◌≡◌, refl, sym, ap, ap₂, ◌∙◌}
use mathlib.Core.List.{List, [], ◌∷◌, ◌++◌, map, append-nil, map-append}
use lib.ListN.{length, length-append, set}
use lib.Seq.{sets, set-set, set_comm}
use Rattle.table.specs.Fields.{amount_of}
use Rattle.table.specs.Held.{flat, mode_bytes, move_bytes}
use Rattle.table.specs.Theorems.Holding.{flat_append, low_of, high-of}
use Rattle.reader.specs.Step.{Wrote, WrotePriced}

sets-append : (xs ys t : List ℕ) (at : ℕ) → sets t at (xs ++ ys) ≡ sets (sets t at xs) (at + length xs) ys
sets-append [] ys t at = ap (λ (k : ℕ). sets t k ys) (sym (add-zero at))
sets-append (x ∷ xs) ys t at =
    let further : suc at + length xs ≡ at + suc (length xs) = omega arith in
    sets-append xs ys (set t at x) (suc at) ∙ ap (λ (k : ℕ). sets (sets (set t at x) (suc at) xs) k ys) further

-- A part behind a part.
pub wrote_then : {a b at : ℕ} {t t' t'' xs ys : List ℕ} → Wrote a t at t' xs → Wrote b t' (at + a) t'' ys → Wrote (a + b) t at t'' (xs ++ ys)
wrote_then {at = at} {t = t} {xs = xs} {ys = ys} v w = record {
  is = w.is ∙ ap₂ (λ (u : List ℕ) (k : ℕ). sets u (at + k) ys) v.is (sym v.long) ∙ sym (sets-append xs ys t at);
  long = omega (arith, length-append xs ys, v.long, w.long);
}

flat-one : {A : Type 0} (g : A → List ℕ) (l : List A) (a : A) → flat (map g (l ++ a ∷ [])) ≡ flat (map g l) ++ g a
flat-one g l a = ap flat (map-append g l (a ∷ [])) ∙ flat_append (map g l) (g a ∷ []) ∙ ap (λ (k : List ℕ). flat (map g l) ++ k) (append-nil (g a))

-- One record more.
pub wrote-more : {A : Type 0} (g : A → List ℕ) (k i : ℕ) {at : ℕ} {t t' t'' : List ℕ} (a : A) (l : List A) →
    Wrote k t' (at + k * i) t'' (g a) → Wrote (k * i) t at t' (flat (map g l)) → Wrote (k * (i + 1)) t at t'' (flat (map g (l ++ a ∷ [])))
wrote-more g k i a l w v =
    let wide : k * i + k ≡ k * (i + 1) = omega (arith, mul-add k i 1) in
    rw (flat-one g l a, ← wide) (wrote_then v w)

-- Nothing was written yet.
pub wrote_none : (t : List ℕ) (at : ℕ) → Wrote 0 t at t []
wrote_none t at = record { is = refl; long = refl }

-- One byte more.
pub wrote-byte : {at i v b : ℕ} {t t' l : List ℕ} → v ≡ b → Wrote i t at t' l → Wrote (i + 1) t at (set t' (at + i) v) (l ++ b ∷ [])
wrote-byte {at} {i} {t' = t'} e w = wrote_then w (record { is = ap (λ (x : ℕ). set t' (at + i) x) e; long = refl })

-- Two bytes.
pub wrote-two : (t : List ℕ) (at : ℕ) {v w x y : ℕ} → v ≡ x → w ≡ y → Wrote 2 t at (set (set t at v) (at + 1) w) (x ∷ y ∷ [])
wrote-two t at e f = record { is = rw (add-one at, e, f); long = refl }

-- A byte below those that are written.
set-sets : (t ys : List ℕ) (j k z : ℕ) → j < k → set (sets t k ys) j z ≡ sets (set t j z) k ys
set-sets t [] j k z h = refl
set-sets t (y ∷ ys) j k z h =
    set-sets (set t k y) ys j (suc k) z (omega arith)
    ∙ ap (λ (u : List ℕ). sets u (suc k) ys) (set_comm t k j y z (λ e. omega arith))

-- A byte that is written over one of those.
pub wrote-over : {n at : ℕ} {t t' t'' : List ℕ} (xs : List ℕ) (y z : ℕ) (ys : List ℕ) → Wrote n t at t' (xs ++ y ∷ ys) → t'' ≡ set t' (at + length xs) z →
    Wrote n t at t'' (xs ++ z ∷ ys)
wrote-over {at = at} {t = t} xs y z ys w e =
    let k = at + length xs in
    let u = sets t at xs in
    record {
      is =
          e ∙ ap (λ (v : List ℕ). set v k z) (w.is ∙ sets-append xs (y ∷ ys) t at) ∙ set-sets (set u k y) ys k (suc k) z (omega arith)
          ∙ ap (λ (v : List ℕ). sets v (suc k) ys) (set-set u k y z) ∙ sym (sets-append xs (z ∷ ys) t at);
      long = omega (arith, length-append xs (y ∷ ys), length-append xs (z ∷ ys), w.long);
    }

-- The high byte of a mode record comes last.
pub wrote-mode : {at low : ℕ} (high : ℕ) {t t' t'' cs : List ℕ} → WrotePriced t at t' (low, cs) → t'' ≡ set t' (at + 1) high →
    Wrote 8 t at t'' (mode_bytes (record { rate = amount_of low high; conditions = cs }))
wrote-mode {low = low} high {cs = cs} w e =
    rw (low_of low high w.low, high-of low high w.low) (wrote-over (low ∷ []) 0 high cs w.wrote e)

-- The high byte of a move record comes last.
pub wrote-move : {at source target low : ℕ} (high reset : ℕ) {t t₁ t₂ t₃ t₄ cs : List ℕ} → Wrote 2 t at t₁ (source ∷ target ∷ []) →
    WrotePriced t₁ (at + 2) t₂ (low, cs) → Wrote 2 t₂ (at + 10) t₃ (reset % 8 ∷ 0 ∷ []) → t₄ ≡ set t₃ (at + 2 + 1) high →
    Wrote 12 t at t₄ (move_bytes (record { source = source; target = target; price = amount_of low high; conditions = cs; resets = reset % 8 }))
wrote-move {at} {source} {target} {low} high reset {t₃ = t₃} {cs = cs} ends w u e =
    let place : at + 2 + 1 ≡ at + 3 = omega arith in
    rw (low_of low high w.low, high-of low high w.low)
    (wrote-over (source ∷ target ∷ low ∷ []) 0 high (cs ++ reset % 8 ∷ 0 ∷ []) (wrote_then (wrote_then ends w.wrote) u)
    (e ∙ ap (λ (k : ℕ). set t₃ k high) place))
