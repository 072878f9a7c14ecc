-- Bytes and records that are put one behind another.
-- Assumes nothing.
use Rattle.std.specs.Prelude.{ℕ, zero, suc, ◌+◌, ◌*◌, ◌≤◌, ◌<◌, ◌≡◌, refl, List, [], ◌∷◌, ◌++◌, length, take, drop, set}
use Rattle.std.proofs.Common.{mul-zero, mul-suc, mul-add, add-one, arith, sym, ap, ◌∙◌, append_assoc, append-nil, length-set, take-suc-set, drop-drop, take_all}
use Rattle.table.specs.Held.{flat, records_from}
use Rattle.table.specs.Theorems.Holding.{flat_append}
use Rattle.form.specs.Appends.{Appends}

-- Nothing is put.
pub append-none : (t : List ℕ) (at : ℕ) → Appends t at [] t at
append-none t at = record { is = sym (append-nil (take at t)); long = refl }

-- One byte.
pub append-byte : (t : List ℕ) (at b : ℕ) → at < length t → Appends t at (b ∷ []) (set t at b) (at + 1)
append-byte t at b h = record { is = rw (add-one at) (take-suc-set t at b h); long = length-set t at b }

-- A part behind a part.
pub append-then : {t t' t'' xs ys : List ℕ} {at next next' : ℕ} → Appends t at xs t' next → Appends t' next ys t'' next' → Appends t at (xs ++ ys) t'' next'
append-then {t = t} {xs = xs} {ys = ys} {at = at} p q = record {
  is = q.is ∙ ap (λ (l : List ℕ). l ++ ys) p.is ∙ append_assoc (take at t) xs ys;
  long = q.long ∙ p.long;
}

-- All of an array is put.
pub append-whole : {t t' xs : List ℕ} {n : ℕ} → length t' ≤ n → Appends t 0 xs t' n → t' ≡ xs
append-whole {t' = t'} {n = n} h p = sym (take_all n t' h) ∙ p.is

-- One record more.
pub records-more : {A : Type 0} (one : List ℕ → A) (k i : ℕ) (u : List ℕ) → records_from one k (suc i) u ≡ records_from one k i u ++ one (drop (k * i) u) ∷ []
records-more one k zero u = ap (λ (j : ℕ). one (drop j u) ∷ []) (sym (mul-zero k))
records-more one k (suc i) u =
    let further : k + k * i ≡ k * suc i = omega (arith, mul-suc k i) in
    ap (λ (l : List _). one u ∷ l)
    (records-more one k i (drop k u)
    ∙ ap (λ (v : List ℕ). records_from one k i (drop k u) ++ one v ∷ []) (drop-drop (k * i) k u ∙ ap (λ (j : ℕ). drop j u) further))

pub flat-more : (l : List (List ℕ)) (xs : List ℕ) → flat (l ++ xs ∷ []) ≡ flat l ++ xs
flat-more l xs = flat_append l (xs ∷ []) ∙ ap (λ (k : List ℕ). flat l ++ k) (append-nil xs)

-- A record more of those that become parts of K bytes each.
pub append-record : {t t' t'' : List ℕ} {at : ℕ} (one : List ℕ → List ℕ) (k K i : ℕ) (u : List ℕ) →
    Appends t at (flat (records_from one k i u)) t' (at + K * i) → Appends t' (at + K * i) (one (drop (k * i) u)) t'' (at + K * i + K) →
    Appends t at (flat (records_from one k (i + 1) u)) t'' (at + K * (i + 1))
append-record {at = at} one k K i u p q =
    let next : at + K * i + K ≡ at + K * (i + 1) = omega (arith, mul-add K i 1) in
    let more : flat (records_from one k i u) ++ one (drop (k * i) u) ≡ flat (records_from one k (i + 1) u) =
    sym (rw (add-one i) (ap flat (records-more one k i u) ∙ flat-more (records_from one k i u) (one (drop (k * i) u)))) in
    rw (← next, ← more) (append-then p q)
