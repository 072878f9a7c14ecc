-- What every part of a row has.
-- Assumes nothing.
use Rattle.std.specs.Prelude.{ℕ, suc}
use Rattle.std.proofs.Common.{inl, inr}
use mathlib.Core.List.Memᴰ
use mathlib.Core.List.{List, [], ◌∷◌, ◌++◌, Memᴰ}
use Rattle.reader.specs.Layout.{InRow, none, more}

-- D holds of every byte of the list.
abbrev pub AllIn : (ℕ → Type 0) → List ℕ → Type 0
AllIn D xs = (b : ℕ) → Memᴰ b xs → D b

pub mem-front : (b : ℕ) (xs ys : List ℕ) → Memᴰ b xs → Memᴰ b (xs ++ ys)
mem-front b [] ys m = absurd (Memᴰ.not-nil m)
mem-front b (x ∷ xs) ys m = elim (Memᴰ.cases_cons m) [ inl e ↦ Memᴰ.head e | inr k ↦ Memᴰ.tail (mem-front b xs ys k) ]

pub mem-back : (b : ℕ) (xs ys : List ℕ) → Memᴰ b ys → Memᴰ b (xs ++ ys)
mem-back b [] ys m = m
mem-back b (x ∷ xs) ys m = Memᴰ.tail (mem-back b xs ys m)

-- What each part has by its layout and its bytes, every part has.
pub row-every : {A : Type 0} {R : ℕ → List ℕ → A → Type 0} (D : ℕ → Type 0) (P : A → Type 0) → ((i : ℕ) (xs : List ℕ) (a : A) → AllIn D xs → R i xs a → P a) →
    (i : ℕ) (xs : List ℕ) (l : List A) → AllIn D xs → InRow R i xs l → (a : A) → Memᴰ a l → P a
row-every D P h i xs l s none = λ a m. absurd (Memᴰ.not-nil m)
row-every D P h i xs l s (more {xs = front} {ys = back} {a = first} {l = rest} r k) = λ a m. elim (Memᴰ.cases_cons m) [
  | inl e ↦ rw e (h i front first (λ b q. s b (mem-front b front back q)) r)
  | inr q ↦ row-every D P h (suc i) back rest (λ b q. s b (mem-back b front back q)) k a q
]

-- The same by the layout alone.
pub row-all : {A : Type 0} {R : ℕ → List ℕ → A → Type 0} (P : A → Type 0) → ((i : ℕ) (xs : List ℕ) (a : A) → R i xs a → P a) →
    (i : ℕ) (xs : List ℕ) (l : List A) → InRow R i xs l → (a : A) → Memᴰ a l → P a
row-all P h i xs l k = row-every (λ b. Unit {0}) P (λ i xs a s. h i xs a) i xs l (λ b m. tt) k
