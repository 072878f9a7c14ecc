-- A table has at most 919 bytes, and its prices and rates are at most 65,535.
-- Assumes nothing.
use Rattle.std.specs.Prelude.{ℕ, suc, ◌*◌, ◌≤◌, ◌<◌, ◌≡◌, refl, Bool, length, get_or}
use Rattle.std.proofs.Common.{suc-mul, arith, ap, inl, inr, length-append}
use mathlib.Core.List.Memᴰ
use mathlib.Core.List.{List, [], ◌∷◌, ◌++◌, Memᴰ}
use Rattle.table.specs.Fields.{most_price, ModeFields, MoveFields, Fields}
use Rattle.reader.specs.Format.{longest}
use Rattle.reader.specs.Layout.{Optional, present, absent, InRow, none, more, ModeLayout, MoveLayout, Layout}
use Rattle.reader.specs.Read.{accepted, read}
use Rattle.reader.specs.Theorems.Accepts.{accepts}
use Rattle.reader.specs.Theorems.Rows.{AllIn, mem-front, mem-back, row-every}

optional-short : {Good : ℕ → Type 0} {t : Bool} (xs : List ℕ) (b : ℕ) → Optional Good t xs b → length xs ≤ 1
optional-short xs b (present g) = omega arith
optional-short xs b absent = omega arith

-- A row of parts that have at most k bytes each.
row-short : {A : Type 0} {R : ℕ → List ℕ → A → Type 0} (k : ℕ) → ((i : ℕ) (xs : List ℕ) (a : A) → R i xs a → length xs ≤ k) →
    (i : ℕ) (xs : List ℕ) (l : List A) → InRow R i xs l → length xs ≤ length l * k
row-short k h i xs l none = omega arith
row-short k h i xs l (more {xs = front} {ys = back} {a = a} {l = rest} r t) =
    omega (arith, length-append front back, h i front a r, row-short k h (suc i) back rest t, suc-mul (length rest) k)

mode-short : (n : ℕ) (xs : List ℕ) (f : ModeFields) → ModeLayout n xs f → length xs ≤ 9
mode-short n xs f k =
    omega (
      arith,
      ap length k.split,
      length-append k.low-bytes (k.condition-bytes ++ k.high-bytes),
      length-append k.condition-bytes k.high-bytes,
      optional-short k.low-bytes k.low k.has-low,
      row-short 1 (λ i. optional-short) 1 k.condition-bytes f.conditions k.conditions.row,
      k.conditions.six,
      optional-short k.high-bytes k.high k.has-high,
    )

move-short : (m n : ℕ) (xs : List ℕ) (f : MoveFields) → MoveLayout m n xs f → length xs ≤ 12
move-short m n xs f k =
    omega (
      arith,
      ap length k.split,
      length-append k.low-bytes (k.condition-bytes ++ (k.reset-bytes ++ k.high-bytes)),
      length-append k.condition-bytes (k.reset-bytes ++ k.high-bytes),
      length-append k.reset-bytes k.high-bytes,
      optional-short k.low-bytes k.low k.has-low,
      row-short 1 (λ i. optional-short) 1 k.condition-bytes f.conditions k.conditions.row,
      k.conditions.six,
      optional-short k.reset-bytes k.reset k.has-reset,
      optional-short k.high-bytes k.high k.has-high,
    )

-- "the longest table has 919 bytes".
pub layout-short : (bytes : List ℕ) (f : Fields) → Layout bytes f → length bytes ≤ longest
layout-short bytes f k =
    omega (
      arith,
      ap length k.split,
      length-append f.ceilings (k.mode-bytes ++ k.move-bytes),
      length-append k.mode-bytes k.move-bytes,
      row-short 9 (λ i. mode-short (length f.ceilings)) 0 k.mode-bytes f.modes k.modes,
      row-short 12 (λ i. move-short (length f.modes) (length f.ceilings)) 0 k.move-bytes f.moves k.moves,
      k.modes-range,
      k.timers-range,
      k.moves-range,
    )

pub accepted-short : (bytes : List ℕ) (f : Fields) → read bytes ≡ accepted f → length bytes ≤ longest
accepted-short bytes f e = layout-short bytes f ((accepts bytes f).0 e).0

abbrev Bytes : List ℕ → Type 0
Bytes = AllIn (λ b. b < 256)

optional-byte : {Good : ℕ → Type 0} {t : Bool} (xs : List ℕ) (b : ℕ) → Bytes xs → Optional Good t xs b → b < 256
optional-byte xs b h (present g) = h b (Memᴰ.head refl)
optional-byte xs b h absent = omega arith

-- The first part of some bytes, and the others.
bytes-front : (xs ys : List ℕ) → Bytes (xs ++ ys) → Bytes xs
bytes-front xs ys h b m = h b (mem-front b xs ys m)

bytes_back : (xs ys : List ℕ) → Bytes (xs ++ ys) → Bytes ys
bytes_back xs ys h b m = h b (mem-back b xs ys m)

mode-bound : (n : ℕ) (xs : List ℕ) (f : ModeFields) → Bytes xs → ModeLayout n xs f → f.rate ≤ most_price
mode-bound n xs f h k =
    let behind = k.condition-bytes ++ k.high-bytes in
    let all : Bytes (k.low-bytes ++ behind) = λ b m. h b (rw k.split (Memᴰ.tail m)) in
    omega (
      arith,
      k.rate,
      optional-byte k.low-bytes k.low (bytes-front k.low-bytes behind all) k.has-low,
      optional-byte k.high-bytes k.high (bytes_back k.condition-bytes k.high-bytes (bytes_back k.low-bytes behind all)) k.has-high,
    )

move-bound : (m n : ℕ) (xs : List ℕ) (f : MoveFields) → Bytes xs → MoveLayout m n xs f → f.price ≤ most_price
move-bound m n xs f h k =
    let last = k.reset-bytes ++ k.high-bytes in
    let behind = k.condition-bytes ++ last in
    let all : Bytes (k.low-bytes ++ behind) =
    λ b q. h b (rw k.split (Memᴰ.tail (Memᴰ.tail (Memᴰ.tail q)))) in
    omega (
      arith,
      k.price,
      optional-byte k.low-bytes k.low (bytes-front k.low-bytes behind all) k.has-low,
      optional-byte k.high-bytes k.high
          (bytes_back k.reset-bytes k.high-bytes (bytes_back k.condition-bytes last (bytes_back k.low-bytes behind all))) k.has-high,
    )

-- Rates and prices are at most 65,535.
pub record Bounded (f : Fields) : Type 0 where
  pub rates : (m : ModeFields) → Memᴰ m f.modes → m.rate ≤ most_price
  pub prices : (e : MoveFields) → Memᴰ e f.moves → e.price ≤ most_price

layout-bounded : (bytes : List ℕ) (f : Fields) → Bytes bytes → Layout bytes f → Bounded f
layout-bounded bytes f h k =
    let inside : Bytes (k.mode-bytes ++ k.move-bytes) =
    λ b m. h b (rw k.split (Memᴰ.tail (Memᴰ.tail (Memᴰ.tail (Memᴰ.tail
    (mem-back b f.ceilings (k.mode-bytes ++ k.move-bytes) m)))))) in
    record {
      rates = row-every (λ b. b < 256) (λ m. m.rate ≤ most_price) (λ i. mode-bound (length f.ceilings)) 0 k.mode-bytes f.modes
          (λ b m. inside b (mem-front b k.mode-bytes k.move-bytes m)) k.modes;
      prices = row-every (λ b. b < 256) (λ e. e.price ≤ most_price) (λ i. move-bound (length f.modes) (length f.ceilings)) 0 k.move-bytes f.moves
          (λ b m. inside b (mem-back b k.mode-bytes k.move-bytes m)) k.moves;
    }

mem-byte : (bytes : List ℕ) → ((i : ℕ) → get_or bytes i 0 < 256) → Bytes bytes
mem-byte [] h b m = absurd (Memᴰ.not-nil m)
mem-byte (x ∷ bytes) h b m = elim (Memᴰ.cases_cons m) [ inl e ↦ rw e (h 0) | inr k ↦ mem-byte bytes (λ i. h (suc i)) b k ]

pub accepted-bounded : (bytes : List ℕ) (f : Fields) → ((i : ℕ) → get_or bytes i 0 < 256) → read bytes ≡ accepted f → Bounded f
accepted-bounded bytes f h e = layout-bounded bytes f (mem-byte bytes h) ((accepts bytes f).0 e).0
