-- What the bytes of a table say of its automaton: its counts, a mode and a move by their numbers.
-- Assumes nothing.
use Rattle.std.specs.Prelude.{ℕ, zero, suc, ◌+◌, ◌*◌, ◌-◌, ◌≤◌, ◌<◌, ◌≡◌, length, take, drop, replicate}
use Rattle.std.proofs.Common.{add-zero, mul-zero, mul-suc, arith, ap₂, ◌∙◌, inl, inr, get_or-drop, drop-drop}
use Rattle.std.proofs.Math.Path.{refl, sym, ap}
use mathlib.Core.List.Memᴰ
use mathlib.Core.List.{List, [], ◌∷◌, ◌++◌, map, Memᴰ}
use Rattle.std.proofs.Math.ListN.{get_or, get_or-map}
use Rattle.std.proofs.lemmas.List.{length-map}
use Rattle.semantics.specs.Condition.{hold_at_zero}
use Rattle.semantics.specs.Automata.Proper.{Proper}
use Rattle.semantics.specs.Automaton.{Mode, Move, timers, mode_at, move_at, start_holds}
use Rattle.semantics.specs.Graph.CornerGraph.{PricesWithin}
use Rattle.semantics.specs.Corners.Lists.{mem-get_or}
use Rattle.semantics.specs.Regions.Lists.{replicate-zero}
use Rattle.table.specs.Fields.{most_price, MoveFields, Fields}
use Rattle.table.specs.Meaning.{conditions_from, mode_of, move_of, automaton}
use Rattle.table.specs.Held.{pad, held, mode_from, move_from, records_from, fields_of, automaton_of, mode_fields_at, move_fields_at, InRange, IsTable}
use Rattle.table.specs.Theorems.Holding.{range-shaped, held-length}

-- What f gives of every element, every element of the mapped list has.
pub map-all : {A B : Type 0} (f : A → B) (P : B → Type 0) (l : List A) → ((a : A) → Memᴰ a l → P (f a)) → (b : B) → Memᴰ b (map f l) → P b
map-all f P [] h b m = absurd (Memᴰ.not-nil m)
map-all f P (a ∷ l) h b m = elim (Memᴰ.cases_cons m) [
  | inl e ↦ rw e (h a (Memᴰ.head refl))
  | inr q ↦ map-all f P l (λ c k. h c (Memᴰ.tail k)) b q
]

-- What is read from an array with 0 behind its list.
get_or-zeros : (l : List ℕ) (k i : ℕ) → get_or (l ++ replicate k 0) i 0 ≡ get_or l i 0
get_or-zeros [] k i = replicate-zero k i
get_or-zeros (x ∷ l) k zero = refl
get_or-zeros (x ∷ l) k (suc i) = get_or-zeros l k i

pub get_or-pad : (n : ℕ) (l : List ℕ) (i : ℕ) → get_or (pad n l) i 0 ≡ get_or l i 0
get_or-pad n l i = get_or-zeros l (n - length l) i

-- The first three entries of an array of four with at most three in use.
first_three :
    (l m : List ℕ) → length l ≤ 3 → (get_or (pad 4 l ++ m) 0 0 ∷ get_or (pad 4 l ++ m) 1 0 ∷ get_or (pad 4 l ++ m) 2 0 ∷ []) ≡ pad 3 l
first_three [] m h = refl
first_three (x ∷ []) m h = refl
first_three (x ∷ y ∷ []) m h = refl
first_three (x ∷ y ∷ z ∷ []) m h = refl
first_three (x ∷ y ∷ z ∷ u ∷ l) m h = absurd (omega arith)

-- What every entry of a list has, and 0, is had by whatever is read from the list.
pub get_or-all : (D : ℕ → Type 0) (l : List ℕ) → ((c : ℕ) → Memᴰ c l → D c) → D 0 → (i : ℕ) → D (get_or l i 0)
get_or-all D [] h z i = z
get_or-all D (c ∷ l) h z zero = h c (Memᴰ.head refl)
get_or-all D (c ∷ l) h z (suc i) = get_or-all D l (λ d m. h d (Memᴰ.tail m)) z i

-- The record of a number.
pub record-at : {A : Type 0} (one : List ℕ → A) (k n : ℕ) (t : List ℕ) (d : A) (i : ℕ) → i < n → get_or (records_from one k n t) i d ≡ one (drop (k * i) t)
record-at one k zero t d i h = absurd (omega arith)
record-at one k (suc n) t d zero h = ap (λ (j : ℕ). one (drop j t)) (sym (mul-zero k))
record-at one k (suc n) t d (suc i) h =
    let further : k + k * i ≡ k * suc i = omega (arith, mul-suc k i) in
    record-at one k n (drop k t) d i (omega arith) ∙ ap one (drop-drop (k * i) k t ∙ ap (λ (j : ℕ). drop j t) further)

pub record-count : {A : Type 0} (one : List ℕ → A) (k n : ℕ) (t : List ℕ) → length (records_from one k n t) ≡ n
record-count one k zero t = refl
record-count one k (suc n) t = ap suc (record-count one k n (drop k t))

-- The fields of a mode and of a move by their numbers, and the mode and the move.
module _ (t : List ℕ) where
  pub mode-fields-at : (m : ℕ) → m < get_or t 0 0 → mode_fields_at (fields_of t) m ≡ mode_from (drop (8 + 8 * m) t)
  unfolding fields_of
  mode-fields-at m h = record-at mode_from 8 (get_or t 0 0) (drop 8 t) _ m h ∙ ap mode_from (drop-drop (8 * m) 8 t)

  pub move-fields-at : (e : ℕ) → e < get_or t 2 0 → move_fields_at (fields_of t) e ≡ move_from (drop (136 + 12 * e) t)
  unfolding fields_of
  move-fields-at e h = record-at move_from 12 (get_or t 2 0) (drop 136 t) _ e h ∙ ap move_from (drop-drop (12 * e) 136 t)

pub mode-of-fields : (f : Fields) (m : ℕ) → mode_at (automaton f) m ≡ mode_of (mode_fields_at f m)
mode-of-fields f m = get_or-map mode_of f.modes m _

pub move-of-fields : (f : Fields) (e : ℕ) → move_at (automaton f) e ≡ move_of (move_fields_at f e)
move-of-fields f e = get_or-map move_of f.moves e _

module _ (t : List ℕ) where
  pub mode-at : (m : ℕ) → m < get_or t 0 0 → mode_at (automaton_of t) m ≡ mode_of (mode_from (drop (8 + 8 * m) t))
  mode-at m h = mode-of-fields (fields_of t) m ∙ ap mode_of (mode-fields-at t m h)

  pub move-at : (e : ℕ) → e < get_or t 2 0 → move_at (automaton_of t) e ≡ move_of (move_from (drop (136 + 12 * e) t))
  move-at e h = move-of-fields (fields_of t) e ∙ ap move_of (move-fields-at t e h)

  -- Mode 0's conditions.
  pub start-at : 0 < get_or t 0 0 → start_holds (automaton_of t) ≡ hold_at_zero (conditions_from 0 (take 6 (drop 10 t)))
  start-at h =
      ap (λ (m : Mode). hold_at_zero m.conditions) (mode-at 0 h)
      ∙ ap (λ (l : List ℕ). hold_at_zero (conditions_from 0 (take 6 l))) (drop-drop 2 8 t)

-- Prices and rates are within the bound.
pub range-within : (f : Fields) → InRange f → PricesWithin (automaton f) most_price
range-within f h = record {
  rates = map-all mode_of (λ o. o.rate ≤ most_price) f.modes h.rates-range;
  prices = map-all move_of (λ e. e.price ≤ most_price) f.moves h.prices-range;
}

module _ (t : List ℕ) (h : IsTable t) where
  pub table-proper : Proper (automaton_of t)
  table-proper = h.range.proper

  pub table-length : length t ≡ 904
  table-length = ap length h.holds ∙ held-length (fields_of t) (range-shaped (fields_of t) h.range)

  -- The counts and the goal.
  pub mode-count : get_or t 0 0 ≡ length (automaton_of t).modes
  unfolding held
  mode-count = ap (λ (u : List ℕ). get_or u 0 0) h.holds ∙ sym (length-map (fields_of t).modes mode_of)

  pub timer-count : get_or t 1 0 ≡ timers (automaton_of t)
  unfolding held
  timer-count = ap (λ (u : List ℕ). get_or u 1 0) h.holds

  pub move-count : get_or t 2 0 ≡ length (automaton_of t).moves
  unfolding held
  move-count = ap (λ (u : List ℕ). get_or u 2 0) h.holds ∙ sym (length-map (fields_of t).moves move_of)

  pub goal-is : get_or t 3 0 ≡ (automaton_of t).goal
  unfolding fields_of
  goal-is = refl

  pub counts : (1 ≤ get_or t 0 0) × (get_or t 0 0 ≤ 16) × (1 ≤ get_or t 1 0) × (get_or t 1 0 ≤ 3) × (get_or t 2 0 ≤ 64) × (get_or t 3 0 < get_or t 0 0)
  counts =
      omega (
        arith,
        mode-count,
        timer-count,
        move-count,
        goal-is,
        length-map (fields_of t).modes mode_of,
        length-map (fields_of t).moves move_of,
        h.range.modes-range,
        h.range.timers-range,
        h.range.moves-range,
        table-proper.goal-there,
      )

  pub ceilings-are : (automaton_of t).ceilings ≡ take (get_or t 1 0) (drop 4 t)
  unfolding fields_of
  ceilings-are = refl

  -- The bytes of all ceilings.
  pub ceilings-held : (get_or t 4 0 ∷ get_or t 5 0 ∷ get_or t 6 0 ∷ []) ≡ pad 3 (automaton_of t).ceilings
  unfolding held
  ceilings-held =
      ap (λ (u : List ℕ). get_or u 4 0 ∷ get_or u 5 0 ∷ get_or u 6 0 ∷ []) h.holds ∙ first_three (fields_of t).ceilings _ h.range.timers-range.1

  pub amounts-within : PricesWithin (automaton_of t) most_price
  amounts-within = range-within (fields_of t) h.range

  -- A byte and two bytes of a record that begins at k.
  byte_at : (k j : ℕ) → get_or (drop k t) j 0 ≡ get_or t (k + j) 0
  byte_at k j = get_or-drop k t j 0

  first-at : (k : ℕ) → get_or (drop k t) 0 0 ≡ get_or t k 0
  first-at k = byte_at k 0 ∙ ap (λ (j : ℕ). get_or t j 0) (add-zero k)

  -- A mode by its number.
  module _ (m : ℕ) (k : m < length (automaton_of t).modes) where
    mode-there : m < get_or t 0 0
    mode-there = omega (arith, mode-count)

    pub rate-at : (mode_at (automaton_of t) m).rate ≡ get_or t (8 + 8 * m) 0 + 256 * get_or t (8 + 8 * m + 1) 0
    rate-at =
        ap (λ (o : Mode). o.rate) (mode-at t m mode-there)
        ∙ ap₂ (λ (a b : ℕ). a + 256 * b) (first-at (8 + 8 * m)) (byte_at (8 + 8 * m) 1)

    pub rate-within : (mode_at (automaton_of t) m).rate ≤ most_price
    rate-within = amounts-within.rates _ (mem-get_or (automaton_of t).modes m _ k)

  -- A move by its number. The modes that it names are there.
  module _ (e : ℕ) (k : e < length (automaton_of t).moves) where
    move-there : e < get_or t 2 0
    move-there = omega (arith, move-count)

    pub source-at : (move_at (automaton_of t) e).source ≡ get_or t (136 + 12 * e) 0
    source-at = ap (λ (o : Move). o.source) (move-at t e move-there) ∙ first-at (136 + 12 * e)

    pub target_at : (move_at (automaton_of t) e).target ≡ get_or t (136 + 12 * e + 1) 0
    target_at = ap (λ (o : Move). o.target) (move-at t e move-there) ∙ byte_at (136 + 12 * e) 1

    pub price-at : (move_at (automaton_of t) e).price ≡ get_or t (136 + 12 * e + 2) 0 + 256 * get_or t (136 + 12 * e + 2 + 1) 0
    price-at =
        let next : 136 + 12 * e + 3 ≡ 136 + 12 * e + 2 + 1 = omega arith in
        ap (λ (o : Move). o.price) (move-at t e move-there)
        ∙ ap₂ (λ (a b : ℕ). a + 256 * b) (byte_at (136 + 12 * e) 2) (byte_at (136 + 12 * e) 3 ∙ ap (λ (j : ℕ). get_or t j 0) next)

    pub resets-at : (move_fields_at (fields_of t) e).resets ≡ get_or t (136 + 12 * e + 10) 0
    resets-at = ap (λ (o : MoveFields). o.resets) (move-fields-at t e move-there) ∙ byte_at (136 + 12 * e) 10

    named-move : Memᴰ (move_at (automaton_of t) e) (automaton_of t).moves
    named-move = mem-get_or (automaton_of t).moves e _ k

    pub source-below : (move_at (automaton_of t) e).source < length (automaton_of t).modes
    source-below = table-proper.source-there _ named-move

    pub target_below : (move_at (automaton_of t) e).target < length (automaton_of t).modes
    target_below = table-proper.target-there _ named-move

    pub price-within : (move_at (automaton_of t) e).price ≤ most_price
    price-within = amounts-within.prices _ named-move
