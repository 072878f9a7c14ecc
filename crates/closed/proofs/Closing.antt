-- Conditions other than < and >: condition bytes, rows of them, and the rows of a table's records.
-- Assumes nothing.
use mathlib.Core.Path.{◌≡◌, refl, sym, ap, ap₂, ◌∙◌}
use mathlib.Core.Bool.{Bool, true, false, cond, ◌&&◌, and-true}
use mathlib.Core.List.{List, [], ◌∷◌, ◌++◌, map}
use Prim.Native.Nat.{ℕ, zero, suc, ◌+◌, ◌/◌, ◌≤◌, ◌<◌, min}
use native.Mathlib.Omega.{arith}
use lib.Dec.{eqb}
use lib.ListN.{length, length-drop, get_or, take, drop}
use lib.Seq.{drop-drop, drop-nil, take_all}
use Rattle.std.specs.List.{list_all}
use Rattle.std.specs.declared.slice.Chunks.{Chunks}
use Rattle.std.specs.declared.iter.Take.{Take}
use Rattle.std.specs.Slice.Iter.{chunks_rest, chunks_size, chunks_steps}
use Rattle.std.specs.Iterator.Adapters.{take_source, take_count, take_steps}
use Rattle.std.proofs.lemmas.List.{take-take}
use Rattle.std.proofs.lemmas.Iterator.{YieldsList}
use Rattle.std.proofs.lemmas.Iterator.Splits.{YieldsList-from_shown_while}
use Rattle.semantics.specs.Closed.{is_closed, all_closed, modes_closed, moves_closed, closed_table}
use Rattle.table.specs.Meaning.{comparison_of, conditions_from, mode_of, move_of}
use Rattle.table.specs.Held.{mode_from, move_from, records_from, fields_of, automaton_of, IsTable}
use Rattle.table.specs.Theorems.Access.{table-length, mode-count, move-count}
use Rattle.closed.specs.Closed.{rows_closed}

-- A condition byte, or 0 for none, is closed.
abbrev byte_closed : ℕ → Bool
byte_closed b = cond (eqb b 0) true (is_closed (comparison_of (b / 16)))

-- A row is closed if each byte of it is.
row_cons : (place b : ℕ) (bs : List ℕ) → all_closed (conditions_from place (b ∷ bs)) ≡ byte_closed b && all_closed (conditions_from (suc place) bs)
row_cons place b bs = go (eqb b 0) refl
  where
    go : (t : Bool) → eqb b 0 ≡ t → all_closed (conditions_from place (b ∷ bs)) ≡ byte_closed b && all_closed (conditions_from (suc place) bs)
    go true e = rw e
    go false e = rw e

row_one : (b : ℕ) → all_closed (conditions_from 0 (b ∷ [])) ≡ byte_closed b
row_one b = row_cons 0 b [] ∙ and-true (byte_closed b)

pub row-each : (place : ℕ) (bs : List ℕ) → list_all (λ b. all_closed (conditions_from 0 (b ∷ []))) bs ≡ all_closed (conditions_from place bs)
row-each place [] = refl
row-each place (b ∷ bs) = ap₂ (λ (s t : Bool). s && t) (row_one b) (row-each (suc place) bs) ∙ sym (row_cons place b bs)

-- The row with which the bytes begin.
abbrev pub row_closed : List ℕ → Bool
row_closed t = all_closed (conditions_from 0 (take 6 t))

-- The first so many pieces of so many bytes each; the last one may be short.
abbrev pub pieces : ℕ → ℕ → List ℕ → List (List ℕ)
pieces k zero l = []
pieces k (suc n) [] = []
pieces k (suc n) (x ∷ l) = take k (x ∷ l) ∷ pieces k n (drop k (x ∷ l))

-- The pieces are the rows.
module _ (k : ℕ) (long : 6 ≤ k) where
  none_left : (n : ℕ) → rows_closed k n [] ≡ true
  none_left zero = refl
  none_left (suc n) = ap (rows_closed k n) (drop-nil k) ∙ none_left n

  pub rows-each : (n : ℕ) (l : List ℕ) → list_all row_closed (pieces k n l) ≡ rows_closed k n l
  rows-each zero l = refl
  rows-each (suc n) [] = sym (none_left (suc n))
  rows-each (suc n) (x ∷ l) =
      ap₂ (λ (s t : Bool). s && t) (ap (λ (m : List ℕ). all_closed (conditions_from 0 m)) (take-take 6 k (x ∷ l) long)) (rows-each n (drop k (x ∷ l)))

-- A piece that comes off the front.
piece-off : (k : ℕ) (x r : List ℕ) → length x ≡ min k (length (x ++ r)) → (take k (x ++ r) ≡ x) × (drop k (x ++ r) ≡ r)
piece-off zero [] r e = (refl, refl)
piece-off zero (a ∷ x) r e = absurd (omega arith)
piece-off (suc k) [] [] e = (refl, refl)
piece-off (suc k) [] (b ∷ r) e = absurd (omega arith)
piece-off (suc k) (a ∷ x) r e = let i = piece-off k x r (omega arith) in (ap (λ (l : List ℕ). a ∷ l) i.0, i.1)

pieces-off : (k n m : ℕ) (l x r : List ℕ) → m + 1 ≡ n → l ≡ x ++ r → length x ≡ min k (length l) → 0 < length l → pieces k n l ≡ x ∷ pieces k m r
pieces-off k zero m l x r h e f g = absurd (omega arith)
pieces-off k (suc n) m [] x r h e f g = absurd (omega arith)
pieces-off k (suc n) m (a ∷ l) x r h e f g =
    let same : n ≡ m = omega arith in
    let i = piece-off k x r (f ∙ ap (λ (u : List ℕ). min k (length u)) e) in
    ap₂ (λ (u : List ℕ) (v : List (List ℕ)). u ∷ v) (ap (take k) e ∙ i.0) (ap₂ (pieces k) same (ap (drop k) e ∙ i.1))

pieces-none : (k n : ℕ) (l : List ℕ) → (0 < n → length l ≡ 0) → length (pieces k n l) ≡ 0
pieces-none k zero l h = refl
pieces-none k (suc n) [] h = refl
pieces-none k (suc n) (a ∷ l) h = absurd (omega (arith, h (omega arith)))

-- What `chunks` and `take` give.
pub yields-pieces : {s : Take (Chunks ℕ)} (k n : ℕ) (l : List ℕ) → chunks_size (take_source s) ≡ k → take_count s ≡ n → chunks_rest (take_source s) ≡ l →
    YieldsList (take_steps chunks_steps) (λ x. x.now) s (pieces k n l)
yields-pieces {s} k n l e f g =
    rw (← f, ← g)
    (YieldsList-from_shown_while (take_steps chunks_steps) (λ x. x.now) (λ t. pieces k (take_count t) (chunks_rest (take_source t))) (λ t. chunks_size (take_source t) ≡ k)
    (λ t u h p. pieces-none k (take_count t) (chunks_rest (take_source t)) (λ l. (p l).1.0))
    (λ t x u h p. (
      p.0.0 ∙ h,
      pieces-off k (take_count t) (take_count u) (chunks_rest (take_source t)) x.now (chunks_rest (take_source u)) p.1 p.0.1.0
          (p.0.1.1 ∙ ap (λ (n : ℕ). min n (length (chunks_rest (take_source t)))) h) p.0.1.2,
    ))
    s e)

-- The conditions of a mode record stand from its byte 2 on, those of a move record from 4 on.
modes-rows : (n : ℕ) (t : List ℕ) → modes_closed (map mode_of (records_from mode_from 8 n t)) ≡ rows_closed 8 n (drop 2 t)
modes-rows zero t = refl
modes-rows (suc n) t =
    ap (λ (b : Bool). row_closed (drop 2 t) && b)
    (modes-rows n (drop 8 t) ∙ ap (rows_closed 8 n) (drop-drop 2 8 t ∙ sym (drop-drop 8 2 t)))

moves-rows : (n : ℕ) (t : List ℕ) → moves_closed (map move_of (records_from move_from 12 n t)) ≡ rows_closed 12 n (drop 4 t)
moves-rows zero t = refl
moves-rows (suc n) t =
    ap (λ (b : Bool). row_closed (drop 4 t) && b)
    (moves-rows n (drop 12 t) ∙ ap (rows_closed 12 n) (drop-drop 4 12 t ∙ sym (drop-drop 12 4 t)))

module _ (t : List ℕ) where
  modes-there : modes_closed (automaton_of t).modes ≡ rows_closed 8 (get_or t 0 0) (drop 10 t)
  unfolding fields_of
  modes-there = modes-rows (get_or t 0 0) (drop 8 t) ∙ ap (rows_closed 8 (get_or t 0 0)) (drop-drop 2 8 t)

  moves-there : moves_closed (automaton_of t).moves ≡ rows_closed 12 (get_or t 2 0) (drop 140 t)
  unfolding fields_of
  moves-there = moves-rows (get_or t 2 0) (drop 136 t) ∙ ap (rows_closed 12 (get_or t 2 0)) (drop-drop 4 136 t)

module _ (t : List ℕ) (h : IsTable t) where
  -- The bytes from a place on, to the end of the table.
  from-on : (k n : ℕ) → k + n ≡ 904 → take n (drop k t) ≡ drop k t
  from-on k n e = take_all n (drop k t) (omega (arith, length-drop k t, table-length t h))

  -- The two tests of the code.
  module _ (modes : ℕ) (own : modes ≡ length (automaton_of t).modes) (first : Bool) (tested : first ≡ rows_closed 8 modes (take 894 (drop 10 t))) where
    modes-tested : modes_closed (automaton_of t).modes ≡ first
    modes-tested = modes-there t ∙ ap (λ (n : ℕ). rows_closed 8 n (drop 10 t)) (mode-count t h ∙ sym own) ∙ ap (rows_closed 8 modes) (sym (from-on 10 894 refl)) ∙ sym tested

    pub modes-not : first ≡ false → false ≡ closed_table (automaton_of t)
    unfolding closed_table
    modes-not e = sym (ap (λ (b : Bool). b && moves_closed (automaton_of t).moves) (modes-tested ∙ e))

    pub then-moves :
        first ≡ true → (moves : ℕ) → moves ≡ length (automaton_of t).moves → (r : Bool) → r ≡ rows_closed 12 moves (take 764 (drop 140 t))
        → r ≡ closed_table (automaton_of t)
    unfolding closed_table
    then-moves e moves all r is =
        let rest : moves_closed (automaton_of t).moves ≡ r =
        moves-there t ∙ ap (λ (n : ℕ). rows_closed 12 n (drop 140 t)) (move-count t h ∙ sym all) ∙ ap (rows_closed 12 moves) (sym (from-on 140 764 refl)) ∙ sym is in
        sym (ap₂ (λ (a b : Bool). a && b) (modes-tested ∙ e) rest)
