-- The windows of a move's target are joined to the move's own.
-- Assumes nothing.
use mathlib.Core.Path.{◌≡◌, refl, sym, ap, ◌∙◌}
use mathlib.Core.Bool.{Bool, true, false, cond}
use mathlib.Core.Logic.{◌≢◌}
use mathlib.Core.List.{List, [], ◌∷◌}
use Prim.Native.Nat.{ℕ, zero, suc, ◌+◌, ◌*◌, ◌≤◌, ◌<◌}
use native.Mathlib.Decide.{ℕ_discrete}
use native.Mathlib.Omega.{arith}
use lib.ListN.{length, get_or, set, length-set}
use lib.Seq.{get_or-set_same, get_or-set_other}
use Rattle.semantics.specs.Automaton.{Automaton, Move, move_at}
use Rattle.semantics.specs.Run.{among}
use Rattle.table.specs.Meaning.{stands, named_timers}
use Rattle.table.specs.Held.{automaton_of, fields_of, move_fields_at}
use Rattle.table.specs.Theorems.Access.{move-of-fields}
use Rattle.conditions.specs.Windows.{joined_low, joined_high}
use Rattle.rules.specs.Rules.{window_of, low_at, high_at}
use Rattle.rules.specs.Making.{Joins, JoinedRow, JoinedRows}

-- One timer after another.
module _ (resets row target : ℕ) (rs : List ℕ) where
  module _ (other : target < row) (inside : 6 * row + 6 ≤ length rs) (i : ℕ) (few : i < 3) (rs' : List ℕ) (w : JoinedRow resets row target i rs rs')
      (low high : ℕ) (low-is : low ≡ joined_low (stands resets i) (low_at rs' row i) (low_at rs' target i))
      (high_is : high ≡ joined_high (stands resets i) (high_at rs' row i) (low_at rs' target i) (high_at rs' target i)) where
    abbrev lowered : List ℕ
    lowered = set rs' (2 * (3 * row + i)) low

    abbrev next : List ℕ
    next = set lowered (2 * (3 * row + i) + 1) high

    low-now : low_at next row i ≡ low
    low-now =
        get_or-set_other lowered (2 * (3 * row + i) + 1) (2 * (3 * row + i)) high 0 (λ z. omega arith)
        ∙ get_or-set_same rs' (2 * (3 * row + i)) low 0 (omega (arith, w.size))

    high-now : high_at next row i ≡ high
    high-now =
        get_or-set_same lowered (2 * (3 * row + i) + 1) high 0 (omega (arith, w.size, length-set rs' (2 * (3 * row + i)) low))

    other-now : (j : ℕ) → j ≢ 2 * (3 * row + i) → j ≢ 2 * (3 * row + i) + 1 → get_or next j 0 ≡ get_or rs' j 0
    other-now j p q = get_or-set_other lowered (2 * (3 * row + i) + 1) j high 0 q ∙ get_or-set_other rs' (2 * (3 * row + i)) j low 0 p

    -- Neither the row from this timer on nor the target's was written before.
    own-low : low_at rs' row i ≡ low_at rs row i
    own-low = w.behind (2 * (3 * row + i)) (omega arith)

    own-high : high_at rs' row i ≡ high_at rs row i
    own-high = w.behind (2 * (3 * row + i) + 1) (omega arith)

    target-low : low_at rs' target i ≡ low_at rs target i
    target-low = w.before (2 * (3 * target + i)) (omega arith)

    target-high : high_at rs' target i ≡ high_at rs target i
    target-high = w.before (2 * (3 * target + i) + 1) (omega arith)

    low-at : (x : ℕ) → x < i + 1 → Dec (x ≡ i) → low_at next row x ≡ joined_low (stands resets x) (low_at rs row x) (low_at rs target x)
    low-at x l (yes o) = rw o (low-now ∙ low-is ∙ rw (own-low, target-low))
    low-at x l (no o) = other-now (2 * (3 * row + x)) (λ z. o (omega arith)) (λ z. omega arith) ∙ w.there.low x (omega arith)

    high-at :
        (x : ℕ) → x < i + 1 → Dec (x ≡ i)
        → high_at next row x ≡ joined_high (stands resets x) (high_at rs row x) (low_at rs target x) (high_at rs target x)
    high-at x l (yes o) = rw o (high-now ∙ high_is ∙ rw (own-high, target-low, target-high))
    high-at x l (no o) = other-now (2 * (3 * row + x) + 1) (λ z. omega arith) (λ z. o (omega arith)) ∙ w.there.high x (omega arith)

    joined-more : JoinedRow resets row target (i + 1) rs next
    joined-more = record {
      size = length-set lowered (2 * (3 * row + i) + 1) high ∙ length-set rs' (2 * (3 * row + i)) low ∙ w.size;
      there = record { low = λ x l. low-at x l (ℕ_discrete x i); high = λ x l. high-at x l (ℕ_discrete x i) };
      before = λ j l. other-now j (λ z. omega arith) (λ z. omega arith) ∙ w.before j l;
      behind = λ j l. other-now j (λ z. omega arith) (λ z. omega arith) ∙ w.behind j (omega arith);
    }

  -- By the numbers of the timer's two windows.
  pub row_more :
      target < row → 6 * row + 6 ≤ length rs → (i : ℕ) → i < 3 → (rs' : List ℕ) → JoinedRow resets row target i rs rs' → (low high at from : ℕ)
      → at ≡ window_of row i → from ≡ window_of target i → low ≡ joined_low (stands resets i) (get_or rs' (2 * at) 0) (get_or rs' (2 * from) 0)
      → high ≡ joined_high (stands resets i) (get_or rs' (2 * at + 1) 0) (get_or rs' (2 * from) 0) (get_or rs' (2 * from + 1) 0)
      → JoinedRow resets row target (i + 1) rs (set (set rs' (2 * at) low) (2 * at + 1) high)
  row_more other inside i few rs' w low high at from is from_is low-is high_is =
      rw is (joined-more other inside i few rs' w low high (rw (is, from_is) at low-is) (rw (is, from_is) at high_is))

-- A timer is among those that a byte names just if its bit stands.
abbrev bit_timers : Bool → Bool → Bool → List ℕ
bit_timers a b c =
    let last : List ℕ = cond c (2 ∷ []) [] in
    let high : List ℕ = cond b (1 ∷ last) last in
    cond a (0 ∷ high) high

bits : (a b c : Bool) → (among 0 (bit_timers a b c) ≡ a) × (among 1 (bit_timers a b c) ≡ b) × (among 2 (bit_timers a b c) ≡ c)
bits true true true = (refl, refl, refl)
bits true true false = (refl, refl, refl)
bits true false true = (refl, refl, refl)
bits true false false = (refl, refl, refl)
bits false true true = (refl, refl, refl)
bits false true false = (refl, refl, refl)
bits false false true = (refl, refl, refl)
bits false false false = (refl, refl, refl)

among-named : (byte x : ℕ) → x < 3 → among x (named_timers byte) ≡ stands byte x
among-named byte zero h = (bits (stands byte 0) (stands byte 1) (stands byte 2)).0
among-named byte (suc zero) h = (bits (stands byte 0) (stands byte 1) (stands byte 2)).1
among-named byte (suc (suc zero)) h = (bits (stands byte 0) (stands byte 1) (stands byte 2)).2
among-named byte (suc (suc (suc x))) h = absurd (omega arith)

-- The timers that the byte of move e names are those that it resets.
pub move-resets : (t : List ℕ) (e byte : ℕ) → byte ≡ (move_fields_at (fields_of t) e).resets → named_timers byte ≡ (move_at (automaton_of t) e).resets
move-resets t e byte is = ap named_timers is ∙ sym (ap (λ (m : Move). m.resets) (move-of-fields (fields_of t) e))

-- One move after another.
module _ (a : Automaton) (rs : List ℕ) where
  module _ (e : ℕ) (rs' rs'' : List ℕ) (w : JoinedRows a e rs rs') (byte target : ℕ) (names : named_timers byte ≡ (move_at a e).resets)
      (leads : target ≡ (move_at a e).target) (few : target < 16) (row : JoinedRow byte (16 + e) target 3 rs' rs'') where
    -- The move's row and its target's were as in rs.
    joins : Joins (λ x. among x (move_at a e).resets) (16 + e) (move_at a e).target 3 rs rs''
    joins = record {
      low = λ x l.
          row.there.low x l
          ∙ rw (
            sym (among-named byte x l),
            names,
            w.behind (2 * (3 * (16 + e) + x)) (omega arith),
            w.before (2 * (3 * target + x)) (omega arith),
            leads,
          );
      high = λ x l.
          row.there.high x l
          ∙ rw (
            sym (among-named byte x l),
            names,
            w.behind (2 * (3 * (16 + e) + x) + 1) (omega arith),
            w.before (2 * (3 * target + x)) (omega arith),
            w.before (2 * (3 * target + x) + 1) (omega arith),
            leads,
          );
    }

    earlier : (k : ℕ) → k < e → Joins (λ x. among x (move_at a k).resets) (16 + k) (move_at a k).target 3 rs rs''
    earlier k l = record {
      low = λ x h. row.before (2 * (3 * (16 + k) + x)) (omega arith) ∙ (w.there k l).low x h;
      high = λ x h. row.before (2 * (3 * (16 + k) + x) + 1) (omega arith) ∙ (w.there k l).high x h;
    }

    at : (k : ℕ) → k < e + 1 → Dec (k ≡ e) → Joins (λ x. among x (move_at a k).resets) (16 + k) (move_at a k).target 3 rs rs''
    at k l (yes o) = rw o joins
    at k l (no o) = earlier k (omega arith)

    pub rows_more : JoinedRows a (e + 1) rs rs''
    rows_more = record {
      size = row.size ∙ w.size;
      there = λ k l. at k l (ℕ_discrete k e);
      before = λ j l. row.before j (omega arith) ∙ w.before j l;
      behind = λ j l. row.behind j (omega arith) ∙ w.behind j (omega arith);
    }
