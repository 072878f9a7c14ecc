-- The moves of each mode are put one before another, from the last one on.
-- Assumes nothing.
use mathlib.Core.Path.{◌≡◌, refl, sym, ◌∙◌}
use mathlib.Core.Logic.{◌≢◌}
use mathlib.Core.List.{List}
use Prim.Native.Nat.{ℕ, ◌+◌, ◌≤◌, ◌<◌}
use native.Mathlib.Decide.{ℕ_discrete}
use native.Mathlib.Omega.{arith}
use lib.ListN.{length, get_or, set, length-set}
use lib.Seq.{get_or-set_same, get_or-set_other}
use Rattle.semantics.specs.Automaton.{Automaton, move_at}
use Rattle.table.specs.Held.{automaton_of, IsTable}
use Rattle.table.specs.Theorems.Access.{table-proper, source-below, mode-count, counts}
use Rattle.rules.specs.Rules.{first_of, after_of, FirstFrom}
use Rattle.rules.specs.Making.{OrderedFrom}

-- A table has few modes and moves, and the mode that a move leaves is there.
module _ (t : List ℕ) (table : IsTable t) where
  pub modes-few : length (automaton_of t).modes ≤ 16
  modes-few = omega (arith, mode-count t table, counts t table)

  pub moves-few : length (automaton_of t).moves ≤ 64
  moves-few = (table-proper t table).few-moves

  pub source_few : (e : ℕ) → e < length (automaton_of t).moves → (move_at (automaton_of t) e).source < 16
  source_few e l = omega (arith, source-below t table e l, modes-few)

module _ (a : Automaton) where
  -- The same move.
  alike : (m e : ℕ) {r r' : ℕ} → r' ≡ r → FirstFrom a m e r → FirstFrom a m e r'
  alike m e q f = rw q f

  -- The same mode.
  same-mode : (e r : ℕ) {m m' : ℕ} → m ≡ m' → FirstFrom a m e r → FirstFrom a m' e r
  same-mode e r q f = rw (← q) f

  -- A move is the first from itself on of its mode.
  itself : (e : ℕ) → e < length a.moves → e < 64 → FirstFrom a (move_at a e).source e e
  itself e l few = record { from = omega arith; few = omega arith; there = λ h. (l, refl); none_before = λ k h u. absurd (omega arith) }

  -- What is first after a move of another mode is first from that move on.
  skipped : (m e r : ℕ) → (move_at a e).source ≢ m → FirstFrom a m (e + 1) r → FirstFrom a m e r
  skipped m e r other f = record { from = omega (arith, f.from); few = f.few; there = f.there; none_before = λ k l u h. at k l u h (ℕ_discrete k e) }
    where
      at : (k : ℕ) → e ≤ k → k < r → k < length a.moves → Dec (k ≡ e) → (move_at a k).source ≢ m
      at k l u h (yes o) = rw o other
      at k l u h (no o) = f.none_before k (omega arith) u h

  module _ (rs : List ℕ) (few : length a.moves ≤ 64) where
    -- Move e is put before those of its mode.
    module _ (few-modes : length a.modes ≤ 16) (long : length rs ≡ 560) (rs' : List ℕ) (e mode : ℕ) (there : e < length a.moves)
        (own : mode ≡ (move_at a e).source) (mode-there : mode < length a.modes) (w : OrderedFrom a (e + 1) rs rs') where
      abbrev linked : List ℕ
      linked = set rs' (496 + e) (first_of rs' mode)

      abbrev next : List ℕ
      next = set linked (480 + mode) e

      first-now : first_of next mode ≡ e
      first-now = get_or-set_same linked (480 + mode) e 0 (omega (arith, length-set rs' (496 + e) (first_of rs' mode), w.size))

      after-now : after_of next e ≡ first_of rs' mode
      after-now =
          get_or-set_other linked (480 + mode) (496 + e) e 0 (λ z. omega arith)
          ∙ get_or-set_same rs' (496 + e) (first_of rs' mode) 0 (omega (arith, w.size))

      other-now : (j : ℕ) → j ≢ 496 + e → j ≢ 480 + mode → get_or next j 0 ≡ get_or rs' j 0
      other-now j p q = get_or-set_other linked (480 + mode) j e 0 q ∙ get_or-set_other rs' (496 + e) j (first_of rs' mode) 0 p

      first-from : (m : ℕ) → m < length a.modes → Dec (m ≡ mode) → FirstFrom a m e (first_of next m)
      first-from m l (yes o) = rw o (alike mode e first-now (same-mode e e (sym own) (itself e there (omega arith))))
      first-from m l (no o) =
          alike m e (other-now (480 + m) (λ z. omega arith) (λ z. o (omega arith))) (skipped m e (first_of rs' m) (λ z. o (sym z ∙ sym own)) (w.first m l))

      after-from : (k : ℕ) → e ≤ k → k < length a.moves → Dec (k ≡ e) → FirstFrom a (move_at a k).source (k + 1) (after_of next k)
      after-from k l h (yes o) = rw o (alike (move_at a e).source (e + 1) after-now (same-mode (e + 1) (first_of rs' mode) own (w.first mode mode-there)))
      after-from k l h (no o) =
          alike (move_at a k).source (k + 1) (other-now (496 + k) (λ z. o (omega arith)) (λ z. omega arith)) (w.after k (omega arith) h)

      pub ordered-more : OrderedFrom a e rs (set (set rs' (496 + e) (first_of rs' mode)) (480 + mode) e)
      ordered-more = record {
        size = length-set linked (480 + mode) e ∙ length-set rs' (496 + e) (first_of rs' mode) ∙ w.size;
        first = λ m l. first-from m l (ℕ_discrete m mode);
        after = λ k l h. after-from k l h (ℕ_discrete k e);
        before = λ j l. other-now j (λ z. omega arith) (λ z. omega arith) ∙ w.before j l;
        spare-modes = λ m l h. other-now (480 + m) (λ z. omega arith) (λ z. omega arith) ∙ w.spare-modes m l h;
        earlier = λ k l. other-now (496 + k) (λ z. omega arith) (λ z. omega arith) ∙ w.earlier k (omega arith);
        behind = λ k l. other-now (496 + k) (λ z. omega arith) (λ z. omega arith) ∙ w.behind k l;
      }
