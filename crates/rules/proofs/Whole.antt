-- The parts make the rules.
-- Assumes nothing.
use mathlib.Core.Path.{◌≡◌, sym, ap, ◌∙◌}
use mathlib.Core.List.{List}
use Prim.Native.Nat.{ℕ, ◌+◌, ◌*◌, ◌≤◌, ◌<◌}
use native.Mathlib.Omega.{arith}
use lib.ListN.{length, get_or, take, drop}
use lib.Seq.{drop-drop}
use Rattle.semantics.specs.Automaton.{Mode, Move, mode_at, move_at}
use Rattle.table.specs.Meaning.{conditions_from}
use Rattle.table.specs.Held.{automaton_of, IsTable}
use Rattle.table.specs.Theorems.Access.{mode-count, move-count, mode-at, move-at, target_below}
use Rattle.conditions.specs.Windows.{capped}
use Rattle.rules.specs.Rules.{none, target_conditions, IsModeRow, IsMoveRow, IsRules}
use Rattle.rules.specs.Making.{Wrote, condition_bytes, IsRow, FilledRows, JoinedRows, CappedRows, OrderedFrom}
use Rattle.rules.proofs.Filling.{row_kept}
use Rattle.rules.proofs.Ordering.{modes-few, moves-few}

module _ (t : List ℕ) (table : IsTable t) where
  -- Where the conditions of a mode and of a move stand.
  mode-conditions :
      (m : ℕ) → m < length (automaton_of t).modes → conditions_from 0 (take 6 (drop (10 + 8 * m) t)) ≡ (mode_at (automaton_of t) m).conditions
  mode-conditions m l =
      let place : 10 + 8 * m ≡ 8 + 8 * m + 2 = omega arith in
      ap (λ (k : ℕ). conditions_from 0 (take 6 (drop k t))) place
      ∙ ap (λ (u : List ℕ). conditions_from 0 (take 6 u)) (sym (drop-drop 2 (8 + 8 * m) t))
      ∙ sym (ap (λ (o : Mode). o.conditions) (mode-at t m (omega (arith, mode-count t table))))

  move-conditions :
      (e : ℕ) → e < length (automaton_of t).moves → conditions_from 0 (take 6 (drop (140 + 12 * e) t)) ≡ (move_at (automaton_of t) e).conditions
  move-conditions e l =
      let place : 140 + 12 * e ≡ 136 + 12 * e + 4 = omega arith in
      ap (λ (k : ℕ). conditions_from 0 (take 6 (drop k t))) place
      ∙ ap (λ (u : List ℕ). conditions_from 0 (take 6 u)) (sym (drop-drop 4 (136 + 12 * e) t))
      ∙ sym (ap (λ (o : Move). o.conditions) (move-at t e (omega (arith, move-count t table))))

  -- From zeros: the rows of the modes, those of the moves, these joined with their targets', the modes' with the ceilings, no first move, and the moves in their order.
  module _ (zeros filled full joined ended empty rules : List ℕ) (zero-there : (j : ℕ) → get_or zeros j 0 ≡ 0) (long : length zeros ≡ 560)
      (modes moves : ℕ) (modes-are : modes ≡ length (automaton_of t).modes) (moves-are : moves ≡ length (automaton_of t).moves)
      (invariants : FilledRows (condition_bytes t 10 8) modes 0 zeros filled) (guards : FilledRows (condition_bytes t 140 12) moves 16 filled full)
      (joins : JoinedRows (automaton_of t) (length (automaton_of t).moves) full joined) (caps : CappedRows (automaton_of t).ceilings modes joined ended)
      (cleared : Wrote (λ m. none) 480 modes ended empty)
      (ordered : OrderedFrom (automaton_of t) 0 empty rules) where
    row-byte : (j : ℕ) → j < 480 → get_or rules j 0 ≡ get_or ended j 0
    row-byte j l = ordered.before j l ∙ cleared.before j l

    mode-full : (m : ℕ) → m < length (automaton_of t).modes → IsRow full m (mode_at (automaton_of t) m).conditions
    mode-full m l =
        let number : 0 + m ≡ m = omega arith in
        let there : IsRow filled m (conditions_from 0 (take 6 (drop (10 + 8 * m) t))) = rw number at (invariants.there m (omega arith)) in
        rw (mode-conditions m l) at
        (row_kept (conditions_from 0 (take 6 (drop (10 + 8 * m) t))) m filled full (λ j a b. guards.before j (omega (arith, modes-few t table))) there)

    mode-row : (m : ℕ) → m < length (automaton_of t).modes → IsModeRow (automaton_of t) m rules
    mode-row m l =
        let few = modes-few t table in
        let own = mode-full m l in
        let caps-own = caps.there m (omega arith) in
        record {
          low = λ x h.
              row-byte (2 * (3 * m + x)) (omega arith) ∙ caps-own.low x h ∙ joins.before (2 * (3 * m + x)) (omega arith) ∙ own.low x h;
          high = λ x h.
              row-byte (2 * (3 * m + x) + 1) (omega arith) ∙ caps-own.high x h
              ∙ ap (λ (high : ℕ). capped high (get_or (automaton_of t).ceilings x 0)) (joins.before (2 * (3 * m + x) + 1) (omega arith) ∙ own.high x h);
        }

    move-full : (e : ℕ) → e < length (automaton_of t).moves → IsRow full (16 + e) (move_at (automaton_of t) e).conditions
    move-full e l = rw (move-conditions e l) at (guards.there e (omega arith))

    move-byte : (j : ℕ) → 96 ≤ j → j < 480 → get_or rules j 0 ≡ get_or joined j 0
    move-byte j l u = row-byte j u ∙ caps.behind j (omega (arith, modes-few t table))

    move_row : (e : ℕ) → e < length (automaton_of t).moves → IsMoveRow (automaton_of t) e rules
    move_row e l =
        let own = move-full e l in
        let target : IsRow full (move_at (automaton_of t) e).target (target_conditions (automaton_of t) e) = mode-full _ (target_below t table e l) in
        record {
          low = λ x h.
              move-byte (2 * (3 * (16 + e) + x)) (omega arith) (omega (arith, moves-few t table)) ∙ (joins.there e l).low x h ∙ rw (own.low x h, target.low x h);
          high = λ x h.
              move-byte (2 * (3 * (16 + e) + x) + 1) (omega arith) (omega (arith, moves-few t table)) ∙ (joins.there e l).high x h
              ∙ rw (own.high x h, target.low x h, target.high x h);
        }

    -- What is behind all rows was 0, and so was what is between those of the modes and those of the moves.
    behind-rows : (j : ℕ) → 6 * (16 + moves) ≤ j → get_or ended j 0 ≡ 0
    behind-rows j l =
        caps.behind j (omega (arith, modes-few t table)) ∙ joins.behind j (omega arith) ∙ guards.behind j l ∙ invariants.behind j (omega (arith, modes-few t table)) ∙ zero-there j

    between-rows : (j : ℕ) → 6 * modes ≤ j → j < 96 → get_or ended j 0 ≡ 0
    between-rows j l u = caps.behind j l ∙ joins.before j u ∙ guards.before j u ∙ invariants.behind j (omega arith) ∙ zero-there j

    pub is-rules : IsRules t rules
    is-rules = record {
      size = ordered.size ∙ cleared.size ∙ caps.size ∙ joins.size ∙ guards.size ∙ invariants.size ∙ long;
      invariants = mode-row;
      guards = move_row;
      first = ordered.first;
      after = λ e l. ordered.after e (omega arith) l;
      spare-modes = λ m i l u h. (
        row-byte (6 * m + i) (omega arith) ∙ between-rows (6 * m + i) (omega arith) (omega arith),
        ordered.spare-modes m l u ∙ cleared.behind (480 + m) (omega arith) ∙ behind-rows (480 + m) (omega (arith, moves-few t table)),
      );
      spare-moves = λ e i l u h. (
        row-byte (6 * (16 + e) + i) (omega arith) ∙ behind-rows (6 * (16 + e) + i) (omega arith),
        ordered.behind e l ∙ cleared.behind (496 + e) (omega (arith, modes-few t table)) ∙ behind-rows (496 + e) (omega (arith, moves-few t table)),
      );
    }
