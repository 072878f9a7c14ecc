-- Along the moves of a mode, those that are passed over.
-- Assumes nothing.
use mathlib.Core.Path.{◌≡◌, sym, ◌∙◌}
use mathlib.Core.List.{List}
use Prim.Native.Nat.{ℕ, ◌+◌, ◌≤◌, ◌<◌}
use native.Mathlib.Decide.{ℕ_discrete, dec_lt}
use native.Mathlib.Omega.{arith}
use lib.ListN.{length}
use Rattle.semantics.specs.Automaton.{move_at}
use Rattle.table.specs.Held.{automaton_of}
use Rattle.rules.specs.Rules.{none, after_of, FirstFrom, IsRules}
use Rattle.space.specs.Moves.{Open, NextMove}

-- Every move from the same mode, from `from` on and before `next`, is passed over, and `next` is another such move or none.
pub record Passing (t rs hs : List ℕ) (from next : ℕ) : Type 0 where
  pub low : from ≤ next
  pub few : next ≤ none
  pub there : next < none → next < length (automaton_of t).moves
  pub source : next < none → (move_at (automaton_of t) next).source ≡ (move_at (automaton_of t) from).source
  pub passed :
      (e : ℕ) → from ≤ e → e < next → e < length (automaton_of t).moves → (move_at (automaton_of t) e).source ≡ (move_at (automaton_of t) from).source
      → Open rs hs e → ⊥

module _ (t rs hs : List ℕ) (from : ℕ) where
  module _ (rules : IsRules t rs) (e : ℕ) (p : Passing t rs hs from e) (some : e < none) where
    -- Move e is passed over too.
    pub passing-more : (Open rs hs e → ⊥) → Passing t rs hs from (after_of rs e)
    passing-more shut = record {
      low = omega (arith, p.low, from_next.from);
      few = from_next.few;
      there = λ l. (from_next.there l).0;
      source = λ l. (from_next.there l).1 ∙ p.source some;
      passed = λ k l m h s. at k l m h s (dec_lt k e) (ℕ_discrete k e);
    }
      where
        from_next : FirstFrom (automaton_of t) (move_at (automaton_of t) e).source (e + 1) (after_of rs e)
        from_next = rules.after e (p.there some)

        at :
            (k : ℕ) → from ≤ k → k < after_of rs e → k < length (automaton_of t).moves
            → (move_at (automaton_of t) k).source ≡ (move_at (automaton_of t) from).source → Dec (k < e) → Dec (k ≡ e) → Open rs hs k → ⊥
        at k l m h s (yes b) d o = p.passed k l b h s o
        at k l m h s (no b) (yes q) o = shut (rw q at o)
        at k l m h s (no b) (no d) o = from_next.none_before k (omega arith) m h (s ∙ sym (p.source some))

  -- Or it is not.
  pub passing-open : (e : ℕ) → Passing t rs hs from e → Open rs hs e → NextMove t rs hs from e
  passing-open e p o = record { low = p.low; few = p.few; there = p.there; source = p.source; is_open = λ l. o; passed = p.passed }
