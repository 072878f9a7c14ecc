-- The moves of a mode from a byte on, one after another, without those that are passed over.
-- Assumes nothing.
use mathlib.Core.Path.{◌≡◌, sym, ◌∙◌}
use mathlib.Core.Logic.{◌≢◌}
use mathlib.Core.List.{List}
use Prim.Native.Nat.{ℕ, ◌+◌, ◌≤◌, ◌<◌}
use native.Mathlib.Decide.{dec_lt}
use native.Mathlib.Omega.{arith}
use lib.ListN.{length}
use Rattle.std.specs.Prelude.{Option}
use Rattle.semantics.specs.Automaton.{Automaton, move_at}
use Rattle.table.specs.Held.{automaton_of}
use Rattle.rules.specs.Rules.{none, as_move, after_of, FirstFrom, IsRules}
use Rattle.space.specs.Moves.{Open, NextFrom, NextMove, NextReady, NextDone, OpenFrom, OpenNamed}

-- Move e leaves the mode, or is none, and no move of the mode stands between the byte and it. It may stand before the byte itself.
pub record Since (a : Automaton) (mode byte e : ℕ) : Type 0 where
  pub few : e ≤ none
  pub there : e < none → (e < length a.moves) × ((move_at a e).source ≡ mode)
  pub none_before : (k : ℕ) → byte ≤ k → k < e → k < length a.moves → (move_at a k).source ≢ mode

module _ {a : Automaton} {mode : ℕ} (byte : ℕ) where
  pub since-first : {e : ℕ} → FirstFrom a mode 0 e → Since a mode byte e
  since-first f = record { few = f.few; there = f.there; none_before = λ k h. f.none_before k (omega arith) }

  pub since-after : {e n : ℕ} → e < byte → (move_at a e).source ≡ mode → FirstFrom a (move_at a e).source (e + 1) n → Since a mode byte n
  since-after {e} {n} h is f =
      let g : FirstFrom a mode (e + 1) n = rw is at f in
      record { few = g.few; there = g.there; none_before = λ k b. g.none_before k (omega arith) }

  pub since-done : {e : ℕ} → byte ≤ e → Since a mode byte e → FirstFrom a mode byte e
  since-done h s = record { from = h; few = s.few; there = s.there; none_before = s.none_before }

-- From the first of them on, those that are passed over are left out.
pub first-ready : {t rs : List ℕ} {mode byte f : ℕ} → IsRules t rs → FirstFrom (automaton_of t) mode byte f → NextFrom t rs f
first-ready rules first = record { is-rules = rules; few = first.few; there = λ h. (first.there h).0 }

pub next-open :
    {t rs hs : List ℕ} {mode byte f r : ℕ} → FirstFrom (automaton_of t) mode byte f → NextMove t rs hs f r → OpenFrom t rs hs mode byte r
next-open {t} {rs} {hs} {mode} {byte} {f} {r} first next = record {
  low = omega (arith, first.from, next.low);
  move = record {
    few = next.few;
    there = next.there;
    source = λ h. next.source h ∙ (first.there (omega (arith, next.low))).1;
    is_open = next.is_open;
  };
  passed = λ e h k there is opens. at e h k there is opens (dec_lt e f);
}
  where
    at :
        (e : ℕ) → byte ≤ e → e < r → e < length (automaton_of t).moves → (move_at (automaton_of t) e).source ≡ mode → Open rs hs e
        → Dec (e < f) → ⊥
    at e h k there is opens (yes l) = first.none_before e h l there is
    at e h k there is opens (no n) =
        let own = (first.there (omega (arith, next.few))).1 in
        next.passed e (omega arith) k there (is ∙ sym own) opens

-- The same by what names the first of them, and the one that is handed back.
module _ {t rs : List ℕ} (rules : IsRules t rs) where
  module _ {mode byte f : ℕ} (first : FirstFrom (automaton_of t) mode byte f) {from : Option ℕ} (is : from ≡ as_move f) where
    pub named-ready : NextReady rs from
    named-ready = (t, f, is, first-ready rules first)

    pub named-open : {hs : List ℕ} {result : Option ℕ} → NextDone rs hs from result → OpenNamed t rs hs mode byte result
    named-open done =
        let next = done t f is (first-ready rules first) in
        (next.0, next.1, next-open first next.2)

  -- After one of them comes the next.
  module _ {e : ℕ} (there : e < length (automaton_of t).moves) where
    pub after-rises : e < after_of rs e
    after-rises = omega (arith, (rules.after e there).from)

    module _ {from : Option ℕ} (is : from ≡ as_move (after_of rs e)) where
      pub after-ready : NextReady rs from
      after-ready = named-ready (rules.after e there) is

      pub after-open :
          {hs : List ℕ} {mode : ℕ} {result : Option ℕ} → (move_at (automaton_of t) e).source ≡ mode → NextDone rs hs from result
          → OpenNamed t rs hs mode (e + 1) result
      after-open source done = named-open (rw source at (rules.after e there)) is done
