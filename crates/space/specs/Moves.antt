-- Which moves are passed over, by the places of the timers in half minutes.
-- Assumes nothing.
use Rattle.std.specs.Prelude.{◌≡◌, List, ℕ, ◌+◌, ◌≤◌, ◌<◌, Option, length}
use Rattle.semantics.specs.Automaton.{move_at}
use Rattle.table.specs.Held.{automaton_of}
use Rattle.rules.specs.Rules.{none, as_move, InRow, IsRules}

-- Move e is not passed over: its own conditions hold, and after its resets the target's. Its row of the rules has both.
abbrev pub Open : List ℕ → List ℕ → ℕ → Type 0
Open rs hs e = InRow rs (16 + e) hs

-- A move from which on the moves of its mode are looked at, or none, by the rules of the table t.
pub record NextFrom (t rs : List ℕ) (from : ℕ) : Type 0 where
  pub is-rules : IsRules t rs
  pub few : from ≤ none
  pub there : from < none → from < length (automaton_of t).moves

-- Move r is the first of them that is not passed over, or all are and r is 64.
pub record NextMove (t rs hs : List ℕ) (from r : ℕ) : Type 0 where
  pub low : from ≤ r
  pub few : r ≤ none
  pub there : r < none → r < length (automaton_of t).moves
  pub source : r < none → (move_at (automaton_of t) r).source ≡ (move_at (automaton_of t) from).source
  pub is_open : r < none → Open rs hs r
  pub passed :
      (e : ℕ) → from ≤ e → e < r → e < length (automaton_of t).moves → (move_at (automaton_of t) e).source ≡ (move_at (automaton_of t) from).source
      → Open rs hs e → ⊥

-- What is said of the next move holds for every table whose rules these are, and a byte that names the move from which on it is looked for; that there
-- are a table and a byte is asked.
abbrev pub NextReady : List ℕ → Option ℕ → Type 0
NextReady rs from = (t : List ℕ) × (byte : ℕ) × (from ≡ as_move byte) × NextFrom t rs byte

abbrev pub NextDone : List ℕ → List ℕ → Option ℕ → Option ℕ → Type 0
NextDone rs hs from result =
    (t : List ℕ) (byte : ℕ) → from ≡ as_move byte → NextFrom t rs byte → (r : ℕ) × (result ≡ as_move r) × NextMove t rs hs byte r

-- Move r is one of the mode that is not passed over, or r is 64.
pub record OpenMove (t rs hs : List ℕ) (mode r : ℕ) : Type 0 where
  pub few : r ≤ none
  pub there : r < none → r < length (automaton_of t).moves
  pub source : r < none → (move_at (automaton_of t) r).source ≡ mode
  pub is_open : r < none → Open rs hs r

-- It is the first from the byte on.
pub record OpenFrom (t rs hs : List ℕ) (mode byte r : ℕ) : Type 0 where
  pub low : byte ≤ r
  pub move : OpenMove t rs hs mode r
  pub passed :
      (e : ℕ) → byte ≤ e → e < r → e < length (automaton_of t).moves → (move_at (automaton_of t) e).source ≡ mode → Open rs hs e → ⊥

-- What is handed back names it, or no move.
abbrev pub OpenNamed : List ℕ → List ℕ → List ℕ → ℕ → ℕ → Option ℕ → Type 0
OpenNamed t rs hs mode byte result = (r : ℕ) × (result ≡ as_move r) × OpenFrom t rs hs mode byte r
