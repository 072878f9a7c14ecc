-- What the function that seeds the start asks and does.
-- Assumes nothing.
use Rattle.std.specs.Prelude.{◌≡◌, List, ◌++◌, ℕ, ◌*◌, ◌≤◌, ◌<◌, length, drop, replicate}
use Rattle.semantics.specs.Order.{cost}
use Rattle.semantics.specs.Graph.Path.{infinity}
use Rattle.semantics.specs.Paths.Words.{stored}
use Rattle.queue.specs.Tournament.{none}
use Rattle.queue.specs.Queue.{lows, slot_at, Queue}

-- There are words for the nodes, of which the start is one.
pub record SeedReady (nodes start : ℕ) (ws : List ℕ) : Type 0 where
  pub two : 2 ≤ nodes
  pub few : nodes ≤ none
  pub room : 2 * nodes ≤ length ws
  pub there : start < nodes

-- The words with no node reached.
abbrev pub blank_words : ℕ → List ℕ → List ℕ
blank_words nodes ws = replicate (2 * nodes) infinity ++ drop (2 * nodes) ws

-- Only the start is reached, and it is pending.
pub record Seeded (nodes start : ℕ) (ws ws' : List ℕ) : Type 0 where
  pub costs : lows nodes ws' ≡ stored (lows nodes (blank_words nodes ws)) start (cost 0 0)
  pub queue : Queue nodes 0 ws'
  pub outside : slot_at ws' 0 ≡ none
