-- What the private functions of the queue ask and do.
-- Assumes nothing.
use Rattle.std.specs.Prelude.{◌≡◌, Bool, true, false, ◌⊎◌, ◌≢◌, List, ℕ, ◌+◌, ◌*◌, ◌/◌, ◌%◌, ◌≤◌, ◌<◌, length, set}
use Rattle.semantics.specs.Graph.Path.{charge_at, steps_at}
use Rattle.queue.specs.Tournament.{none, AllFair}
use Rattle.queue.specs.Tournaments.Raising.{Raising}
use Rattle.queue.specs.Queue.{lows, slot_at, key_of, players, QueueRoom}

-- The key of a node, with its slot left out.
abbrev pub key_in : List ℕ → ℕ → ℕ
key_in ws v = key_of (charge_at ws v) (steps_at ws v % 65536) v

-- a is nobody, or a node that has words.
abbrev pub Seat : List ℕ → ℕ → Type 0
Seat ws a = (a ≡ none) ⊎ ((a < none) × (2 * a + 1 < length ws))

-- The key of nobody, greater than that of any node.
abbrev pub no_key : ℕ
no_key = 0xFFFF_FFFF_FFFF_FFFF

-- a is a node that comes before a key.
abbrev pub Ahead : List ℕ → ℕ → ℕ → Type 0
Ahead ws a own = (a ≢ none) × (key_in ws a < own)

-- It does not: a is nobody, or a node whose key is no less; and then the other is no key of nobody.
abbrev pub Behind : List ℕ → ℕ → ℕ → Type 0
Behind ws a own = (a ≡ none) ⊎ ((own ≤ key_in ws a) × (own < no_key))

-- A test tells which of the two it is.
pub record Told (ws : List ℕ) (a own : ℕ) (r : Bool) : Type 0 where
  pub ahead : r ≡ true → Ahead ws a own
  pub behind : r ≡ false → Behind ws a own

-- The words with b in slot x.
abbrev pub put : List ℕ → ℕ → ℕ → List ℕ
put ws x b = set ws (2 * x + 1) (b * 65536 + steps_at ws x % 65536)

-- A place of the tree.
pub record Place (nodes place : ℕ) (ws : List ℕ) : Type 0 where
  pub words : QueueRoom nodes ws
  pub low : 1 ≤ place
  pub high : place < 2 * nodes

-- What raising a node does: the costs stay, and all matches are fair if they were, but for those that the node may win.
pub record GoneUp (nodes node : ℕ) (ws ws' : List ℕ) : Type 0 where
  pub costs : lows nodes ws' ≡ lows nodes ws
  pub words : QueueRoom nodes ws'
  pub fair :
      (upto : ℕ) → Raising nodes (players upto (lows nodes ws)) (slot_at ws) node ((nodes + node) / 2)
      → AllFair nodes (players upto (lows nodes ws)) (slot_at ws')
  -- Slot 0 is in no match: it stays.
  pub outside : slot_at ws' 0 ≡ slot_at ws 0
