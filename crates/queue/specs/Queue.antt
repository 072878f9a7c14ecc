-- The priority queue of a search: a tournament of its nodes, kept in the words of the search. Node v has its charge at word 2v and, in word 2v + 1,
-- its steps in the low 16 bits; the high 16 bits of word 2x + 1 are slot x of the tournament.
-- Assumes nothing.
use Rattle.std.specs.Prelude.{◌≡◌, Bool, false, cond, ◌⊎◌, ◌≢◌, List, [], ◌∷◌, ℕ, zero, suc, ◌+◌, ◌*◌, ◌/◌, ◌%◌, ◌≤◌, ◌<◌, eqb, ltb, leb, Option, Some, None, length, get_or}
use Rattle.semantics.specs.Order.{Cost, cost, ◌≼◌, ◌≺◌}
use Rattle.semantics.specs.Graph.Path.{infinity, charge_at, steps_at}
use Rattle.semantics.specs.Paths.Words.{stored}
use Rattle.queue.specs.Tournament.{none, Players, AllFair}

-- The words of the first n nodes without their slots: a table of costs.
unfoldable pub lows : ℕ → List ℕ → List ℕ
lows zero ws = ws
lows (suc n) [] = []
lows (suc n) (c ∷ []) = c ∷ []
lows (suc n) (c ∷ k ∷ ws) = c ∷ k % 65536 ∷ lows n ws

-- Slot x.
abbrev pub slot_at : List ℕ → ℕ → ℕ
slot_at ws x = get_or ws (2 * x + 1) 0 / 65536

-- The node that a slot holds, if it does not hold nobody.
abbrev pub as_node : ℕ → Option ℕ
as_node a = cond (ltb a none) (Some a) None

-- Nodes are settled in the order of charge, then of steps, then of their numbers. Steps and numbers have 16 bits, so that is the order of one number.
abbrev pub key_of : ℕ → ℕ → ℕ → ℕ
key_of charge steps v = (charge * 65536 + steps) * 65536 + v

abbrev pub key : List ℕ → ℕ → ℕ
key ts v = key_of (charge_at ts v) (steps_at ts v) v

-- All keys below upto are settled. A node is pending if it is reached and not settled:
abbrev pub Pending : ℕ → List ℕ → ℕ → Type 0
Pending upto ts v = (charge_at ts v ≢ infinity) × (upto ≤ key ts v)

-- and as a test.
unfoldable pub pends : ℕ → List ℕ → ℕ → Bool
pends upto ts v = cond (eqb (charge_at ts v) infinity) false (leb upto (key ts v))

-- The pending nodes play, by their keys.
abbrev pub players : ℕ → List ℕ → Players
players upto ts = record { entrant = λ v. cond (pends upto ts v) v none; key = λ v. key ts v }

-- a is nobody, or one of the nodes.
abbrev pub Seated : ℕ → ℕ → Type 0
Seated nodes a = (a ≡ none) ⊎ (a < nodes)

-- The words have room for the nodes, and each slot holds a node or nobody.
pub record QueueRoom (nodes : ℕ) (ws : List ℕ) : Type 0 where
  pub two : 2 ≤ nodes
  pub few : nodes ≤ none
  pub room : 2 * nodes ≤ length ws
  pub slots : (z : ℕ) → 1 ≤ z → z < nodes → Seated nodes (slot_at ws z)

-- The words hold the queue of the nodes that are pending: every match is fair.
pub record Queue (nodes upto : ℕ) (ws : List ℕ) : Type 0 where
  pub words : QueueRoom nodes ws
  pub fair : AllFair nodes (players upto (lows nodes ws)) (slot_at ws)

-- The cost of a node.
abbrev pub cost_in : ℕ → List ℕ → ℕ → Cost
cost_in nodes ws v = cost (charge_at (lows nodes ws) v) (steps_at (lows nodes ws) v)

-- What `relax` asks: a queue, and a cost for a node whose new key is not settled.
pub record RelaxReady (nodes node charge steps : ℕ) (ws : List ℕ) : Type 0 where
  pub upto : ℕ
  pub queue : Queue nodes upto ws
  pub later : upto ≤ key_of charge steps node
  pub there : node < nodes
  pub fits : steps < 65536
  pub known : charge ≢ infinity

-- What `lower` asks: one that is less than the node's.
pub record LowerReady (nodes node charge steps : ℕ) (ws : List ℕ) : Type 0 where
  pub relax : RelaxReady nodes node charge steps ws
  pub less : cost charge steps ≺ cost_in nodes ws node

-- What it does: the cost is stored; and a queue up to any key is one again, unless the new key is settled already.
pub record LowerDone (nodes node charge steps : ℕ) (ws ws' : List ℕ) : Type 0 where
  pub costs : lows nodes ws' ≡ stored (lows nodes ws) node (cost charge steps)
  pub queue : (upto : ℕ) → Queue nodes upto ws → upto ≤ key_of charge steps node → Queue nodes upto ws'
  -- Slot 0 is in no match: it stays.
  pub outside : slot_at ws' 0 ≡ slot_at ws 0

-- What `relax` does: the same if the cost is less than the node's, and nothing if it is not.
pub record RelaxDone (nodes node charge steps : ℕ) (ws ws' : List ℕ) : Type 0 where
  pub taken : cost charge steps ≺ cost_in nodes ws node → LowerDone nodes node charge steps ws ws'
  pub passed : cost_in nodes ws node ≼ cost charge steps → ws' ≡ ws

-- What `settle` asks: the node is the first of a queue.
pub record SettleReady (nodes node : ℕ) (ws : List ℕ) : Type 0 where
  pub upto : ℕ
  pub queue : Queue nodes upto ws
  pub first : slot_at ws 1 ≡ node
  pub there : node < nodes

-- What it does: the costs stay, and the node is settled with all keys up to its own.
pub record SettleDone (nodes node : ℕ) (ws ws' : List ℕ) : Type 0 where
  pub costs : lows nodes ws' ≡ lows nodes ws
  pub queue : Queue nodes (suc (key (lows nodes ws) node)) ws'
  -- Slot 0 is in no match: it stays.
  pub outside : slot_at ws' 0 ≡ slot_at ws 0
