-- What the functions that look for the next step of a walk ask and find.
-- Assumes nothing.
use Rattle.std.specs.Prelude.{◌≡◌, cond, ◌↔◌, ◌⊎◌, ◌≢◌, List, ℕ, ◌+◌, ◌*◌, ◌≤◌, ◌<◌, ltb, Option, Some, None, length, get_or}
use Rattle.std.proofs.Math.Option.{some}
use Rattle.semantics.specs.Automaton.{move_at}
use Rattle.semantics.specs.Region.{PricedRegion, top}
use Rattle.semantics.specs.Chain.{Place, step}
use Rattle.semantics.specs.Graph.Path.{Entry, infinity, charge_at, steps_at}
use Rattle.semantics.specs.Answers.Marks.{Led}
use Rattle.table.specs.Fields.{most_price}
use Rattle.table.specs.Held.{automaton_of, IsTable}
use Rattle.rules.specs.Rules.{IsRules}
use Rattle.regions.specs.declared.Region.{Region}
use Rattle.regions.specs.declared.nodes.NodeRegion.{NodeRegion}
use Rattle.regions.specs.Held.{view, Valid}
use Rattle.space.specs.declared.Space.{Space}
use Rattle.steps.specs.declared.Stand.{Stand}
use Rattle.steps.specs.declared.Next.{Next}
use Rattle.space.specs.Space.{IsCorner, place_at}
use Rattle.space.specs.Moves.{OpenNamed}
use Rattle.steps.specs.Images.{corner_of, IsImage}
use Rattle.steps.specs.Steps.{Marked, stand_place, Tells, StandReady, Leads, byte_of}

-- The set r is the set with the corner, if it fits, and otherwise the set.
pub record Adds (Fits : Type 0) (set corner r : ℕ) : Type 0 where
  pub sixteen : r < 16
  pub marks : (i : ℕ) → Marked r i ↔ (Marked set i ⊎ ((i ≡ corner) × Fits))

-- By the words the node `to` is reached along an edge of that weight from the node `from`, in so many steps.
abbrev pub TightAt : List ℕ → ℕ → ℕ → ℕ → ℕ → Type 0
TightAt ws from to weight steps = (steps_at ws to ≡ steps) × (charge_at ws to ≡ charge_at ws from + weight)

pub record TightReady (ws : List ℕ) (from to weight : ℕ) : Type 0 where
  pub from-there : 2 * from + 1 < length ws
  pub to-there : 2 * to + 1 < length ws
  pub room : charge_at ws from + weight ≤ infinity

-- Corner j of the walk's place is marked, and an edge of that weight from it to corner i of the place whose corner 0 is the node `to` is tight.
abbrev pub LedTo : Stand → List ℕ → ℕ → ℕ → ℕ → ℕ → Type 0
LedTo z ws to j weight i = Marked z.set j × TightAt ws (z.first + j) (to + i) weight (z.steps + 1)

-- The marked corners have their words, and room for the weight of an edge.
pub record CornersReady (z : Stand) (ws : List ℕ) : Type 0 where
  pub sixteen : z.set < 16
  pub there : (j : ℕ) → Marked z.set j → 2 * (z.first + j) + 1 < length ws
  pub room : (j : ℕ) → Marked z.set j → charge_at ws (z.first + j) + most_price < infinity
  pub short : z.steps < 65536

pub record LeadReady (ws : List ℕ) (set j to i weight : ℕ) : Type 0 where
  pub sixteen : set < 16
  pub from-few : j < 32
  pub to-few : i < 4
  pub there : 2 * (to + i) + 1 < length ws
  pub small : weight ≤ most_price

-- The edges of a step by their corners and weights: `E j weight i` for one of that weight from corner j to corner i of the place whose corner 0
-- is the node `to`. The set r has the corners to which those lead that are tight and come from marked corners.
pub record IsLed (z : Stand) (ws : List ℕ) (to : ℕ) (E : ℕ → ℕ → ℕ → Type 0) (r : ℕ) : Type 0 where
  pub sixteen : r < 16
  pub marks : (i : ℕ) → Marked r i ↔ ((j : ℕ) × (weight : ℕ) × E j weight i × LedTo z ws to j weight i)

-- Those of a move from the corners below m: the map says which corner goes where.
abbrev pub MoveEdges : ℕ → ℕ → ℕ → ℕ → ℕ → ℕ → Type 0
MoveEdges map price m j weight i = (j < m) × (i ≡ corner_of map j) × (weight ≡ price)

pub record LedMoveReady (z : Stand) (ws : List ℕ) (map to price : ℕ) : Type 0 where
  pub corners : CornersReady z ws
  pub there : (j : ℕ) → j < 4 → 2 * (to + corner_of map j) + 1 < length ws
  pub small : price ≤ most_price

-- Those of a delay: the region after it has prices by which each corner comes from the one whose index is its price, at the rate if the region
-- before it, with the corners 0 to k, has none of that index.
abbrev pub DelayEdges : PricedRegion → ℕ → ℕ → ℕ → ℕ → ℕ → Type 0
DelayEdges r k rate j weight i = (i ≤ top r) × (j ≡ get_or r.prices i 0) × (weight ≡ cond (ltb k i) rate 0)

pub record LedDelayReady (z : Stand) (ws : List ℕ) (delayed : Region) (to rate : ℕ) : Type 0 where
  pub corners : CornersReady z ws
  pub valid : Valid delayed
  pub comes : (i : ℕ) → i ≤ top (view delayed) → get_or (view delayed).prices i 0 < 32
  pub there : 2 * (to + top (view delayed)) + 1 < length ws
  pub small : rate ≤ most_price

-- The struct is of the place at which the walk stands.
pub record AtStand (t : List ℕ) (z : Stand) (x : NodeRegion) : Type 0 where
  pub corner : IsCorner t x
  pub place_is : place_at x ≡ stand_place t z

-- No tight edge leads on by the byte k, for any goal and any table of costs of which the words tell.
abbrev pub Silent : List ℕ → Space → Stand → List ℕ → ℕ → Type 0
Silent t s z ws k =
    (l : ℕ) (d : ℕ → Entry) → Tells s z ws d → (y : Place) (i : ℕ) → step (automaton_of t) k (stand_place t z) ≡ some y
    → Led (automaton_of t) l d (stand_place t z) z.steps (Marked z.set) k y i → ⊥

-- The step of r does.
abbrev pub LeadsOn : List ℕ → Space → Stand → List ℕ → Next → Type 0
LeadsOn t s z ws r = (l : ℕ) (d : ℕ → Entry) → Tells s z ws d → Leads t l d z r

-- The step of the byte k was tried: it leads on if there is one.
pub record TriedOne (t : List ℕ) (s : Space) (z : Stand) (ws : List ℕ) (k : ℕ) (r : Option Next) : Type 0 where
  pub leads : (n : Next) → r ≡ Some n → (n.byte ≡ k) × LeadsOn t s z ws n
  pub silent : r ≡ None → Silent t s z ws k

-- Those of some bytes were: r has the least of them that leads on, or is no step if none does.
pub record Tried (t : List ℕ) (s : Space) (z : Stand) (ws : List ℕ) (Among : ℕ → Type 0) (r : Option Next) : Type 0 where
  pub leads : (n : Next) → r ≡ Some n → (n.byte < 66) × Among n.byte × LeadsOn t s z ws n
  pub none_before : (k : ℕ) → Among k → k < byte_of r → Silent t s z ws k

-- The bytes of moves, and one byte alone, from the walk's on.
abbrev pub MoveByte : Stand → ℕ → Type 0
MoveByte z k = (z.byte ≤ k) × (k < 64)

abbrev pub OnlyByte : ℕ → Stand → ℕ → Type 0
OnlyByte b z k = (z.byte ≤ k) × (k ≡ b)

-- r is the step, if it marks a corner, and otherwise none.
pub record IsFound (byte first set : ℕ) (r : Option Next) : Type 0 where
  pub none : set ≡ 0 → r ≡ None
  pub some : set ≢ 0 → r ≡ Some (record { byte = byte; first = first; set = set })

-- The walk stands at the place of the struct.
pub record StepReady (t : List ℕ) (s : Space) (x : NodeRegion) (z : Stand) (ws : List ℕ) : Type 0 where
  pub rules : List ℕ
  pub ready : StandReady t rules s z ws
  pub here : AtStand t z x

-- The step of a move is allowed.
abbrev pub Allowed : List ℕ → Stand → ℕ → Type 0
Allowed t z e = (e < length (automaton_of t).moves) × ((y : Place) × (step (automaton_of t) e (stand_place t z) ≡ some y))

-- And the image is that of its resets, from the place at which the walk stands.
pub record AlongReady (t : List ℕ) (s : Space) (z : Stand) (ws : List ℕ) (image e : ℕ) : Type 0 where
  pub at : NodeRegion
  pub ready : StepReady t s at z ws
  pub allowed : Allowed t z e
  pub is : IsImage s at (move_at (automaton_of t) e).resets image

-- The byte is one from which on the moves of a mode of the table t are looked at. What is said of the first that is not passed over holds for every
-- table whose rules these are.
abbrev pub FromMode : List ℕ → List ℕ → ℕ → ℕ → Type 0
FromMode t rs mode byte = IsTable t × IsRules t rs × (mode < length (automaton_of t).modes) × (byte ≤ 64)

abbrev pub FromReady : List ℕ → ℕ → ℕ → Type 0
FromReady rs mode byte = (t : List ℕ) × FromMode t rs mode byte

abbrev pub FromDone : List ℕ → List ℕ → ℕ → ℕ → Option ℕ → Type 0
FromDone rs hs mode byte result = (t : List ℕ) → FromMode t rs mode byte → OpenNamed t rs hs mode byte result
