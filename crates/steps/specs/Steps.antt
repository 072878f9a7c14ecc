-- The steps of a walk along best paths. The walk stands at a place with some corners marked: those to which tight edges led.
-- Assumes nothing.
use Rattle.std.specs.Prelude.{◌≡◌, ◌↔◌, List, ℕ, suc, ◌+◌, ◌*◌, ◌/◌, ◌%◌, ◌^◌, ◌≤◌, ◌<◌, Option, Some, None, length}
use Rattle.std.proofs.Math.Option.{some}
use Rattle.semantics.specs.Order.{cost}
use Rattle.semantics.specs.Region.{top}
use Rattle.semantics.specs.Chain.{Place, step}
use Rattle.semantics.specs.Graph.Path.{Entry, reached, infinity, charge_at, steps_at}
use Rattle.semantics.specs.Graph.CornerGraph.{number_of}
use Rattle.semantics.specs.Answers.Marks.{Led}
use Rattle.table.specs.Fields.{most_price}
use Rattle.table.specs.Held.{automaton_of}
use Rattle.space.specs.declared.Space.{Space}
use Rattle.steps.specs.declared.Stand.{Stand}
use Rattle.steps.specs.declared.Next.{Next}
use Rattle.space.specs.Space.{Setting, place_of}

-- Corner j is in the set, which has a bit for each corner.
abbrev pub Marked : ℕ → ℕ → Type 0
Marked set j = set / 2 ^ j % 2 ≡ 1

-- The place at which the walk stands.
abbrev pub stand_place : List ℕ → Stand → Place
stand_place t z = place_of (automaton_of t) z.first

-- d is a table of costs of which the words tell what the walk asks: what the marked corners cost, and which nodes cost c in one step more.
pub record Tells (s : Space) (z : Stand) (ws : List ℕ) (d : ℕ → Entry) : Type 0 where
  pub entry : (j : ℕ) → Marked z.set j → d (z.first + j) ≡ reached (cost (charge_at ws (z.first + j)) z.steps)
  pub next :
      (v c : ℕ) → v < s.nodes → c < infinity
      → (d v ≡ reached (cost c (suc z.steps))) ↔ ((charge_at ws v ≡ c) × (steps_at ws v ≡ suc z.steps))

pub record StandReady (t rs : List ℕ) (s : Space) (z : Stand) (ws : List ℕ) : Type 0 where
  pub setting : Setting t rs s
  pub words : 2 * s.nodes ≤ length ws
  pub there : z.first < s.nodes
  pub first-is : number_of (automaton_of t) (stand_place t z) 0 ≡ z.first
  pub corners : (j : ℕ) → Marked z.set j → j ≤ top (stand_place t z).region
  pub sixteen : z.set < 16
  pub room : (j : ℕ) → Marked z.set j → charge_at ws (z.first + j) + most_price < infinity
  pub short : z.steps < 65536
  pub below : z.byte ≤ 66
  pub table : ℕ → Entry
  pub tells : Tells s z ws table

-- By the byte of r the step leads on: to the place whose first node it says, and to the corners that it marks.
pub record Leads (t : List ℕ) (l : ℕ) (d : ℕ → Entry) (z : Stand) (r : Next) : Type 0 where
  pub place : Place
  pub leads : step (automaton_of t) r.byte (stand_place t z) ≡ some place
  pub first-is : r.first ≡ number_of (automaton_of t) place 0
  pub sixteen : r.set < 16
  pub marks :
      (i : ℕ) → Marked r.set i ↔ Led (automaton_of t) l d (stand_place t z) z.steps (Marked z.set) r.byte place i
  pub corner : ℕ
  pub marked : Marked r.set corner

-- The byte of a step, or one that no step has.
abbrev pub byte_of : Option Next → ℕ
byte_of None = 66
byte_of (Some r) = r.byte

-- r has the least byte, from the walk's on, along whose step a tight edge leads on; or is no step if there is none.
pub record IsNext (t : List ℕ) (l : ℕ) (d : ℕ → Entry) (z : Stand) (r : Option Next) : Type 0 where
  pub from : z.byte ≤ byte_of r
  pub none_before :
      (k : ℕ) (y : Place) (i : ℕ) → z.byte ≤ k → k < byte_of r → step (automaton_of t) k (stand_place t z) ≡ some y
      → Led (automaton_of t) l d (stand_place t z) z.steps (Marked z.set) k y i → ⊥
  pub leads : (n : Next) → r ≡ Some n → (n.byte < 66) × Leads t l d z n

-- For every goal, and every table of costs of which the words tell so.
abbrev pub NextStep : List ℕ → Space → Stand → List ℕ → Option Next → Type 0
NextStep t s z ws r = (l : ℕ) (d : ℕ → Entry) → Tells s z ws d → IsNext t l d z r
