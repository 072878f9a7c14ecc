-- The edges of moves from a corner are those of the moves that are not passed over there.
-- Assumes nothing.
use mathlib.Core.Path.{◌≡◌, refl, sym, ap, ◌∙◌}
use mathlib.Core.Bool.{Bool, true, false, cond}
use mathlib.Core.Logic.{◌↔◌}
use mathlib.Core.List.{List}
use Prim.Native.Nat.{ℕ, ◌+◌, ◌*◌, ◌<◌}
use native.Mathlib.Nat.{add-mul, mul_assoc}
use native.Mathlib.Decide.{dec_lt}
use native.Mathlib.Omega.{arith}
use lib.ListN.{length}
use Rattle.semantics.specs.Automata.Proper.{Proper}
use Rattle.semantics.specs.Automaton.{Automaton, move_at}
use Rattle.semantics.specs.Region.{PricedRegion, reset_all, meets_all}
use Rattle.semantics.specs.Run.{among}
use Rattle.semantics.specs.NodeCount.{cell_count, corner_count}
use Rattle.semantics.specs.Nodes.Node.{cell_number, node_of, node_number}
use Rattle.semantics.specs.Chain.{Place}
use Rattle.semantics.specs.Corners.Edges.{reset_all_corner}
use Rattle.semantics.specs.Regions.Windows.{half}
use Rattle.semantics.proofs.Bounds.Stays.{resets-in}
use Rattle.semantics.specs.Graph.Path.{Edge}
use Rattle.semantics.specs.Graph.CornerGraph.{number_of}
use Rattle.semantics.specs.Answers.Places.{IsPlace}
use Rattle.semantics.proofs.Answers.Moving.{moved_to, moved-place, MoveEdge}
use Rattle.table.specs.Held.{automaton_of, IsTable}
use Rattle.table.specs.Theorems.Access.{table-proper}
use Rattle.rules.specs.Rules.{target_conditions, IsRules}
use Rattle.rules.specs.Laws.Windows.{move-window}
use Rattle.space.specs.declared.Space.{Space}
use Rattle.space.specs.Space.{IsSpace}
use Rattle.space.specs.Halves.{half-resets}
use Rattle.space.specs.Moves.{Open}
use Rattle.space.proofs.Settings.{place-halves, halves-behind, halves_of, halves-at}

cond-zero : (b : Bool) (h : ℕ) → h ≡ 0 → cond b 0 h ≡ 0
cond-zero true h e = refl
cond-zero false h e = e

-- The tests of a move at a place, by the places of the timers in half minutes.
module _ (t rs : List ℕ) (table : IsTable t) (rules : IsRules t rs) (p : Place) (place : IsPlace (automaton_of t) p) (e : ℕ)
    (there : e < length (automaton_of t).moves) where
  abbrev a : Automaton
  a = automaton_of t

  abbrev xs : List ℕ
  xs = (move_at (automaton_of t) e).resets

  ok : Proper (automaton_of t)
  ok = table-proper t table

  after : IsPlace (automaton_of t) (moved_to (automaton_of t) e p)
  after = moved-place (automaton_of t) ok e there p place

  -- The timers after the resets.
  stand-after :
      (x : ℕ) → x < 3
      → half (moved_to (automaton_of t) e p).region x ≡ cond (among x (move_at (automaton_of t) e).resets) 0 (half p.region x)
  stand-after x l = at (dec_lt x (length p.region.whole))
    where
      at : Dec (x < length p.region.whole) → half (reset_all xs p.region) x ≡ cond (among x xs) 0 (half p.region x)
      at (yes b) = half-resets xs p.region place.well-formed (λ y m. rw place.cell.sized (resets-in a ok e y m)) x b
      at (no n) =
          halves-behind (moved_to a e p).region after.well-formed x (omega (arith, after.cell.sized, place.cell.sized))
          ∙ sym (cond-zero (among x xs) (half p.region x) (halves-behind p.region place.well-formed x (omega arith)))

  tests :
      Open rs (halves_of p.region) e
      ↔ ((meets_all (move_at (automaton_of t) e).conditions p.region ≡ true)
      × (meets_all (target_conditions (automaton_of t) e) (moved_to (automaton_of t) e p).region ≡ true))
  tests =
      move-window t rs table rules e there p.region (moved_to (automaton_of t) e p).region (place-halves t table p place)
      (place-halves t table (moved_to (automaton_of t) e p) after) stand-after (halves_of p.region) (halves-at p.region)

-- The edge of move e from corner j of a place.
abbrev pub move_edge : Automaton → Place → ℕ → ℕ → Edge
move_edge a p j e = record {
  label = e;
  weight = (move_at a e).price;
  to = number_of a (moved_to a e p) (reset_all_corner (move_at a e).resets p.region j);
}

-- A move from the place's mode that is not passed over has this edge.
pub open-edge :
    (t rs : List ℕ) → IsTable t → IsRules t rs → (p : Place) → IsPlace (automaton_of t) p → (j e : ℕ) → e < length (automaton_of t).moves
    → (move_at (automaton_of t) e).source ≡ p.mode → Open rs (halves_of p.region) e → MoveEdge (automaton_of t) p j (move_edge (automaton_of t) p j e)
open-edge t rs table rules p place j e there source o =
    let met = (tests t rs table rules p place e there).0 o in
    record { there = there; source = source; guard = met.0; invariant = met.1; weighs = refl; leads = refl }

-- And every edge of a move is one of these.
pub edge-open :
    (t rs : List ℕ) → IsTable t → IsRules t rs → (p : Place) → IsPlace (automaton_of t) p → (j : ℕ) (x : Edge) → MoveEdge (automaton_of t) p j x
    → Open rs (halves_of p.region) x.label
edge-open t rs table rules p place j x m = (tests t rs table rules p place x.label m.there).1 (m.guard, m.invariant)

pub edge-is : (a : Automaton) (p : Place) (j : ℕ) (x : Edge) → MoveEdge a p j x → x ≡ move_edge a p j x.label
edge-is a p j x m = λ i. record { label = x.label; weight = m.weighs i; to = m.leads i }

-- A mode's nodes come behind those of the modes before it.
mode-number :
    (cs : List ℕ) (r : PricedRegion) (m j : ℕ)
    → node_number cs (node_of m r j) ≡ node_number cs (node_of 0 r j) + m * (cell_count cs * corner_count (length cs) 1)
unfolding node_number
mode-number cs r m j =
    let k = corner_count (length cs) 1 in
    omega (arith, add-mul (m * cell_count cs) (cell_number cs r.whole) k, mul_assoc m (cell_count cs) k)

-- So they come that many blocks behind those of mode 0.
pub mode-block :
    {t : List ℕ} {s : Space} → IsSpace t s → (r : PricedRegion) (m j : ℕ) {image : ℕ} → image ≡ node_number (automaton_of t).ceilings (node_of 0 r j)
    → image + m * s.block ≡ number_of (automaton_of t) (record { mode = m; region = r }) j
mode-block {t} space r m j is =
    omega (arith, is, mode-number (automaton_of t).ceilings r m j, ap (λ (b : ℕ). m * b) space.block-is)
