-- How many nodes a table has, how they are shared out to its modes, and where chains begin.
-- Assumes nothing.
use Rattle.std.specs.Prelude.{◌≡◌, ◌≢◌, List, ℕ, zero, suc, ◌+◌, ◌*◌, ◌/◌, ◌≤◌, ◌<◌, length}
use Rattle.std.proofs.Common.{ap, ◌∙◌, sym, suc-mul, mul-le-mul_right, arith}
use Rattle.std.proofs.Math.Nat.{mul_assoc, div-eq_of_eq-mul_right}
use Rattle.semantics.specs.Automaton.{Automaton, timers}
use Rattle.semantics.specs.NodeCount.{corner_count, cell_count, node_count}
use Rattle.semantics.specs.Chain.{begin}
use Rattle.semantics.proofs.Bounds.Reached.{reached-begin}
use Rattle.semantics.specs.Answers.Places.{IsPlace}
use Rattle.semantics.proofs.Answers.Places.{reached-place, number-below}
use Rattle.table.specs.Held.{automaton_of, IsTable}
use Rattle.table.specs.Theorems.Access.{table-proper, counts, mode-count, timer-count}
use Rattle.rules.specs.Rules.{IsRules}
use Rattle.regions.specs.Held.{most_timers}
use Rattle.regions.specs.Nodes.{most_modes, most_nodes}
use Rattle.space.specs.declared.Space.{Space}
use Rattle.space.specs.Space.{start_of, IsSpace, Setting}

-- How many nodes a mode has.
abbrev pub share : Automaton → ℕ
share a = cell_count a.ceilings * corner_count (timers a) 1

module _ (a : Automaton) where
  pub nodes-shared : node_count a ≡ length a.modes * share a
  unfolding node_count
  nodes-shared = mul_assoc (length a.modes) (cell_count a.ceilings) (corner_count (timers a) 1)

  -- So the quotient of all by the modes is a mode's.
  pub share-quotient : 1 ≤ length a.modes → node_count a / length a.modes ≡ share a
  share-quotient some = div-eq_of_eq-mul_right {n = length a.modes} {m = node_count a} {k = share a} some nodes-shared

  pub shared-out : 1 ≤ length a.modes → length a.modes * (node_count a / length a.modes) ≡ node_count a
  shared-out some = ap (λ (k : ℕ). length a.modes * k) (share-quotient some) ∙ sym nodes-shared

-- The nodes of a mode end where those of the next one begin.
pub share-below : (mode modes share : ℕ) → mode < modes → mode * share + share ≤ modes * share
share-below mode modes share h = omega (arith, suc-mul mode share, mul-le-mul_right {m = suc mode} {n = modes} share h)

-- A multiple of 3, 13 or 75 is not 65,536; and it is at least 3, or 0.
corners-multiple : (x n : ℕ) → 1 ≤ n → n ≤ 3 → (x * corner_count n 1 ≢ most_nodes) × (1 ≤ x * corner_count n 1 → 3 ≤ x * corner_count n 1)
corners-multiple x zero h k = absurd (omega arith)
corners-multiple x (suc zero) h k = (λ e. omega arith, λ l. omega arith)
corners-multiple x (suc (suc zero)) h k = (λ e. omega arith, λ l. omega arith)
corners-multiple x (suc (suc (suc zero))) h k = (λ e. omega arith, λ l. omega arith)
corners-multiple x (suc (suc (suc (suc n)))) h k = absurd (omega arith)

module _ (t : List ℕ) (h : IsTable t) where
  pub some-modes : 1 ≤ length (automaton_of t).modes
  some-modes = omega (arith, counts t h, mode-count t h)

  pub few-modes : length (automaton_of t).modes ≤ most_modes
  few-modes = omega (arith, counts t h, mode-count t h)

  pub table-timers : (1 ≤ timers (automaton_of t)) × (timers (automaton_of t) ≤ most_timers)
  table-timers = omega (arith, counts t h, timer-count t h)

  multiple : (node_count (automaton_of t) ≢ most_nodes) × (1 ≤ node_count (automaton_of t) → 3 ≤ node_count (automaton_of t))
  unfolding node_count
  multiple =
      let a = automaton_of t in
      corners-multiple (length a.modes * cell_count a.ceilings) (timers a) table-timers.0 table-timers.1

  -- E is not 65,536.
  pub nodes-fewer : node_count (automaton_of t) ≤ most_nodes → node_count (automaton_of t) ≤ 65535
  nodes-fewer few = let n = multiple.0 in omega arith

  -- A mode has no more nodes than there are.
  pub block_within : {s : Space} → IsSpace t s → s.block ≤ s.nodes
  block_within {s} space =
      let a = automaton_of t in
      let first = share-below 0 (length a.modes) s.block (omega (arith, (table-proper t h).goal-there)) in
      omega (arith, first, space.nodes-are, nodes-shared a, ap (λ (n : ℕ). length a.modes * n) space.block-is)

  -- A table that is not refused for its nodes can be searched.
  pub table-setting : {rs : List ℕ} {s : Space} → IsRules t rs → IsSpace t s → node_count (automaton_of t) ≤ most_nodes → Setting t rs s
  table-setting rules space few =
      record { is-table = h; is-rules = rules; is-space = space; few = omega (arith, nodes-fewer few, space.nodes-are) }

  -- Where chains begin.
  start-place : IsPlace (automaton_of t) (begin (automaton_of t))
  start-place = let a = automaton_of t in reached-place a (begin a) (reached-begin a (table-proper t h))

  pub start-below : start_of t < node_count (automaton_of t)
  start-below = number-below (automaton_of t) (begin (automaton_of t)) start-place 0 start-place.well-formed.priced

  pub nodes-three : 3 ≤ node_count (automaton_of t)
  nodes-three = multiple.1 (omega (arith, start-below))
