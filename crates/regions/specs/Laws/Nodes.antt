-- Cells and nodes over an array of ceilings: what lies behind the last ceiling changes nothing.
-- Assumes nothing.
use Rattle.std.specs.Prelude.{◌≡◌, refl, List, [], ◌∷◌, ◌++◌, ℕ, zero, suc, ◌+◌, ◌*◌, ◌-◌, ◌/◌, ◌%◌, ◌≤◌, take, replicate}
use Rattle.std.proofs.Common.{sym, ap₂, ◌∙◌, arith}
use Rattle.std.proofs.Math.Path.{ap}
use Rattle.std.proofs.Math.Nat.{mod-one}
use Rattle.std.proofs.Math.ListN.{length}
use Rattle.std.proofs.Math.Seq.{take-append_seam}
use Rattle.semantics.specs.Automaton.{timers}
use Rattle.semantics.specs.NodeCount.{corner_count, factor, cell_count, node_count}
use Rattle.semantics.specs.Nodes.Node.{cell_number, cell_at}
use Rattle.semantics.specs.Nodes.Cells.{cell_at-length}
use Rattle.table.specs.Held.{automaton_of, IsTable}
use Rattle.table.specs.Theorems.Access.{get_or-pad, get_or-all}
pub use Rattle.corners.specs.Laws.Corners.{corners-few}
use Rattle.regions.specs.Held.{most_timers, pad}
use Rattle.regions.specs.Nodes.{most_ceiling, CeilingsFew, Padded}

-- Factors behind the last ceiling are 1, and digits there are 0.
count_zeros : (k : ℕ) → cell_count (replicate k 0) ≡ 1
count_zeros zero = refl
count_zeros (suc k) = ap (λ (m : ℕ). m * 1) (count_zeros k)

count-behind : (cs : List ℕ) (k : ℕ) → cell_count (cs ++ replicate k 0) ≡ cell_count cs
count-behind [] k = count_zeros k
count-behind (c ∷ cs) k = ap (λ (m : ℕ). m * factor c) (count-behind cs k)

number-zeros : (k : ℕ) → cell_number (replicate k 0) (replicate k 0) ≡ 0
number-zeros zero = refl
number-zeros (suc k) = ap (λ (m : ℕ). m * 1 + 0) (number-zeros k)

number_behind : (cs w : List ℕ) (k : ℕ) → length w ≡ length cs → cell_number (cs ++ replicate k 0) (w ++ replicate k 0) ≡ cell_number cs w
number_behind [] [] k h = number-zeros k
number_behind [] (x ∷ w) k h = absurd (omega arith)
number_behind (c ∷ cs) [] k h = absurd (omega arith)
number_behind (c ∷ cs) (x ∷ w) k h = ap (λ (m : ℕ). m * factor c + x) (number_behind cs w k (omega arith))

at-zeros : (k i : ℕ) → cell_at (replicate k 0) i ≡ replicate k 0
at-zeros zero i = refl
at-zeros (suc k) i = ap₂ (λ (d : ℕ) (l : List ℕ). d ∷ l) (mod-one i) (at-zeros k (i / 1))

at-behind : (cs : List ℕ) (k i : ℕ) → cell_at (cs ++ replicate k 0) i ≡ cell_at cs i ++ replicate k 0
at-behind [] k i = at-zeros k i
at-behind (c ∷ cs) k i = ap (λ (l : List ℕ). i % factor c ∷ l) (at-behind cs k (i / factor c))

module _ (n : ℕ) (ceilings : List ℕ) (p : Padded n ceilings) where
  pub count-padded : cell_count ceilings ≡ cell_count (take n ceilings)
  count-padded = ap cell_count p ∙ count-behind (take n ceilings) (most_timers - length (take n ceilings))

  pub number-padded : (w : List ℕ) → length w ≡ length (take n ceilings) → cell_number ceilings (pad most_timers w) ≡ cell_number (take n ceilings) w
  number-padded w h =
      ap (λ (l : List ℕ). cell_number l (pad most_timers w)) p
      ∙ ap (λ (k : ℕ). cell_number (pad most_timers (take n ceilings)) (w ++ replicate (most_timers - k) 0)) h
      ∙ number_behind (take n ceilings) w (most_timers - length (take n ceilings)) h

  pub at-padded : (i : ℕ) → cell_at ceilings i ≡ pad most_timers (cell_at (take n ceilings) i)
  at-padded i =
      ap (λ (l : List ℕ). cell_at l i) p ∙ at-behind (take n ceilings) (most_timers - length (take n ceilings)) i
      ∙ ap (λ (k : ℕ). cell_at (take n ceilings) i ++ replicate (most_timers - k) 0) (sym (cell_at-length (take n ceilings) i))

-- The ceilings of a table, as `table::ceilings` gives them.
module _ (t : List ℕ) (h : IsTable t) where
  pub table-ceilings : take (timers (automaton_of t)) (pad most_timers (automaton_of t).ceilings) ≡ (automaton_of t).ceilings
  table-ceilings = take-append_seam (automaton_of t).ceilings (replicate (most_timers - timers (automaton_of t)) 0)

  pub table-padded : Padded (timers (automaton_of t)) (pad most_timers (automaton_of t).ceilings)
  table-padded = ap (pad most_timers) (sym table-ceilings)

  pub table-few : CeilingsFew (pad most_timers (automaton_of t).ceilings)
  table-few i =
      let few = get_or-all (λ c. c ≤ most_ceiling) (automaton_of t).ceilings (λ c m. (h.range.ceilings-range c m).1) (omega arith) i in
      rw (get_or-pad most_timers (automaton_of t).ceilings i) few

  -- E by what the table's accessors give.
  pub table-nodes :
      length (automaton_of t).modes * cell_count (pad most_timers (automaton_of t).ceilings) * corner_count (timers (automaton_of t)) 1
      ≡ node_count (automaton_of t)
  unfolding node_count
  table-nodes =
      ap (λ (c : ℕ). length (automaton_of t).modes * c * corner_count (timers (automaton_of t)) 1)
      (count-padded (timers (automaton_of t)) (pad most_timers (automaton_of t).ceilings) table-padded ∙ ap cell_count table-ceilings)
