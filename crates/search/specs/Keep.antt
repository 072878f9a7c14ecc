-- What the functions that keep what is as near as the goal ask and do.
-- Assumes nothing.
use Rattle.std.specs.Prelude.{◌≡◌, Bool, true, false, Option, Some, None, ◌&&◌, cond, List, ℕ, ◌*◌, ◌<◌, eqb, leb, length, drop}
use Rattle.semantics.specs.Graph.Path.{infinity}
use Rattle.semantics.specs.Graph.Distance.{entry_words}
use Rattle.semantics.specs.Graph.Near.{near}
use Rattle.semantics.specs.Paths.Found.{words_at}
use Rattle.near.specs.declared.Cost.{Cost as CostHeld}
use Rattle.near.specs.Near.{cost_entry}
use Rattle.search.specs.Exploring.{costs_in}

-- Whether a cost is no dearer and no farther than the best; any is, if there is none.
abbrev pub no_farther : ℕ → ℕ → Option CostHeld → Bool
no_farther charge steps None = true
no_farther charge steps (Some best) = leb charge best.charge && leb steps best.steps

-- Whether it is reached besides.
unfoldable pub is_near : ℕ → ℕ → Option CostHeld → Bool
is_near charge steps best = cond (eqb charge infinity) false (no_farther charge steps best)

-- The words of each node are those of its cost, if it is as near as the best, and otherwise those of an unreached node. The rest is the same.
pub record KeptNear (nodes : ℕ) (best : Option CostHeld) (ws ws' : List ℕ) : Type 0 where
  pub entries : (v : ℕ) → v < nodes → words_at ws' v ≡ entry_words (near (cost_entry best) (costs_in nodes ws v))
  pub rest : drop (2 * nodes) ws' ≡ drop (2 * nodes) ws
  pub kept : length ws' ≡ length ws
