-- From the words at the start of a search of a graph to those at its end: the start is seeded, nodes are settled from it as far as the targets, and what
-- is as near as these is kept.
-- Assumes nothing.
use mathlib.Core.Path.{◌≡◌, refl, sym, ap, ◌∙◌}
use mathlib.Core.List.{List, ◌++◌}
use Prim.Native.Nat.{ℕ, ◌*◌, ◌≤◌, ◌<◌}
use native.Mathlib.Nat.{zero-add}
use native.Mathlib.Omega.{arith}
use lib.ListN.{length, drop}
use Rattle.std.specs.Prelude.{Option}
use Rattle.semantics.specs.Graph.Path.{Entry}
use Rattle.semantics.specs.Graph.Distance.{distance, entry_words}
use Rattle.semantics.specs.Graph.Near.{turned, near, near_words}
use Rattle.semantics.specs.Paths.Found.{words_at, words-gathered}
use Rattle.semantics.proofs.Paths.Near.{found-best, found-near, words-near}
use Rattle.near.specs.declared.Cost.{Cost as CostHeld}
use Rattle.near.specs.Near.{cost_entry, NearRoom}
use Rattle.search.specs.Exploring.{Rooted, costs_in}
use Rattle.search.specs.Keep.{KeptNear}
use Rattle.search.specs.Seeding.{SeedReady, Seeded}
use Rattle.search.specs.Searches.{Searchable, FindReady, FoundTarget, SearchDone}
use Rattle.search.proofs.Seeding.{seeded-rest, seeded-kept, seeded-between}

module _ {r : Rooted} (o : Searchable r) {ws : List ℕ} (room : 2 * r.graph.nodes ≤ length ws) where
  pub seeding : SeedReady r.graph.nodes r.start ws
  seeding = record { two = o.two; few = o.few; room = room; there = o.there }

  -- The start was seeded.
  module _ {ws₁ : List ℕ} (seeded : Seeded r.graph.nodes r.start ws ws₁) where
    pub finding : FindReady r ws₁
    finding = record { upto = 0; between = seeded-between r.graph.nodes r.start ws seeding ws₁ seeded r.graph refl }

    -- Nodes were settled as far as the targets.
    module _ {c : Option CostHeld} {ws₂ : List ℕ} (found : FoundTarget r ws₁ ws₂ c) where
      lent : length ws₂ ≡ length ws
      lent = found.kept ∙ seeded-kept r.graph.nodes r.start ws seeding ws₁ seeded

      pub keeping : NearRoom r.graph.nodes ws₂
      keeping = record { few = omega (arith, o.few); room = omega (arith, room, lent) }

      -- What is as near as the targets was kept.
      module _ {ws₃ : List ℕ} (kept : KeptNear r.graph.nodes c ws₂ ws₃) where
        abbrev nearest : ℕ → Entry
        nearest v = near (distance r.graph r.start) (distance (turned r.graph r.start) v)

        entries : (v : ℕ) → v < r.graph.nodes → words_at ws₃ v ≡ entry_words (nearest v)
        entries v h =
            kept.entries v h
            ∙ ap entry_words
            (found-near r.graph r.start o.closed o.there o.weight o.light o.small (costs_in r.graph.nodes ws₂) (cost_entry c) found.explored found.within
            (cost_entry c) found.best v h)

        kept-rest : drop (2 * r.graph.nodes) ws₃ ≡ drop (2 * r.graph.nodes) ws
        kept-rest = kept.rest ∙ found.rest ∙ seeded-rest r.graph.nodes r.start ws seeding ws₁ seeded

        kept-length : length ws₃ ≡ length ws
        kept-length = kept.kept ∙ lent

        -- The words are those of the definition.
        near-found : ws₃ ≡ near_words r.graph r.start ++ drop (2 * r.graph.nodes) ws
        unfolding near_words
        near-found =
            words-gathered nearest r.graph.nodes 0 ws₃ (omega (arith, room, kept-length))
            (λ v h. entries v h ∙ ap (λ (u : ℕ). entry_words (nearest u)) (sym (zero-add v)))
            ∙ ap (λ (l : List ℕ). near_words r.graph r.start ++ l) kept-rest

        pub search-done : SearchDone r ws ws₃ c
        search-done = record {
          cost-is =
              found-best r.graph r.start o.closed o.there o.weight o.light o.small (costs_in r.graph.nodes ws₂) (cost_entry c) found.explored found.within
              (cost_entry c) found.best;
          words = near-found;
          near = λ v h. words-near r.graph r.start o.closed o.there o.weight o.light o.small ws₃ _ near-found v h;
          rest = kept-rest;
          kept = kept-length;
        }
