-- The least cost from a node into the targets, as a function.
-- Assumes nothing.
use Rattle.std.specs.Prelude.{cond, List, [], ◌∷◌, ℕ, zero, suc, pred}
use Rattle.semantics.specs.Order.{cost, is_less}
use Rattle.semantics.specs.Graph.Path.{Edge, Graph, Entry, unreached, reached, along, infinity}

-- The lesser of two entries; the first of two that are the same.
abbrev pub lesser : Entry → Entry → Entry
lesser unreached y = y
lesser (reached a) unreached = reached a
lesser (reached a) (reached b) = cond (is_less b a) (reached b) (reached a)

-- What edge e offers, where its end has the entry.
abbrev pub offered : Edge → Entry → Entry
offered e unreached = unreached
offered e (reached c) = reached (along e c)

-- The least of an entry and of what the edges offer by the table d.
abbrev pub relaxed : (ℕ → Entry) → List Edge → Entry → Entry
relaxed d [] x = x
relaxed d (e ∷ es) x = relaxed d es (lesser x (offered e (d e.to)))

-- A target has the cost of the path of no edges.
abbrev pub target_entry : Graph → ℕ → Entry
target_entry g v = cond (g.is_target v) (reached (cost 0 0)) unreached

-- The least cost of the paths of at most n edges.
unfoldable pub up_to : Graph → ℕ → ℕ → Entry
up_to g zero v = target_entry g v
up_to g (suc n) v = relaxed (up_to g n) (g.edges v) (target_entry g v)

-- The least cost of all paths: E - 1 edges are enough (a theorem).
unfoldable pub distance : Graph → ℕ → Entry
distance g = up_to g (pred g.nodes)

-- The two words of an entry, its charge and its steps. An unreached node has infinity in both.
abbrev pub entry_words : Entry → List ℕ
entry_words unreached = infinity ∷ infinity ∷ []
entry_words (reached c) = c.charge ∷ c.steps ∷ []
