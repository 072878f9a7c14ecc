-- The distances as a list that antt computes: round by round over all nodes, each round looking up the one before it.
-- Assumes nothing.
use Rattle.std.specs.Prelude.{◌≡◌, refl}
use Rattle.std.proofs.Common.{sym, ◌∙◌, zero-add}
use Rattle.std.proofs.Math.Path.{ap}
use mathlib.Core.List.{List, [], ◌∷◌, map, Memᴰ}
use Prim.Native.Nat.{ℕ, zero, suc, pred, ◌+◌, ◌<◌}
use native.Mathlib.Omega.{arith}
use Rattle.std.proofs.Math.ListN.{get_or}
use Rattle.semantics.specs.Answer.{count_from}
use Rattle.semantics.specs.Graph.Path.{Edge, Graph, Closed, Entry, unreached}
use Rattle.semantics.specs.Graph.Distance.{offered, lesser, relaxed, target_entry, up_to, distance}

-- One round: every node's entry by the edges that leave it and the entries d.
abbrev pub round : (ℕ → Entry) → List (List Edge) → List Entry → List Entry
round d [] ts = []
round d (es ∷ ess) [] = []
round d (es ∷ ess) (t ∷ ts) = relaxed d es t ∷ round d ess ts

-- So many rounds, from the entries that are given.
abbrev pub rounds : List (List Edge) → List Entry → ℕ → List Entry → List Entry
rounds ess ts zero now = now
rounds ess ts (suc n) now = rounds ess ts n (round (λ v. get_or now v unreached) ess ts)

-- The distances of all nodes. The edges are computed once.
unfoldable pub distances : Graph → List Entry
distances g =
    let ess = map g.edges (count_from 0 g.nodes) in
    let ts = map (target_entry g) (count_from 0 g.nodes) in
    rounds ess ts (pred g.nodes) ts

-- The entry of a list made by a function on the numbers from i on.
get_or-counted : {A : Type 0} (f : ℕ → A) (d : A) (i n v : ℕ) → v < n → get_or (map f (count_from i n)) v d ≡ f (i + v)
get_or-counted f d i zero v h = absurd (omega arith)
get_or-counted f d i (suc n) zero h = ap f (omega arith)
get_or-counted f d i (suc n) (suc v) h =
    let e : suc i + v ≡ i + suc v = omega arith in
    get_or-counted f d (suc i) n v (omega arith) ∙ ap f e

round-at : (g : Graph) (d : ℕ → Entry) (i n v : ℕ) → v < n →
    get_or (round d (map g.edges (count_from i n)) (map (target_entry g) (count_from i n))) v unreached ≡ relaxed d (g.edges (i + v)) (target_entry g (i + v))
round-at g d i zero v h = absurd (omega arith)
round-at g d i (suc n) zero h = let e : i ≡ i + 0 = omega arith in ap (λ (u : ℕ). relaxed d (g.edges u) (target_entry g u)) e
round-at g d i (suc n) (suc v) h =
    let e : suc i + v ≡ i + suc v = omega arith in
    round-at g d (suc i) n v (omega arith) ∙ ap (λ (u : ℕ). relaxed d (g.edges u) (target_entry g u)) e

-- Relaxing looks only at the ends of the edges.
relaxed-same : (d d' : ℕ → Entry) (es : List Edge) (x : Entry) → ((e : Edge) → Memᴰ e es → d e.to ≡ d' e.to) → relaxed d es x ≡ relaxed d' es x
relaxed-same d d' [] x h = refl
relaxed-same d d' (e ∷ es) x h =
    ap (λ (y : Entry). relaxed d es (lesser x (offered e y))) (h e (Memᴰ.head refl))
    ∙ relaxed-same d d' es (lesser x (offered e (d' e.to))) (λ f m. h f (Memᴰ.tail m))

module _ (g : Graph) (closed : Closed g) where
  abbrev ess : List (List Edge)
  ess = map g.edges (count_from 0 g.nodes)

  abbrev ts : List Entry
  ts = map (target_entry g) (count_from 0 g.nodes)

  -- The list holds the least costs of the paths of at most k edges.
  abbrev Holds : ℕ → List Entry → Type 0
  Holds k now = (v : ℕ) → v < g.nodes → get_or now v unreached ≡ up_to g k v

  round-holds : (k : ℕ) (now : List Entry) → Holds k now → Holds (suc k) (round (λ v. get_or now v unreached) ess ts)
  unfolding up_to
  round-holds k now h v l =
      round-at g (λ v. get_or now v unreached) 0 g.nodes v l
      ∙ ap (λ (u : ℕ). relaxed (λ v. get_or now v unreached) (g.edges u) (target_entry g u)) (zero-add v)
      ∙ relaxed-same (λ v. get_or now v unreached) (up_to g k) (g.edges v) (target_entry g v) (λ e m. h e.to (closed v e l m))

  rounds-hold : (n k : ℕ) (now : List Entry) → Holds k now → Holds (n + k) (rounds ess ts n now)
  rounds-hold zero k now h v l = h v l ∙ ap (λ (j : ℕ). up_to g j v) (sym (zero-add k))
  rounds-hold (suc n) k now h v l =
      let e : n + suc k ≡ suc n + k = omega arith in
      rounds-hold n (suc k) (round (λ v. get_or now v unreached) ess ts) (round-holds k now h) v l ∙ ap (λ (j : ℕ). up_to g j v) e

  -- The list has the distance of every node.
  pub distances-at : (v : ℕ) → v < g.nodes → get_or (distances g) v unreached ≡ distance g v
  unfolding distances distance up_to
  distances-at v l =
      let first : Holds 0 ts = λ u b. get_or-counted (target_entry g) unreached 0 g.nodes u b ∙ ap (target_entry g) (zero-add u) in
      let e : pred g.nodes + 0 ≡ pred g.nodes = omega arith in
      rounds-hold (pred g.nodes) 0 ts first v l ∙ ap (λ (j : ℕ). up_to g j v) e
