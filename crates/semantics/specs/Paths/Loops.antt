-- Loop removal: a path of E steps or more comes to some node twice, and leaving out what lies between makes it shorter and no dearer. So
-- every path can be made one of at most E - 1 steps. The charge of a path is at most the greatest weight for each step.
-- Assumes nothing.
use Rattle.std.specs.Prelude.{◌≡◌, List, [], ◌∷◌, ◌++◌, ℕ, zero, suc, ◌*◌, ◌≤◌, ◌<◌, length, take, drop}
use Rattle.std.proofs.Common.{sym, subst, le_refl, zero-mul, suc-mul, arith, length-append, length-take, length-drop}
use Rattle.std.proofs.Math.Decide.{dec_le}
use Rattle.semantics.specs.Graph.Path.{Edge, Graph, Closed, WeightsWithin, IsPath, charge_of}
use Rattle.semantics.specs.Paths.Pigeonhole.{Repeat, pigeonhole}

-- A path from v of fewer edges than p that is charged no more.
pub record Shorter (g : Graph) (v : ℕ) (p : List Edge) : Type 0 where
  pub path : List Edge
  pub is-path : IsPath g v path
  pub no-dearer : charge_of path ≤ charge_of p
  pub fewer : length path < length p

-- A path from v of at most E - 1 edges, of no more edges than p and charged no more.
pub record Short (g : Graph) (v : ℕ) (p : List Edge) : Type 0 where
  pub path : List Edge
  pub is-path : IsPath g v path
  pub no-dearer : charge_of path ≤ charge_of p
  pub no_longer : length path ≤ length p
  pub few : length path < g.nodes

-- The node after the first i edges of a path from v.
abbrev node_after : ℕ → List Edge → ℕ → ℕ
node_after v p zero = v
node_after v [] (suc i) = v
node_after v (e ∷ p) (suc i) = node_after e.to p i

-- The path without the edges from place i to place j.
abbrev cut : List Edge → ℕ → ℕ → List Edge
cut p i j = take i p ++ drop j p

charge-cut : (p : List Edge) (i j : ℕ) → i ≤ j → charge_of (cut p i j) ≤ charge_of p
charge-cut p zero zero h = omega arith
charge-cut [] zero (suc j) h = omega arith
charge-cut (e ∷ p) zero (suc j) h = omega (arith, charge-cut p zero j (omega arith))
charge-cut p (suc i) zero h = absurd (omega arith)
charge-cut [] (suc i) (suc j) h = omega arith
charge-cut (e ∷ p) (suc i) (suc j) h = omega (arith, charge-cut p i j (omega arith))

length_cut : (p : List Edge) (i j : ℕ) → i < j → j ≤ length p → length (cut p i j) < length p
length_cut p i j h k = simp (length-append, length-take, length-drop) (omega arith)

module _ (g : Graph) where
  path-drop : (v : ℕ) (p : List Edge) (i : ℕ) → IsPath g v p → IsPath g (node_after v p i) (drop i p)
  path-drop v p zero w = w
  path-drop v [] (suc i) w = w
  path-drop v (e ∷ p) (suc i) w = path-drop e.to p i w.1

  -- The edges between two visits of one node can go.
  path-cut : (v : ℕ) (p : List Edge) (i j : ℕ) → i ≤ j → node_after v p i ≡ node_after v p j → IsPath g v p → IsPath g v (cut p i j)
  path-cut v p zero j h same w = subst (λ (u : ℕ). IsPath g u (drop j p)) (sym same) (path-drop v p j w)
  path-cut v p (suc i) zero h same w = absurd (omega arith)
  path-cut v [] (suc i) (suc j) h same w = w
  path-cut v (e ∷ p) (suc i) (suc j) h same w = (w.0, path-cut e.to p i j (omega arith) same w.1)

module _ (g : Graph) (closed : Closed g) where
  node-below : (v : ℕ) (p : List Edge) (i : ℕ) → v < g.nodes → IsPath g v p → node_after v p i < g.nodes
  node-below v p zero h w = h
  node-below v [] (suc i) h w = h
  node-below v (e ∷ p) (suc i) h w = node-below e.to p i (closed v e h w.0) w.1

  pub loop-removal : (v : ℕ) (p : List Edge) → v < g.nodes → IsPath g v p → g.nodes ≤ length p → Shorter g v p
  loop-removal v p h w long = at (pigeonhole g.nodes (node_after v p) (λ i _. node-below v p i h w))
    where
      at : Repeat (node_after v p) (suc g.nodes) → Shorter g v p
      at r = record {
        path = cut p r.early r.late;
        is-path = path-cut g v p r.early r.late (omega arith) r.same w;
        no-dearer = charge-cut p r.early r.late (omega arith);
        fewer = length_cut p r.early r.late r.early-lt (omega arith);
      }

  -- For a path of fewer than n edges.
  shorten : (n v : ℕ) (p : List Edge) → length p < n → v < g.nodes → IsPath g v p → Short g v p
  shorten zero v p b h w = absurd (omega arith)
  shorten (suc n) v p b h w = at (dec_le g.nodes (length p)) (shorten n v)
    where
      again : (s : Shorter g v p) → Short g v s.path → Short g v p
      again s r = record { path = r.path; is-path = r.is-path; no-dearer = omega arith; no_longer = omega arith; few = r.few }

      at :
          Dec (g.nodes ≤ length p) → ((q : List Edge) → length q < n → v < g.nodes → IsPath g v q → Short g v q)
          → Short g v p
      at (yes long) ih = let s = loop-removal v p h w long in again s (ih s.path (omega arith) h s.is-path)
      at (no few) ih = record { path = p; is-path = w; no-dearer = le_refl (charge_of p); no_longer = le_refl (length p); few = omega arith }

  pub short-path : (v : ℕ) (p : List Edge) → v < g.nodes → IsPath g v p → Short g v p
  short-path v p h w = shorten (suc (length p)) v p (le_refl (suc (length p))) h w

  pub path-charge : (w : ℕ) → WeightsWithin g w → (v : ℕ) (p : List Edge) → v < g.nodes → IsPath g v p → charge_of p ≤ length p * w
  path-charge w light v [] h c = omega (arith, zero-mul w)
  path-charge w light v (e ∷ p) h c =
      omega (arith, suc-mul (length p) w, light v e h c.0, path-charge w light e.to p (closed v e h c.0) c.1)
