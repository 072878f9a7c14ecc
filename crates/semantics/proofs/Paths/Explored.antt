-- Explored forwards from a node s: the table still holds the least costs from s, as far as those are at most the cost of every way from s to a
-- target, though edges of targets, and of nodes that cost no less than a bound, were not relaxed.
-- Assumes nothing.
use Rattle.std.specs.Prelude.{◌≡◌, refl, ◌⊎◌, List, [], ◌∷◌, ℕ, ◌<◌}
use Rattle.std.proofs.Common.{◌∙◌, ap, inl, inr, arith}
use Rattle.semantics.specs.Order.{Cost, ◌≼◌, ◌≺◌}
use Rattle.semantics.specs.Graph.Path.{Edge, Graph, Leaves, Target, IsPath, cost_of, HasCost, Least, Entry, unreached, reached, Relaxed}
use Rattle.semantics.specs.Graph.Near.{turned}
use Rattle.semantics.specs.Paths.Cost.{cost-same, cost-trans, cost-fewer, cost-weaken, same-less, less-trans, not-both}
use Rattle.semantics.specs.Paths.Least.{least-steps}
use Rattle.semantics.specs.Paths.Turned.{TurnedEdge, leaves-turned, turned-nodes, turned-closed}
use Rattle.semantics.specs.Paths.Explored.{RelaxedFrom, Beyond, Explored, least-rest, within-least}

module _ (g : Graph) (s : ℕ) (bound : Entry) (d : ℕ → Entry) (explored : Explored g s bound d) (B : Cost)
    (low : (c : Cost) → bound ≡ reached c → B ≼ c)
    (goals : (v : ℕ) (a : Cost) → v < g.nodes → Target g v → HasCost (turned g s) v a → B ≼ a) where
  -- What is beyond the bound costs no less than B.
  beyond-least : (x : Entry) → bound ≡ x → (a : Cost) → Beyond x a → B ≼ a
  beyond-least unreached e a far = absurd far
  beyond-least (reached c) e a far = cost-trans B c a (low c e) far

  -- An edge of a node whose entry is a cost a, less than B, was relaxed.
  must-relax :
      (v : ℕ) (e : Edge) (a : Cost) → v < g.nodes → Leaves g v e → HasCost (turned g s) v a → a ≺ B → d v ≡ reached a
      → RelaxedFrom g s d v e
  must-relax v e a h l r less q = at (explored.edges v e a h l q)
    where
      at : RelaxedFrom g s d v e ⊎ (Beyond bound a ⊎ Target g v) → RelaxedFrom g s d v e
      at (inl x) = x
      at (inr (inl far)) = absurd (not-both B a (beyond-least bound refl a far) less)
      at (inr (inr t)) = absurd (not-both B a (goals v a h t r) less)

  -- By induction on the path that attains the least cost.
  explored-path :
      (p : List Edge) (w : ℕ) → w < g.nodes → IsPath (turned g s) w p → Least (turned g s) w (cost_of p) → cost_of p ≼ B
      → d w ≡ reached (cost_of p)
  explored-path [] w h k l b = explored.start w h k
  explored-path (x ∷ q) w h k l b = go (leaves-turned g s w x k.0) (explored-path q x.to)
    where
      go :
          TurnedEdge g s w x
          → (x.to < g.nodes → IsPath (turned g s) x.to q → Least (turned g s) x.to (cost_of q) → cost_of q ≼ B
          → d x.to ≡ reached (cost_of q))
          → d w ≡ reached (cost_of (x ∷ q))
      go t ih =
          let at_from : x.to ≡ t.from = ap (λ (y : Edge). y.to) t.turns in
          let rest = least-rest (turned g s) w x q k.0 k.1 l in
          let less : cost_of q ≺ B = less-trans (cost_of q) (cost_of (x ∷ q)) B (cost-fewer (cost_of q) (cost_of (x ∷ q)) (omega arith) (omega arith)) b in
          let entry = ih (rw at_from t.inside) k.1 rest (cost-weaken (cost_of q) B less) in
          let relaxed = must-relax t.from t.edge (cost_of q) t.inside t.leaves (rw (← at_from) rest.attained) less (rw (← at_from) entry) in
          let few = least-steps (turned g s) (turned-closed g s) w (rw (turned-nodes g s) h) (cost_of (x ∷ q)) l in
          let offered : Relaxed (turned g s) d w x = rw (t.turns, ← t.leads) relaxed in
          within-least (turned g s) d w (cost_of (x ∷ q)) (λ a e. explored.attained w a h e) l (offered (cost_of q) entry few)

-- A least cost from s that is at most B stands in the table.
pub explored-least :
    (g : Graph) (s : ℕ) (bound : Entry) (d : ℕ → Entry) → Explored g s bound d → (B : Cost) → ((c : Cost) → bound ≡ reached c → B ≼ c)
    → ((v : ℕ) (a : Cost) → v < g.nodes → Target g v → HasCost (turned g s) v a → B ≼ a)
    → (w : ℕ) (b : Cost) → w < g.nodes → Least (turned g s) w b → b ≼ B → d w ≡ reached b
explored-least g s bound d explored B low goals w b h l k =
    let r = l.attained in
    let same : cost_of r.path ≡ b = cost-same (cost_of r.path) b r.charged r.counted in
    explored-path g s bound d explored B low goals r.path w h r.is-path (rw same l) (same-less (cost_of r.path) b B same k) ∙ ap reached same
