-- Least costs: a node has one at most, it has at most E - 1 steps, and its charge is at most the greatest weight for each of them.
-- Assumes nothing.
use Rattle.std.specs.Prelude.{◌≡◌, refl, List, ℕ, ◌*◌, ◌-◌, ◌≤◌, ◌<◌, length}
use Rattle.std.proofs.Common.{le_trans, mul-le-mul_right, arith}
use Rattle.std.proofs.Math.Decide.{dec_le}
use Rattle.semantics.specs.Order.{Cost, ◌≼◌}
use Rattle.semantics.specs.Graph.Path.{Edge, Graph, Closed, WeightsWithin, IsPath, cost_of, HasCost, Least, Entry, unreached, reached, LeastCosts, Within}
use Rattle.semantics.specs.Paths.Cost.{cost-antisymm, cost-fewer, not-both}
use Rattle.semantics.specs.Paths.Loops.{loop-removal, path-charge}

module _ (g : Graph) (v : ℕ) where
  pub no-less-cost : (c b : Cost) → Least g v c → HasCost g v b → c ≼ b
  no-less-cost c b l r = rw (← r.charged, ← r.counted) (l.least r.path r.is-path)

  least-unique : (c b : Cost) → Least g v c → Least g v b → c ≡ b
  least-unique c b x y = cost-antisymm c b (no-less-cost c b x y.attained) (no-less-cost b c y x.attained)

module _ (g : Graph) (closed : Closed g) (v : ℕ) (h : v < g.nodes) (c : Cost) (l : Least g v c) where
  pub least-steps : c.steps < g.nodes
  least-steps = at (dec_le g.nodes (length l.attained.path))
    where
      at : Dec (g.nodes ≤ length l.attained.path) → c.steps < g.nodes
      at (no few) = omega (arith, l.attained.counted)
      at (yes long) =
          let s = loop-removal g closed v l.attained.path h l.attained.is-path long in
          absurd
          (not-both c (cost_of s.path) (l.least s.path s.is-path)
          (cost-fewer (cost_of s.path) c (omega (arith, l.attained.charged)) (omega (arith, l.attained.counted))))

  pub least-charge : (w : ℕ) → WeightsWithin g w → c.charge ≤ (g.nodes - 1) * w
  least-charge w light =
      let r = l.attained in
      let few : c.steps ≤ g.nodes - 1 = omega (arith, least-steps) in
      le_trans (rw (r.charged, r.counted) at (path-charge g closed w light v r.path h r.is-path)) (mul-le-mul_right w few)

-- What a table of least costs says of a node is the only thing to say.
module _ (g : Graph) (d : ℕ → Entry) (exact : LeastCosts g d) (v : ℕ) (h : v < g.nodes) where
  -- No path costs less than the entry.
  pub least-within : (p : List Edge) → IsPath g v p → Within (d v) (cost_of p)
  least-within p w = at (d v) refl
    where
      at : (x : Entry) → d v ≡ x → Within (d v) (cost_of p)
      at unreached q = absurd (exact.no-path v h q p w)
      at (reached c) q = rw q ((exact.least v c h q).least p w)

  pub least-reached : (c : Cost) → Least g v c → d v ≡ reached c
  least-reached c l = at (d v) refl
    where
      at : (x : Entry) → d v ≡ x → d v ≡ reached c
      at unreached q = absurd (exact.no-path v h q l.attained.path l.attained.is-path)
      at (reached b) q = rw (least-unique g v c b l (exact.least v b h q)) q
