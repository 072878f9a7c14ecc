-- What an edge of the node in hand offers is below infinity.
-- Assumes nothing.
use Rattle.std.specs.Prelude.{List, ℕ, ◌+◌, ◌*◌, ◌≤◌, ◌<◌}
use Rattle.std.proofs.Common.{mul-le-mul_right, arith}
use Rattle.semantics.specs.Graph.Path.{WeightsWithin, infinity, charge_at, steps_at}
use Rattle.semantics.specs.Paths.Loops.{path-charge}
use Rattle.semantics.specs.Paths.Turned.{turned-nodes, turned-closed, turned-light}
use Rattle.semantics.specs.Graph.Near.{turned}
use Rattle.table.specs.Fields.{most_price}
use Rattle.queue.specs.Queue.{lows}
use Rattle.search.specs.Exploring.{Rooted, InHand, hand-inside, hand-entry}

module _ {r : Rooted} {nodes u : ℕ} {ws : List ℕ} (h : InHand r nodes u ws) where
  hand-steps : steps_at (lows nodes ws) u < nodes
  hand-steps = omega (arith, h.sized, h.settling.costs.few u _ (hand-inside h) (hand-entry h))

  -- With prices that a table may have.
  pub hand-room : (w weight : ℕ) → WeightsWithin r.graph w → w ≤ most_price → weight ≤ w → weight + charge_at (lows nodes ws) u < infinity
  hand-room w weight light small within =
      let g = r.graph in
      let s = r.start in
      let way = h.settling.costs.attained u _ (hand-inside h) (hand-entry h) in
      let most : charge_at (lows nodes ws) u ≤ steps_at (lows nodes ws) u * w =
      rw (way.charged, way.counted) at (path-charge (turned g s) (turned-closed g s) w (turned-light g s w light) u way.path (rw (turned-nodes g s) (hand-inside h)) way.is-path) in
      let few : steps_at (lows nodes ws) u ≤ 65534 = omega (arith, hand-steps, h.queue.words.few) in
      omega (arith, most, mul-le-mul_right w few)
