-- A system whose prices are costs of paths from the start node: what the least cost of that node says of the states that its labels lead to.
-- Assumes nothing.
use Rattle.std.specs.Prelude.{◌≡◌, ℕ, suc, ◌+◌, ◌<◌}
use Rattle.std.proofs.Common.{sym, ap, subst, ◌∙◌, inl, inr, arith}
use Rattle.std.proofs.Math.Option.{some}
use Rattle.semantics.specs.Order.{Cost, cost, ◌≼◌}
use Rattle.semantics.specs.Graph.Path.{Graph, cost_of, HasCost, Least, Entry, along}
use Rattle.semantics.specs.Paths.Cost.{same-less}
use Rattle.semantics.specs.Paths.Least.{no-less-cost}
use Rattle.semantics.specs.Paths.Explored.{path-cost}
use Rattle.semantics.specs.Paths.System.{System, Follows}
use Rattle.semantics.specs.Paths.Route.{raised, Completes, LowerBound, Routing}
use Rattle.semantics.specs.Paths.Start.{StartsAt}
use Rattle.semantics.specs.Graph.Near.{turned}
use Rattle.semantics.specs.Paths.Turned.{plus, plus-cancel-less, turned-start, turned_more, turned_then}

-- Every corner of x has its price by a path of n steps from node v.
abbrev pub Priced : (g : Graph) (s : System) → ℕ → s.State → ℕ → Type 0
Priced g s v x n = (j : ℕ) → j < s.corners x → HasCost (turned g v) (s.node x j) (cost (s.price x j) n)

-- A state to start from has its price by the path of no steps.
pub priced-start : (g : Graph) (s : System) (x : s.State) (v : ℕ) → StartsAt s x v → Priced g s v x 0
priced-start g s x v start j h =
    let z : j ≡ 0 = omega (arith, start.single) in
    let e : cost 0 0 ≡ cost (s.price x j) 0 = sym (ap (λ (k : ℕ). cost (s.price x k) 0) z ∙ ap (λ (k : ℕ). cost k 0) start.free) in
    let n : v ≡ s.node x j = sym (ap (s.node x) z ∙ start.node) in
    subst (λ (u : ℕ). HasCost (turned g v) u (cost (s.price x j) 0)) n (subst (HasCost (turned g v) v) e (turned-start g v))

-- A step adds an edge to the paths.
pub priced-step :
    (g : Graph) (s : System) (Valid : s.State → Type 0) → Follows g s Valid → (v : ℕ) (x y : s.State) (l n : ℕ) → Valid x
    → s.step l x ≡ some y → Priced g s v x n → Priced g s v y (suc n)
priced-step g s Valid laws v x y l n ok e k i h =
    let r = laws.predecessor x y l i ok e h in
    let before = cost (s.price x r.corner) n in
    let sum : along r.edge before ≡ cost (s.price y i) (suc n) =
    ap (λ (u : ℕ). cost u (suc n)) (omega (arith, r.priced)) in
    let more =
    turned_more g v (s.node x r.corner) r.edge before (laws.inside x r.corner ok r.among) r.leaves
    (k r.corner r.among) in
    subst (λ (u : ℕ). HasCost (turned g v) u (cost (s.price y i) (suc n))) r.leads
    (subst (HasCost (turned g v) r.edge.to) sum more)

-- A state x, whose corners have their prices by paths of n steps from v, with m of the steps of the least cost of v to come.
module _ {g : Graph} {s : System} {Valid : s.State → Type 0} {D : ℕ → Entry} (r : Routing g s Valid D) (v : ℕ) (B : Cost) (best : Least g v B)
    (x : s.State) (ok : Valid x) (n m : ℕ) (counted : n + m ≡ B.steps) (priced : Priced g s v x n) where
  -- A path to a corner and the best one from there cost no less than the best one.
  pub priced-bound : LowerBound s D x (cost B.charge m)
  priced-bound j h c q =
      let u = s.node x j in
      let before = cost (s.price x j) n in
      let rest = (r.exact.least u c (r.laws.inside x j ok h) q).attained in
      at (no-less-cost g v B (plus before c) best (turned_then g v u before c (priced j h) rest))
    where
      at : B ≼ plus (cost (s.price x j) n) c → cost B.charge m ≼ raised (s.price x j) c
      at (inl z) = inl z
      at (inr z) = inr (z.0, omega arith)

  -- Where the rest of the least cost can be completed, no path to the corner costs less than the corner's price in n steps.
  pub priced-least :
      (t : Completes s D x (cost B.charge m)) → Least (turned g v) (s.node x t.corner) (cost (s.price x t.corner) n)
  priced-least t = record {
    attained = priced t.corner t.among;
    least = λ p w.
        let u = s.node x t.corner in
        let before = cost (s.price x t.corner) n in
        let left = cost t.left m in
        let whole : plus before left ≡ B = λ i. record { charge = t.sum i; steps = counted i } in
        let rest = (r.exact.least u left (r.laws.inside x t.corner ok t.among) t.entry).attained in
        let other = turned_then g v u (cost_of p) left (path-cost (turned g v) u p w) rest in
        let low = no-less-cost g v B (plus (cost_of p) left) best other in
        plus-cancel-less before left (cost_of p) (same-less (plus before left) B (plus (cost_of p) left) whole low);
  }
