-- A graph with its edges turned round: its paths from v into the node s are the paths from s to v, read backwards. What is found forwards from s
-- are least costs of the turned graph.
-- Assumes nothing.
use Rattle.std.specs.Prelude.{◌≡◌, Bool, true, false, cond, ◌↔◌, ◌⊎◌, ℕ, ◌+◌, ◌<◌, eqb}
use Rattle.std.proofs.Math.Path.{refl}
use Rattle.std.proofs.Common.{ap, ◌∙◌, sym, inl, inr, arith}
use mathlib.Core.List.Memᴰ
use mathlib.Core.List.{List, [], ◌∷◌, Memᴰ}
use borrow.Author.Tests.{eq-eqb, eqb-true}
use Rattle.semantics.specs.Answer.{count_from}
use Rattle.semantics.specs.Corners.Lists.{mem_below, below-bound, mem-flat_map, mem-of-flat_map}
use Rattle.semantics.specs.Order.{Cost, cost, ◌≼◌}
use Rattle.semantics.specs.Graph.Path.{Edge, Graph, Leaves, Target, Closed, WeightsWithin, IsPath, cost_of, HasCost, along}
use Rattle.semantics.specs.Graph.Near.{turn, turned_to, turned}
use Rattle.semantics.specs.Paths.Cost.{cost-same}

-- One cost and then another.
abbrev pub plus : Cost → Cost → Cost
plus a b = cost (a.charge + b.charge) (a.steps + b.steps)

-- The path of no edges adds nothing, behind a cost or before it.
pub plus_none : (a : Cost) → plus a (cost 0 0) ≡ a
plus_none a = cost-same (plus a (cost 0 0)) a (omega arith) (omega arith)

pub plus-start : (a : Cost) → plus (cost 0 0) a ≡ a
plus-start a = cost-same (plus (cost 0 0) a) a (omega arith) (omega arith)

-- An edge between two costs counts with the second or with the first.
pub plus-along : (e : Edge) (a b : Cost) → plus a (along e b) ≡ plus (along e a) b
plus-along e a b = cost-same (plus a (along e b)) (plus (along e a) b) (omega arith) (omega arith)

-- What comes after both sides may be left out.
pub plus-cancel-less : (a b c : Cost) → plus a b ≼ plus c b → a ≼ c
plus-cancel-less a b c (inl x) = inl (omega arith)
plus-cancel-less a b c (inr x) = inr (omega arith)

-- The cost without its first edge is at most another if with the edge it is.
pub along-cancel-less : (e : Edge) (a b : Cost) → along e a ≼ along e b → a ≼ b
along-cancel-less e a b (inl x) = inl (omega arith)
along-cancel-less e a b (inr x) = inr (omega arith)

-- An edge e that leads to w is among the turned ones.
mem-turned_to : (v w : ℕ) (e : Edge) (es : List Edge) → e.to ≡ w → Memᴰ e es → Memᴰ (turn v e) (turned_to v w es)
mem-turned_to v w e [] q m = absurd (Memᴰ.not-nil m)
mem-turned_to v w e (x ∷ es) q m = go (mem-turned_to v w e es q) (Memᴰ.cases_cons m)
  where
    go : (Memᴰ e es → Memᴰ (turn v e) (turned_to v w es)) → (e ≡ x) ⊎ Memᴰ e es → Memᴰ (turn v e) (turned_to v w (x ∷ es))
    go ih (inl p) = rw (eq-eqb x.to w (sym (ap (λ (y : Edge). y.to) p) ∙ q)) (Memᴰ.head (ap (turn v) p))
    go ih (inr k) = by (eqb x.to w)
      where
        by : (b : Bool) → Memᴰ (turn v e) (cond b (turn v x ∷ turned_to v w es) (turned_to v w es))
        by true = Memᴰ.tail (ih k)
        by false = ih k

-- A turned edge comes from an edge that leads to w.
mem-of-turned_to :
    (v w : ℕ) (x : Edge) (es : List Edge) → Memᴰ x (turned_to v w es) → (e : Edge) × Memᴰ e es × (e.to ≡ w) × (x ≡ turn v e)
mem-of-turned_to v w x [] m = absurd (Memᴰ.not-nil m)
mem-of-turned_to v w x (y ∷ es) m = go (mem-of-turned_to v w x es) (eqb y.to w) refl m
  where
    go :
        (Memᴰ x (turned_to v w es) → (e : Edge) × Memᴰ e es × (e.to ≡ w) × (x ≡ turn v e)) → (b : Bool) → eqb y.to w ≡ b
        → Memᴰ x (cond b (turn v y ∷ turned_to v w es) (turned_to v w es))
        → (e : Edge) × Memᴰ e (y ∷ es) × (e.to ≡ w) × (x ≡ turn v e)
    go ih false q k = let o = ih k in (o.0, Memᴰ.tail o.1, o.2, o.3)
    go ih true q k = by (Memᴰ.cases_cons k)
      where
        by : (x ≡ turn v y) ⊎ Memᴰ x (turned_to v w es) → (e : Edge) × Memᴰ e (y ∷ es) × (e.to ≡ w) × (x ≡ turn v e)
        by (inl p) = (y, Memᴰ.head refl, eqb-true y.to w q, p)
        by (inr n) = let o = ih n in (o.0, Memᴰ.tail o.1, o.2, o.3)

module _ (g : Graph) (s : ℕ) where
  -- An edge of the graph, turned round, leaves its end.
  pub turned-leaves : (v : ℕ) (e : Edge) → v < g.nodes → Leaves g v e → Leaves (turned g s) e.to (turn v e)
  unfolding turned
  turned-leaves v e h l =
      mem-flat_map (λ u. turned_to u e.to (g.edges u)) (mem_below g.nodes v h) (mem-turned_to v e.to e (g.edges v) refl l)

  -- The edge x, which leaves w in the turned graph, is an edge of the graph turned round.
  pub record TurnedEdge (w : ℕ) (x : Edge) : Type 0 where
    pub from : ℕ
    pub edge : Edge
    pub inside : from < g.nodes
    pub leaves : Leaves g from edge
    pub leads : edge.to ≡ w
    pub turns : x ≡ turn from edge

  -- The turned graph has no other edges.
  pub leaves-turned : (w : ℕ) (x : Edge) → Leaves (turned g s) w x → TurnedEdge w x
  unfolding turned
  leaves-turned w x l =
      let o = mem-of-flat_map (λ u. turned_to u w (g.edges u)) (count_from 0 g.nodes) x l in
      let k = mem-of-turned_to o.0 w x (g.edges o.0) o.2 in
      record { from = o.0; edge = k.0; inside = below-bound g.nodes o.0 o.1; leaves = k.1; leads = k.2; turns = k.3 }

  -- It has the same nodes.
  pub turned-nodes : (turned g s).nodes ≡ g.nodes
  unfolding turned
  turned-nodes = refl

  -- Its edges lead to nodes, whether or not those of the graph do.
  pub turned-closed : Closed (turned g s)
  turned-closed w x h l =
      let t = leaves-turned w x l in
      rw (turned-nodes, t.turns) t.inside

  -- Its edges weigh what those of the graph weigh.
  pub turned-light : (k : ℕ) → WeightsWithin g k → WeightsWithin (turned g s) k
  turned-light k light w x h l =
      let t = leaves-turned w x l in
      rw t.turns (light t.from t.edge t.inside t.leaves)

  -- Its only target is s.
  pub turned-target : (v : ℕ) → Target (turned g s) v ↔ (v ≡ s)
  unfolding turned
  turned-target v = (λ t. eqb-true v s t, λ e. eq-eqb v s e)

  -- From s to itself leads the path of no edges.
  pub turned-start : HasCost (turned g s) s (cost 0 0)
  turned-start = record { path = []; is-path = (turned-target s).1 refl; charged = refl; counted = refl }

  -- A path from s to v goes on along an edge of v.
  pub turned_more : (v : ℕ) (e : Edge) (a : Cost) → v < g.nodes → Leaves g v e → HasCost (turned g s) v a → HasCost (turned g s) e.to (along e a)
  turned_more v e a h l r = record {
    path = turn v e ∷ r.path;
    is-path = (turned-leaves v e h l, r.is-path);
    charged = omega (arith, r.charged);
    counted = omega (arith, r.counted);
  }

  -- An edge before a path.
  cost-before : (v : ℕ) (e : Edge) (b : Cost) → Leaves g v e → HasCost g e.to b → HasCost g v (along e b)
  cost-before v e b l r =
      record { path = e ∷ r.path; is-path = (l, r.is-path); charged = omega (arith, r.charged); counted = omega (arith, r.counted) }

  -- The turned path p, read backwards, leads from s to v; then comes a path from v.
  then-path : (p : List Edge) (v : ℕ) (b : Cost) → IsPath (turned g s) v p → HasCost g v b → HasCost g s (plus (cost_of p) b)
  then-path [] v b w r = rw (plus-start b, ← (turned-target v).0 w) r
  then-path (x ∷ q) v b w r = go (leaves-turned v x w.0) (then-path q x.to)
    where
      go :
          TurnedEdge v x → ((c : Cost) → IsPath (turned g s) x.to q → HasCost g x.to c → HasCost g s (plus (cost_of q) c))
          → HasCost g s (plus (cost_of (x ∷ q)) b)
      go t ih =
          let before : HasCost g t.from (along t.edge b) = cost-before t.from t.edge b t.leaves (rw t.leads r) in
          let here : HasCost g x.to (along x b) = rw t.turns before in
          rw (plus-along x (cost_of q) b) at (ih (along x b) w.1 here)

  -- A path from s to v and one from v into the targets make one from s.
  pub turned_then : (v : ℕ) (a b : Cost) → HasCost (turned g s) v a → HasCost g v b → HasCost g s (plus a b)
  turned_then v a b l r = rw (l.charged, l.counted) at (then-path l.path v b l.is-path r)
