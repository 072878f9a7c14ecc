-- What the least costs from the start node say of the places of chains, where the goal is reached at the cost B.
-- Assumes nothing.
use Rattle.std.specs.Prelude.{◌≡◌, refl, Bool, true, false, cond, ◌&&◌, leb}
use Rattle.std.proofs.Math.Path.{subst}
use Rattle.std.proofs.Common.{true≢false, le-leb, leb-true}
use mathlib.Core.List.{List, [], ◌∷◌}
use Rattle.std.proofs.Math.Option.{some, some-injective}
use Prim.Native.Nat.{ℕ, suc, ◌+◌, ◌≤◌, ◌<◌}
use native.Mathlib.Omega.{arith}
use Rattle.std.proofs.Math.ListN.{length}
use Rattle.semantics.specs.Automata.Proper.{Proper}
use Rattle.semantics.specs.Automaton.{Automaton}
use Rattle.semantics.specs.Order.{Cost, cost}
use Rattle.semantics.specs.Graph.Path.{Edge, Graph, IsPath, Target, HasCost, Least, Entry, unreached, reached, LeastCosts}
use Rattle.semantics.specs.Graph.Distance.{distance}
use Rattle.semantics.specs.Graph.Near.{turned, near}
use Rattle.semantics.specs.Chain.{Place, follow, begin, chain}
use Rattle.semantics.specs.Graph.CornerGraph.{number_of, start_node, corner_graph}
use Rattle.semantics.specs.Regions.Compare.{and-true-iff}
use Rattle.semantics.specs.Bounds.Prices.{price}
use Rattle.semantics.proofs.Bounds.Reached.{Reached, reached-begin}
use Rattle.semantics.proofs.Bounds.Steps.{follow-first}
use Rattle.semantics.specs.Paths.Cost.{cost-both, cost-antisymm}
use Rattle.semantics.specs.Paths.Least.{no-less-cost, least-reached}
use Rattle.semantics.specs.Paths.Turned.{plus_none, turned-nodes, turned-closed, turned_then}
use Rattle.semantics.specs.Paths.Route.{Completes, LowerBound, Routing}
use Rattle.semantics.specs.Paths.Priced.{Priced, priced-start, priced-step, priced-bound, priced-least}
use Rattle.semantics.proofs.Paths.UpTo.{distance_least}
use Rattle.semantics.proofs.Answers.Graph.{graph-closed}
use Rattle.semantics.proofs.Answers.System.{chains, chains-follow, target-mode, reached-next, begin-starts, begin-inside}
use Rattle.semantics.proofs.Answers.Table.{routing}

-- An entry that is as near as the cost B is kept.
pub near-keeps :
    (x y : Entry) (B b : Cost) → x ≡ reached B → y ≡ reached b → b.charge ≤ B.charge → b.steps ≤ B.steps → near x y ≡ reached b
near-keeps x y B b p q h k = rw (p, q, le-leb b.charge B.charge h, le-leb b.steps B.steps k) refl

-- Only such an entry is.
pub near-kept :
    (x y : Entry) (B b : Cost) → x ≡ reached B → near x y ≡ reached b → (y ≡ reached b) × (b.charge ≤ B.charge) × (b.steps ≤ B.steps)
near-kept x unreached B b p e = let n : near x unreached ≡ unreached = rw p refl in absurd (true≢false cc)
near-kept x (reached c) B b p e = at (leb c.charge B.charge && leb c.steps B.steps) refl (rw p at e)
  where
    at :
        (t : Bool) → (leb c.charge B.charge && leb c.steps B.steps) ≡ t → cond t (reached c) unreached ≡ reached b
        → (reached c ≡ reached b) × (b.charge ≤ B.charge) × (b.steps ≤ B.steps)
    at false q f = absurd (true≢false cc)
    at true q f =
        let t = (and-true-iff (leb c.charge B.charge) (leb c.steps B.steps)).0 q in
        let s : c ≡ b = cc in
        (f, rw s at (leb-true c.charge B.charge t.0), rw s at (leb-true c.steps B.steps t.1))

-- A path of no steps begins in a target.
none-target : (g : Graph) (v : ℕ) (c : Cost) → HasCost g v c → c.steps ≡ 0 → Target g v
none-target g v c r z = at r.path r.is-path r.counted
  where
    at : (p : List Edge) → IsPath g v p → length p ≡ c.steps → Target g v
    at [] w n = w
    at (e ∷ p) w n = absurd (omega arith)

module _ (a : Automaton) (ok : Proper a) (l : ℕ) where
  abbrev g : Graph
  g = corner_graph a l

  abbrev s : ℕ
  s = start_node a

  -- The distances into the goal, and those from the start, are least costs.
  pub into-least : LeastCosts g (distance g)
  into-least = distance_least g (graph-closed a l ok)

  pub from-least : LeastCosts (turned g s) (distance (turned g s))
  from-least = distance_least (turned g s) (turned-closed g s)

  -- The theory of routes goes for the first.
  pub forward-routing : Routing g (chains a) (Reached a) (distance g)
  forward-routing = routing a ok l (distance g) into-least

  -- The start is a node.
  start-inside : s < g.nodes
  unfolding corner_graph
  start-inside = begin-inside a ok

  -- The corners of a place are nodes.
  pub corner-inside : (p : Place) (j : ℕ) → Reached a p → j < length p.region.prices → number_of a p j < g.nodes
  corner-inside p j h b = (chains-follow a ok l).inside p j h b

  -- The least cost from the start to v.
  from-reached : (v : ℕ) (b : Cost) → v < g.nodes → Least (turned g s) v b → distance (turned g s) v ≡ reached b
  from-reached v b h m = least-reached (turned g s) (distance (turned g s)) from-least v (rw (turned-nodes g s) h) b m

  -- Each step makes the paths to the corners one step longer.
  follow-paths :
      (ks : List ℕ) (p p' : Place) (n : ℕ) → Reached a p → Priced g (chains a) s p n → follow a ks p ≡ some p'
      → Priced g (chains a) s p' (n + length ks)
  unfolding follow
  follow-paths [] p p' n h k f =
      let e : n ≡ n + 0 = omega arith in
      subst (λ (q : Place). Priced g (chains a) s q (n + 0)) (some-injective p p' f) (subst (Priced g (chains a) s p) e k)
  follow-paths (byte ∷ ks) p p' n h k f =
      let o = follow-first a byte ks p p' f in
      let next = priced-step g (chains a) (Reached a) (chains-follow a ok l) s p o.0 byte n h o.1 k in
      let e : suc n + length ks ≡ n + suc (length ks) = omega arith in
      subst (Priced g (chains a) s p') e (follow-paths ks o.0 p' (suc n) (reached-next a ok p o.0 byte h o.1) next o.2)

  -- Every corner of a place that a chain ends at has its price by a path from the start, of as many steps as the chain has.
  pub chain-paths : (ks : List ℕ) (p : Place) → chain a ks ≡ some p → Priced g (chains a) s p (length ks)
  unfolding chain
  chain-paths ks p f =
      let e : 0 + length ks ≡ length ks = omega arith in
      subst (Priced g (chains a) s p) e
      (follow-paths ks (begin a) p 0 (reached-begin a ok) (priced-start g (chains a) (begin a) s (begin-starts a ok)) f)

  module _ (p : Place) (h : Reached a p) where
    -- Where the goal can be completed with no step to come, the place is in it.
    pub completes-mode : (C : ℕ) → Completes (chains a) (distance g) p (cost C 0) → p.mode ≡ l
    completes-mode C t =
        let v = number_of a p t.corner in
        let r = (into-least.least v (cost t.left 0) (corner-inside p t.corner h t.among) t.entry).attained in
        (target-mode a ok l p h t.corner t.among).0 (none-target g v (cost t.left 0) r refl)

    module _ (B : Cost) (best : distance g s ≡ reached B) where
      -- The best cost is least.
      start-least : Least g s B
      start-least = into-least.least s B start-inside best

      -- In the goal no corner has come cheaper than B.
      pub mode-cost :
          (n j : ℕ) → j < length p.region.prices → Priced g (chains a) s p n → p.mode ≡ l → price p.region j ≤ B.charge → n ≤ B.steps
          → cost (price p.region j) n ≡ B
      mode-cost n j b k e x y =
          let v = number_of a p j in
          let c = cost (price p.region j) n in
          let here : HasCost g v (cost 0 0) = record { path = []; is-path = (target-mode a ok l p h j b).1 e; charged = refl; counted = refl } in
          let whole = subst (HasCost g s) (plus_none c) (turned_then g s v c (cost 0 0) (k j b) here) in
          cost-antisymm c B (cost-both c B x y) (no-less-cost g s B c start-least whole)

      -- With n of the steps of B done and m to come:
      module _ (n m : ℕ) (counted : n + m ≡ B.steps) (k : Priced g (chains a) s p n) where
        -- nothing less than the charge of B can be completed;
        pub forward-bound : LowerBound (chains a) (distance g) p (cost B.charge m)
        forward-bound = priced-bound forward-routing s B start-least p h n m counted k

        -- and where it can be, the price is that of a best path to the corner, which is as near as the goal.
        module _ (t : Completes (chains a) (distance g) p (cost B.charge m)) where
          pub completes-from : distance (turned g s) (number_of a p t.corner) ≡ reached (cost (price p.region t.corner) n)
          completes-from =
              from-reached (number_of a p t.corner) (cost (price p.region t.corner) n) (corner-inside p t.corner h t.among)
              (priced-least forward-routing s B start-least p h n m counted k t)

          pub completes-near :
              near (distance g s) (distance (turned g s) (number_of a p t.corner)) ≡ reached (cost (price p.region t.corner) n)
          completes-near =
              near-keeps (distance g s) (distance (turned g s) (number_of a p t.corner)) B (cost (price p.region t.corner) n) best
              completes-from (omega (arith, t.sum)) (omega arith)
