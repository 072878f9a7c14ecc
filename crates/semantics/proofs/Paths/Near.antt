-- What is explored forwards from a node s up to the least cost of the targets, with what is dearer or farther left out, are the words of a search.
-- Assumes nothing.
use Rattle.std.specs.Prelude.{◌≡◌, refl, Bool, true, false, ◌&&◌, cond, ◌⊎◌, ℕ, ◌*◌, ◌-◌, ◌≤◌, ◌<◌, leb}
use Rattle.std.proofs.Common.{sym, subst, ◌∙◌, inl, inr, zero-add, mul-le-mul_right, arith, le-leb}
use Rattle.std.proofs.Math.Path.{ap}
use mathlib.Core.List.{List, [], ◌∷◌, ◌++◌}
use Rattle.std.proofs.lemmas.Bool.{lt-leb}
use Rattle.semantics.specs.Distinct.{distinct}
use Rattle.semantics.specs.Order.{Cost, cost, ◌≼◌, ◌≺◌}
use Rattle.semantics.specs.Graph.Path.{infinity, Edge, Graph, Target, Closed, WeightsWithin, IsPath, cost_of, HasCost, Least, Entry, unreached, reached, along, table}
use Rattle.semantics.specs.Graph.Distance.{distance, entry_words}
use Rattle.semantics.specs.Graph.Near.{turned, near, near_words}
use Rattle.semantics.specs.Paths.Cost.{cost-same, cost-antisymm, cost-trans, cost-both, cost-total, less-trans}
use Rattle.semantics.specs.Paths.Distance.{within-cost}
use Rattle.semantics.specs.Paths.Least.{no-less-cost, least-charge, least-reached}
use Rattle.semantics.specs.Paths.Turned.{plus, plus_none, plus-start, plus-along, turned-nodes, turned-closed, turned-light, turned-start, turned_more, turned_then}
use Rattle.semantics.specs.Paths.Explored.{Explored, path-cost}
use Rattle.semantics.proofs.Paths.Explored.{explored-least}
use Rattle.semantics.proofs.Paths.UpTo.{distance_least}
use Rattle.semantics.specs.Paths.Found.{words_at, words-entry, words-scattered}
use Rattle.semantics.specs.Paths.Near.{BestTarget, TargetWithin}

-- No entry is both unreached and reached.
not-reached : (x : Entry) (c : Cost) → x ≡ unreached → x ≡ reached c → ⊥
not-reached x c p q = distinct cc

-- What is more than the other entry is left out.
near-more : (b c : Cost) → b ≺ c → near (reached b) (reached c) ≡ unreached
near-more b c (inl h) = rw (lt-leb c.charge b.charge h)
near-more b c (inr h) = rw (le-leb c.charge b.charge (omega (arith, h.0)), lt-leb c.steps b.steps h.1)

-- An entry is as near as itself.
near_same : (b : Cost) → near (reached b) (reached b) ≡ reached b
near_same b = rw (le-leb b.charge b.charge (omega arith), le-leb b.steps b.steps (omega arith))

-- What is kept is the entry.
near-reached : (x y : Entry) (c : Cost) → near x y ≡ reached c → y ≡ reached c
near-reached unreached y c q = q
near-reached (reached b) unreached c q = q
near-reached (reached b) (reached a) c q = at (leb a.charge b.charge && leb a.steps b.steps) q
  where
    at : (t : Bool) → cond t (reached a) unreached ≡ reached c → reached a ≡ reached c
    at true e = e
    at false e = absurd (not-reached unreached c refl e)

-- A target that a way of cost c from s leads to.
record Goal (g : Graph) (s : ℕ) (c : Cost) : Type 0 where
  node : ℕ
  inside : node < g.nodes
  target : Target g node
  comes : HasCost (turned g s) node c

module _ (g : Graph) (s : ℕ) (closed : Closed g) (inside : s < g.nodes) where
  -- A way from s to v and then a path from v lead to a target.
  goal-after : (p : List Edge) (v : ℕ) (a : Cost) → v < g.nodes → IsPath g v p → HasCost (turned g s) v a → Goal g s (plus a (cost_of p))
  goal-after [] v a h w r = record { node = v; inside = h; target = w; comes = rw (plus_none a) r }
  goal-after (e ∷ p) v a h w r =
      rw (plus-along e a (cost_of p)) (goal-after p e.to (along e a) (closed v e h w.0) w.1 (turned_more g s v e a h w.0 r))

  -- A path from s leads to a target.
  goal-at : (B : Cost) → HasCost g s B → Goal g s B
  goal-at B r =
      let same : plus (cost 0 0) (cost_of r.path) ≡ B = plus-start (cost_of r.path) ∙ cost-same (cost_of r.path) B r.charged r.counted in
      subst (Goal g s) same (goal-after r.path s (cost 0 0) inside r.is-path (turned-start g s))

  -- The way to a target is a path from s.
  goal-path : (v : ℕ) (a : Cost) → Target g v → HasCost (turned g s) v a → HasCost g s a
  goal-path v a t r = rw (plus_none a) at (turned_then g s v a (cost 0 0) r (path-cost g v [] t))

  -- No target is reached at less than the least cost from s.
  goal-least : (B : Cost) → Least g s B → (v : ℕ) (a : Cost) → v < g.nodes → Target g v → HasCost (turned g s) v a → B ≼ a
  goal-least B l v a h t r = no-less-cost g s B a l (goal-path v a t r)

  -- So a target that is reached at that cost is reached at no less.
  goal-turned : (B : Cost) → Least g s B → (v : ℕ) → v < g.nodes → Target g v → HasCost (turned g s) v B → Least (turned g s) v B
  goal-turned B l v h t r = record { attained = r; least = λ p w. goal-least B l v (cost_of p) h t (path-cost (turned g s) v p w) }

  -- The distances in the turned graph are the least costs from s.
  way-least : (v : ℕ) (c : Cost) → v < g.nodes → distance (turned g s) v ≡ reached c → Least (turned g s) v c
  way-least v c h q = (distance_least (turned g s) (turned-closed g s)).least v c (rw (turned-nodes g s) h) q

  -- A least cost of a way is the distance.
  way-reached : (v : ℕ) (c : Cost) → v < g.nodes → Least (turned g s) v c → distance (turned g s) v ≡ reached c
  way-reached v c h l =
      least-reached (turned g s) (distance (turned g s)) (distance_least (turned g s) (turned-closed g s)) v (rw (turned-nodes g s) h) c l

  -- Where there is no distance, no way leads.
  way-none : (v : ℕ) (c : Cost) → v < g.nodes → distance (turned g s) v ≡ unreached → HasCost (turned g s) v c → ⊥
  way-none v c h q r =
      (distance_least (turned g s) (turned-closed g s)).no-path v (rw (turned-nodes g s) h) q r.path r.is-path

  -- Where the entries of the targets are costs of ways to them, and the least cost from s stands there, the least of them is that.
  module _ (d : ℕ → Entry) (attained : (v : ℕ) (a : Cost) → v < g.nodes → d v ≡ reached a → HasCost (turned g s) v a)
      (stands : (B : Cost) (v : ℕ) → v < g.nodes → Least g s B → Least (turned g s) v B → d v ≡ reached B)
      (b : Entry) (best : BestTarget g d b) where
    -- There is a path from s.
    best-there : (B : Cost) → Least g s B → b ≡ reached B
    best-there B l = at b refl
      where
        t : Goal g s B
        t = goal-at B l.attained

        entry : d t.node ≡ reached B
        entry = stands B t.node t.inside l (goal-turned B l t.node t.inside t.target t.comes)

        at : (x : Entry) → b ≡ x → b ≡ reached B
        at unreached q = absurd (not-reached (d t.node) B (best.none q t.node t.inside t.target) entry)
        at (reached c) q =
            let o = best.some c q in
            let low = best.least c q t.node B t.inside t.target entry in
            let high = goal-least B l o.0 c o.1 o.2 (attained o.0 c o.1 o.3) in
            q ∙ ap reached (cost-antisymm c B low high)

    -- There is none.
    best_none : distance g s ≡ unreached → b ≡ unreached
    best_none none = at b refl
      where
        at : (x : Entry) → b ≡ x → b ≡ unreached
        at unreached q = q
        at (reached c) q =
            let o = best.some c q in
            let r = goal-path o.0 c o.2 (attained o.0 c o.1 o.3) in
            absurd ((distance_least g closed).no-path s inside none r.path r.is-path)

    -- In both cases it is the distance of s.
    best-distance : b ≡ distance g s
    best-distance = at (distance g s) refl
      where
        at : (x : Entry) → distance g s ≡ x → b ≡ distance g s
        at unreached q = best_none q ∙ sym q
        at (reached B) q = best-there B ((distance_least g closed).least s B inside q) ∙ sym q

module _ (g : Graph) (s : ℕ) (closed : Closed g) (inside : s < g.nodes) (w : ℕ) (light : WeightsWithin g w) (small : g.nodes * w < infinity) where
  -- And so is that of a way from s.
  way-small : (v : ℕ) (c : Cost) → v < g.nodes → Least (turned g s) v c → c.charge < infinity
  way-small v c h l =
      let charge : c.charge ≤ (g.nodes - 1) * w =
      rw (turned-nodes g s) at (least-charge (turned g s) (turned-closed g s) v (rw (turned-nodes g s) h) c l w (turned-light g s w light)) in
      let fewer : g.nodes - 1 ≤ g.nodes = omega arith in
      omega (arith, small, charge, mul-le-mul_right w fewer)

  -- Explored up to a bound that a target is within, or up to none.
  module _ (d : ℕ → Entry) (bound : Entry) (explored : Explored g s bound d)
      (at_Target : (c : Cost) → bound ≡ reached c → TargetWithin g d c) (b : Entry) (best : BestTarget g d b) where
    -- Entries are costs of ways from s.
    comes : (v : ℕ) (a : Cost) → v < g.nodes → d v ≡ reached a → HasCost (turned g s) v a
    comes = explored.attained

    -- The least cost from s is at most the bound.
    least-low : (B : Cost) → Least g s B → (c : Cost) → bound ≡ reached c → B ≼ c
    least-low B l c e =
        let t = at_Target c e in
        let r = within-cost (d t.node) c t.within in
        cost-trans B r.cost c
        (goal-least g s closed inside B l t.node r.cost t.inside t.target (comes t.node r.cost t.inside r.entry)) r.within

    -- Ways that cost at most the least cost from s were found.
    found-upto : (B : Cost) → Least g s B → (v : ℕ) (c : Cost) → v < g.nodes → Least (turned g s) v c → c ≼ B → d v ≡ reached c
    found-upto B l v c h k less = explored-least g s bound d explored B (least-low B l) (goal-least g s closed inside B l) v c h k less

    -- The least entry of the targets is the least cost from s.
    pub found-best : b ≡ distance g s
    found-best =
        best-distance g s closed inside d comes (λ B v h l k. found-upto B l v B h k (cost-both B B (omega arith) (omega arith))) b best

    -- If no target is reached there is no bound, and everything was found.
    found_all : b ≡ unreached → (v : ℕ) (c : Cost) → v < g.nodes → Least (turned g s) v c → d v ≡ reached c
    found_all none v c h l =
        explored-least g s bound d explored c no_bound goals v c h l (cost-both c c (omega arith) (omega arith))
      where
        no_bound : (a : Cost) → bound ≡ reached a → c ≼ a
        no_bound a e =
            let t = at_Target a e in
            let r = within-cost (d t.node) a t.within in
            absurd (not-reached (d t.node) r.cost (best.none none t.node t.inside t.target) r.entry)

        goals : (u : ℕ) (a : Cost) → u < g.nodes → Target g u → HasCost (turned g s) u a → c ≼ a
        goals u a k t r =
            let p = goal-path g s closed inside u a t r in
            absurd ((distance_least g closed).no-path s inside (sym found-best ∙ none) p.path p.is-path)

    -- Where no way leads, there is no entry.
    found_none : (v : ℕ) → v < g.nodes → distance (turned g s) v ≡ unreached → d v ≡ unreached
    found_none v h none = at (d v) refl
      where
        at : (x : Entry) → d v ≡ x → d v ≡ unreached
        at unreached q = q
        at (reached a) q = absurd (way-none g s closed inside v a h none (comes v a h q))

    -- An entry is left out if the least cost of a way is more than the least cost from s.
    found-more : (B c : Cost) (v : ℕ) → v < g.nodes → Least (turned g s) v c → B ≺ c → near (reached B) (d v) ≡ unreached
    found-more B c v h l more = at (d v) refl
      where
        at : (x : Entry) → d v ≡ x → near (reached B) (d v) ≡ unreached
        at unreached q = ap (near (reached B)) q
        at (reached a) q =
            let low = no-less-cost (turned g s) v c a l (comes v a h q) in
            ap (near (reached B)) q ∙ near-more B a (less-trans B c a more low)

    -- As far as they are as near as b, the entries are the least costs from s.
    near-entry : (v : ℕ) → v < g.nodes → near b (d v) ≡ near b (distance (turned g s) v)
    near-entry v h = at b refl (distance (turned g s) v) refl
      where
        split :
            (B c : Cost) → Least g s B → distance (turned g s) v ≡ reached c → (c ≼ B) ⊎ (B ≺ c)
            → near (reached B) (d v) ≡ near (reached B) (distance (turned g s) v)
        split B c l q (inl less) = ap (near (reached B)) (found-upto B l v c h (way-least g s closed inside v c h q) less ∙ sym q)
        split B c l q (inr more) =
            found-more B c v h (way-least g s closed inside v c h q) more ∙ sym (ap (near (reached B)) q ∙ near-more B c more)

        at :
            (x : Entry) → b ≡ x → (y : Entry) → distance (turned g s) v ≡ y
            → near b (d v) ≡ near b (distance (turned g s) v)
        at x p unreached q = ap (near b) (found_none v h q ∙ sym q)
        at unreached p (reached c) q = ap (near b) (found_all p v c h (way-least g s closed inside v c h q) ∙ sym q)
        at (reached B) p (reached c) q =
            let l = (distance_least g closed).least s B inside (sym found-best ∙ p) in
            rw p (split B c l q (cost-total c B))

    -- As far as they are as near as that, the entries are the least costs from s.
    pub found-near : (v : ℕ) → v < g.nodes → near b (d v) ≡ near (distance g s) (distance (turned g s) v)
    found-near v h = near-entry v h ∙ ap (λ (x : Entry). near x (distance (turned g s) v)) found-best

  -- And the words of a search have them.
  pub words-near :
      (ws rest : List ℕ) → ws ≡ near_words g s ++ rest → (v : ℕ) → v < g.nodes → table ws v ≡ near (distance g s) (distance (turned g s) v)
  unfolding near_words
  words-near ws rest e v h =
      words-entry ws v (near (distance g s) (distance (turned g s) v))
      (λ c q k. omega (arith, k, way-small v c h (way-least g s closed inside v c h (near-reached (distance g s) (distance (turned g s) v) c q))))
      (ap (λ (l : List ℕ). words_at l v) e ∙ words-scattered (λ u. near (distance g s) (distance (turned g s) u)) g.nodes 0 rest v h
      ∙ ap (λ (u : ℕ). entry_words (near (distance g s) (distance (turned g s) u))) (zero-add v))

  -- There the least entry of the targets is the least cost from s too.
  pub near-best :
      (d : ℕ → Entry) → ((v : ℕ) → v < g.nodes → d v ≡ near (distance g s) (distance (turned g s) v)) → (b : Entry) → BestTarget g d b
      → b ≡ distance g s
  near-best d entries b best = best-distance g s closed inside d attained stands b best
    where
      attained : (v : ℕ) (a : Cost) → v < g.nodes → d v ≡ reached a → HasCost (turned g s) v a
      attained v a h q =
          (way-least g s closed inside v a h (near-reached (distance g s) (distance (turned g s) v) a (sym (entries v h) ∙ q))).attained

      stands : (B : Cost) (v : ℕ) → v < g.nodes → Least g s B → Least (turned g s) v B → d v ≡ reached B
      stands B v h l k =
          let from = least-reached g (distance g) (distance_least g closed) s inside B l in
          let here = way-reached g s closed inside v B h k in
          entries v h ∙ rw (from, here) (near_same B)
