-- The best route of a system, read off a table of least costs label by label: from the state at hand take the least label that leads to a
-- state from which the rest of the cost can be completed, with one step fewer to come. This gives the first in label order of all lists of
-- labels that arrive at the least cost.
-- Assumes nothing.
use Rattle.std.specs.Prelude.{◌≡◌, refl, List, [], ◌∷◌, ℕ, suc, ◌+◌, ◌≤◌, ◌<◌, length}
use Rattle.std.proofs.Common.{◌∙◌, ap, sym, subst, inl, inr, arith}
use Rattle.std.proofs.Math.Option.{some}
use Rattle.std.proofs.Math.Decide.{dec_le}
use Rattle.std.proofs.lemmas.List.{length-map}
use Rattle.semantics.specs.Order.{Cost, cost, ◌≼◌, First}
use Rattle.semantics.specs.Graph.Path.{Edge, Graph, IsPath, labels_of, cost_of, HasCost, Entry, reached, LeastCosts}
use Rattle.semantics.specs.Paths.Cost.{cost-trans, cost-antisymm, cost-charge, cost-same}
use Rattle.semantics.specs.Paths.Distance.{EntryCost, within-cost}
use Rattle.semantics.specs.Paths.Least.{least-within}
use Rattle.semantics.specs.Paths.Labels.{first-cons}
use Rattle.semantics.specs.Paths.System.{System, Arrives, Predecessor, CornerPath, Follows, arrives-cons, arrives-step, corner-path, corner-path-length, arrives-path}

-- The cost b with a price paid before.
abbrev pub raised : ℕ → Cost → Cost
raised price b = cost (price + b.charge) b.steps

-- By the table d, c can be completed from x: the price of a corner and the charge of its entry add up to the charge of c, and the entry has
-- as many steps as c.
pub record Completes (s : System) (d : ℕ → Entry) (x : s.State) (c : Cost) : Type 0 where
  pub corner : ℕ
  pub among : corner < s.corners x
  pub left : ℕ
  pub entry : d (s.node x corner) ≡ reached (cost left c.steps)
  pub sum : s.price x corner + left ≡ c.charge

-- No corner of x, by its price and its entry, comes to less than c.
abbrev pub LowerBound : (s : System) → (ℕ → Entry) → s.State → Cost → Type 0
LowerBound s d x c = (j : ℕ) → j < s.corners x → (b : Cost) → d (s.node x j) ≡ reached b → c ≼ raised (s.price x j) b

-- Some label leads from x to a state from which c can be completed.
pub record Onward (s : System) (d : ℕ → Entry) (x : s.State) (c : Cost) : Type 0 where
  pub label : ℕ
  pub next : s.State
  pub step : s.step label x ≡ some next
  pub completes : Completes s d next c

-- The greedy rule: l is the least label that does, and leads to y.
pub record Picks (s : System) (d : ℕ → Entry) (x : s.State) (c : Cost) (l : ℕ) (y : s.State) : Type 0 where
  pub step : s.step l x ≡ some y
  pub completes : Completes s d y c
  pub least : (m : ℕ) (z : s.State) → m < l → s.step m x ≡ some z → Completes s d z c → ⊥

-- The labels arrive from x at the cost c: as many as c has steps, into a target at the charge of c.
abbrev pub ArrivesAt : (g : Graph) (s : System) → s.State → Cost → List ℕ → Type 0
ArrivesAt g s x c ls = Arrives g s x ls c.charge × (length ls ≡ c.steps)

-- The first labels that do.
abbrev pub FirstFrom : (g : Graph) (s : System) → s.State → Cost → List ℕ → Type 0
FirstFrom g s x c ls = First (ArrivesAt g s x c) ls

-- What the route rests on: the system follows the edges of the graph, and the table gives its least costs.
pub record Routing (g : Graph) (s : System) (Valid : s.State → Type 0) (d : ℕ → Entry) : Type 0 where
  pub laws : Follows g s Valid
  pub exact : LeastCosts g d

raised-mono : (price : ℕ) (a b : Cost) → a ≼ b → raised price a ≼ raised price b
raised-mono price a b (inl x) = inl (omega arith)
raised-mono price a b (inr x) = inr (omega arith)

module _ {g : Graph} {s : System} {Valid : s.State → Type 0} {d : ℕ → Entry} (r : Routing g s Valid d) where
  -- The entry of a corner is within the cost of each path from it.
  corner-entry :
      (x : s.State) (j : ℕ) (p : List Edge) → Valid x → j < s.corners x → IsPath g (s.node x j) p
      → EntryCost (d (s.node x j)) (cost_of p)
  corner-entry x j p ok h w =
      within-cost (d (s.node x j)) (cost_of p) (least-within g d r.exact (s.node x j) (r.laws.inside x j ok h) p w)

  module _ (x : s.State) (c : Cost) (ok : Valid x) (bound : LowerBound s d x c) where
    -- No path from a corner, the corner's price before it, costs less than the lower bound.
    bound-path : (j : ℕ) (p : List Edge) → j < s.corners x → IsPath g (s.node x j) p → c ≼ raised (s.price x j) (cost_of p)
    bound-path j p h w =
        let e = corner-entry x j p ok h w in
        cost-trans c (raised (s.price x j) e.cost) (raised (s.price x j) (cost_of p)) (bound j h e.cost e.entry)
        (raised-mono (s.price x j) e.cost (cost_of p) e.within)

    -- Nothing arrives at less than the lower bound.
    pub bound-least : (ls : List ℕ) (charge : ℕ) → Arrives g s x ls charge → c ≼ cost charge (length ls)
    bound-least ls charge a = at (corner-path g s Valid r.laws ls x charge ok a)
      where
        at : CornerPath g s x ls charge → c ≼ cost charge (length ls)
        at b =
            let n = corner-path-length g s x ls charge b in
            cost-trans c (raised (s.price x b.corner) (cost_of b.path)) (cost charge (length ls))
            (bound-path b.corner b.path b.among b.is-path) (inr (omega arith))

    -- From a state from which c can be completed some labels arrive at c.
    completes-arrives : Completes s d x c → (ls : List ℕ) × ArrivesAt g s x c ls
    completes-arrives t =
        let v = s.node x t.corner in
        let p = (r.exact.least v (cost t.left c.steps) (r.laws.inside x t.corner ok t.among) t.entry).attained in
        let ls = labels_of p.path in
        let a = arrives-path g s Valid r.laws p.path x t.corner ok t.among p.is-path in
        let n = length-map p.path (λ e. e.label) in
        let low = cost-charge c (cost a.price (length ls)) (bound-least ls a.price a.arrives) in
        let e : a.price ≡ c.charge = omega arith in
        (ls, (rw e at a.arrives, omega arith))

    -- If the price of a corner and the cost of a path from it are c, then c can be completed at that corner: the entry comes to no more than the
    -- path, and to no less than the lower bound.
    pub completes-path :
        (j : ℕ) (p : List Edge) → j < s.corners x → IsPath g (s.node x j) p → raised (s.price x j) (cost_of p) ≡ c
        → (t : Completes s d x c) × (t.corner ≡ j)
    completes-path j p h w sum =
        let e = corner-entry x j p ok h w in
        let price = s.price x j in
        let high = subst (λ (z : Cost). raised price e.cost ≼ z) sum (raised-mono price e.cost (cost_of p) e.within) in
        let k = cost-antisymm (raised price e.cost) c high (bound j h e.cost e.entry) in (
          record {
            corner = j;
            among = h;
            left = e.cost.charge;
            entry = e.entry ∙ ap (λ (z : Cost). reached (cost e.cost.charge z.steps)) k;
            sum = ap (λ (z : Cost). z.charge) k;
          },
          refl,
        )

    -- And the other way round.
    pub arrives-completes : (ls : List ℕ) → ArrivesAt g s x c ls → Completes s d x c
    arrives-completes ls a =
        let b = corner-path g s Valid r.laws ls x c.charge ok a.0 in
        let n = corner-path-length g s x ls c.charge b in
        let whole = raised (s.price x b.corner) (cost_of b.path) in
        (completes-path b.corner b.path b.among b.is-path (cost-same whole c (sym b.priced) (n ∙ a.1))).0

  -- A state with steps to come.
  module _ (x : s.State) (C n : ℕ) (ok : Valid x) (bound : LowerBound s d x (cost C (suc n))) where
    -- After a step the lower bound has one step fewer.
    pub bound-step : (y : s.State) (l : ℕ) → s.step l x ≡ some y → LowerBound s d y (cost C n)
    bound-step y l e i h b q =
        let valid = r.laws.valid x y l ok e in
        at (r.laws.predecessor x y l i ok e h) (r.exact.least (s.node y i) b (r.laws.inside y i valid h) q).attained
      where
        less :
            (a : Predecessor g s x l y i) (p : HasCost g (s.node y i) b)
            → cost C (suc n) ≼ raised (s.price x a.corner) (cost_of (a.edge ∷ p.path)) → cost C n ≼ raised (s.price y i) b
        less a p (inl z) = inl (omega arith)
        less a p (inr z) = inr (omega arith)

        at : Predecessor g s x l y i → HasCost g (s.node y i) b → cost C n ≼ raised (s.price y i) b
        at a p =
            less a p
            (bound-path x (cost C (suc n)) ok bound a.corner (a.edge ∷ p.path) a.among (a.leaves, rw a.leads p.is-path))

    -- If the rest can be completed after a step, at corner i, it can before the step, at the corner from which i has its price.
    pub completes-before :
        (y : s.State) (l : ℕ) → s.step l x ≡ some y → (t : Completes s d y (cost C n)) → (o : Predecessor g s x l y t.corner)
        → (u : Completes s d x (cost C (suc n))) × (u.corner ≡ o.corner)
    completes-before y l e t o =
        let valid = r.laws.valid x y l ok e in
        let inside = r.laws.inside y t.corner valid t.among in
        let p = (r.exact.least (s.node y t.corner) (cost t.left n) inside t.entry).attained in
        let path = o.edge ∷ p.path in
        let whole = raised (s.price x o.corner) (cost_of path) in
        completes-path x (cost C (suc n)) ok bound o.corner path o.among (o.leaves, rw o.leads p.is-path)
        (cost-same whole (cost C (suc n)) (omega (arith, o.priced, t.sum, p.charged)) (omega (arith, p.counted)))

    -- What labels that arrive at the cost do after the first of them.
    record Rest (l : ℕ) (ls : List ℕ) : Type 0 where
      next : s.State
      step : s.step l x ≡ some next
      arrives : ArrivesAt g s next (cost C n) ls
      completes : Completes s d next (cost C n)

    rest-arrives : (l : ℕ) (ls : List ℕ) → ArrivesAt g s x (cost C (suc n)) (l ∷ ls) → Rest l ls
    rest-arrives l ls a =
        let y = arrives-step g s x l ls C a.0 in
        let b : ArrivesAt g s y.0 (cost C n) ls = (y.2, omega arith) in
        let valid = r.laws.valid x y.0 l ok y.1 in
        record {
          next = y.0;
          step = y.1;
          arrives = b;
          completes = arrives-completes y.0 (cost C n) valid (bound-step y.0 l y.1) ls b;
        }

    -- If the cost can be completed, there is a label to take.
    pub completes-onward : Completes s d x (cost C (suc n)) → Onward s d x (cost C n)
    completes-onward t = let a = completes-arrives x (cost C (suc n)) ok bound t in at a.0 a.1
      where
        at : (ls : List ℕ) → ArrivesAt g s x (cost C (suc n)) ls → Onward s d x (cost C n)
        at [] a = absurd (omega arith)
        at (l ∷ ls) a =
            let o = rest-arrives l ls a in
            record { label = l; next = o.next; step = o.step; completes = o.completes }

    -- The label of the greedy rule, before the first labels from the next state, makes the first labels.
    pub first_more :
        (l : ℕ) (y : s.State) (ls : List ℕ) → Picks s d x (cost C n) l y → FirstFrom g s y (cost C n) ls
        → FirstFrom g s x (cost C (suc n)) (l ∷ ls)
    first_more l y ls p f =
        first-cons l ls (λ a. omega arith) (λ m ms a. least m ms a (dec_le l m)) rest
        (λ ms a. (arrives-cons g s x y l ms C p.step a.0, omega arith)) f
      where
        least : (m : ℕ) (ms : List ℕ) → ArrivesAt g s x (cost C (suc n)) (m ∷ ms) → Dec (l ≤ m) → l ≤ m
        least m ms a (yes h) = h
        least m ms a (no h) = let o = rest-arrives m ms a in absurd (p.least m o.next (omega arith) o.step o.completes)

        rest : (ms : List ℕ) → ArrivesAt g s x (cost C (suc n)) (l ∷ ms) → ArrivesAt g s y (cost C n) ms
        rest ms a =
            let o = rest-arrives l ms a in
            let k = p.step in
            let e : o.next ≡ y = cc o.step in
            rw e at o.arrives

  -- With no steps to come there are no labels to add.
  pub first-none :
      (x : s.State) (C : ℕ) → Valid x → LowerBound s d x (cost C 0) → Completes s d x (cost C 0) → FirstFrom g s x (cost C 0) []
  first-none x C ok bound t =
      let a = completes-arrives x (cost C 0) ok bound t in
      record { good = at a.0 a.1; first = λ ls h. tt }
    where
      at : (ls : List ℕ) → ArrivesAt g s x (cost C 0) ls → ArrivesAt g s x (cost C 0) []
      at [] a = a
      at (l ∷ ls) a = absurd (omega arith)
