-- Systems whose states are clusters of priced nodes of a graph, as a region with its corner prices is. A label, where it is allowed, takes
-- a state to the next one: all corners move at once, along their edges of that label, and a corner that is come to in several ways keeps the
-- least price. So a list of labels stands for several parallel paths, and the price of a corner is the least of theirs.
-- Assumes nothing.
use Rattle.std.specs.Prelude.{◌≡◌, refl, List, [], ◌∷◌, ℕ, ◌+◌, ◌≤◌, ◌<◌, length}
use Rattle.std.proofs.Common.{sym, ◌∙◌, ap, true≢false, arith}
use Rattle.std.proofs.Math.Option.{Option, none, some}
use Rattle.std.proofs.lemmas.List.{length-map}
use Rattle.semantics.specs.Order.{cost}
use Rattle.semantics.specs.Graph.Path.{Edge, Graph, Leaves, Target, Closed, IsPath, labels_of, charge_of}
use Rattle.semantics.specs.Paths.Cost.{cost-both}
use Rattle.semantics.specs.Paths.Loops.{short-path}
use Rattle.semantics.specs.Paths.Labels.{Shortened}

-- A system: its states, the next state by a label if the label is allowed, and for each state the number of its corners, and the node and
-- the price of each corner.
pub record System : Type 1 where
  pub State : Type 0
  pub step : ℕ → State → Option State
  pub corners : State → ℕ
  pub node : State → ℕ → ℕ
  pub price : State → ℕ → ℕ

-- The state that the labels lead to, if each is allowed.
abbrev pub follow : (s : System) → List ℕ → s.State → Option s.State
follow s [] x = some x
follow s (l ∷ ls) x = elim (s.step l x) [ none ↦ none | some y ↦ follow s ls y ]

-- The labels lead from x to a state that has a corner in a target at this price.
pub record Arrives (g : Graph) (s : System) (x : s.State) (ls : List ℕ) (price : ℕ) : Type 0 where
  pub last : s.State
  pub follows : follow s ls x ≡ some last
  pub corner : ℕ
  pub among : corner < s.corners last
  pub target : Target g (s.node last corner)
  pub priced : s.price last corner ≡ price

-- Corner i of y has its price by an edge of the label l from a corner of x.
pub record Predecessor (g : Graph) (s : System) (x : s.State) (l : ℕ) (y : s.State) (i : ℕ) : Type 0 where
  pub corner : ℕ
  pub among : corner < s.corners x
  pub edge : Edge
  pub leaves : Leaves g (s.node x corner) edge
  pub labelled : edge.label ≡ l
  pub leads : edge.to ≡ s.node y i
  pub priced : s.price y i ≡ s.price x corner + edge.weight

-- The label of edge e, which leaves corner j of x, is allowed at x, and the next state has the end of e as a corner, at no more than the
-- price by way of e.
pub record Successor (g : Graph) (s : System) (x : s.State) (j : ℕ) (e : Edge) : Type 0 where
  pub next : s.State
  pub step : s.step e.label x ≡ some next
  pub corner : ℕ
  pub among : corner < s.corners next
  pub leads : s.node next corner ≡ e.to
  pub priced : s.price next corner ≤ s.price x j + e.weight

-- The laws of a system over a graph, for its valid states. By the last two, a price after a step is the least, over the edges of the step's
-- label that lead to its corner, of the price before the edge and the edge's weight.
pub record Follows (g : Graph) (s : System) (Valid : s.State → Type 0) : Type 0 where
  -- A step leads from a valid state to a valid state.
  pub valid : (x y : s.State) (l : ℕ) → Valid x → s.step l x ≡ some y → Valid y
  -- The corners of a valid state are nodes of the graph.
  pub inside : (x : s.State) (j : ℕ) → Valid x → j < s.corners x → s.node x j < g.nodes
  -- Each price after a step is the price of some corner before it and the weight of an edge of the step's label.
  pub predecessor : (x y : s.State) (l i : ℕ) → Valid x → s.step l x ≡ some y → i < s.corners y → Predecessor g s x l y i
  -- Each edge of a corner can be taken by its label, and the price at its end is no more than by this edge.
  pub successor : (x : s.State) (j : ℕ) (e : Edge) → Valid x → j < s.corners x → Leaves g (s.node x j) e → Successor g s x j e

-- A corner path: a path with the labels ls from a corner of x into the targets, whose charge and the corner's price make this price.
pub record CornerPath (g : Graph) (s : System) (x : s.State) (ls : List ℕ) (price : ℕ) : Type 0 where
  pub corner : ℕ
  pub among : corner < s.corners x
  pub path : List Edge
  pub is-path : IsPath g (s.node x corner) path
  pub labelled : labels_of path ≡ ls
  pub priced : price ≡ s.price x corner + charge_of path

-- The labels arrive from x at no more than this price.
pub record ArrivesWithin (g : Graph) (s : System) (x : s.State) (ls : List ℕ) (bound : ℕ) : Type 0 where
  pub price : ℕ
  pub arrives : Arrives g s x ls price
  pub within : price ≤ bound

module _ (g : Graph) (s : System) where
  -- A label before labels that arrive.
  pub arrives-cons :
      (x y : s.State) (l : ℕ) (ls : List ℕ) (c : ℕ) → s.step l x ≡ some y → Arrives g s y ls c → Arrives g s x (l ∷ ls) c
  arrives-cons x y l ls c e a = record {
    last = a.last;
    follows = ap {B = Option s.State} (λ (o : Option s.State). elim o [ none ↦ none | some z ↦ follow s ls z ]) e ∙ a.follows;
    corner = a.corner;
    among = a.among;
    target = a.target;
    priced = a.priced;
  }

  -- The state after the first label of labels that arrive.
  pub arrives-step :
      (x : s.State) (l : ℕ) (ls : List ℕ) (c : ℕ) → Arrives g s x (l ∷ ls) c
      → (y : s.State) × (s.step l x ≡ some y) × Arrives g s y ls c
  arrives-step x l ls c a = go (s.step l x) refl a.follows
    where
      go :
          (o : Option s.State) → s.step l x ≡ o → (elim o [ none ↦ none | some y ↦ follow s ls y ]) ≡ some a.last
          → (y : s.State) × (s.step l x ≡ some y) × Arrives g s y ls c
      go none e f = absurd (true≢false cc)
      go (some y) e f = (
        y,
        e,
        record { last = a.last; follows = f; corner = a.corner; among = a.among; target = a.target; priced = a.priced },
      )

  -- Where the empty list arrives, x itself has a corner in a target.
  pub arrives-here :
      (x : s.State) (c : ℕ) → Arrives g s x [] c → (j : ℕ) × (j < s.corners x) × Target g (s.node x j) × (s.price x j ≡ c)
  arrives-here x c a = let e : a.last ≡ x = cc in (a.corner, rw e at a.among, rw e at a.target, rw e at a.priced)

  -- A corner path has as many edges as labels.
  pub corner-path-length : (x : s.State) (ls : List ℕ) (c : ℕ) (b : CornerPath g s x ls c) → length b.path ≡ length ls
  corner-path-length x ls c b = sym (length-map b.path (λ e. e.label)) ∙ ap length b.labelled

module _ (g : Graph) (s : System) (Valid : s.State → Type 0) (laws : Follows g s Valid) where
  -- Labels that arrive have a corner path.
  pub corner-path : (ls : List ℕ) (x : s.State) (c : ℕ) → Valid x → Arrives g s x ls c → CornerPath g s x ls c
  corner-path [] x c ok a =
      let h = arrives-here g s x c a in
      record { corner = h.0; among = h.1; path = []; is-path = h.2; labelled = refl; priced = omega arith }
  corner-path (l ∷ ls) x c ok a =
      let n = arrives-step g s x l ls c a in
      before n.0 n.1 (corner-path ls n.0 c (laws.valid x n.0 l ok n.1) n.2)
    where
      -- The edge of the first label, before the path of the others.
      before : (y : s.State) → s.step l x ≡ some y → CornerPath g s y ls c → CornerPath g s x (l ∷ ls) c
      before y e b =
          let r = laws.predecessor x y l b.corner ok e b.among in
          record {
            corner = r.corner;
            among = r.among;
            path = r.edge ∷ b.path;
            is-path = (r.leaves, rw r.leads b.is-path);
            labelled = rw (r.labelled, b.labelled);
            priced = omega arith;
          }

  -- The labels of a path from a corner arrive, at no more than the corner's price and its charge.
  pub arrives-path :
      (p : List Edge) (x : s.State) (j : ℕ) → Valid x → j < s.corners x → IsPath g (s.node x j) p
      → ArrivesWithin g s x (labels_of p) (s.price x j + charge_of p)
  arrives-path [] x j ok h w = record {
    price = s.price x j;
    arrives = record { last = x; follows = refl; corner = j; among = h; target = w; priced = refl };
    within = omega arith;
  }
  arrives-path (e ∷ p) x j ok h w =
      let r = laws.successor x j e ok h w.0 in
      let valid = laws.valid x r.next e.label ok r.step in
      let a = arrives-path p r.next r.corner valid r.among (rw r.leads w.1) in
      record {
        price = a.price;
        arrives = arrives-cons g s x r.next e.label (labels_of p) a.price r.step a.arrives;
        within = omega arith;
      }

  -- Where labels arrive, fewer than E labels arrive at no more cost.
  pub arrives-short :
      Closed g → (x : s.State) → Valid x → (ls : List ℕ) (c : ℕ) → Arrives g s x ls c
      → Shortened (Arrives g s x) g.nodes (cost c (length ls))
  arrives-short closed x ok ls c a =
      let b = corner-path ls x c ok a in
      let r = short-path g closed (s.node x b.corner) b.path (laws.inside x b.corner ok b.among) b.is-path in
      let m = arrives-path r.path x b.corner ok b.among r.is-path in
      let k = length-map r.path (λ e. e.label) in
      let n = corner-path-length g s x ls c b in
      record {
        labels = labels_of r.path;
        charge = m.price;
        comes = m.arrives;
        few = omega arith;
        within = cost-both (cost m.price (length (labels_of r.path))) (cost c (length ls)) (omega arith) (omega arith);
      }
