-- How the first labels of least cost are found by the words of a search, which hold the least costs from the start: a walk along tight edges in the order
-- of their labels, that leaves a node again where no tight edge leads on, and then never comes back to it. This page says what a walk is, how it begins,
-- and what is known of the nodes that it stands on; WalkOn has its steps, WalkEnd its end.
-- Assumes nothing.
use Rattle.std.specs.Prelude.{◌≡◌, ◌⊎◌, ◌≢◌, List, [], ◌∷◌, ℕ, suc, ◌≤◌, ◌<◌, length, get_or}
use Rattle.std.proofs.Common.{sym, ap, subst, ◌∙◌, inl, inr, arith}
use Rattle.semantics.specs.Order.{Cost, cost}
use Rattle.semantics.specs.Graph.Path.{Edge, Graph, Leaves, Closed, IsPath, cost_of, HasCost, Least, Entry, unreached, reached, LeastCosts}
use Rattle.semantics.specs.Graph.Distance.{distance}
use Rattle.semantics.specs.Graph.Near.{turned}
use Rattle.semantics.specs.Paths.Cost.{cost-same, same-less}
use Rattle.semantics.specs.Paths.Explored.{path-cost}
use Rattle.semantics.specs.Paths.Labelled.{LabelledPath}
use Rattle.semantics.specs.Paths.Least.{no-less-cost, least-reached}
use Rattle.semantics.specs.Paths.Turned.{plus, plus-start, plus-cancel-less, turned-nodes, turned-closed, turned-start, turned_then}
use Rattle.semantics.proofs.Paths.UpTo.{distance_least}
use Rattle.semantics.proofs.Answers.Forward.{near-keeps, near-kept}
use Rattle.semantics.specs.Answers.Marks.{Grows}
use Rattle.semantics.specs.Answers.Walk.{near_entry, NearCosts}

-- At a node a label has one edge at most.
abbrev pub OneEdge : Graph → Type 0
OneEdge g = (v : ℕ) (e e' : Edge) → Leaves g v e → Leaves g v e' → e.label ≡ e'.label → e ≡ e'

-- The labels are below L.
abbrev pub LabelsBelow : Graph → ℕ → Type 0
LabelsBelow g L = (v : ℕ) (e : Edge) → v < g.nodes → Leaves g v e → e.label < L

-- What the walk goes by: the graph, its start s, the bound L of its labels, and the least cost B from the start into the targets.
pub record Ground (g : Graph) (s L : ℕ) (B : Cost) : Type 0 where
  pub closed : Closed g
  pub start : s < g.nodes
  pub one-edge : OneEdge g
  pub labels : LabelsBelow g L
  pub best : distance g s ≡ reached B

-- By the table d the edge e of node v, to which n labels led, is tight: its end is reached along it.
abbrev pub Tight : (ℕ → Entry) → ℕ → ℕ → Edge → Type 0
Tight d n v e = Grows d n e.weight v e.to

-- No best path goes through the node v.
abbrev pub OffNode : Graph → ℕ → ℕ → Type 0
OffNode g s v = (b : Cost) (p : List Edge) → distance (turned g s) v ≡ reached b → IsPath g v p → distance g s ≡ reached (plus b (cost_of p)) → ⊥

-- None goes along the edge e of v.
abbrev pub OffEdge : Graph → ℕ → ℕ → Edge → Type 0
OffEdge g s v e =
    (b : Cost) (p : List Edge) → distance (turned g s) v ≡ reached b → IsPath g e.to p → distance g s ≡ reached (plus b (cost_of (e ∷ p))) → ⊥

-- A tight edge with the label k leads from v, to which n labels led, to w.
pub record Led (g : Graph) (d : ℕ → Entry) (n k v w : ℕ) : Type 0 where
  pub edge : Edge
  pub leaves : Leaves g v edge
  pub labelled : edge.label ≡ k
  pub leads : edge.to ≡ w
  pub tight : Tight d n v edge

-- The walk stands at the last of the nodes to which the labels ks led, and has tried the labels below `label` there. `at i` is the node to which the first
-- i of them led. By the table d some nodes were left since the search.
pub record Walk (g : Graph) (s : ℕ) (d : ℕ → Entry) (ks : List ℕ) (at : ℕ → ℕ) (label : ℕ) : Type 0 where
  pub begins : at 0 ≡ s
  pub inside : (i : ℕ) → i ≤ length ks → at i < g.nodes
  pub standing : (i : ℕ) → i ≤ length ks → (c : ℕ) × (d (at i) ≡ reached (cost c i))
  pub led : (i : ℕ) → i < length ks → Led g d i (get_or ks i 0) (at i) (at (suc i))
  -- No best path goes along an edge of a lesser label than the one taken, or of one of those tried.
  pub passed : (i : ℕ) (e : Edge) → i < length ks → Leaves g (at i) e → e.label < get_or ks i 0 → OffEdge g s (at i) e
  pub tried : (e : Edge) → Leaves g (at (length ks)) e → e.label < label → OffEdge g s (at (length ks)) e
  -- The entries are those of the search, but for nodes that were left, through which no best path goes.
  pub kept : (v : ℕ) (c : Cost) → v < g.nodes → d v ≡ reached c → near_entry g s v ≡ reached c
  pub left : (v : ℕ) (c : Cost) → v < g.nodes → near_entry g s v ≡ reached c → (d v ≡ reached c) ⊎ OffNode g s v

module _ {g : Graph} {s : ℕ} {d : ℕ → Entry} {ks : List ℕ} {at : ℕ → ℕ} {label : ℕ} (w : Walk g s d ks at label) where
  -- The edges of the walk.
  pub walk-edge : (i : ℕ) → i < length ks → Led g d i (get_or ks i 0) (at i) (at (suc i))
  walk-edge = w.led

  -- Nodes to which other numbers of labels led are others.
  pub walk-apart : (i j : ℕ) → i ≤ length ks → j ≤ length ks → i ≢ j → at i ≢ at j
  walk-apart i j h k other e =
      let x = (w.standing i h).1 in
      let y = (w.standing j k).1 in
      let x' = ap d (sym e) ∙ x in
      let z : cost (w.standing i h).0 i ≡ cost (w.standing j k).0 j = cc in
      other (ap (λ (c : Cost). c.steps) z)

  pub walk-distinct : (i : ℕ) → i < length ks → at i ≢ at (length ks)
  walk-distinct i h = walk-apart i (length ks) (omega arith) (omega arith) (λ e. omega arith)

  -- The table and the nodes may be read anew.
  pub walk_same :
      (d' : ℕ → Entry) → ((v : ℕ) → v < g.nodes → d v ≡ d' v) → (at' : ℕ → ℕ) → ((i : ℕ) → i ≤ length ks → at i ≡ at' i)
      → Walk g s d' ks at' label
  walk_same d' same at' nodes = record {
    begins = sym (nodes 0 (omega arith)) ∙ w.begins;
    inside = λ i h. rw (nodes i h) at (w.inside i h);
    standing = λ i h.
        let t = w.standing i h in
        (t.0, rw (nodes i h) at (sym (same (at i) (w.inside i h)) ∙ t.1));
    led = λ i h. led i h (w.led i h);
    passed = λ i e h. subst (λ (v : ℕ). Leaves g v e → e.label < get_or ks i 0 → OffEdge g s v e) (nodes i (omega arith)) (w.passed i e h);
    tried = λ e. subst (λ (v : ℕ). Leaves g v e → e.label < label → OffEdge g s v e) (nodes (length ks) (omega arith)) (w.tried e);
    kept = λ v c h q. w.kept v c h (same v h ∙ q);
    left = λ v c h q. left v c h (w.left v c h q);
  }
    where
      left : (v : ℕ) (c : Cost) → v < g.nodes → (d v ≡ reached c) ⊎ OffNode g s v → (d' v ≡ reached c) ⊎ OffNode g s v
      left v c h (inl e) = inl (sym (same v h) ∙ e)
      left v c h (inr off) = inr off

      led : (i : ℕ) → i < length ks → Led g d i (get_or ks i 0) (at i) (at (suc i)) → Led g d' i (get_or ks i 0) (at' i) (at' (suc i))
      led i h t = record {
        edge = t.edge;
        leaves = rw (nodes i (omega arith)) at t.leaves;
        labelled = t.labelled;
        leads = t.leads ∙ nodes (suc i) (omega arith);
        tight = record {
          charge = t.tight.charge;
          from = rw (nodes i (omega arith)) at (sym (same (at i) (w.inside i (omega arith))) ∙ t.tight.from);
          to = sym (same t.edge.to (rw t.leads (w.inside (suc i) (omega arith)))) ∙ t.tight.to;
        };
      }

-- If the targets have no distance from s, there are no labels.
pub no-best :
    (g : Graph) → Closed g → (s : ℕ) → s < g.nodes → distance g s ≡ unreached → (ls : List ℕ) (C : ℕ) → LabelledPath g s ls C → ⊥
no-best g closed s h none ls C p = (distance_least g closed).no-path s h none p.path p.is-path

module _ {g : Graph} {s L : ℕ} {B : Cost} (o : Ground g s L B) where
  -- No path from s costs less than B.
  pub start-least : Least g s B
  start-least = (distance_least g o.closed).least s B o.start o.best

  -- The distances of the turned graph are the least costs from s.
  pub from-least : LeastCosts (turned g s) (distance (turned g s))
  from-least = distance_least (turned g s) (turned-closed g s)

  -- What is B as a whole is the distance.
  pub whole-best : (c : Cost) → c ≡ B → distance g s ≡ reached c
  whole-best c e = o.best ∙ ap reached (sym e)

  pub best-whole : (c : Cost) → distance g s ≡ reached c → c ≡ B
  best-whole c e = let b = o.best in cc

  -- A way from s to v and a path from v are a best path: no way to v costs less,
  module _ (v : ℕ) (h : v < g.nodes) (b : Cost) (p : List Edge) (way : HasCost (turned g s) v b) (path : IsPath g v p)
      (whole : plus b (cost_of p) ≡ B) where
    through-least : Least (turned g s) v b
    through-least = record {
      attained = way;
      least = λ q w.
          plus-cancel-less b (cost_of p) (cost_of q)
          (same-less (plus b (cost_of p)) B (plus (cost_of q) (cost_of p)) whole
          (no-less-cost g s B (plus (cost_of q) (cost_of p)) start-least
          (turned_then g s v (cost_of q) (cost_of p) (path-cost (turned g s) v q w) (path-cost g v p path))));
    }

    pub through-distance : distance (turned g s) v ≡ reached b
    through-distance = least-reached (turned g s) (distance (turned g s)) from-least v (rw (turned-nodes g s) h) b through-least

    -- so the search has its cost as the entry of v,
    through-near : near_entry g s v ≡ reached b
    through-near =
        near-keeps (distance g s) (distance (turned g s) v) B b o.best through-distance
        (omega (arith, ap (λ (c : Cost). c.charge) whole)) (omega (arith, ap (λ (c : Cost). c.steps) whole))

    -- and a table from which only nodes are missing through which no best path goes has it too.
    pub through-entry :
        (d : ℕ → Entry) → ((c : Cost) → near_entry g s v ≡ reached c → (d v ≡ reached c) ⊎ OffNode g s v) → d v ≡ reached b
    through-entry d left = go (left b through-near)
      where
        go : (d v ≡ reached b) ⊎ OffNode g s v → d v ≡ reached b
        go (inl e) = e
        go (inr off) = absurd (off b p through-distance path (whole-best (plus b (cost_of p)) whole))

  -- The best path from s.
  pub best-path : (p : List Edge) × IsPath g s p × (plus (cost 0 0) (cost_of p) ≡ B)
  best-path =
      let r = start-least.attained in
      (r.path, r.is-path, plus-start (cost_of r.path) ∙ cost-same (cost_of r.path) B r.charged r.counted)

  -- The walk begins at the start, with the table as the search left it.
  pub walk_begins : (d : ℕ → Entry) → NearCosts g s d → (at : ℕ → ℕ) → at 0 ≡ s → Walk g s d [] at 0
  walk_begins d costs at is = record {
    begins = is;
    inside = λ i h. subst (λ (n : ℕ). at n < g.nodes) (sym (none i h)) here;
    standing = λ i h. subst (λ (n : ℕ). (c : ℕ) × (d (at n) ≡ reached (cost c n))) (sym (none i h)) (0, ap d is ∙ entry);
    led = λ i h. absurd (omega arith);
    passed = λ i e h. absurd (omega arith);
    tried = λ e l h. absurd (omega arith);
    kept = λ v c h q. sym (costs v h) ∙ q;
    left = λ v c h q. inl (costs v h ∙ q);
  }
    where
      none : (i : ℕ) → i ≤ 0 → i ≡ 0
      none i h = omega arith

      here : at 0 < g.nodes
      here = rw is o.start

      entry : d s ≡ reached (cost 0 0)
      entry =
          let r = best-path in
          through-entry s o.start (cost 0 0) r.0 (turned-start g s) r.1 r.2 d (λ c q. inl (costs s o.start ∙ q))

  module _ {d : ℕ → Entry} {ks : List ℕ} {at : ℕ → ℕ} {label : ℕ} (w : Walk g s d ks at label) where
    -- An entry of the table is the least cost from s, and as near as B.
    pub entry-from :
        (v : ℕ) (c : Cost) → v < g.nodes → d v ≡ reached c
        → (distance (turned g s) v ≡ reached c) × (c.charge ≤ B.charge) × (c.steps ≤ B.steps)
    entry-from v c h e = near-kept (distance g s) (distance (turned g s) v) B c o.best (w.kept v c h e)

    -- Each node that the labels led to is a node of the graph, reached in as many steps, at no more than the charge of B.
    pub walk-entry : (i : ℕ) → i ≤ length ks → (at i < g.nodes) × ((c : ℕ) × (c ≤ B.charge) × (d (at i) ≡ reached (cost c i)))
    walk-entry i h =
        let t = w.standing i h in
        (w.inside i h, (t.0, (entry-from (at i) (cost t.0 i) (w.inside i h) t.1).1, t.1))

    -- The labels are at most as many as the steps of B.
    pub walk-few : length ks ≤ B.steps
    walk-few =
        let n = length ks in
        let t = w.standing n (omega arith) in
        (entry-from (at n) (cost t.0 n) (w.inside n (omega arith)) t.1).2
