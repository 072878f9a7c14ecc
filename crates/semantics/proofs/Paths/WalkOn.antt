-- The steps of the walk along tight edges: past labels that have none, one label further, and back from a node that no tight edge leads on from.
-- Assumes nothing.
use Rattle.std.specs.Prelude.{◌≡◌, refl, ◌⊎◌, ◌≢◌, List, [], ◌∷◌, ◌++◌, ℕ, suc, ◌+◌, ◌≤◌, ◌<◌, length, get_or}
use Rattle.std.proofs.Common.{sym, ap, subst, ◌∙◌, inl, inr, arith, length-append}
use Rattle.std.proofs.Math.Decide.{dec_lt, ℕ_discrete}
use Rattle.std.proofs.Math.ListN.{get_or-append}
use Rattle.std.proofs.Math.Seq.{get_or-append_seam}
use Rattle.semantics.specs.Distinct.{distinct}
use Rattle.semantics.specs.Order.{Cost, cost}
use Rattle.semantics.specs.Graph.Path.{Edge, Graph, Leaves, Target, IsPath, cost_of, HasCost, Entry, unreached, reached, along}
use Rattle.semantics.specs.Graph.Distance.{distance}
use Rattle.semantics.specs.Graph.Near.{turned}
use Rattle.semantics.specs.Paths.Cost.{cost-same}
use Rattle.semantics.specs.Paths.Turned.{plus, plus-along, turned-nodes, turned-start, turned_more}
use Rattle.semantics.proofs.Paths.Walk.{Ground, Tight, OffNode, OffEdge, Led, Walk, from-least, whole-best, best-whole, through-distance, through-entry, best-path, entry-from, walk-distinct, walk_same}

module _ {g : Graph} {s L : ℕ} {B : Cost} (o : Ground g s L B) where
  -- A best path goes along the edge e of v: there is a way to its end, which with the rest of the path is B.
  module _ (v : ℕ) (h : v < g.nodes) (e : Edge) (l : Leaves g v e) (b : Cost) (p : List Edge) (from : distance (turned g s) v ≡ reached b)
      (whole : distance g s ≡ reached (plus b (cost_of (e ∷ p)))) where
    along-way : HasCost (turned g s) e.to (along e b)
    along-way = turned_more g s v e b h l ((from-least o).least v b (rw (turned-nodes g s) h) from).attained

    along-whole : plus (along e b) (cost_of p) ≡ B
    along-whole = sym (plus-along e b (cost_of p)) ∙ best-whole o (plus b (cost_of (e ∷ p))) whole

  -- So none does if none goes through its end.
  end-off : (v : ℕ) → v < g.nodes → (e : Edge) → Leaves g v e → OffNode g s e.to → OffEdge g s v e
  end-off v h e l off b p from path whole =
      let way = along-way v h e l b p from whole in
      let sum = along-whole v h e l b p from whole in
      off (along e b) p (through-distance o e.to (o.closed v e h l) (along e b) p way path sum) path
      (whole-best o (plus (along e b) (cost_of p)) sum)

  module _ {d : ℕ → Entry} {ks : List ℕ} {at : ℕ → ℕ} {label : ℕ} (w : Walk g s d ks at label) where
    -- If one goes along an edge of the node at hand, the edge is tight.
    best-tight :
        (e : Edge) → Leaves g (at (length ks)) e → (b : Cost) (p : List Edge) → distance (turned g s) (at (length ks)) ≡ reached b
        → IsPath g e.to p → distance g s ≡ reached (plus b (cost_of (e ∷ p))) → Tight d (length ks) (at (length ks)) e
    best-tight e l b p from path whole =
        let v = at (length ks) in
        let h = w.inside (length ks) (omega arith) in
        let t = w.standing (length ks) (omega arith) in
        let there = (entry-from o w v (cost t.0 (length ks)) h t.1).0 in
        let same : b ≡ cost t.0 (length ks) = cc in
        let end = o.closed v e h l in
        let entry =
        through-entry o e.to end (along e b) p (along-way v h e l b p from whole) path (along-whole v h e l b p from whole) d
        (λ a q. w.left e.to a end q) in
        let sum : along e b ≡ cost (t.0 + e.weight) (suc (length ks)) =
        cost-same (along e b) (cost (t.0 + e.weight) (suc (length ks))) (omega (arith, ap (λ (c : Cost). c.charge) same))
        (ap (λ (c : Cost). suc c.steps) same) in
        record { charge = t.0; from = t.1; to = entry ∙ ap reached sum }

    -- None of the edges with labels up to label' is tight.
    pub walk-tried :
        (label' : ℕ)
        → ((e : Edge) → Leaves g (at (length ks)) e → label ≤ e.label → e.label < label' → Tight d (length ks) (at (length ks)) e → ⊥)
        → Walk g s d ks at label'
    walk-tried label' none = record {
      begins = w.begins;
      inside = w.inside;
      standing = w.standing;
      led = w.led;
      passed = w.passed;
      tried = λ e l h. go e l h (dec_lt e.label label);
      kept = w.kept;
      left = w.left;
    }
      where
        go : (e : Edge) → Leaves g (at (length ks)) e → e.label < label' → Dec (e.label < label) → OffEdge g s (at (length ks)) e
        go e l h (yes b) = w.tried e l b
        go e l h (no b) = λ c p from path whole. none e l (omega arith) h (best-tight e l c p from path whole)

    -- An edge with the label is: one label more.
    module _ (e : Edge) (l : Leaves g (at (length ks)) e) (labelled : e.label ≡ label) (tight : Tight d (length ks) (at (length ks)) e) where
      further-inside : e.to < g.nodes
      further-inside = o.closed (at (length ks)) e (w.inside (length ks) (omega arith)) l

      -- B has as many steps.
      pub walk-short : suc (length ks) ≤ B.steps
      walk-short = (entry-from o w e.to (cost (tight.charge + e.weight) (suc (length ks))) further-inside tight.to).2

      pub walk-further :
          (at' : ℕ → ℕ) → ((i : ℕ) → i ≤ length ks → at i ≡ at' i) → at' (suc (length ks)) ≡ e.to → Walk g s d (ks ++ label ∷ []) at' 0
      walk-further at' nodes next = record {
        begins = before.begins;
        inside = λ i h. inside i h (dec_lt (length ks) i);
        standing = λ i h. standing i h (dec_lt (length ks) i);
        led = λ i h. led i h (dec_lt i (length ks));
        passed = λ i x h k. passed i x h k (dec_lt i (length ks));
        tried = λ x k h. absurd (omega arith);
        kept = w.kept;
        left = w.left;
      }
        where
          before : Walk g s d ks at' label
          before = walk_same w d (λ v h. refl) at' nodes

          more : length (ks ++ label ∷ []) ≡ suc (length ks)
          more = omega (arith, length-append ks (label ∷ []))

          inside : (i : ℕ) → i ≤ length (ks ++ label ∷ []) → Dec (length ks < i) → at' i < g.nodes
          inside i h (no b) = before.inside i (omega arith)
          inside i h (yes b) = let n : i ≡ suc (length ks) = omega (arith, more) in rw (n, next) further-inside

          standing : (i : ℕ) → i ≤ length (ks ++ label ∷ []) → Dec (length ks < i) → (c : ℕ) × (d (at' i) ≡ reached (cost c i))
          standing i h (no b) = before.standing i (omega arith)
          standing i h (yes b) =
              let n : i ≡ suc (length ks) = omega (arith, more) in
              (tight.charge + e.weight, rw (n, next) tight.to)

          here : at (length ks) ≡ at' (length ks)
          here = nodes (length ks) (omega arith)

          last : Led g d (length ks) label (at' (length ks)) (at' (suc (length ks)))
          last = record {
            edge = e;
            leaves = rw here at l;
            labelled = labelled;
            leads = sym next;
            tight = subst (λ (v : ℕ). Tight d (length ks) v e) here tight;
          }

          led : (i : ℕ) → i < length (ks ++ label ∷ []) → Dec (i < length ks) → Led g d i (get_or (ks ++ label ∷ []) i 0) (at' i) (at' (suc i))
          led i h (yes b) = rw (get_or-append ks (label ∷ []) 0 i b) (before.led i b)
          led i h (no b) =
              let n : i ≡ length ks = omega (arith, more) in
              rw (n, get_or-append_seam ks label [] 0) last

          passed :
              (i : ℕ) (x : Edge) → i < length (ks ++ label ∷ []) → Leaves g (at' i) x → Dec (i < length ks)
              → x.label < get_or (ks ++ label ∷ []) i 0 → OffEdge g s (at' i) x
          passed i x h k (yes b) less = before.passed i x b k (rw (get_or-append ks (label ∷ []) 0 i b) at less)
          passed i x h k (no b) less =
              let n : i ≡ length ks = omega (arith, more) in
              rw n (before.tried x (rw n at k) (rw (n, get_or-append_seam ks label [] 0) at less))

  -- All labels were tried, and the node at hand is no target: the last label is taken back.
  module _ {d : ℕ → Entry} {ks : List ℕ} {at : ℕ → ℕ} (w : Walk g s d ks at L) (away : Target g (at (length ks)) → ⊥) where
    -- No best path goes through the node.
    stuck : OffNode g s (at (length ks))
    stuck b [] from path whole = away path
    stuck b (e ∷ p) from path whole =
        w.tried e path.0 (o.labels (at (length ks)) e (w.inside (length ks) (omega arith)) path.0) b p from path.1 whole

    -- Through the start one does.
    pub walk-deep : 0 < length ks
    walk-deep = go (dec_lt 0 (length ks))
      where
        go : Dec (0 < length ks) → 0 < length ks
        go (yes h) = h
        go (no h) =
            let n : 0 ≡ length ks = omega arith in
            let off : OffNode g s s = subst (OffNode g s) (ap at (sym n) ∙ w.begins) stuck in
            let r = best-path o in
            absurd
            (off (cost 0 0) r.0 (through-distance o s o.start (cost 0 0) r.0 (turned-start g s) r.1 r.2) r.1
            (whole-best o (plus (cost 0 0) (cost_of r.0)) r.2))

    -- The node is left, and the walk goes on from the one before it, behind the label that led here.
    pub walk-back :
        (js : List ℕ) (k : ℕ) → ks ≡ js ++ k ∷ [] → (d' : ℕ → Entry) → d' (at (length ks)) ≡ unreached
        → ((v : ℕ) → v < g.nodes → v ≢ at (length ks) → d' v ≡ d v) → (at' : ℕ → ℕ) → ((i : ℕ) → i ≤ length js → at i ≡ at' i)
        → Walk g s d' js at' (suc k)
    walk-back js k is d' gone others at' nodes = walk_same before d' (λ v h. refl) at' nodes
      where
        more : length ks ≡ suc (length js)
        more = omega (arith, ap length is, length-append js (k ∷ []))

        -- The nodes before have the entries that they had.
        same : (i : ℕ) → i ≤ length js → d' (at i) ≡ d (at i)
        same i h = others (at i) (w.inside i (omega (arith, more))) (walk-distinct w i (omega (arith, more)))

        front : (i : ℕ) → i < length js → get_or ks i 0 ≡ get_or js i 0
        front i h = rw is (get_or-append js (k ∷ []) 0 i h)

        seam : get_or ks (length js) 0 ≡ k
        seam = rw is (get_or-append_seam js k [] 0)

        led : (i : ℕ) → i < length js → Led g d i (get_or ks i 0) (at i) (at (suc i)) → Led g d' i (get_or js i 0) (at i) (at (suc i))
        led i h t = record {
          edge = t.edge;
          leaves = t.leaves;
          labelled = t.labelled ∙ front i h;
          leads = t.leads;
          tight = record {
            charge = t.tight.charge;
            from = same i (omega arith) ∙ t.tight.from;
            to = ap d' t.leads ∙ same (suc i) (omega arith) ∙ ap d (sym t.leads) ∙ t.tight.to;
          };
        }

        -- Behind the label k the edges are off too: that of k leads to the node that is left.
        tried : (e : Edge) → Leaves g (at (length js)) e → e.label < suc k → Dec (e.label < k) → OffEdge g s (at (length js)) e
        tried e l h (yes less) = w.passed (length js) e (omega (arith, more)) l (rw seam less)
        tried e l h (no x) =
            let t = w.led (length js) (omega (arith, more)) in
            let one : e ≡ t.edge = o.one-edge (at (length js)) e t.edge l t.leaves (omega (arith, t.labelled, seam)) in
            let leads : e.to ≡ at (length ks) = ap (λ (x : Edge). x.to) one ∙ t.leads ∙ ap at (sym more) in
            end-off (at (length js)) (w.inside (length js) (omega (arith, more))) e l (rw leads stuck)

        kept : (v : ℕ) (c : Cost) → v < g.nodes → d' v ≡ reached c → Dec (v ≡ at (length ks)) → d v ≡ reached c
        kept v c h e (yes x) = let y = ap d' x ∙ gone in distinct cc
        kept v c h e (no x) = sym (others v h x) ∙ e

        left : (v : ℕ) (c : Cost) → v < g.nodes → (d v ≡ reached c) ⊎ OffNode g s v → Dec (v ≡ at (length ks)) → (d' v ≡ reached c) ⊎ OffNode g s v
        left v c h (inr off) x = inr off
        left v c h (inl e) (yes x) = inr (rw x stuck)
        left v c h (inl e) (no x) = inl (others v h x ∙ e)

        before : Walk g s d' js at (suc k)
        before = record {
          begins = w.begins;
          inside = λ i h. w.inside i (omega (arith, more));
          standing = λ i h. let t = w.standing i (omega (arith, more)) in (t.0, same i h ∙ t.1);
          led = λ i h. led i h (w.led i (omega (arith, more)));
          passed = λ i e h l less. w.passed i e (omega (arith, more)) l (rw (front i h) less);
          tried = λ e l h. tried e l h (dec_lt e.label k);
          kept = λ v c h e. w.kept v c h (kept v c h e (ℕ_discrete v (at (length ks))));
          left = λ v c h e. left v c h (w.left v c h e) (ℕ_discrete v (at (length ks)));
        }
