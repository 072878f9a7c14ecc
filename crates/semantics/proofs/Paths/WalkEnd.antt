-- The end of the walk along tight edges: where it stands at a target, its labels are the first of least cost.
-- Assumes nothing.
use Rattle.std.specs.Prelude.{◌≡◌, refl, ◌⊎◌, List, [], ◌∷◌, ◌++◌, ℕ, suc, ◌+◌, ◌<◌, length, get_or}
use Rattle.std.proofs.Common.{sym, ap, subst, ◌∙◌, inl, inr, append_assoc, arith, length-append}
use Rattle.std.proofs.Math.Decide.{dec_lt}
use Rattle.std.proofs.lemmas.List.{length-map}
use Rattle.std.proofs.Math.Seq.{get_or-append_seam}
use Rattle.semantics.specs.Order.{Cost, cost, ◌≼◌, ◌⊑◌, Best}
use Rattle.semantics.specs.Graph.Path.{Edge, Graph, Leaves, Target, IsPath, labels_of, cost_of, Entry, reached}
use Rattle.semantics.specs.Paths.Cost.{cost-same, cost-both, cost-antisymm}
use Rattle.semantics.specs.Paths.Explored.{path-cost}
use Rattle.semantics.specs.Paths.Labelled.{LabelledPath}
use Rattle.semantics.specs.Paths.Least.{no-less-cost}
use Rattle.semantics.specs.Paths.Turned.{plus, plus_none, turned-nodes, turned-start, turned_then}
use Rattle.semantics.proofs.Paths.Walk.{Ground, Walk, start-least, from-least, whole-best, through-distance, best-path, entry-from}

-- A path has as many labels as edges.
labels-count : (p : List Edge) (ls : List ℕ) → labels_of p ≡ ls → length p ≡ length ls
labels-count p ls e = sym (length-map p (λ x. x.label)) ∙ ap length e

module _ {g : Graph} {s L : ℕ} {B : Cost} (o : Ground g s L B) where
  module _ {d : ℕ → Entry} {ks : List ℕ} {at : ℕ → ℕ} {label : ℕ} (w : Walk g s d ks at label) where
    -- Behind the labels js, where the charge is c, comes the label k.
    record Next (js : List ℕ) (k c : ℕ) : Type 0 where
      edge : Edge
      leaves : Leaves g (at (length js)) edge
      labelled : edge.label ≡ k
      leads : edge.to ≡ at (length (js ++ k ∷ []))
      entry : d (at (length (js ++ k ∷ []))) ≡ reached (cost (c + edge.weight) (length (js ++ k ∷ [])))

    module _ (js : List ℕ) (k : ℕ) (rest : List ℕ) (is : ks ≡ js ++ k ∷ rest) where
      within : length js < length ks
      within = omega (arith, ap length is, length-append js (k ∷ rest))

      label_is : get_or ks (length js) 0 ≡ k
      label_is = rw is (get_or-append_seam js k rest 0)

      next : (c : ℕ) → d (at (length js)) ≡ reached (cost c (length js)) → Next js k c
      next c e =
          let t = w.led (length js) within in
          let n : suc (length js) ≡ length (js ++ k ∷ []) = omega (arith, length-append js (k ∷ [])) in
          let f = t.tight.from in
          let same : cost t.tight.charge (length js) ≡ cost c (length js) = cc in
          let leads : t.edge.to ≡ at (length (js ++ k ∷ [])) = t.leads ∙ ap at n in
          let sum : cost (t.tight.charge + t.edge.weight) (suc (length js)) ≡ cost (c + t.edge.weight) (length (js ++ k ∷ [])) =
          cost-same (cost (t.tight.charge + t.edge.weight) (suc (length js))) (cost (c + t.edge.weight) (length (js ++ k ∷ [])))
          (ap (λ (x : Cost). x.charge + t.edge.weight) same) n in
          record {
            edge = t.edge;
            leaves = t.leaves;
            labelled = t.labelled ∙ label_is;
            leads = leads;
            entry = ap d (sym leads) ∙ t.tight.to ∙ ap reached sum;
          }

    -- No labels are left: the walk stands at its last node.
    at_last : (js : List ℕ) → ks ≡ js ++ [] → length js ≡ length ks
    at_last js is = omega (arith, ap length is, length-append js [])

    -- If that is a target, the labels left are those of a path, and its charge is what is left of that of the last node.
    path-left :
        Target g (at (length ks)) → (C : ℕ) → d (at (length ks)) ≡ reached (cost C (length ks)) → (rest js : List ℕ) → ks ≡ js ++ rest → (c : ℕ)
        → d (at (length js)) ≡ reached (cost c (length js)) → (R : ℕ) × LabelledPath g (at (length js)) rest R × (c + R ≡ C)
    path-left goal C last [] js is c e =
        let n = at_last js is in
        let e' : d (at (length ks)) ≡ reached (cost c (length ks)) = subst (λ (m : ℕ). d (at m) ≡ reached (cost c m)) n e in
        let same : cost c (length ks) ≡ cost C (length ks) = cc in (
          0,
          record { path = []; is-path = rw n goal; labelled = refl; charged = refl },
          omega (arith, ap (λ (x : Cost). x.charge) same),
        )
    path-left goal C last (k ∷ rest) js is c e =
        let t = next js k rest is c e in
        let r = path-left goal C last rest (js ++ k ∷ []) (is ∙ sym (append_assoc js (k ∷ []) rest)) (c + t.edge.weight) t.entry in (
          t.edge.weight + r.0,
          record {
            path = t.edge ∷ r.1.path;
            is-path = (t.leaves, rw t.leads r.1.is-path);
            labelled = λ i. t.labelled i ∷ r.1.labelled i;
            charged = ap (λ (x : ℕ). t.edge.weight + x) r.1.charged;
          },
          omega (arith, r.2),
        )

    -- They come no later than those of any path that makes a best one with what was done.
    no-earlier :
        (rest js : List ℕ) → ks ≡ js ++ rest → (c : ℕ) → d (at (length js)) ≡ reached (cost c (length js)) → (p : List Edge)
        → IsPath g (at (length js)) p → plus (cost c (length js)) (cost_of p) ≡ B → length rest ≡ length p → rest ⊑ labels_of p
    no-earlier [] js is c e p path whole n = tt
    no-earlier (k ∷ rest) js is c e [] path whole n = absurd (omega arith)
    no-earlier (k ∷ rest) js is c e (x ∷ p) path whole n =
        go (no-earlier rest (js ++ k ∷ []) (is ∙ sym (append_assoc js (k ∷ []) rest))) (next js k rest is c e) (dec_lt x.label k) (dec_lt k x.label)
      where
        here : at (length js) < g.nodes
        here = w.inside (length js) (omega (arith, within js k rest is))

        go :
            ((c' : ℕ) → d (at (length (js ++ k ∷ []))) ≡ reached (cost c' (length (js ++ k ∷ []))) → (q : List Edge)
            → IsPath g (at (length (js ++ k ∷ []))) q → plus (cost c' (length (js ++ k ∷ []))) (cost_of q) ≡ B → length rest ≡ length q
            → rest ⊑ labels_of q)
            → Next js k c → Dec (x.label < k) → Dec (k < x.label) → (k < x.label) ⊎ ((k ≡ x.label) × (rest ⊑ labels_of p))
        go ih t (yes less) more =
            absurd
            (w.passed (length js) x (within js k rest is) path.0 (rw (label_is js k rest is) less) (cost c (length js)) p
            (entry-from o w (at (length js)) (cost c (length js)) here e).0 path.1
            (whole-best o (plus (cost c (length js)) (cost_of (x ∷ p))) whole))
        go ih t (no _) (yes more) = inl more
        go ih t (no y) (no z) =
            let same : k ≡ x.label = omega arith in
            let one : x ≡ t.edge = o.one-edge (at (length js)) x t.edge path.0 t.leaves (sym same ∙ sym t.labelled) in
            let leads : x.to ≡ at (length (js ++ k ∷ [])) = ap (λ (y : Edge). y.to) one ∙ t.leads in
            let weight = ap (λ (y : Edge). y.weight) one in
            let m = length-append js (k ∷ []) in
            let sum : plus (cost (c + t.edge.weight) (length (js ++ k ∷ []))) (cost_of p) ≡ B =
            cost-same (plus (cost (c + t.edge.weight) (length (js ++ k ∷ []))) (cost_of p)) B
            (omega (arith, ap (λ (y : Cost). y.charge) whole)) (omega (arith, ap (λ (y : Cost). y.steps) whole)) in
            inr (same, ih (c + t.edge.weight) t.entry p (subst (λ (v : ℕ). IsPath g v p) leads path.1) sum (omega arith))

    -- The walk begins at no charge.
    first_entry : d (at 0) ≡ reached (cost 0 0)
    first_entry =
        let r = best-path o in
        let t = w.standing 0 (omega arith) in
        let here = (entry-from o w (at 0) (cost t.0 0) (w.inside 0 (omega arith)) t.1).0 in
        let there = through-distance o s o.start (cost 0 0) r.0 (turned-start g s) r.1 r.2 in
        t.1 ∙ sym here ∙ rw w.begins there

    -- A target is reached at B.
    target-best : Target g (at (length ks)) → d (at (length ks)) ≡ reached B
    target-best goal =
        let v = at (length ks) in
        let h = w.inside (length ks) (omega arith) in
        let t = w.standing (length ks) (omega arith) in
        let c = cost t.0 (length ks) in
        let near = entry-from o w v c h t.1 in
        let way = ((from-least o).least v c (rw (turned-nodes g s) h) near.0).attained in
        let path = rw (plus_none c) at (turned_then g s v c (cost 0 0) way (path-cost g v [] goal)) in
        t.1 ∙ ap reached (cost-antisymm c B (cost-both c B near.1 near.2) (no-less-cost g s B c (start-least o) path))

    -- At a target the labels are the first of least cost.
    pub walk_ends : Target g (at (length ks)) → Best (LabelledPath g s) B ks × (length ks ≡ B.steps)
    walk_ends goal = (
      record { least = least; first = record { good = (good, counted); first = λ ls h. first ls h.0 h.1 } },
      counted,
    )
      where
        last : d (at (length ks)) ≡ reached B
        last = target-best goal

        counted : length ks ≡ B.steps
        counted =
            let t = w.standing (length ks) (omega arith) in
            let same : cost t.0 (length ks) ≡ B = cc (t.1, last) in
            ap (λ (c : Cost). c.steps) same

        least : (ls : List ℕ) (C : ℕ) → LabelledPath g s ls C → B ≼ cost C (length ls)
        least ls C p = rw (p.charged, labels-count p.path ls p.labelled) at ((start-least o).least p.path p.is-path)

        good : LabelledPath g s ks B.charge
        good =
            let same : B ≡ cost B.charge (length ks) = cost-same B (cost B.charge (length ks)) refl (sym counted) in
            let r = path-left goal B.charge (last ∙ ap reached same) ks [] refl 0 first_entry in
            let sum : r.0 ≡ B.charge = omega (arith, r.2) in
            subst (LabelledPath g s ks) sum (subst (λ (v : ℕ). LabelledPath g v ks r.0) w.begins r.1)

        first : (ls : List ℕ) → LabelledPath g s ls B.charge → length ls ≡ B.steps → ks ⊑ ls
        first ls p n =
            let m = labels-count p.path ls p.labelled in
            let whole : plus (cost 0 0) (cost_of p.path) ≡ B =
            cost-same (plus (cost 0 0) (cost_of p.path)) B (omega (arith, p.charged)) (omega (arith, m, n)) in
            subst (λ (l : List ℕ). ks ⊑ l) p.labelled
            (no-earlier ks [] refl 0 first_entry p.path (rw w.begins p.is-path) whole (omega (arith, m, n, counted)))
