-- Waiting by the numbers of the nodes: a delay leads to higher nodes than all corners of its place, linger from the first corner of a region to
-- its last, or nowhere else.
-- Assumes nothing.
use Rattle.std.specs.Prelude.{◌≡◌, true, ◌↔◌, ◌⊎◌, ℕ, suc, ◌≤◌, ◌<◌}
use Rattle.std.proofs.Math.Path.{refl}
use Rattle.std.proofs.Common.{ap, ◌∙◌, subst, inl, inr, ⊎_elim, arith, eq-eqb, ne_eqb, eqb-true}
use mathlib.Core.List.{Memᴰ}
use Rattle.std.proofs.Math.Decide.{ℕ_discrete}
use Rattle.semantics.specs.Automata.Proper.{Proper}
use Rattle.semantics.specs.Automaton.{Automaton}
use Rattle.semantics.specs.Region.{PricedRegion, WellFormed, count, top, no_zero, delay, within}
use Rattle.semantics.specs.Graph.Path.{Edge, Leaves}
use Rattle.semantics.specs.Chain.{Place}
use Rattle.semantics.specs.Corners.Edges.{Edge as CornerEdge, pass_edges, linger_edges, edges, SamePlace}
use Rattle.semantics.specs.Graph.CornerGraph.{number_of, numbered, corner_graph}
use Rattle.semantics.specs.Regions.Cases.{zero-cases, delay-arrive, delay-leave}
use Rattle.semantics.specs.Regions.Lengths.{leave-top, delay-timers}
use Rattle.semantics.proofs.Regions.Lengths.{arrive-top}
use Rattle.semantics.specs.Regions.Groups.{top_pos}
use Rattle.semantics.proofs.Regions.WellFormed.{delay-well-formed}
use Rattle.semantics.proofs.Nodes.Regions.{within-cell}
use Rattle.semantics.proofs.Bounds.Flow.{pass-passes, pass-cases}
use Rattle.semantics.specs.Bounds.Steps.{rate_at}
use Rattle.semantics.proofs.Bounds.Steps.{Stepped, leaves, arrives, lingers, idles, moves, step-view, view-step}
use Rattle.semantics.proofs.Bounds.Shapes.{shape-sym, shape-linger}
use Rattle.semantics.specs.Answers.Places.{IsPlace}
use Rattle.semantics.proofs.Answers.Graph.{label-below, step-listed, numbered-alike, graph-edges}
use Rattle.semantics.specs.Answers.Waiting.{delayed_to}
use Rattle.semantics.proofs.Answers.Waiting.{place-edge}

-- r0 is empty exactly if a delay takes a corner away.
pub empty-fewer : (r : PricedRegion) → WellFormed r → (no_zero r ≡ true) ↔ (top (delay 0 r) < top r)
empty-fewer r w = (
  λ e. let z = eqb-true (count 0 r.group) 0 e in rw (delay-arrive 0 r z) (omega (arith, arrive-top r w, top_pos r w z)),
  λ h.
      ⊎_elim (λ z. eq-eqb (count 0 r.group) 0 z)
      (λ z. let u : suc (top r) < top r = rw (delay-leave 0 r z, leave-top r w 0) at h in absurd (omega arith))
      (zero-cases r),
)

pub delayed-place : (a : Automaton) → Proper a → (p : Place) → IsPlace a p → within a.ceilings (delayed_to p).region ≡ true → IsPlace a (delayed_to p)
delayed-place a ok p h t =
    let w = delay-well-formed p.region h.well-formed 0 in
    record {
      well-formed = w;
      cell = within-cell (delay 0 p.region) w a.ceilings ((delay-timers p.region 0).whole ∙ h.cell.sized) t;
      in-modes = h.in-modes;
    }

-- Linger: where an edge leads.
record Last (r : PricedRegion) (rate j : ℕ) (e : CornerEdge) : Type 0 where
  empty : no_zero r ≡ true
  first : j ≡ 0
  is : e ≡ record { corner = top r; weight = rate }

module _ (r : PricedRegion) (rate : ℕ) where
  pass-out : no_zero r ≡ true → (j : ℕ) (e : CornerEdge) → Memᴰ e (pass_edges (top r) rate j) → (e.corner ≡ j) ⊎ Last r rate j e
  pass-out z j e m =
      ⊎_elim (λ q. inl (ap (λ (d : CornerEdge). d.corner) q)) (λ q. inr (record { empty = z; first = q.0; is = q.1 }))
      (pass-cases (top r) rate j e m)

  linger-out : (j : ℕ) (e : CornerEdge) → Memᴰ e (linger_edges rate r j) → (e.corner ≡ j) ⊎ Last r rate j e
  linger-out j e m =
      ⊎_elim (λ z. let t = eq-eqb (count 0 r.group) 0 z in pass-out t j e (rw t at m))
      (λ z.
      inl (ap (λ (d : CornerEdge). d.corner) (mathlib.Core.List.Memᴰ.eq_of_singleton (rw (ne_eqb (count 0 r.group) 0 (λ e. omega arith)) at m))))
      (zero-cases r)

module _ (a : Automaton) (p : Place) where
  -- Linger keeps the shape of the place.
  pub linger-same : {byte : ℕ} {p' : Place} → Stepped a p byte p' → byte ≡ 65 → SamePlace p' p
  linger-same (leaves z t) e = absurd (omega arith)
  linger-same (arrives z t) e = absurd (omega arith)
  linger-same (lingers z) e = record { mode = refl; region = shape-sym _ _ (shape-linger (rate_at a p) p.region) }
  linger-same (idles z) e = record { mode = refl; region = record { whole = refl; group = refl; corners = refl } }
  linger-same (moves i b c o g m) e = absurd (omega arith)

  pub linger-edges : (j : ℕ) → edges a 65 p j ≡ linger_edges (rate_at a p) p.region j
  unfolding edges
  linger-edges j = refl

module _ (a : Automaton) (l : ℕ) (p : Place) (h : IsPlace a p) where
  -- Corner 0 has an edge to the last corner where r0 is empty, and every other edge of linger leads to the corner itself.
  pub edge-linger :
      (j : ℕ) → j ≤ top p.region → (x : Edge) → Leaves (corner_graph a l) (number_of a p j) x → x.label ≡ 65
      → (x.to ≡ number_of a p j)
      ⊎ ((no_zero p.region ≡ true) × (j ≡ 0) × (x ≡ record { label = 65; weight = rate_at a p; to = number_of a p (top p.region) }))
  edge-linger j b x m q =
      let d = place-edge a l p h j b x m in
      let s = linger-same a p (step-view a p d.next x.label d.step) q in
      let e : x ≡ numbered a 65 p d.edge =
      d.is ∙ ap (λ (byte : ℕ). numbered a byte d.next d.edge) q
      ∙ ap (λ (f : CornerEdge → Edge). f d.edge) (numbered-alike a 65 d.next p s) in
      ⊎_elim (λ c. inl (ap (λ (y : Edge). y.to) e ∙ ap (number_of a p) c))
      (λ o. inr (o.empty, o.first, e ∙ ap (numbered a 65 p) o.is))
      (linger-out p.region (rate_at a p) j d.edge
      (subst (Memᴰ d.edge) (ap (λ (b : ℕ). edges a b p j) q ∙ linger-edges a p j) d.listed))

  pub linger-edge :
      no_zero p.region ≡ true
      → Leaves (corner_graph a l) (number_of a p 0) (record { label = 65; weight = rate_at a p; to = number_of a p (top p.region) })
  linger-edge z =
      let e : CornerEdge = record { corner = top p.region; weight = rate_at a p } in
      let k : Memᴰ e (linger_edges (rate_at a p) p.region 0) = rw z (pass-passes (top p.region) (rate_at a p)) in
      rw (graph-edges a l p h 0 h.well-formed.priced)
      (step-listed a p 0 65 _ (view-step a p (lingers (eqb-true (count 0 p.region.group) 0 z))) e (rw (linger-edges a p 0) k))

  -- The labels of waiting.
  pub wait-label :
      (j : ℕ) → j ≤ top p.region → (x : Edge) → Leaves (corner_graph a l) (number_of a p j) x → 64 ≤ x.label
      → (x.label ≡ 64) ⊎ (x.label ≡ 65)
  wait-label j b x m f =
      let d = place-edge a l p h j b x m in
      go (label-below a p x.label d.next d.step) (ℕ_discrete x.label 64)
    where
      go : x.label < 66 → Dec (x.label ≡ 64) → (x.label ≡ 64) ⊎ (x.label ≡ 65)
      go u (yes q) = inl q
      go u (no n) = inr (omega arith)
