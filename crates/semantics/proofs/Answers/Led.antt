-- Where the tight edges of a place lead, whatever its prices: along the corner edges of its steps, to corners that have the charge that the edge gives. Where those
-- of a move lead.
-- Assumes nothing.
use Rattle.std.specs.Prelude.{◌≡◌, refl, ◌↔◌, ℕ, suc, ◌+◌, ◌<◌, length}
use Rattle.std.proofs.Common.{sym, ap, subst, subst₂, ◌∙◌, arith}
use mathlib.Core.List.{Memᴰ}
use Rattle.std.proofs.Math.Option.{some}
use Rattle.semantics.specs.Automata.Proper.{Proper}
use Rattle.semantics.specs.Automaton.{Automaton, move_at}
use Rattle.semantics.specs.Order.{Cost, cost}
use Rattle.semantics.specs.Graph.Path.{Edge, Entry, reached}
use Rattle.semantics.specs.Chain.{Place, step}
use Rattle.semantics.specs.Corners.Edges.{Edge as CornerEdge, reset_all_corner, edges, SamePlace}
use Rattle.semantics.specs.Graph.CornerGraph.{number_of, numbered, corner_graph}
use Rattle.semantics.proofs.Bounds.Steps.{Stepped, leaves, arrives, lingers, idles, moves, step-view}
use Rattle.semantics.proofs.Bounds.Shapes.{shape-sym, shape-charge}
use Rattle.semantics.specs.Answers.Places.{IsPlace, corner-top}
use Rattle.semantics.proofs.Answers.Places.{place-step}
use Rattle.semantics.proofs.Answers.Edges.{step-edge}
use Rattle.semantics.proofs.Answers.Graph.{PlaceEdge, number-alike, step-listed, listed-step, graph-edges}
use Rattle.semantics.proofs.Answers.Moving.{moved_to, move_corner, move-corner, move-listed}
use Rattle.semantics.specs.Answers.Marks.{Grows, Tight, Led}
use Rattle.semantics.proofs.Answers.Marks.{corners-differ}

-- Places of one shape have the same tight edges.
pub led-alike :
    (a : Automaton) (l : ℕ) (d : ℕ → Entry) (n : ℕ) (S : ℕ → Type 0) (k : ℕ) (p q z y : Place) → SamePlace p q → SamePlace z y → (i : ℕ)
    → Led a l d p n S k z i → Led a l d q n S k y i
led-alike a l d n S k p q z y e f i t = record {
  there = rw f.region.corners at t.there;
  corner = t.corner;
  marked = t.marked;
  tight = subst₂ (Tight (corner_graph a l) d n k) (number-alike a p q e t.corner) (number-alike a z y f i) t.tight;
}

-- Where the entry of v is known, the one of w tells.
pub grows-iff :
    (d : ℕ → Entry) (n weight v w c : ℕ) → d v ≡ reached (cost c n) → Grows d n weight v w ↔ (d w ≡ reached (cost (c + weight) (suc n)))
grows-iff d n weight v w c e = (
  λ t.
      let x = t.from in
      let z : cost t.charge n ≡ cost c n = cc in
      t.to ∙ ap (λ (u : Cost). reached (cost (u.charge + weight) (suc n))) z,
  λ q. record { charge = c; from = e; to = q },
)

-- Corner i of the place z is led to along a corner edge of the step.
pub record LedAlong (a : Automaton) (d : ℕ → Entry) (p : Place) (n : ℕ) (S : ℕ → Type 0) (k : ℕ) (z : Place) (i : ℕ) : Type 0 where
  pub corner : ℕ
  pub marked : S corner
  pub edge : CornerEdge
  pub listed : Memᴰ edge (edges a k p corner)
  pub leads : edge.corner ≡ i
  pub grows : Grows d n edge.weight (number_of a p corner) (number_of a z i)

-- The place to which a move leads has the corners of `moved_to`.
moved_same : (a : Automaton) (p : Place) {byte : ℕ} {z : Place} → Stepped a p byte z → byte < 64 → SamePlace z (moved_to a byte p)
moved_same a p (leaves z t) l = absurd (omega arith)
moved_same a p (arrives z t) l = absurd (omega arith)
moved_same a p (lingers z) l = absurd (omega arith)
moved_same a p (idles z) l = absurd (omega arith)
moved_same a p (moves e b i o g t) l =
    record { mode = refl; region = shape-sym _ _ (shape-charge (move_at a e).price (moved_to a e p).region) }

pub moved-number :
    (a : Automaton) (p z : Place) (k : ℕ) → step a k p ≡ some z → k < 64 → (i : ℕ) → number_of a z i ≡ number_of a (moved_to a k p) i
moved-number a p z k f b i = number-alike a z (moved_to a k p) (moved_same a p (step-view a p z k f) b) i

module _ (a : Automaton) (ok : Proper a) (l : ℕ) (d : ℕ → Entry) (n : ℕ) {p : Place} (h : IsPlace a p) (S : ℕ → Type 0)
    (among : (j : ℕ) → S j → j < length p.region.prices) (k : ℕ) {z : Place} (f : step a k p ≡ some z) where
  next : IsPlace a z
  next = place-step a ok p h (step-view a p z k f)

  -- The corner edges of the step are the edges of its byte.
  pub led-along : (i : ℕ) → Led a l d p n S k z i → LedAlong a d p n S k z i
  led-along i t =
      let j = t.corner in
      let b = among j t.marked in
      let o = listed-step a p j t.tight.edge (rw (graph-edges a l p h j b) at t.tight.leaves) in
      at o t.tight.labelled
    where
      at : PlaceEdge a p t.corner t.tight.edge → t.tight.edge.label ≡ k → LedAlong a d p n S k z i
      at o e =
          let f' = subst (λ (b : ℕ). step a b p ≡ some o.next) e o.step in
          let q : o.next ≡ z = cc in
          let listed = subst (λ (b : ℕ). Memᴰ o.edge (edges a b p t.corner)) e o.listed in
          let to : number_of a z o.edge.corner ≡ number_of a z i =
          sym (ap (λ (s : Place). number_of a s o.edge.corner) q) ∙ sym (ap (λ (x : Edge). x.to) o.is) ∙ t.tight.leads in
          let j = (corner-top p.region h.well-formed t.corner).0 (among t.corner t.marked) in
          let s = step-edge a ok p h (step-view a p z k f) t.corner j o.edge listed in
          record {
            corner = t.corner;
            marked = t.marked;
            edge = o.edge;
            listed = listed;
            leads = corners-differ a z next o.edge.corner i ((corner-top z.region next.well-formed o.edge.corner).1 s.there) t.there to;
            grows = subst (λ (w : ℕ). Grows d n w (number_of a p t.corner) (number_of a z i)) (ap (λ (x : Edge). x.weight) o.is) t.tight.grows;
          }

  pub along-led : (i : ℕ) → LedAlong a d p n S k z i → Led a l d p n S k z i
  along-led i t =
      let j = t.corner in
      let b = among j t.marked in
      let s = step-edge a ok p h (step-view a p z k f) j ((corner-top p.region h.well-formed j).0 b) t.edge t.listed in
      record {
        there = rw t.leads at ((corner-top z.region next.well-formed t.edge.corner).1 s.there);
        corner = j;
        marked = t.marked;
        tight = record {
          edge = numbered a k z t.edge;
          leaves = rw (graph-edges a l p h j b) (step-listed a p j k z f t.edge t.listed);
          labelled = refl;
          leads = ap (number_of a z) t.leads;
          grows = t.grows;
        };
      }

  -- A move takes each corner to the one that it becomes by the resets.
  pub led-move :
      k < 64 → (i : ℕ)
      → Led a l d p n S k z i
      ↔ ((j : ℕ) × S j × (i ≡ reset_all_corner (move_at a k).resets p.region j)
      × Grows d n (move_at a k).price (number_of a p j) (number_of a (moved_to a k p) i))
  led-move b i = (
    λ t.
        let o = led-along i t in
        let c = move-corner a p o.corner k b o.edge o.listed in
        (o.corner, o.marked, sym o.leads ∙ ap (λ (e : CornerEdge). e.corner) c, there o.corner (ap (λ (e : CornerEdge). e.weight) c) o.grows),
    λ o.
        along-led i (record {
          corner = o.0;
          marked = o.1;
          edge = move_corner a p o.0 k;
          listed = move-listed a p o.0 k b;
          leads = sym o.2;
          grows = rw number o.3;
        }),
  )
    where
      number : number_of a z i ≡ number_of a (moved_to a k p) i
      number = moved-number a p z k f b i

      there : (j : ℕ) {w v : ℕ} → w ≡ v → Grows d n w (number_of a p j) (number_of a z i) → Grows d n v (number_of a p j) (number_of a (moved_to a k p) i)
      there j e t = subst₂ (λ (u x : ℕ). Grows d n u (number_of a p j) x) e number t
