-- Steps go by the shape of a region, and not by its prices: which edges a step has, whether it is allowed, and the shape of the region to which it
-- leads. So the places of a chain can be computed, up to prices, with any prices.
-- Assumes nothing.
use Rattle.std.specs.Prelude.{◌≡◌, refl, List, [], ◌∷◌, ℕ}
use Rattle.std.proofs.Common.{ap, ◌∙◌, sym, subst}
use Rattle.semantics.specs.Automaton.{Automaton, mode_at, move_at}
use Rattle.semantics.specs.Region.{PricedRegion, leave, arrive, reset}
use Rattle.semantics.specs.Chain.{Place}
use Rattle.semantics.specs.Corners.Edges.{delay_edges, linger_edges, reset_corner, reset_all_corner, edges, SameShape, SamePlace}
use Rattle.semantics.specs.Regions.Cases.{lingered}
use Rattle.semantics.specs.Bounds.Steps.{rate_at}
use Rattle.semantics.proofs.Bounds.Steps.{moved_by, Stepped, leaves, arrives, lingers, idles, moves}
use Rattle.semantics.proofs.Bounds.Shapes.{shape-sym, shape-trans, shape-linger, shape-leave, shape-arrive, shape-meets_all, shape-admits, shape-reset, shape-move}

-- The edges of a step go by the shape.
module _ (r s : PricedRegion) (e : SameShape r s) where
  delay-edges : (rate j : ℕ) → delay_edges rate r j ≡ delay_edges rate s j
  delay-edges rate j = rw (e.group, e.corners) refl

  linger-edges : (rate j : ℕ) → linger_edges rate r j ≡ linger_edges rate s j
  linger-edges rate j = rw (e.group, e.corners) refl

  reset-corner : (x j : ℕ) → reset_corner x r j ≡ reset_corner x s j
  reset-corner x j = rw (e.group, e.corners) refl

resets-corner : (xs : List ℕ) (r s : PricedRegion) → SameShape r s → (j : ℕ) → reset_all_corner xs r j ≡ reset_all_corner xs s j
unfolding reset_all_corner
resets-corner [] r s e j = refl
resets-corner (x ∷ xs) r s e j =
    resets-corner xs (reset x r) (reset x s) (shape-reset r s e x) (reset_corner x r j)
    ∙ ap (reset_all_corner xs (reset x s)) (reset-corner r s e x j)

pub edges-alike : (a : Automaton) (byte : ℕ) (p s : Place) → SamePlace p s → (j : ℕ) → edges a byte p j ≡ edges a byte s j
unfolding edges
edges-alike a byte p s e j =
    rw (
      ← e.mode,
      ← delay-edges p.region s.region e.region (mode_at a p.mode).rate j,
      ← linger-edges p.region s.region e.region (mode_at a p.mode).rate j,
      ← resets-corner (move_at a byte).resets p.region s.region e.region j,
    )
    refl

-- From the place s the step of a byte leads to a place that differs from p' at most in what its prices are.
pub record StepsAlike (a : Automaton) (s : Place) (byte : ℕ) (p' : Place) : Type 0 where
  pub place : Place
  pub stepped : Stepped a s byte place
  pub same : SamePlace p' place

module _ (a : Automaton) where
  step-region :
      (p : Place) (r : PricedRegion) → SameShape p.region r → {byte : ℕ} {p' : Place} → Stepped a p byte p'
      → StepsAlike a (record { mode = p.mode; region = r }) byte p'
  step-region p r e (leaves z t) =
      let h = shape-leave p.region r e (rate_at a p) in
      record {
        place = record { mode = p.mode; region = leave (rate_at a p) r };
        stepped = leaves (rw (← e.group) z) (shape-admits _ _ h a p.mode t);
        same = record { mode = refl; region = h };
      }
  step-region p r e (arrives z t) =
      let h = shape-arrive p.region r e in
      record {
        place = record { mode = p.mode; region = arrive r };
        stepped = arrives (rw (← e.group) z) (shape-admits _ _ h a p.mode t);
        same = record { mode = refl; region = h };
      }
  step-region p r e (lingers z) = record {
    place = record { mode = p.mode; region = lingered (rate_at a p) r };
    stepped = lingers (rw (← e.group) z);
    same = record {
      mode = refl;
      region = shape-trans _ _ _ (shape-sym _ _ (shape-linger (rate_at a p) p.region)) (shape-trans _ _ _ e (shape-linger (rate_at a p) r));
    };
  }
  step-region p r e (idles z) = record {
    place = record { mode = p.mode; region = r };
    stepped = idles (rw (← e.group) z);
    same = record { mode = refl; region = e };
  }
  step-region p r e (moves i b c o g m) =
      let h = shape-move a i p.region r e in
      record {
        place = record { mode = (move_at a i).target; region = moved_by a i r };
        stepped =
            moves i b c o (sym (shape-meets_all _ _ e (move_at a i).conditions) ∙ g)
            (sym (shape-meets_all _ _ h (mode_at a (move_at a i).target).conditions) ∙ m);
        same = record { mode = refl; region = h };
      }

  -- One step, from two places of one shape.
  pub step-alike : (p s : Place) → SamePlace p s → {byte : ℕ} {p' : Place} → Stepped a p byte p' → StepsAlike a s byte p'
  step-alike p s e {byte} {p'} t =
      subst (λ (l : ℕ). StepsAlike a (record { mode = l; region = s.region }) byte p') e.mode (step-region p s.region e.region t)
