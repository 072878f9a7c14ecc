-- What comes into a mode along chains is what arrives in the targets of the corner graph; and how high the prices of a chain can be.
-- Assumes nothing.
use Rattle.std.specs.Prelude.{◌≡◌, refl, ◌↔◌, ℕ, ◌+◌, ◌*◌, ◌<◌, ◌≤◌, length, get_or}
use Rattle.std.proofs.Common.{◌∙◌}
use Rattle.std.proofs.Math.Path.{sym, subst}
use mathlib.Core.List.{List, [], ◌∷◌}
use Rattle.std.proofs.Math.Option.{Option, none, some, some-injective}
use Rattle.std.proofs.Math.Nat.{zero-mul, suc-mul}
use native.Mathlib.Omega.{arith}
use Rattle.semantics.specs.Automata.Proper.{Proper}
use Rattle.semantics.specs.Automaton.{Automaton}
use Rattle.semantics.specs.Region.{start}
use Rattle.semantics.specs.Chain.{Place, step, follow, begin, chain}
use Rattle.semantics.specs.Answer.{Comes}
use Rattle.semantics.specs.Graph.CornerGraph.{number_of, corner_graph, PricesWithin}
use Rattle.semantics.specs.Bounds.Prices.{price}
use Rattle.semantics.proofs.Bounds.Steps.{follow-first}
use Rattle.semantics.proofs.Bounds.Reached.{Reached, reached-begin, chain-reached}
use Rattle.semantics.specs.Paths.System.{follow as follow_by, Arrives}
use Rattle.semantics.proofs.Answers.Graph.{graph-weights}
use Rattle.semantics.proofs.Answers.System.{chains, price-corner, reached-next, chains-follow, target-mode}

-- The steps of the system, one after another, are those of a chain.
follow-chain : (a : Automaton) (ks : List ℕ) (p : Place) → follow_by (chains a) ks p ≡ follow a ks p
unfolding follow
follow-chain a [] p = refl
follow-chain a (k ∷ ks) p = go (step a k p) (follow-chain a ks)
  where
    go :
        (o : Option Place) → ((p' : Place) → follow_by (chains a) ks p' ≡ follow a ks p')
        → ◌≡◌ {A = Option Place} (elim o [ none ↦ none | some p' ↦ follow_by (chains a) ks p' ])
        (elim o [ none ↦ none | some p' ↦ follow a ks p' ])
    go none ih = refl
    go (some p') ih = ih p'

module _ (a : Automaton) (ok : Proper a) where
  -- The steps come into mode l at the price C exactly if they arrive, as labels, in a target at this price.
  pub comes-arrives : (l : ℕ) (ks : List ℕ) (C : ℕ) → Comes a l ks C ↔ Arrives (corner_graph a l) (chains a) (begin a) ks C
  unfolding chain
  comes-arrives l ks C = (
    λ c.
        let h = chain-reached a ok ks c.place c.ends in
        let o = (price-corner c.place.region.prices C).0 c.corner in
        record {
          last = c.place;
          follows = follow-chain a ks (begin a) ∙ c.ends;
          corner = o.0;
          among = o.1;
          target = (target-mode a ok l c.place h o.0 o.1).1 c.mode;
          priced = o.2;
        },
    λ r.
        let f = sym (follow-chain a ks (begin a)) ∙ r.follows in
        let h = chain-reached a ok ks r.last f in
        record {
          place = r.last;
          ends = f;
          mode = (target-mode a ok l r.last h r.corner r.among).0 r.target;
          corner = (price-corner r.last.region.prices C).1 (r.corner, r.among, r.priced);
        },
  )

  module _ (w : ℕ) (light : PricesWithin a w) where
    -- No price is above B.
    abbrev PricedBelow : Place → ℕ → Type 0
    PricedBelow p B = (j : ℕ) → j < length p.region.prices → price p.region j ≤ B

    -- A step adds at most w to a price.
    step-priced : (k : ℕ) (p p' : Place) (B : ℕ) → Reached a p → PricedBelow p B → step a k p ≡ some p' → PricedBelow p' (B + w)
    step-priced k p p' B h below f i b =
        let r = (chains-follow a ok 0).predecessor p p' k i h f b in
        let v = (chains-follow a ok 0).inside p r.corner h r.among in
        omega (arith, r.priced, below r.corner r.among, graph-weights a 0 ok w light (number_of a p r.corner) r.edge v r.leaves)

    follow-priced :
        (ks : List ℕ) (p p' : Place) (B : ℕ) → Reached a p → PricedBelow p B → follow a ks p ≡ some p' → PricedBelow p' (B + length ks * w)
    unfolding follow
    follow-priced [] p p' B h below f =
        subst (λ (q : Place). PricedBelow q (B + 0 * w)) (some-injective p p' f) (λ j b. omega (arith, below j b, zero-mul w))
    follow-priced (k ∷ ks) p p' B h below f =
        let o = follow-first a k ks p p' f in
        let rest =
        follow-priced ks o.0 p' (B + w) (reached-next a ok p o.0 k h o.1) (step-priced k p o.0 B h below o.1) o.2 in
        λ j b. omega (arith, suc-mul (length ks) w, rest j b)

    -- No corner price of a chain is above the greatest rate or price for each of its steps.
    pub chain-priced :
        (ks : List ℕ) (p : Place) → chain a ks ≡ some p → (j : ℕ) → j < length p.region.prices → get_or p.region.prices j 0 ≤ length ks * w
    unfolding chain start
    chain-priced ks p f j b =
        omega (arith, follow-priced ks (begin a) p 0 (reached-begin a ok) (λ i h. let e : i ≡ 0 = omega arith in rw e (omega arith)) f j b)
