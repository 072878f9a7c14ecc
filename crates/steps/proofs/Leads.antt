-- The corners to which the edges of a step lead, edge by edge.
-- Assumes nothing.
use mathlib.Core.Path.{◌≡◌, refl, sym, ap, ◌∙◌}
use mathlib.Core.Bool.{Bool, true, false, cond}
use mathlib.Core.Logic.{◌⊎◌, inl, inr}
use mathlib.Core.List.{List}
use Prim.Native.Nat.{ℕ, ◌+◌, ◌≤◌, ◌<◌}
use native.Mathlib.Decide.{ℕ_discrete}
use native.Mathlib.Omega.{arith}
use lib.Dec.{ltb}
use lib.ListN.{get_or}
use Rattle.semantics.specs.Region.{PricedRegion, top}
use Rattle.table.specs.Fields.{most_price}
use Rattle.table.specs.Held.{pad}
use Rattle.steps.specs.declared.Stand.{Stand}
use Rattle.steps.specs.Steps.{Marked}
use Rattle.steps.specs.Images.{corner_of}
use Rattle.steps.specs.Leading.{Adds, LedTo, IsLed, MoveEdges, DelayEdges}
use Rattle.space.proofs.Settings.{padded-at}

module _ {z : Stand} {ws : List ℕ} {to : ℕ} where
  -- One edge more.
  led-more :
      {E F : ℕ → ℕ → ℕ → Type 0} {set j weight i r : ℕ} → ((k w n : ℕ) → E k w n → F k w n) → F j weight i
      → ((k w n : ℕ) → F k w n → E k w n ⊎ ((k ≡ j) × (w ≡ weight) × (n ≡ i))) → IsLed z ws to E set
      → Adds (LedTo z ws to j weight i) set i r → IsLed z ws to F r
  led-more {E} {F} {set} {j} {weight} {i} {r} old one only led adds =
      record { sixteen = adds.sixteen; marks = λ n. (λ m. out n ((adds.marks n).0 m), λ o. into n o (only o.0 o.1 n o.2)) }
    where
      out : (n : ℕ) → Marked set n ⊎ ((n ≡ i) × LedTo z ws to j weight i) → (k : ℕ) × (w : ℕ) × F k w n × LedTo z ws to k w n
      out n (inl m) = let o = (led.marks n).0 m in (o.0, o.1, old o.0 o.1 n o.2, o.3)
      out n (inr o) = (j, weight, rw o.0 one, rw o.0 o.1)

      into :
          (n : ℕ) (o : (k : ℕ) × (w : ℕ) × F k w n × LedTo z ws to k w n) → E o.0 o.1 n ⊎ ((o.0 ≡ j) × (o.1 ≡ weight) × (n ≡ i))
          → Marked r n
      into n o (inl e) = (adds.marks n).1 (inl ((led.marks n).1 (o.0, o.1, e, o.3)))
      into n o (inr e) = (adds.marks n).1 (inr (e.2, rw (e.0, e.1, e.2) at o.3))

  -- Other edges, which differ at most in those from corners that are not marked.
  led-alike :
      {E F : ℕ → ℕ → ℕ → Type 0} {r : ℕ} → ((j w i : ℕ) → E j w i → F j w i) → ((j w i : ℕ) → Marked z.set j → F j w i → E j w i)
      → IsLed z ws to E r → IsLed z ws to F r
  led-alike into back led = record {
    sixteen = led.sixteen;
    marks = λ i. (
      λ m. let o = (led.marks i).0 m in (o.0, o.1, into o.0 o.1 i o.2, o.3),
      λ o. (led.marks i).1 (o.0, o.1, back o.0 o.1 i o.3.0 o.2, o.3),
    );
  }

-- The edges of a move, corner by corner.
module _ {z : Stand} {ws : List ℕ} {to : ℕ} (map price : ℕ) where
  pub moves_more :
      {m i set r : ℕ} → i ≡ corner_of map m → IsLed z ws to (MoveEdges map price m) set → Adds (LedTo z ws to m price i) set i r
      → IsLed z ws to (MoveEdges map price (m + 1)) r
  moves_more {m} {i} is =
      led-more (λ k w n e. (omega (arith, e.0), e.1, e.2)) (omega arith, is, refl) (λ k w n e. only k w n e (ℕ_discrete k m))
    where
      only :
          (k w n : ℕ) → MoveEdges map price (m + 1) k w n → Dec (k ≡ m) → MoveEdges map price m k w n ⊎ ((k ≡ m) × (w ≡ price) × (n ≡ i))
      only k w n e (yes q) = inr (q, e.2, e.1 ∙ ap (corner_of map) q ∙ sym is)
      only k w n e (no q) = inl (omega (arith, e.0), e.1, e.2)

-- The edges of a delay to the corners below m.
abbrev pub DelaysBelow : List ℕ → ℕ → ℕ → ℕ → ℕ → ℕ → ℕ → Type 0
DelaysBelow prices k rate m j weight i = (i < m) × (j ≡ get_or prices i 0) × (weight ≡ cond (ltb k i) rate 0)

module _ {z : Stand} {ws : List ℕ} {to : ℕ} (prices : List ℕ) (k rate : ℕ) where
  pub delays-more :
      {m w set r : ℕ} → w ≡ cond (ltb k m) rate 0 → IsLed z ws to (DelaysBelow prices k rate m) set
      → Adds (LedTo z ws to (get_or prices m 0) w m) set m r → IsLed z ws to (DelaysBelow prices k rate (m + 1)) r
  delays-more {m} {w} is =
      led-more (λ j v i e. (omega (arith, e.0), e.1, e.2)) (omega arith, refl, is) (λ j v i e. only j v i e (ℕ_discrete i m))
    where
      only :
          (j v i : ℕ) → DelaysBelow prices k rate (m + 1) j v i → Dec (i ≡ m)
          → DelaysBelow prices k rate m j v i ⊎ ((j ≡ get_or prices m 0) × (v ≡ w) × (i ≡ m))
      only j v i e (yes q) =
          inr (e.1 ∙ ap (λ (n : ℕ). get_or prices n 0) q, e.2 ∙ ap (λ (n : ℕ). cond (ltb k n) rate 0) q ∙ sym is, q)
      only j v i e (no q) = inl (omega (arith, e.0), e.1, e.2)

  pub delays-all :
      (s : PricedRegion) {m r : ℕ} → prices ≡ pad 4 s.prices → m ≡ top s + 1 → IsLed z ws to (DelaysBelow prices k rate m) r
      → IsLed z ws to (DelayEdges s k rate) r
  delays-all s e f =
      let same : (i : ℕ) → get_or prices i 0 ≡ get_or s.prices i 0 = padded-at 4 s.prices e in
      led-alike (λ j w i d. (omega (arith, d.0), d.1 ∙ same i, d.2)) (λ j w i _ d. (omega (arith, d.0), d.1 ∙ sym (same i), d.2))

-- What a delay weighs is within a bound of the rate.
pub weight-small : (b : Bool) (rate : ℕ) → rate ≤ most_price → cond b rate 0 ≤ most_price
weight-small true rate h = h
weight-small false rate h = omega arith
