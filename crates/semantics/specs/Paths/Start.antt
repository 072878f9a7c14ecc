-- A state with a single corner at the price 0, from which a route starts: the entry of its node is the least cost of all that arrives.
-- Assumes nothing.
use Rattle.std.specs.Prelude.{◌≡◌, List, ℕ, ◌<◌}
use Rattle.std.proofs.Common.{◌∙◌, ap, inr, arith}
use Rattle.semantics.specs.Order.{Cost, Best}
use Rattle.semantics.specs.Graph.Path.{Graph, Entry, unreached, reached}
use Rattle.semantics.specs.Paths.System.{System, Arrives, corner-path}
use Rattle.semantics.specs.Paths.Route.{Completes, LowerBound, FirstFrom, Routing, bound-least}

-- A state to start from: its single corner is node v, at the price 0.
pub record StartsAt (s : System) (x : s.State) (v : ℕ) : Type 0 where
  pub single : s.corners x ≡ 1
  pub node : s.node x 0 ≡ v
  pub free : s.price x 0 ≡ 0

module _ {g : Graph} {s : System} {Valid : s.State → Type 0} {d : ℕ → Entry} (r : Routing g s Valid d) where
  module _ (x : s.State) (v : ℕ) (start : StartsAt s x v) where
    -- Every corner has the entry of v, and the price 0.
    start-entry : (j : ℕ) → j < s.corners x → (e : Entry) → d v ≡ e → d (s.node x j) ≡ e
    start-entry j h e q =
        let z : j ≡ 0 = omega (arith, start.single) in
        ap (λ (i : ℕ). d (s.node x i)) z ∙ ap d start.node ∙ q

    start-price : (j : ℕ) → j < s.corners x → s.price x j ≡ 0
    start-price j h = let z : j ≡ 0 = omega (arith, start.single) in ap (s.price x) z ∙ start.free

    -- The entry of v can be completed from x.
    pub start-completes : (c : Cost) → d v ≡ reached c → Completes s d x c
    start-completes c q = record {
      corner = 0;
      among = omega (arith, start.single);
      left = c.charge;
      entry = ap d start.node ∙ q;
      sum = omega (arith, start.free);
    }

    -- Nothing less can be.
    pub start-bound : (c : Cost) → d v ≡ reached c → LowerBound s d x c
    start-bound c q j h b e =
        let k = start-entry j h (reached c) q in
        let m : c ≡ b = cc in
        inr (ap (λ (z : Cost). z.charge) m ∙ omega (arith, start-price j h), omega (arith, ap (λ (z : Cost). z.steps) m))

    -- If v is unreached, no labels arrive.
    pub start_none : Valid x → d v ≡ unreached → (ls : List ℕ) (charge : ℕ) → Arrives g s x ls charge → ⊥
    start_none ok q ls charge a =
        let b = corner-path g s Valid r.laws ls x charge ok a in
        let inside = r.laws.inside x b.corner ok b.among in
        r.exact.no-path (s.node x b.corner) inside (start-entry b.corner b.among unreached q) b.path b.is-path

    -- The first labels at the entry of v are the best of all.
    pub start-best : Valid x → (c : Cost) → d v ≡ reached c → (ls : List ℕ) → FirstFrom g s x c ls → Best (Arrives g s x) c ls
    start-best ok c q ls f = record { least = bound-least r x c ok (start-bound c q); first = f }
