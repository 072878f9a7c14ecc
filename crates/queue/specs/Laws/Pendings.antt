-- Who plays.
-- Assumes nothing.
use Rattle.std.specs.Prelude.{◌≡◌, Bool, ◌⊎◌, ◌≢◌, List, ℕ}
use Rattle.std.proofs.Math.Path.{refl}
use Rattle.std.proofs.Common.{sym, ◌∙◌, inl, inr, arith}
use Rattle.std.proofs.Math.Bool.{true, false, cond}
use Rattle.std.proofs.Math.Dec.{eqb, leb}
use borrow.Author.Tests.{ne_eqb, eqb-true, eqb-false, le-leb, leb-true, leb-false}
use Rattle.semantics.specs.Graph.Path.{infinity, charge_at}
use Rattle.queue.specs.Tournament.{none, OwnLeaves}
use Rattle.queue.specs.Queue.{key, Pending, pends, players}

module _ (upto : ℕ) (ts : List ℕ) (v : ℕ) where
  pends-true : Pending upto ts v → pends upto ts v ≡ true
  unfolding pends
  pends-true (n, h) = rw (ne_eqb (charge_at ts v) infinity n, le-leb upto (key ts v) h)

  pends-false : (Pending upto ts v → ⊥) → pends upto ts v ≡ false
  unfolding pends
  pends-false n = at (eqb (charge_at ts v) infinity) refl (leb upto (key ts v)) refl
    where
      at :
          (b : Bool) → eqb (charge_at ts v) infinity ≡ b → (d : Bool) → leb upto (key ts v) ≡ d
          → cond (eqb (charge_at ts v) infinity) false (leb upto (key ts v)) ≡ false
      at true e d f = rw e
      at false e false f = rw (e, f)
      at false e true f = absurd (n (eqb-false (charge_at ts v) infinity e, leb-true upto (key ts v) f))

  -- A node is pending or not.
  pub pending-or : Pending upto ts v ⊎ (Pending upto ts v → ⊥)
  pending-or = at (eqb (charge_at ts v) infinity) refl (leb upto (key ts v)) refl
    where
      at :
          (b : Bool) → eqb (charge_at ts v) infinity ≡ b → (d : Bool) → leb upto (key ts v) ≡ d
          → Pending upto ts v ⊎ (Pending upto ts v → ⊥)
      at true e d f = inr (λ p. p.0 (eqb-true (charge_at ts v) infinity e))
      at false e true f = inl (eqb-false (charge_at ts v) infinity e, leb-true upto (key ts v) f)
      at false e false f = inr (λ p. omega (arith, p.1, leb-false upto (key ts v) f))

  pub entrant-in : Pending upto ts v → (players upto ts).entrant v ≡ v
  entrant-in p = rw (pends-true p)

  pub entrant-out : (Pending upto ts v → ⊥) → (players upto ts).entrant v ≡ none
  entrant-out n = rw (pends-false n)

  -- Who enters is pending.
  pub in-pending : v ≢ none → (players upto ts).entrant v ≡ v → Pending upto ts v
  in-pending n e = at pending-or
    where
      at : Pending upto ts v ⊎ (Pending upto ts v → ⊥) → Pending upto ts v
      at (inl p) = p
      at (inr p) = absurd (n (sym e ∙ entrant-out p))

pub own-leaves : (upto : ℕ) (ts : List ℕ) → OwnLeaves (players upto ts)
own-leaves upto ts v = at (pending-or upto ts v)
  where
    at :
        Pending upto ts v ⊎ (Pending upto ts v → ⊥)
        → ((players upto ts).entrant v ≡ v) ⊎ ((players upto ts).entrant v ≡ none)
    at (inl p) = inl (entrant-in upto ts v p)
    at (inr n) = inr (entrant-out upto ts v n)

-- A node that is pending in both or in neither enters in both or in neither.
pub entrant-same :
    (a b : ℕ) (ts us : List ℕ) (v : ℕ) → (Pending a ts v → Pending b us v) → (Pending b us v → Pending a ts v)
    → (players b us).entrant v ≡ (players a ts).entrant v
entrant-same a b ts us v there back = at (pending-or a ts v)
  where
    at : Pending a ts v ⊎ (Pending a ts v → ⊥) → (players b us).entrant v ≡ (players a ts).entrant v
    at (inl p) = entrant-in b us v (there p) ∙ sym (entrant-in a ts v p)
    at (inr n) = entrant-out b us v (λ q. n (back q)) ∙ sym (entrant-out a ts v n)
