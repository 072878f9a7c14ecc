-- How the best of several kinds of lists of labels is put together, for a search that recurs over all lists: the better of the best of each
-- kind, and a label before the best of the rest.
-- Assumes nothing.
use Rattle.std.specs.Prelude.{◌≡◌, refl, ◌⊎◌, List, ◌∷◌, ℕ, suc, length}
use Rattle.std.proofs.Common.{ap, inl, inr, ⊎_elim, arith}
use Rattle.semantics.specs.Order.{Cost, cost, ◌≼◌, ◌≺◌, ◌⊑◌, Best}
use Rattle.semantics.specs.Paths.Cost.{cost-trans, cost-weaken, not-both}
use Rattle.semantics.specs.Paths.Labels.{labels-trans, best-map}

-- Lists of either kind.
abbrev pub Either : (List ℕ → ℕ → Type 0) → (List ℕ → ℕ → Type 0) → List ℕ → ℕ → Type 0
Either P Q ls charge = P ls charge ⊎ Q ls charge

-- A label before a list.
pub record Before (l : ℕ) (P : List ℕ → ℕ → Type 0) (ls : List ℕ) (charge : ℕ) : Type 0 where
  pub rest : List ℕ
  pub is : ls ≡ l ∷ rest
  pub comes : P rest charge

-- By charge, then steps, then label order, (c, ls) comes no later than (b, ms).
abbrev pub NoLater : Cost → List ℕ → Cost → List ℕ → Type 0
NoLater c ls b ms = (c ≺ b) ⊎ ((c ≡ b) × (ls ⊑ ms))

module _ {P Q : List ℕ → ℕ → Type 0} where
  -- The best of the one kind comes no later than that of the other: it is the best of both.
  pub best-left : (c b : Cost) (ls ms : List ℕ) → Best P c ls → Best Q b ms → NoLater c ls b ms → Best (Either P Q) c ls
  best-left c b ls ms x y h = record {
    least = λ ks charge k. least ks charge k h;
    first = record { good = (inl x.first.good.0, x.first.good.1); first = λ ks k. first ks k.0 k.1 h };
  }
    where
      least : (ks : List ℕ) (charge : ℕ) → Either P Q ks charge → NoLater c ls b ms → c ≼ cost charge (length ks)
      least ks charge (inl k) h = x.least ks charge k
      least ks charge (inr k) (inl h) = cost-trans c b (cost charge (length ks)) (cost-weaken c b h) (y.least ks charge k)
      least ks charge (inr k) (inr h) = rw h.0 (y.least ks charge k)

      first : (ks : List ℕ) → Either P Q ks c.charge → length ks ≡ c.steps → NoLater c ls b ms → ls ⊑ ks
      first ks (inl k) n h = x.first.first ks (k, n)
      first ks (inr k) n (inl h) = absurd (not-both b c (rw n at (y.least ks c.charge k)) h)
      first ks (inr k) n (inr h) = labels-trans ls ms ks h.1 (y.first.first ks (rw (← h.0) (k, n)))

  -- There are none of the other kind.
  pub best-only : (c : Cost) (ls : List ℕ) → Best P c ls → ((ks : List ℕ) (charge : ℕ) → Q ks charge → ⊥) → Best (Either P Q) c ls
  best-only c ls x none = best-map c ls (λ ks charge k. inl k) (λ ks charge k. ⊎_elim (λ p. p) (λ q. absurd (none ks charge q)) k) x

-- The order of the two kinds does not matter.
pub best-swap : {P Q : List ℕ → ℕ → Type 0} (c : Cost) (ls : List ℕ) → Best (Either P Q) c ls → Best (Either Q P) c ls
best-swap c ls x = best-map c ls (λ ks charge k. ⊎_elim inr inl k) (λ ks charge k. ⊎_elim inr inl k) x

-- A label before the best of the rest.
pub best-cons :
    {P : List ℕ → ℕ → Type 0} (l : ℕ) (c : Cost) (ls : List ℕ) → Best P c ls
    → Best (Before l P) (cost c.charge (suc c.steps)) (l ∷ ls)
best-cons {P} l c ls x = record {
  least = λ ks charge k. least ks charge k (x.least k.rest charge k.comes);
  first = record {
    good = (record { rest = ls; is = refl; comes = x.first.good.0 }, omega (arith, x.first.good.1));
    first = λ ks k. first ks k.0 k.1;
  };
}
  where
    least :
        (ks : List ℕ) (charge : ℕ) (k : Before l P ks charge) → c ≼ cost charge (length k.rest)
        → cost c.charge (suc c.steps) ≼ cost charge (length ks)
    least ks charge k (inl h) = inl h
    least ks charge k (inr h) = inr (h.0, omega (arith, ap length k.is))

    first : (ks : List ℕ) → Before l P ks c.charge → length ks ≡ suc c.steps → (l ∷ ls) ⊑ ks
    first ks k n = rw k.is (inr (refl, x.first.first k.rest (k.comes, omega (arith, ap length k.is))))
