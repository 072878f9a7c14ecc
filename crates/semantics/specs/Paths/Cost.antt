-- The order of costs, by charge and then by steps: a total order, kept by an edge before both sides, with induction over it.
-- Assumes nothing.
use Rattle.std.specs.Prelude.{◌≡◌, true, false, ◌⊎◌, ℕ, zero, suc, ◌≤◌, ◌<◌}
use Rattle.std.proofs.Common.{sym, subst, inl, inr, le_refl, arith, lt-ltb, le-ltb, eq-eqb, ne_eqb}
use Rattle.std.proofs.Math.Decide.{dec_lt}
use Rattle.semantics.specs.Order.{Cost, ◌≼◌, ◌≺◌, is_less}
use Rattle.semantics.specs.Graph.Path.{Edge, along}

pub cost-trans : (a b c : Cost) → a ≼ b → b ≼ c → a ≼ c
cost-trans a b c (inl x) (inl y) = inl (omega arith)
cost-trans a b c (inl x) (inr y) = inl (omega arith)
cost-trans a b c (inr x) (inl y) = inl (omega arith)
cost-trans a b c (inr x) (inr y) = inr (omega arith)

pub cost-antisymm : (a b : Cost) → a ≼ b → b ≼ a → a ≡ b
cost-antisymm a b (inl x) (inl y) = absurd (omega arith)
cost-antisymm a b (inl x) (inr y) = absurd (omega arith)
cost-antisymm a b (inr x) (inl y) = absurd (omega arith)
cost-antisymm a b (inr x) (inr y) = let s : a.steps ≡ b.steps = omega arith in λ i. record { charge = x.0 i; steps = s i }

-- Costs of the same charge and the same steps are the same.
pub cost-same : (a b : Cost) → a.charge ≡ b.charge → a.steps ≡ b.steps → a ≡ b
cost-same a b x y = λ i. record { charge = x i; steps = y i }

pub cost-total : (a b : Cost) → (a ≼ b) ⊎ (b ≺ a)
cost-total a b = at (dec_lt a.charge b.charge) (dec_lt b.charge a.charge) (dec_lt b.steps a.steps)
  where
    at : Dec (a.charge < b.charge) → Dec (b.charge < a.charge) → Dec (b.steps < a.steps) → (a ≼ b) ⊎ (b ≺ a)
    at (yes x) y z = inl (inl x)
    at (no x) (yes y) z = inr (inl y)
    at (no x) (no y) (yes z) = inr (inr (omega arith))
    at (no x) (no y) (no z) = inl (inr (omega arith))

pub cost-weaken : (a b : Cost) → a ≺ b → a ≼ b
cost-weaken a b (inl x) = inl x
cost-weaken a b (inr x) = inr (omega arith)

-- What the test of it says.
pub less-true : (a b : Cost) → a ≺ b → is_less a b ≡ true
less-true a b (inl h) = rw (lt-ltb a.charge b.charge h)
less-true a b (inr h) = rw (le-ltb a.charge b.charge (omega (arith, h.0)), eq-eqb a.charge b.charge h.0, lt-ltb a.steps b.steps h.1)

pub less-false : (a b : Cost) → b ≼ a → is_less a b ≡ false
less-false a b (inl h) = rw (le-ltb a.charge b.charge (omega arith), ne_eqb a.charge b.charge (λ e. omega arith))
less-false a b (inr h) = rw (le-ltb a.charge b.charge (omega (arith, h.0)), eq-eqb a.charge b.charge (sym h.0), le-ltb a.steps b.steps h.1)

-- A cost may be put for one that is the same.
pub same-less : (a b c : Cost) → a ≡ b → b ≼ c → a ≼ c
same-less a b c e h = subst (λ (x : Cost). x ≼ c) (sym e) h

-- Less than what is at most a cost is less than it.
pub less-trans : (a b c : Cost) → a ≺ b → b ≼ c → a ≺ c
less-trans a b c (inl x) (inl y) = inl (omega arith)
less-trans a b c (inl x) (inr y) = inl (omega arith)
less-trans a b c (inr x) (inl y) = inl (omega arith)
less-trans a b c (inr x) (inr y) = inr (omega arith)

pub not-both : (a b : Cost) → a ≼ b → b ≺ a → ⊥
not-both a b (inl x) (inl y) = omega arith
not-both a b (inl x) (inr y) = omega arith
not-both a b (inr x) (inl y) = omega arith
not-both a b (inr x) (inr y) = omega arith

-- Charged no more, and of no more steps.
pub cost-both : (a b : Cost) → a.charge ≤ b.charge → a.steps ≤ b.steps → a ≼ b
cost-both a b h k = at (dec_lt a.charge b.charge)
  where
    at : Dec (a.charge < b.charge) → a ≼ b
    at (yes x) = inl x
    at (no x) = inr (omega arith)

-- Charged no more, and of fewer steps.
pub cost-fewer : (a b : Cost) → a.charge ≤ b.charge → a.steps < b.steps → a ≺ b
cost-fewer a b h k = at (dec_lt a.charge b.charge)
  where
    at : Dec (a.charge < b.charge) → a ≺ b
    at (yes x) = inl x
    at (no x) = inr (omega arith)

-- What is at most a cost is charged no more.
pub cost-charge : (a b : Cost) → a ≼ b → a.charge ≤ b.charge
cost-charge a b (inl x) = omega arith
cost-charge a b (inr x) = omega arith

pub cost-along : (e : Edge) (a b : Cost) → a ≼ b → along e a ≼ along e b
cost-along e a b (inl x) = inl (omega arith)
cost-along e a b (inr x) = inr (omega arith)

-- Induction over things that have a cost: what holds of one wherever it holds of all that cost less holds of every one.
module _ {A : Type 0} (costs : A → Cost) (P : A → Type 0) (step : (a : A) → ((b : A) → costs b ≺ costs a → P b) → P a) where
  -- Of those charged at most n and of fewer than m steps, if it holds of all that are charged less than n.
  below_steps : (n : ℕ) → ((a : A) → (costs a).charge < n → P a) → (m : ℕ) (a : A) → (costs a).charge ≤ n → (costs a).steps < m → P a
  below_steps n cheap zero a h k = absurd (omega arith)
  below_steps n cheap (suc m) a h k = step a (λ b. lesser b (below_steps n cheap m b))
    where
      lesser : (b : A) → ((costs b).charge ≤ n → (costs b).steps < m → P b) → costs b ≺ costs a → P b
      lesser b ih (inl x) = cheap b (omega arith)
      lesser b ih (inr x) = ih (omega arith) (omega arith)

  below-charge : (n : ℕ) (a : A) → (costs a).charge < n → P a
  below-charge zero a h = absurd (omega arith)
  below-charge (suc n) a h = below_steps n (below-charge n) (suc (costs a).steps) a (omega arith) (le_refl (suc (costs a).steps))

  pub cost-induction : (a : A) → P a
  cost-induction a = below-charge (suc (costs a).charge) a (le_refl (suc (costs a).charge))
