-- Label order is a total order. The best of some lists of labels: there is one at most, and it is found among those of few labels.
-- Assumes nothing.
use Rattle.std.specs.Prelude.{◌≡◌, refl, ◌⊎◌, List, [], ◌∷◌, ℕ, ◌<◌, ◌≤◌, length}
use Rattle.std.proofs.Common.{inl, inr, arith}
use Rattle.std.proofs.Math.Decide.{dec_lt}
use Rattle.semantics.specs.Order.{Cost, cost, ◌≼◌, ◌⊑◌, First, Best}
use Rattle.semantics.specs.Paths.Cost.{cost-trans, cost-antisymm}

pub labels-trans : (ks ls ms : List ℕ) → ks ⊑ ls → ls ⊑ ms → ks ⊑ ms
labels-trans [] ls ms h k = tt
labels-trans (a ∷ ks) [] ms h k = absurd h
labels-trans (a ∷ ks) (b ∷ ls) [] h k = absurd k
labels-trans (a ∷ ks) (b ∷ ls) (c ∷ ms) (inl x) (inl y) = inl (omega arith)
labels-trans (a ∷ ks) (b ∷ ls) (c ∷ ms) (inl x) (inr y) = inl (omega arith)
labels-trans (a ∷ ks) (b ∷ ls) (c ∷ ms) (inr x) (inl y) = inl (omega arith)
labels-trans (a ∷ ks) (b ∷ ls) (c ∷ ms) (inr x) (inr y) = inr (omega arith, labels-trans ks ls ms x.1 y.1)

labels-antisymm : (ls ms : List ℕ) → ls ⊑ ms → ms ⊑ ls → ls ≡ ms
labels-antisymm [] [] h k = refl
labels-antisymm [] (m ∷ ms) h k = absurd k
labels-antisymm (l ∷ ls) [] h k = absurd h
labels-antisymm (l ∷ ls) (m ∷ ms) (inl x) (inl y) = absurd (omega arith)
labels-antisymm (l ∷ ls) (m ∷ ms) (inl x) (inr y) = absurd (omega arith)
labels-antisymm (l ∷ ls) (m ∷ ms) (inr x) (inl y) = absurd (omega arith)
labels-antisymm (l ∷ ls) (m ∷ ms) (inr x) (inr y) = let e = labels-antisymm ls ms x.1 y.1 in cc

first-unique : {Good : List ℕ → Type 0} (ls ms : List ℕ) → First Good ls → First Good ms → ls ≡ ms
first-unique ls ms x y = labels-antisymm ls ms (x.first ms y.good) (y.first ls x.good)

-- The first good list begins with the least label l with which a good list begins, and after it comes the first of what may follow l.
pub first-cons :
    {Good Rest : List ℕ → Type 0} (l : ℕ) (ls : List ℕ) → (Good [] → ⊥) → ((m : ℕ) (ms : List ℕ) → Good (m ∷ ms) → l ≤ m)
    → ((ms : List ℕ) → Good (l ∷ ms) → Rest ms) → ((ms : List ℕ) → Rest ms → Good (l ∷ ms)) → First Rest ls
    → First Good (l ∷ ls)
first-cons {Good} {Rest} l ls some least rest good f = record { good = good ls f.good; first = λ ms x. at ms x }
  where
    same : (m : ℕ) (ms : List ℕ) → Good (m ∷ ms) → Dec (l < m) → (l < m) ⊎ ((l ≡ m) × (ls ⊑ ms))
    same m ms x (yes h) = inl h
    same m ms x (no h) =
        let e : l ≡ m = omega (arith, least m ms x) in
        inr (e, f.first ms (rest ms (rw e x)))

    at : (ms : List ℕ) → Good ms → (l ∷ ls) ⊑ ms
    at [] x = some x
    at (m ∷ ms) x = same m ms x (dec_lt l m)

module _ {Comes : List ℕ → ℕ → Type 0} (c b : Cost) (ls ms : List ℕ) (x : Best Comes c ls) (y : Best Comes b ms) where
  best-cost : c ≡ b
  best-cost =
      let p = x.least ms b.charge y.first.good.0 in
      let q = y.least ls c.charge x.first.good.0 in
      cost-antisymm c b (rw y.first.good.1 at p) (rw x.first.good.1 at q)

  pub best-unique : (c ≡ b) × (ls ≡ ms)
  best-unique = (best-cost, first-unique ls ms x.first (rw best-cost y.first))

-- What comes, said another way.
pub best-map :
    {Comes Comes' : List ℕ → ℕ → Type 0} (c : Cost) (ls : List ℕ) → ((ms : List ℕ) (b : ℕ) → Comes ms b → Comes' ms b)
    → ((ms : List ℕ) (b : ℕ) → Comes' ms b → Comes ms b) → Best Comes c ls → Best Comes' c ls
best-map c ls to from x = record {
  least = λ ms b h. x.least ms b (from ms b h);
  first = record {
    good = (to ls c.charge x.first.good.0, x.first.good.1);
    first = λ ms h. x.first.first ms (from ms c.charge h.0, h.1);
  };
}

-- A list of fewer than n labels that comes at no more than the cost c.
pub record Shortened (Comes : List ℕ → ℕ → Type 0) (n : ℕ) (c : Cost) : Type 0 where
  pub labels : List ℕ
  pub charge : ℕ
  pub comes : Comes labels charge
  pub few : length labels < n
  pub within : cost charge (length labels) ≼ c

-- Those of fewer than n labels.
abbrev pub Few : ℕ → (List ℕ → ℕ → Type 0) → List ℕ → ℕ → Type 0
Few n Comes ls charge = Comes ls charge × (length ls < n)

-- The best of the lists of fewer than n labels is the best of all, if each list can be shortened to one of them.
pub best-short :
    (Comes : List ℕ → ℕ → Type 0) (n : ℕ)
    → ((ls : List ℕ) (charge : ℕ) → Comes ls charge → Shortened Comes n (cost charge (length ls)))
    → (c : Cost) (labels : List ℕ) → Best (Few n Comes) c labels → Best Comes c labels
best-short Comes n short c labels x = record {
  least = λ ls charge h.
      let s = short ls charge h in
      cost-trans c (cost s.charge (length s.labels)) (cost charge (length ls)) (x.least s.labels s.charge (s.comes, s.few))
      s.within;
  first = record {
    good = (x.first.good.0.0, x.first.good.1);
    first = λ ls h. x.first.first ls ((h.0, omega (arith, x.first.good.0.1, x.first.good.1, h.1)), h.1);
  };
}
