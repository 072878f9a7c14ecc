-- Comparisons of numbers: their tests, and two pairs of numbers that compare alike.
-- Assumes nothing.
use Rattle.std.specs.Prelude.{◌≡◌, refl, Bool, true, false, ◌&&◌, ◌↔◌, ℕ, ◌<◌}
use Rattle.std.proofs.Common.{sym, true≢false, arith, ltb-true, lt-ltb, leb-true, le-leb, eqb-true, eq-eqb}
use Rattle.std.proofs.Math.Decide.{dec_lt}
use Rattle.semantics.specs.Condition.{Comparison, less, at_most, equal, at_least, greater, Compares, compares, Condition, Holds, holds}

-- The test of a comparison says what it is to say.
compares-true : (k : Comparison) (a b : ℕ) → (compares k a b ≡ true) ↔ Compares k a b
compares-true less a b = (ltb-true a b, lt-ltb a b)
compares-true at_most a b = (leb-true a b, le-leb a b)
compares-true equal a b = (eqb-true a b, eq-eqb a b)
compares-true at_least a b = (leb-true b a, le-leb b a)
compares-true greater a b = (ltb-true b a, lt-ltb b a)

pub holds-true : (q : ℕ) (c : Condition) (v : ℕ) → (holds q c v ≡ true) ↔ Holds q c v
holds-true q c v = compares-true c.comparison v _

-- a is to b as a' is to b'.
pub data Alike (a b a' b' : ℕ) : Type 0 where
  below : a < b → a' < b' → Alike a b a' b'
  even : a ≡ b → a' ≡ b' → Alike a b a' b'
  above : b < a → b' < a' → Alike a b a' b'

pub alike-sym : {a b a' b' : ℕ} → Alike a b a' b' → Alike a' b' a b
alike-sym (below p q) = below q p
alike-sym (even p q) = even q p
alike-sym (above p q) = above q p

pub alike-compares : (k : Comparison) {a b a' b' : ℕ} → Alike a b a' b' → Compares k a b → Compares k a' b'
alike-compares less (below p q) h = q
alike-compares less (even p q) h = absurd (omega arith)
alike-compares less (above p q) h = absurd (omega arith)
alike-compares at_most (below p q) h = omega arith
alike-compares at_most (even p q) h = omega arith
alike-compares at_most (above p q) h = absurd (omega arith)
alike-compares equal (below p q) h = absurd (omega arith)
alike-compares equal (even p q) h = q
alike-compares equal (above p q) h = absurd (omega arith)
alike-compares at_least (below p q) h = absurd (omega arith)
alike-compares at_least (even p q) h = omega arith
alike-compares at_least (above p q) h = omega arith
alike-compares greater (below p q) h = absurd (omega arith)
alike-compares greater (even p q) h = absurd (omega arith)
alike-compares greater (above p q) h = q

-- The order of two numbers.
pub data Order (a b : ℕ) : Type 0 where
  below : a < b → Order a b
  even : a ≡ b → Order a b
  above : b < a → Order a b

pub order : (a b : ℕ) → Order a b
order a b = go (dec_lt a b) (dec_lt b a)
  where
    go : Dec (a < b) → Dec (b < a) → Order a b
    go (yes h) d = below h
    go (no h) (yes l) = above l
    go (no h) (no l) = even (omega arith)

-- Two tests hold together.
pub and-true-iff : (a b : Bool) → ((a && b) ≡ true) ↔ ((a ≡ true) × (b ≡ true))
and-true-iff true b = (λ e. (refl, e), λ p. p.1)
and-true-iff false b = (λ e. absurd (true≢false (sym e)), λ p. absurd (true≢false (sym p.0)))
