-- Conditions and ceilings, at values and in the region of which the values are a point: a region passes a test exactly if any one of its
-- points satisfies it (Regions.Meets). Conditions and ceilings are convex: what holds at two values holds between them. The proof of the
-- bounds goes by `Admits` and `Stays`. Ceilings are named apart only here, where a delay is taken apart (Bounds.Steps, Bounds.Shapes), for a
-- move, which does not test them (Bounds.Moved), and for the nodes (Bounds.Nodes).
-- Assumes nothing.
use Rattle.std.specs.Prelude.{◌≡◌, refl, true, ◌↔◌, ℕ, zero, suc, ◌*◌, ◌<◌, ◌≤◌, length, get_or}
use Rattle.std.proofs.Common.{sym, subst, ⊎_elim, mul_assoc, mul-pos, arith}
use mathlib.Core.List.Memᴰ
use mathlib.Core.List.{List, [], ◌∷◌, Memᴰ}
use Rattle.semantics.specs.Condition.{Comparison, less, at_most, equal, at_least, greater, Compares, Condition, Holds, holds, hold_at_zero}
use Rattle.semantics.specs.Automata.Proper.{OnTimers, Proper}
use Rattle.semantics.specs.Automaton.{Mode, Move, Automaton, timers, mode_at, move_at}
use Rattle.semantics.specs.Region.{PricedRegion, WellFormed, meets_all, within}
use Rattle.semantics.specs.Run.{AllHold, BelowCeilings, Stays}
use Rattle.semantics.specs.Regions.Compare.{Alike, below, even, alike-compares, holds-true, and-true-iff}
use Rattle.semantics.proofs.Regions.Meets.{meets_all-point, within-point}
use Rattle.semantics.proofs.Bounds.Inside.{Inside, inside-point}

-- "the new region meets the mode's conditions and every ceiling".
pub record Admits (a : Automaton) (l : ℕ) (r : PricedRegion) : Type 0 where
  pub conditions : meets_all (mode_at a l).conditions r ≡ true
  pub ceilings : within a.ceilings r ≡ true

-- What holds of every member and of what is read past the end holds of whatever is read.
get_or-each : {A : Type 0} (P : A → Type 0) (l : List A) (d : A) → ((m : A) → Memᴰ m l → P m) → P d → (i : ℕ) → P (get_or l i d)
get_or-each P [] d h e i = e
get_or-each P (m ∷ l) d h e zero = h m (Memᴰ.head refl)
get_or-each P (m ∷ l) d h e (suc i) = get_or-each P l d (λ n k. h n (Memᴰ.tail k)) e i

module _ (a : Automaton) (ok : Proper a) where
  -- What a proper automaton names is on its timers.
  mode-on : (l : ℕ) → OnTimers (timers a) (mode_at a l).conditions
  mode-on l =
      get_or-each (λ (m : Mode). OnTimers (timers a) m.conditions) a.modes _ ok.invariants-on (λ c m. absurd (Memᴰ.not-nil m)) l

  move-on : (e : ℕ) → OnTimers (timers a) (move_at a e).conditions
  move-on e =
      get_or-each (λ (m : Move). OnTimers (timers a) m.conditions) a.moves _ ok.guards-on (λ c m. absurd (Memᴰ.not-nil m)) e

  pub resets-in : (e x : ℕ) → Memᴰ x (move_at a e).resets → x < timers a
  resets-in e =
      get_or-each (λ (m : Move). (x : ℕ) → Memᴰ x m.resets → x < timers a) a.moves _ ok.resets-on
      (λ x m. absurd (Memᴰ.not-nil m)) e

  -- The tests of a region say what holds at a point of it.
  module _ (r : PricedRegion) (w : WellFormed r) (sized : length r.whole ≡ timers a) (q : ℕ) (v f : ℕ → ℕ) (p : Inside q v f r) where
    pub guard-at : (e : ℕ) → (meets_all (move_at a e).conditions r ≡ true) ↔ AllHold q (move_at a e).conditions v
    guard-at e = meets_all-point r q v (inside-point r w q v f p) (move_at a e).conditions (λ c m. rw sized (move-on e c m))

    pub ceilings-at : (within a.ceilings r ≡ true) ↔ BelowCeilings q a.ceilings v
    ceilings-at = within-point r q v (inside-point r w q v f p) a.ceilings (omega arith)

    pub stays_at : (l : ℕ) → Admits a l r ↔ Stays a q l v
    stays_at l =
        let c = meets_all-point r q v (inside-point r w q v f p) (mode_at a l).conditions (λ c m. rw sized (mode-on l c m)) in (
          λ t. (c.0 t.conditions, ceilings-at.0 t.ceilings),
          λ s. record { conditions = c.1 s.0; ceilings = ceilings-at.1 s.1 },
        )

-- A comparison that holds at two numbers holds between them.
compares-between : (k : Comparison) (x y z b : ℕ) → x ≤ y → y ≤ z → Compares k x b → Compares k z b → Compares k y b
compares-between less x y z b h l c d = omega arith
compares-between at_most x y z b h l c d = omega arith
compares-between equal x y z b h l c d = omega arith
compares-between at_least x y z b h l c d = omega arith
compares-between greater x y z b h l c d = omega arith

-- A comparison of two numbers is one of their doubles.
compares-double : (k : Comparison) (x y b c : ℕ) → y ≡ 2 * x → c ≡ 2 * b → Compares k x b → Compares k y c
compares-double less x y b c e g h = omega arith
compares-double at_most x y b c e g h = omega arith
compares-double equal x y b c e g h = omega arith
compares-double at_least x y b c e g h = omega arith
compares-double greater x y b c e g h = omega arith

-- The same values in parts half as long.
pub holds-double : (q : ℕ) (cs : List Condition) (v v' : ℕ → ℕ) → ((x : ℕ) → v' x ≡ 2 * v x) → AllHold q cs v → AllHold (2 * q) cs v'
holds-double q cs v v' e h c m =
    compares-double c.comparison (v c.timer) (v' c.timer) (q * c.value) _ (e c.timer) (mul_assoc 2 q c.value) (h c m)

module _ (a : Automaton) (q l : ℕ) where
  pub stays-double : (v v' : ℕ → ℕ) → ((x : ℕ) → v' x ≡ 2 * v x) → Stays a q l v → Stays a (2 * q) l v'
  stays-double v v' e s = (holds-double q (mode_at a l).conditions v v' e s.0, λ x b. omega (arith, e x, s.1 x b))

  -- Convexity.
  pub stays-between :
      (v u v' : ℕ → ℕ) → ((x : ℕ) → v x ≤ u x) → ((x : ℕ) → u x ≤ v' x) → Stays a q l v → Stays a q l v' → Stays a q l u
  stays-between v u v' h h' s s' = (
    λ c m.
        let x = c.timer in
        compares-between c.comparison (v x) (u x) (v' x) (q * c.value) (h x) (h' x) (s.0 c m) (s'.0 c m),
    λ x b. omega (arith, h' x, s'.1 x b),
  )

-- What the test at zero says, for any denominator.
zero-alike : (q b : ℕ) → 0 < q → Alike 0 (1 * b) 0 (q * b)
zero-alike q zero h = even refl (omega arith)
zero-alike q (suc b) h = below (omega arith) (mul-pos h (omega arith))

zero-holds : (q : ℕ) → 0 < q → (cs : List Condition) → hold_at_zero cs ≡ true → AllHold q cs (λ x. 0)
zero-holds q h [] e c m = absurd (Memᴰ.not-nil m)
zero-holds q h (d ∷ cs) e c m =
    let b = (and-true-iff (holds 1 d 0) (hold_at_zero cs)).0 e in
    let one : Holds q d 0 = alike-compares d.comparison (zero-alike q d.value h) ((holds-true 1 d 0).0 b.0) in
    ⊎_elim (λ i. subst (λ (d : Condition). Holds q d 0) (sym i) one) (zero-holds q h cs b.1 c) (Memᴰ.cases_cons m)

-- The start is allowed.
pub start-stays : (a : Automaton) → Proper a → (q : ℕ) → 0 < q → Stays a q 0 (λ x. 0)
start-stays a ok q h = (zero-holds q h (mode_at a 0).conditions ok.start-holds, λ x l. omega arith)
