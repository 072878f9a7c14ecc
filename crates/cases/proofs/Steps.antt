-- What each operation keeps for the next one, and each step of a chain.
-- Assumes nothing.
use mathlib.Core.Path.{◌≡◌, refl, sym, ap, subst, subst₂, ◌∙◌}
use mathlib.Core.Bool.{true}
use mathlib.Core.List.{List, [], ◌∷◌}
use Prim.Native.Nat.{ℕ, zero, suc, ◌+◌, ◌*◌, ◌<◌, ◌≤◌}
use native.Mathlib.Decide.{dec_lt}
use native.Mathlib.Omega.{arith}
use lib.ListN.{length, get_or, take, replicate, get_or-eq_default}
use lib.Seq.{length-take-le}
use Rattle.semantics.specs.Region.{PricedRegion, within}
use Rattle.semantics.proofs.Nodes.Regions.{within-whole}
use Rattle.table.specs.Held.{automaton_of, IsTable}
use Rattle.table.specs.Theorems.Holding.{length-pad}
use Rattle.table.specs.Theorems.Access.{counts, mode-count, timer-count, move-count}
use Rattle.regions.specs.declared.Region.{Region}
use Rattle.regions.specs.Held.{most_timers, pad, view, Valid, PriceRoom, HalfRoom}
use Rattle.regions.specs.Nodes.{most_modes, CeilingsFew, Padded}
use Rattle.regions.specs.Laws.Fields.{holds, timers-is}
use Rattle.regions.specs.Laws.Chain.{Gives}
use Rattle.regions.specs.Laws.Room.{less-room}
use Rattle.regions.specs.Laws.Nodes.{table-padded, table-few}
use Rattle.cases.specs.Kept.{most_amount, Kept, OnChain}

-- Operations. The struct t holds the region r, whose prices are at most those of s and the amount.
module _ (s t : Region) where
  pub kept :
      {r : PricedRegion} (amount : ℕ) → amount ≤ most_amount → Gives s.timers t r
      → ((more : ℕ) → PriceRoom (amount + more) (view s) → PriceRoom more r) → Kept s t
  kept amount few g room = record {
    valid = g.valid;
    timers = g.timers;
    room = λ more h. subst (PriceRoom more) (sym g.seen) (room more (less-room (view s) (amount + more) (most_amount + more) (omega arith) h));
  }

  -- No price rises.
  pub kept_free : {r : PricedRegion} → Gives s.timers t r → ((more : ℕ) → PriceRoom more (view s) → PriceRoom more r) → Kept s t
  kept_free g room = kept 0 (omega arith) g (λ more h. room more (less-room (view s) more (0 + more) (omega arith) h))

-- Nothing changes.
pub kept_same : (s : Region) → Valid s → Kept s s
kept_same s v = record { valid = v; timers = refl; room = λ more. less-room (view s) more (most_amount + more) (omega arith) }

-- One ceiling for every timer: there are as many as timers, and none is higher.
pub ceilings-many : (s : Region) → Valid s → (ceiling : ℕ) → length (take s.timers (replicate most_timers ceiling)) ≡ length (view s).whole
ceilings-many s v ceiling = length-take-le s.timers (replicate most_timers ceiling) v.few ∙ timers-is s (view s) (holds s v)

pub ceilings-below : (m ceiling : ℕ) → ceiling < m → (n k i : ℕ) → get_or (take n (replicate k ceiling)) i 0 < m
ceilings-below m ceiling h zero k i = omega arith
ceilings-below m ceiling h (suc n) zero i = omega arith
ceilings-below m ceiling h (suc n) (suc k) zero = h
ceilings-below m ceiling h (suc n) (suc k) (suc i) = ceilings-below m ceiling h n k i

-- Within the table's ceilings every place in half minutes is below 255.
take_below : (m n : ℕ) (l : List ℕ) → ((i : ℕ) → get_or l i 0 < m) → (i : ℕ) → get_or (take n l) i 0 < m
take_below m zero l h i = omega (arith, h 0)
take_below m (suc n) [] h i = h i
take_below m (suc n) (x ∷ l) h zero = h 0
take_below m (suc n) (x ∷ l) h (suc i) = take_below m n l (λ j. h (suc j)) i

pub half_room :
    (t : List ℕ) → IsTable t → (s : Region) → Valid s → (ceilings : List ℕ) → ceilings ≡ pad most_timers (automaton_of t).ceilings
    → within (take s.timers ceilings) (view s) ≡ true → HalfRoom (view s)
half_room t h s v ceilings e inside i = go (dec_lt i (length few))
  where
    few : List ℕ
    few = take s.timers ceilings

    many : length few ≡ length (view s).whole
    many =
        length-take-le s.timers ceilings
        (omega (arith, v.few, ap length e, length-pad most_timers (automaton_of t).ceilings (omega (arith, counts t h, timer-count t h))))
        ∙ timers-is s (view s) (holds s v)

    go : Dec (i < length few) → get_or (view s).whole i 0 < 127
    go (yes b) =
        omega (
          arith,
          within-whole (view s) v.well_formed few (omega (arith, many)) inside i b,
          take_below 16 s.timers ceilings (λ j. omega (arith, subst CeilingsFew (sym e) (table-few t h) j)) i,
        )
    go (no b) = omega (arith, many, get_or-eq_default (view s).whole 0 {n = i} (omega (arith, many)))

-- A mode and a move of a table have their records.
pub mode-few : (t : List ℕ) → IsTable t → (m : ℕ) → m < length (automaton_of t).modes → m < 16
mode-few t h m b = omega (arith, counts t h, mode-count t h)

pub move-few : (t : List ℕ) → IsTable t → (e : ℕ) → e < length (automaton_of t).moves → e < 64
move-few t h e b = omega (arith, counts t h, move-count t h)

-- Steps. One operation and a mode, or two.
module _ {t : List ℕ} {m : ℕ} {s : Region} where
  pub fewer-steps : {n k : ℕ} → k ≤ n → OnChain t n m s → OnChain t k m s
  fewer-steps {n} {k} few o = record {
    is-table = o.is-table;
    there = o.there;
    valid = o.valid;
    timers = o.timers;
    room = less-room (view s) (2 * most_amount * k) (2 * most_amount * n) (omega arith) o.room;
  }

  pub one-operation : {n : ℕ} {s' : Region} → OnChain t (n + 1) m s → Kept s s' → OnChain t n m s'
  one-operation {n} {s'} o k = record {
    is-table = o.is-table;
    there = o.there;
    valid = k.valid;
    timers = k.timers ∙ o.timers;
    room =
        k.room (2 * most_amount * n)
        (less-room (view s) (most_amount + 2 * most_amount * n) (2 * most_amount * (n + 1)) (omega arith) o.room);
  }

  pub two-operations :
      {n : ℕ} {s' s'' : Region} {m' : ℕ} → OnChain t (n + 1) m s → Kept s s' → Kept s' s'' → m' < length (automaton_of t).modes
      → OnChain t n m' s''
  two-operations {n} {s'} {s''} o k k' b = record {
    is-table = o.is-table;
    there = b;
    valid = k'.valid;
    timers = k'.timers ∙ k.timers ∙ o.timers;
    room =
        k'.room (2 * most_amount * n)
        (k.room (most_amount + 2 * most_amount * n)
        (less-room (view s) (most_amount + (most_amount + 2 * most_amount * n)) (2 * most_amount * (n + 1)) (omega arith) o.room));
  }

  -- The node of the place's first corner has a number.
  pub node-ready :
      {n : ℕ} → OnChain t n m s → (ceilings : List ℕ) → ceilings ≡ pad most_timers (automaton_of t).ceilings
      → Valid s × (0 ≤ s.top) × (m < most_modes) × CeilingsFew ceilings × Padded s.timers ceilings
  node-ready o ceilings e =
      let h = o.is-table in (
        o.valid,
        omega arith,
        mode-few t h m o.there,
        subst CeilingsFew (sym e) (table-few t h),
        subst₂ (λ (n : ℕ) (l : List ℕ). Padded n l) (sym o.timers) (sym e) (table-padded t h),
      )

  -- Behind an operation another can be made.
  pub second-ready : {s' : Region} → OnChain t 1 m s → Kept s s' → Valid s' × PriceRoom most_amount (view s')
  second-ready o k =
      (k.valid, k.room most_amount (less-room (view s) (most_amount + most_amount) (2 * most_amount * 1) (omega arith) o.room))
