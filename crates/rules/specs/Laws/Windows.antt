-- A region meets the conditions of a mode and the ceilings just if its timers are in the windows of the mode's row; and the conditions of a move, and
-- after it its target's, just if they are in the windows of the move's row.
-- Assumes nothing.
use Rattle.std.specs.Prelude.{◌≡◌, refl, Bool, true, false, cond, ◌&&◌, ◌↔◌, ◌≢◌, ℕ, zero, suc, ◌+◌, ◌≤◌, ◌<◌, leb, ltb, length, get_or}
use Rattle.std.proofs.Common.{sym, ◌∙◌, true≢false, add-zero, arith, ltb-true, lt-ltb, leb-true, le-leb}
use mathlib.Core.List.{List, [], ◌∷◌, Memᴰ}
use Rattle.std.proofs.Math.Decide.{ℕ_discrete, dec_lt}
use Rattle.std.proofs.Math.Nat.{zero-add}
use Rattle.semantics.specs.Condition.{Condition, at_most}
use Rattle.semantics.specs.Region.{PricedRegion, meets, meets_all, within_from, within}
use Rattle.semantics.specs.Automaton.{timers, mode_at, move_at}
use Rattle.semantics.specs.Run.{among}
use Rattle.semantics.specs.Automata.Proper.{OnTimers}
use Rattle.semantics.specs.Corners.Lists.{mem-get_or}
use Rattle.semantics.specs.Regions.Compare.{and-true-iff}
use Rattle.semantics.specs.Regions.Windows.{half, free, lowest, above, InWindows, AreWindows, windows-none}
use Rattle.semantics.proofs.Regions.Windows.{meets-window}
use Rattle.table.specs.Held.{automaton_of, IsTable}
use Rattle.table.specs.Theorems.Access.{table-proper, target_below, timer-count, counts}
use Rattle.conditions.specs.Windows.{low_of, high_of, joined_low, joined_high}
use Rattle.conditions.specs.Narrow.{low-own, high-own, low-other, high-other}
use Rattle.rules.specs.Rules.{low_at, high_at, InRow, target_conditions, IsRules}

-- A place in the window of one condition more, and of those before it.
module _ (c : Condition) (cs : List Condition) (x : ℕ) where
  -- A place is in the narrower window if it is in the wider one and in that of the condition.
  narrower :
      (h : ℕ) → (low_of cs x ≤ h) × (h < high_of cs x)
      → (c.timer ≡ x → (lowest c.comparison c.value ≤ h) × (h < above c.comparison c.value))
      → (low_of (c ∷ cs) x ≤ h) × (h < high_of (c ∷ cs) x)
  narrower h wide own = at (ℕ_discrete c.timer x)
    where
      at : Dec (c.timer ≡ x) → (low_of (c ∷ cs) x ≤ h) × (h < high_of (c ∷ cs) x)
      at (yes e) = (omega (arith, low-own c cs x e, (own e).0, wide.0), omega (arith, high-own c cs x e, (own e).1, wide.1))
      at (no n) = (omega (arith, low-other c cs x n, wide.0), omega (arith, high-other c cs x n, wide.1))

  wider : (h : ℕ) → (low_of (c ∷ cs) x ≤ h) × (h < high_of (c ∷ cs) x) → (low_of cs x ≤ h) × (h < high_of cs x)
  wider h narrow = at (ℕ_discrete c.timer x)
    where
      at : Dec (c.timer ≡ x) → (low_of cs x ≤ h) × (h < high_of cs x)
      at (yes e) = (omega (arith, low-own c cs x e, narrow.0), omega (arith, high-own c cs x e, narrow.1))
      at (no n) = (omega (arith, low-other c cs x n, narrow.0), omega (arith, high-other c cs x n, narrow.1))

own-window :
    (c : Condition) (cs : List Condition) (h : ℕ) → (low_of (c ∷ cs) c.timer ≤ h) × (h < high_of (c ∷ cs) c.timer)
    → (lowest c.comparison c.value ≤ h) × (h < above c.comparison c.value)
own-window c cs h narrow = (omega (arith, low-own c cs c.timer refl, narrow.0), omega (arith, high-own c cs c.timer refl, narrow.1))

-- The windows of conditions are those in which they hold.
module _ (c : Condition) (cs : List Condition) (r : PricedRegion) (f : (x : ℕ) → half r x < free)
    (others : (meets_all cs r ≡ true) ↔ InWindows (low_of cs) (high_of cs) r) where
  into : (meets c r ≡ true) × (meets_all cs r ≡ true) → InWindows (low_of (c ∷ cs)) (high_of (c ∷ cs)) r
  into met x =
      narrower c cs x (half r x) (others.0 met.1 x)
      (λ e. rw e at ((meets-window c r (f c.timer)).0 met.0))

  out : InWindows (low_of (c ∷ cs)) (high_of (c ∷ cs)) r → (meets c r ≡ true) × (meets_all cs r ≡ true)
  out i = (
    (meets-window c r (f c.timer)).1 (own-window c cs (half r c.timer) (i c.timer)),
    others.1 (λ x. wider c cs x (half r x) (i x)),
  )

  more : (meets_all (c ∷ cs) r ≡ true) ↔ InWindows (low_of (c ∷ cs)) (high_of (c ∷ cs)) r
  more = let both = and-true-iff (meets c r) (meets_all cs r) in (λ t. into (both.0 t), λ i. both.1 (out i))

pub windows-of : (cs : List Condition) → AreWindows (low_of cs) (high_of cs) cs
windows-of [] r f = windows-none r f
windows-of (c ∷ cs) r f = more c cs r f (windows-of cs r f)

-- A timer that no condition speaks of is free.
pub unspoken : (n : ℕ) (cs : List Condition) → OnTimers n cs → (x : ℕ) → n ≤ x → (low_of cs x ≡ 0) × (high_of cs x ≡ free)
unspoken n [] on x l = (refl, refl)
unspoken n (c ∷ cs) on x l =
    let there : c.timer < n = on c (Memᴰ.head refl) in
    let other : c.timer ≢ x = λ e. omega arith in
    let rest = unspoken n cs (λ d m. on d (Memᴰ.tail m)) x l in
    (rw (low-other c cs x other) rest.0, rw (high-other c cs x other) rest.1)

-- Conditions that speak of three timers hold where these are in their windows.
three-windows :
    (cs : List Condition) → OnTimers 3 cs → (r : PricedRegion) → ((x : ℕ) → half r x < free)
    → ((x : ℕ) → x < 3 → (low_of cs x ≤ half r x) × (half r x < high_of cs x)) ↔ (meets_all cs r ≡ true)
three-windows cs on r f = (λ i. (windows-of cs r f).1 (λ x. all i x (dec_lt x 3)), λ t x l. (windows-of cs r f).0 t x)
  where
    all :
        ((x : ℕ) → x < 3 → (low_of cs x ≤ half r x) × (half r x < high_of cs x)) → (x : ℕ) → Dec (x < 3)
        → (low_of cs x ≤ half r x) × (half r x < high_of cs x)
    all i x (yes l) = i x l
    all i x (no n) =
        let none = unspoken 3 cs on x (omega arith) in
        (omega (arith, none.0), omega (arith, none.1, f x))

-- A region is within ceilings just if each timer stands below the first place above its own.
module _ (r : PricedRegion) (f : (x : ℕ) → half r x < free) where
  -- The ceilings of the timers from x on.
  from-below : (x : ℕ) (cs : List ℕ) → (within_from x cs r ≡ true) ↔ ((i : ℕ) → i < length cs → half r (x + i) < above at_most (get_or cs i 0))
  from-below x [] = (λ t i l. absurd (omega arith), λ all. refl)
  from-below x (c ∷ cs) =
      let own : Condition = record { timer = x; comparison = at_most; value = c } in
      let both = and-true-iff (meets own r) (within_from (suc x) cs r) in
      let one = meets-window own r (f x) in
      let rest = from-below (suc x) cs in (
        λ t. each (one.0 (both.0 t).0).1 (rest.0 (both.0 t).1),
        λ all.
            let others : (j : ℕ) → j < length cs → half r (suc x + j) < above at_most (get_or cs j 0) = λ j l. rw (next j) (all (suc j) (omega arith)) in
            both.1 (one.1 (omega arith, rw add-zero at (all 0 (omega arith))), rest.1 others),
      )
    where
      next : (j : ℕ) → suc x + j ≡ x + suc j
      next j = omega arith

      each :
          half r x < above at_most c → ((j : ℕ) → j < length cs → half r (suc x + j) < above at_most (get_or cs j 0)) → (j : ℕ) → j < suc (length cs)
          → half r (x + j) < above at_most (get_or (c ∷ cs) j 0)
      each own others zero l = rw add-zero own
      each own others (suc j) l = rw (← next j) (others j (omega arith))

  within-below : (cs : List ℕ) → (within cs r ≡ true) ↔ ((x : ℕ) → x < length cs → half r x < above at_most (get_or cs x 0))
  unfolding within
  within-below cs =
      let all = from-below 0 cs in
      (λ t x l. rw zero-add at (all.0 t x l), λ each. all.1 (λ x l. rw zero-add (each x l)))

-- A place is in a window just if the tests of both ends say so.
pub in_window : (low h high : ℕ) → ((leb low h && ltb h high) ≡ true) ↔ ((low ≤ h) × (h < high))
in_window low h high =
    let both = and-true-iff (leb low h) (ltb h high) in
    (λ t. (leb-true low h (both.0 t).0, ltb-true h high (both.0 t).1), λ w. both.1 (le-leb low h w.0, lt-ltb h high w.1))

-- A place is in a joined window just if it is in the move's own, and where the timer stands after the move is in the target's.
joined-window :
    (reset : Bool) (low high low' high' h : ℕ)
    → ((joined_low reset low low' ≤ h) × (h < joined_high reset high low' high'))
    ↔ (((low ≤ h) × (h < high)) × ((low' ≤ cond reset 0 h) × (cond reset 0 h < high')))
joined-window false low high low' high' h = (λ w. ((omega arith, omega arith), (omega arith, omega arith)), λ w. (omega arith, omega arith))
joined-window true low high low' high' h = at (leb low' 0 && ltb 0 high') refl
  where
    at :
        (zero : Bool) → (leb low' 0 && ltb 0 high') ≡ zero
        → ((low ≤ h) × (h < cond zero high 0)) ↔ (((low ≤ h) × (h < high)) × ((low' ≤ 0) × (0 < high')))
    at true e = (λ w. (w, (in_window low' 0 high').0 e), λ w. w.0)
    at false e = (λ w. absurd (omega arith), λ w. absurd (true≢false (sym ((in_window low' 0 high').1 w.1) ∙ e)))

module _ (t rs : List ℕ) (table : IsTable t) (rules : IsRules t rs) where
  on-three : (cs : List Condition) → OnTimers (timers (automaton_of t)) cs → OnTimers 3 cs
  on-three cs on c m = omega (arith, on c m, timer-count t table, counts t table)

  -- A timer that is not there stands at 0.
  module _ (m : ℕ) (there : m < length (automaton_of t).modes) (r : PricedRegion) (f : (x : ℕ) → half r x < free)
      (spare : (x : ℕ) → timers (automaton_of t) ≤ x → half r x ≡ 0) where
    abbrev conditions : List Condition
    conditions = (mode_at (automaton_of t) m).conditions

    abbrev ceilings : List ℕ
    ceilings = (automaton_of t).ceilings

    met : ((x : ℕ) → x < 3 → (low_of conditions x ≤ half r x) × (half r x < high_of conditions x)) ↔ (meets_all conditions r ≡ true)
    met = three-windows conditions (on-three _ ((table-proper t table).invariants-on _ (mem-get_or (automaton_of t).modes m _ there))) r f

    below-cap : within ceilings r ≡ true → (x : ℕ) → half r x < above at_most (get_or ceilings x 0)
    below-cap inside x = at (dec_lt x (length ceilings))
      where
        at : Dec (x < length ceilings) → half r x < above at_most (get_or ceilings x 0)
        at (yes l) = (within-below r f ceilings).0 inside x l
        at (no n) = omega (arith, spare x (omega arith))

    -- "[..] if the new region meets the mode's conditions and every ceiling".
    pub mode-window :
        (hs : List ℕ) → ((x : ℕ) → x < 3 → get_or hs x 0 ≡ half r x)
        → InRow rs m hs ↔ ((meets_all (mode_at (automaton_of t) m).conditions r ≡ true) × (within (automaton_of t).ceilings r ≡ true))
    mode-window hs stand =
        let row = rules.invariants m there in (
          λ i. (
            met.0 (λ x l. (omega (arith, row.low x l, (i x l).0, stand x l), omega (arith, row.high x l, (i x l).1, stand x l))),
            (within-below r f ceilings).1
                (λ x l.
                let few : x < 3 = omega (arith, timer-count t table, counts t table) in
                omega (arith, row.high x few, (i x few).1, stand x few)),
          ),
          λ both x l.
              let w = met.1 both.0 x l in
              (omega (arith, row.low x l, w.0, stand x l), omega (arith, row.high x l, w.1, below-cap both.1 x, stand x l)),
        )

  -- The region r is where the move is made, and r' what its resets leave of it.
  module _ (e : ℕ) (there : e < length (automaton_of t).moves) (r r' : PricedRegion) (f : (x : ℕ) → half r x < free)
      (f' : (x : ℕ) → half r' x < free) (after : (x : ℕ) → x < 3 → half r' x ≡ cond (among x (move_at (automaton_of t) e).resets) 0 (half r x)) where
    abbrev xs : List ℕ
    xs = (move_at (automaton_of t) e).resets

    abbrev cs : List Condition
    cs = (move_at (automaton_of t) e).conditions

    abbrev ds : List Condition
    ds = target_conditions (automaton_of t) e

    own : ((x : ℕ) → x < 3 → (low_of cs x ≤ half r x) × (half r x < high_of cs x)) ↔ (meets_all cs r ≡ true)
    own = three-windows cs (on-three cs ((table-proper t table).guards-on _ (mem-get_or (automaton_of t).moves e _ there))) r f

    target : ((x : ℕ) → x < 3 → (low_of ds x ≤ half r' x) × (half r' x < high_of ds x)) ↔ (meets_all ds r' ≡ true)
    target =
        three-windows ds
        (on-three ds
        ((table-proper t table).invariants-on _ (mem-get_or (automaton_of t).modes (move_at (automaton_of t) e).target _ (target_below t table e there))))
        r' f'

    both :
        (x : ℕ) → x < 3 → (h : ℕ) → h ≡ half r x
        → ((low_at rs (16 + e) x ≤ h) × (h < high_at rs (16 + e) x))
        ↔ (((low_of cs x ≤ half r x) × (half r x < high_of cs x)) × ((low_of ds x ≤ half r' x) × (half r' x < high_of ds x)))
    both x l h is =
        let row = rules.guards e there in
        rw (row.low x l, row.high x l, is, after x l) (joined-window (among x xs) (low_of cs x) (high_of cs x) (low_of ds x) (high_of ds x) (half r x))

    pub move-window :
        (hs : List ℕ) → ((x : ℕ) → x < 3 → get_or hs x 0 ≡ half r x)
        → InRow rs (16 + e) hs
        ↔ ((meets_all (move_at (automaton_of t) e).conditions r ≡ true) × (meets_all (target_conditions (automaton_of t) e) r' ≡ true))
    move-window hs stand = (
      λ i. (
        own.0 (λ x l. ((both x l (get_or hs x 0) (stand x l)).0 (i x l)).0),
        target.0 (λ x l. ((both x l (get_or hs x 0) (stand x l)).0 (i x l)).1),
      ),
      λ met x l. (both x l (get_or hs x 0) (stand x l)).1 (own.1 met.0 x l, target.1 met.1 x l),
    )
