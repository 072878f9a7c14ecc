-- A state stays in its mode just if its timers, in half minutes, are in the windows of the mode's row of the rules; and it allows a move just if they are
-- in those of the move's row. What the rules say of regions is said of the region of the state, whose timers are all in r0.
-- Assumes nothing.
use Rattle.std.specs.Prelude.{◌≡◌, refl, Bool, true, false, cond, ◌&&◌, ◌↔◌, List, [], ◌∷◌, ℕ, suc, ◌+◌, ◌*◌, ◌≤◌, ◌<◌, leb, length, get_or, replicate}
use Rattle.std.proofs.Common.{sym, ◌∙◌, one-mul, arith}
use Rattle.std.proofs.Math.Path.{ap, ap₂}
use mathlib.Core.List.Memᴰ
use Rattle.std.proofs.Math.Decide.{dec_lt}
use Rattle.std.proofs.lemmas.List.{get_or-replicate, length-replicate}
use Rattle.std.proofs.Math.ListN.{get_or-eq_default}
use Rattle.semantics.specs.Condition.{Comparison, less, at_most, equal, at_least, greater, Condition, compares, holds}
use Rattle.semantics.specs.Automaton.{Automaton, timers, mode_at, move_at}
use Rattle.semantics.specs.Run.{State, move, among, after, BelowCeilings, Allowed}
use Rattle.semantics.specs.Region.{PricedRegion, high, meets_at, meets, meets_all, within_from, within}
use Rattle.semantics.specs.Automata.Proper.{OnTimers}
use Rattle.semantics.specs.Corners.Lists.{mem-get_or}
use Rattle.semantics.specs.Regions.Compare.{and-true-iff}
use Rattle.semantics.specs.Regions.Windows.{half, free}
use Rattle.semantics.specs.Timetable.{all_hold, below_ceilings, stays}
use Rattle.semantics.specs.Graph.MinuteGraph.{values_of}
use Rattle.semantics.specs.Timetables.Allowed.{all_hold_lem}
use Rattle.table.specs.Held.{automaton_of, IsTable}
use Rattle.table.specs.Theorems.Access.{table-proper, target_below}
use Rattle.rules.specs.Rules.{InRow, target_conditions, IsRules}
use Rattle.rules.specs.Laws.Windows.{mode-window, move-window}
use Rattle.states.specs.States.{Shows}
use Rattle.states.specs.Laws.Shows.{values_length, values-at}

zero-cond : (b : Bool) → ◌≡◌ {A = ℕ} 0 (cond b 0 0)
zero-cond true = refl
zero-cond false = refl

-- The region of a state.
abbrev point_of : Automaton → State → PricedRegion
point_of a s = record { whole = values_of a s; group = replicate (timers a) 0; prices = 0 ∷ [] }

module _ (a : Automaton) (s : State) where
  group_at : (x : ℕ) → get_or {A = ℕ} (replicate (timers a) 0) x 0 ≡ 0
  group_at x = at (dec_lt x (timers a))
    where
      at : Dec (x < timers a) → get_or {A = ℕ} (replicate (timers a) 0) x 0 ≡ 0
      at (yes h) = get_or-replicate {A = ℕ} (timers a) x 0 0 h
      at (no n) = get_or-eq_default {A = ℕ} (replicate (timers a) 0) 0 {n = x} (omega (arith, length-replicate {A = ℕ} (timers a) 0))

  -- On a whole minute a timer meets what its value does.
  meets_at_lem : (k : Comparison) (v w : ℕ) → meets_at k v w 0 ≡ compares k w v
  meets_at_lem less v w = refl
  meets_at_lem at_most v w = refl
  meets_at_lem equal v w = refl
  meets_at_lem at_least v w = refl
  meets_at_lem greater v w = refl

  meets-holds : (c : Condition) → c.timer < timers a → meets c (point_of a s) ≡ holds 1 c (s.value c.timer)
  unfolding meets
  meets-holds c on =
      ap₂ (λ (w g : ℕ). meets_at c.comparison c.value w g) (values-at a s c.timer on) (group_at c.timer)
      ∙ meets_at_lem c.comparison c.value (s.value c.timer)
      ∙ ap (compares c.comparison (s.value c.timer)) (sym (one-mul c.value))

  meets-hold : (cs : List Condition) → OnTimers (timers a) cs → meets_all cs (point_of a s) ≡ all_hold cs s.value
  meets-hold [] on = refl
  meets-hold (c ∷ cs) on =
      ap₂ ◌&&◌ (meets-holds c (on c (Memᴰ.head refl))) (meets-hold cs (λ d m. on d (Memᴰ.tail m)))

  within-from : (x : ℕ) (cs : List ℕ) → x + length cs ≤ timers a → within_from x cs (point_of a s) ≡ below_ceilings x cs s.value
  within-from x [] h = refl
  within-from x (c ∷ cs) h =
      ap₂ ◌&&◌
      (meets-holds (record { timer = x; comparison = at_most; value = c }) (omega arith) ∙ ap (leb (s.value x)) (one-mul c))
      (within-from (suc x) cs (omega arith))

  within-below : within a.ceilings (point_of a s) ≡ below_ceilings 0 a.ceilings s.value
  unfolding within
  within-below = within-from 0 a.ceilings (omega arith)

  half-there : (x : ℕ) → x < timers a → half (point_of a s) x ≡ 2 * s.value x
  half-there x h =
      ap₂ (λ (w g : ℕ). w + high w g) (values-at a s x h) (group_at x) ∙ omega arith

  half-spare : (x : ℕ) → timers a ≤ x → half (point_of a s) x ≡ 0
  half-spare x h =
      ap₂ (λ (w g : ℕ). w + high w g)
      (get_or-eq_default (values_of a s) 0 {n = x} (omega (arith, values_length a s))) (group_at x)

  -- An array that shows the state, in half minutes, shows its region.
  module _ (values hs : List ℕ) (shown : Shows a s values) (twice : (x : ℕ) → get_or hs x 0 ≡ 2 * get_or values x 0) where
    half_at : (x : ℕ) → get_or hs x 0 ≡ half (point_of a s) x
    half_at x = at (dec_lt x (timers a))
      where
        at : Dec (x < timers a) → get_or hs x 0 ≡ half (point_of a s) x
        at (yes h) = omega (arith, twice x, shown.there x h, half-there x h)
        at (no n) = omega (arith, twice x, shown.spare x (omega arith), half-spare x (omega arith))

    half-free : ((x : ℕ) → get_or values x 0 < 127) → (x : ℕ) → half (point_of a s) x < free
    half-free room x = omega (arith, half_at x, twice x, room x)

module _ (t rs : List ℕ) (table : IsTable t) (rules : IsRules t rs) (s : State) (values hs : List ℕ)
    (shown : Shows (automaton_of t) s values) (twice : (x : ℕ) → get_or hs x 0 ≡ 2 * get_or values x 0) (room : (x : ℕ) → get_or values x 0 < 127) where
  abbrev a : Automaton
  a = automaton_of t

  -- A mode may be stayed in.
  pub mode-row : (m : ℕ) → m < length (automaton_of t).modes → InRow rs m hs ↔ (stays (automaton_of t) m s.value ≡ true)
  mode-row m there =
      let w = mode-window t rs table rules m there (point_of a s) (half-free a s values hs shown twice room) (half-spare a s) hs
      (λ x h. half_at a s values hs shown twice x) in
      let met = meets-hold a s (mode_at a m).conditions ((table-proper t table).invariants-on _ (mem-get_or a.modes m _ there)) in
      let both = and-true-iff (all_hold (mode_at a m).conditions s.value) (below_ceilings 0 a.ceilings s.value) in (
        λ i. both.1 (sym met ∙ (w.0 i).0, sym (within-below a s) ∙ (w.0 i).1),
        λ q. w.1 (met ∙ (both.0 q).0, within-below a s ∙ (both.0 q).1),
      )

  -- A move can be made from a state within its ceilings.
  module _ (e : ℕ) (there : e < length (automaton_of t).moves) where
    abbrev next : State
    next = after (automaton_of t) (move e) s

    halves-after : (x : ℕ) → x < 3 → half (point_of a (after a (move e) s)) x ≡ cond (among x (move_at a e).resets) 0 (half (point_of a s) x)
    halves-after x h = at (among x (move_at a e).resets) refl (dec_lt x (timers a))
      where
        at :
            (b : Bool) → among x (move_at a e).resets ≡ b → Dec (x < timers a)
            → half (point_of a (after a (move e) s)) x ≡ cond (among x (move_at a e).resets) 0 (half (point_of a s) x)
        at true q (yes l) = half-there a (after a (move e) s) x l ∙ rw q refl
        at false q (yes l) = half-there a (after a (move e) s) x l ∙ rw (q, half-there a s x l) refl
        at b q (no n) = half-spare a (after a (move e) s) x (omega arith) ∙ rw (half-spare a s x (omega arith)) (zero-cond (among x (move_at a e).resets))

    after_free : (x : ℕ) → half (point_of a (after a (move e) s)) x < free
    after_free x = at (among x (move_at a e).resets) refl (dec_lt x (timers a))
      where
        at : (b : Bool) → among x (move_at a e).resets ≡ b → Dec (x < timers a) → half (point_of a (after a (move e) s)) x < free
        at true q (yes l) = rw (half-there a (after a (move e) s) x l, q) (omega arith)
        at false q (yes l) =
            rw (half-there a (after a (move e) s) x l, q) (omega (arith, half-there a s x l, half-free a s values hs shown twice room x))
        at b q (no n) = omega (arith, half-spare a (after a (move e) s) x (omega arith))

    guard-row :
        InRow rs (16 + e) hs
        ↔ ((all_hold (move_at a e).conditions s.value ≡ true) × (all_hold (target_conditions a e) (after a (move e) s).value ≡ true))
    guard-row =
        let w = move-window t rs table rules e there (point_of a s) (point_of a (after a (move e) s)) (half-free a s values hs shown twice room) after_free halves-after hs
        (λ x h. half_at a s values hs shown twice x) in
        let own = meets-hold a s (move_at a e).conditions ((table-proper t table).guards-on _ (mem-get_or a.moves e _ there)) in
        let target = meets-hold a (after a (move e) s) (target_conditions a e)
        ((table-proper t table).invariants-on _ (mem-get_or a.modes (move_at a e).target _ (target_below t table e there))) in (
          λ i. (sym own ∙ (w.0 i).0, sym target ∙ (w.0 i).1),
          λ q. w.1 (own ∙ q.0, target ∙ q.1),
        )

    pub move_row :
        (move_at (automaton_of t) e).source ≡ s.mode → BelowCeilings 1 (automaton_of t).ceilings s.value
        → InRow rs (16 + e) hs ↔ Allowed (automaton_of t) 1 (move e) s
    move_row source below = (
      λ i.
          let q = guard-row.0 i in
          (there, source, (all_hold_lem (move_at a e).conditions s.value).0 q.0, ((all_hold_lem (target_conditions a e) (after a (move e) s).value).0 q.1, falls)),
      λ k. guard-row.1 ((all_hold_lem (move_at a e).conditions s.value).1 k.2, (all_hold_lem (target_conditions a e) (after a (move e) s).value).1 k.3.0),
    )
      where
        falls : BelowCeilings 1 a.ceilings (after a (move e) s).value
        falls x h = at (among x (move_at a e).resets) (below x h)
          where
            at : (b : Bool) → s.value x ≤ 1 * get_or a.ceilings x 0 → cond b 0 (s.value x) ≤ 1 * get_or a.ceilings x 0
            at true k = omega arith
            at false k = k
