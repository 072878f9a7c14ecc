-- The tests of the page Timetable say what a run in whole minutes asks: an act passes its test exactly if it is allowed, and a pair leads to a
-- state exactly if both of its acts are allowed and leave this state.
-- Assumes nothing.
use Rattle.std.specs.Prelude.{◌≡◌, refl, Bool, true, false, cond, ◌&&◌, ◌↔◌, List, [], ◌∷◌, ℕ, zero, suc, ◌+◌, ◌<◌, ◌≤◌, ltb, leb, eqb, length, get_or}
use Rattle.std.proofs.Common.{sym, subst, ⊎_elim, not-suc-le-zero, le_of_suc-le-suc, add-zero, zero-add, arith, ltb-true, lt-ltb, leb-true, le-leb, eqb-true, eq-eqb}
use mathlib.Core.List.Memᴰ
use Rattle.std.proofs.Math.Option.{none, some, some-injective, none-ne-some}
use Rattle.semantics.specs.Condition.{Condition, Holds, holds}
use Rattle.semantics.specs.Automaton.{Automaton, mode_at, move_at}
use Rattle.semantics.specs.Run.{State, Act, wait, move, after, AllHold, BelowCeilings, Stays, Allowed}
use Rattle.semantics.specs.Timetable.{Pair, all_hold, below_ceilings, stays, allowed, after_pair, pair_step}
use Rattle.semantics.specs.Regions.Compare.{holds-true, and-true-iff}

-- Every condition holds.
pub all_hold_lem : (cs : List Condition) (v : ℕ → ℕ) → (all_hold cs v ≡ true) ↔ AllHold 1 cs v
all_hold_lem [] v = (λ t c m. absurd (Memᴰ.not-nil m), λ h. refl)
all_hold_lem (c ∷ cs) v =
    let i = and-true-iff (holds 1 c (v c.timer)) (all_hold cs v) in
    let one = holds-true 1 c (v c.timer) in
    let rest = all_hold_lem cs v in (
      λ t d m.
          ⊎_elim (λ e. subst (λ (b : Condition). Holds 1 b (v b.timer)) (sym e) (one.0 (i.0 t).0))
          (rest.0 (i.0 t).1 d)
          (Memᴰ.cases_cons m),
      λ a. i.1 (one.1 (a c (Memᴰ.head refl)), rest.1 (λ d m. a d (Memᴰ.tail m))),
    )

-- The timers from x on are at or below their ceilings.
below-from : (x : ℕ) (cs : List ℕ) (v : ℕ → ℕ) → (below_ceilings x cs v ≡ true) ↔ ((j : ℕ) → j < length cs → v (x + j) ≤ get_or cs j 0)
below-from x [] v = (λ t j l. absurd (not-suc-le-zero l), λ a. refl)
below-from x (c ∷ cs) v =
    let i = and-true-iff (leb (v x) c) (below_ceilings (suc x) cs v) in
    let rest = below-from (suc x) cs v in (
      λ t. both (leb-true (v x) c (i.0 t).0) (rest.0 (i.0 t).1),
      λ a.
          let b : (j : ℕ) → j < length cs → v (suc x + j) ≤ get_or cs j 0 = λ j l. rw (next j) (a (suc j) (omega arith)) in
          i.1 (le-leb (v x) c (rw add-zero at (a 0 (omega arith))), rest.1 b),
    )
  where
    next : (j : ℕ) → suc x + j ≡ x + suc j
    next j = omega arith

    both :
        v x ≤ c → ((j : ℕ) → j < length cs → v (suc x + j) ≤ get_or cs j 0) → (j : ℕ) → j < suc (length cs)
        → v (x + j) ≤ get_or (c ∷ cs) j 0
    both h k zero l = rw add-zero h
    both h k (suc j) l = rw (← next j) (k j (le_of_suc-le-suc l))

below-ceilings : (cs : List ℕ) (v : ℕ → ℕ) → (below_ceilings 0 cs v ≡ true) ↔ BelowCeilings 1 cs v
below-ceilings cs v =
    let i = below-from 0 cs v in (
      λ t j l. let h : v j ≤ get_or cs j 0 = rw (zero-add j) at (i.0 t j l) in omega arith,
      λ b. i.1 (λ j l. rw (zero-add j) (let h = b j l in omega arith)),
    )

pub stays-true : (a : Automaton) (l : ℕ) (v : ℕ → ℕ) → (stays a l v ≡ true) ↔ Stays a 1 l v
stays-true a l v =
    let i = and-true-iff (all_hold (mode_at a l).conditions v) (below_ceilings 0 a.ceilings v) in
    let h = all_hold_lem (mode_at a l).conditions v in
    let b = below-ceilings a.ceilings v in
    (λ t. (h.0 (i.0 t).0, b.0 (i.0 t).1), λ s. i.1 (h.1 s.0, b.1 s.1))

-- An act passes its test exactly if it is allowed.
pub allowed-iff : (a : Automaton) (t : Act) (s : State) → (allowed a t s ≡ true) ↔ Allowed a 1 t s
unfolding allowed
allowed-iff a (wait d) s = stays-true a s.mode (after a (wait d) s).value
allowed-iff a (move e) s =
    let m = move_at a e in
    let there = ltb e (length a.moves) in
    let from = eqb m.source s.mode in
    let guard = all_hold m.conditions s.value in
    let v = (after a (move e) s).value in
    let i = and-true-iff (there && from && guard) (stays a m.target v) in
    let j = and-true-iff (there && from) guard in
    let k = and-true-iff there from in
    let h = all_hold_lem m.conditions s.value in
    let b = stays-true a m.target v in (
      λ t.
          let p = i.0 t in
          let q = j.0 p.0 in
          let r = k.0 q.0 in
          (ltb-true e (length a.moves) r.0, eqb-true m.source s.mode r.1, h.0 q.1, b.0 p.1),
      λ o. i.1 (j.1 (k.1 (lt-ltb e (length a.moves) o.0, eq-eqb m.source s.mode o.1), h.1 o.2), b.1 o.3),
    )

-- Both acts of a pair are allowed, one after the other.
pub record PairAllowed (a : Automaton) (p : Pair) (s : State) : Type 0 where
  pub waits : Allowed a 1 (wait p.minutes) s
  pub moves : Allowed a 1 (move p.made) (after a (wait p.minutes) s)

-- A pair leads to a state exactly if both of its acts are allowed and leave this state.
pub pair_step_lem : (a : Automaton) (p : Pair) (s s' : State) → (pair_step a p s ≡ some s') ↔ (PairAllowed a p s × (s' ≡ after_pair a p s))
unfolding pair_step
pair_step_lem a p s s' = (
  λ e. to (test.0 && test.1) refl e,
  λ o. from o.0 o.1,
)
  where
    test : Bool × Bool
    test = (allowed a (wait p.minutes) s, allowed a (move p.made) (after a (wait p.minutes) s))

    to :
        (b : Bool) → (test.0 && test.1) ≡ b → cond b (some (after_pair a p s)) none ≡ some s'
        → PairAllowed a p s × (s' ≡ after_pair a p s)
    to true t e =
        let i = (and-true-iff test.0 test.1).0 t in (
          record {
            waits = (allowed-iff a (wait p.minutes) s).0 i.0;
            moves = (allowed-iff a (move p.made) (after a (wait p.minutes) s)).0 i.1;
          },
          sym (some-injective (after_pair a p s) s' e),
        )
    to false t e = absurd (none-ne-some s' e)

    from : PairAllowed a p s → s' ≡ after_pair a p s → cond (test.0 && test.1) (some (after_pair a p s)) none ≡ some s'
    from h e =
        let t : (test.0 && test.1) ≡ true = (and-true-iff test.0 test.1).1 (
          (allowed-iff a (wait p.minutes) s).1 h.waits,
          (allowed-iff a (move p.made) (after a (wait p.minutes) s)).1 h.moves,
        ) in
        rw (t, e)
