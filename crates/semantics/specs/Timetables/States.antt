-- The numbers of states in whole minutes: each state with no timer above its ceiling has its own number below `state_count`, and each such number
-- its state. States that agree on the timers that are there have the same number, allow the same acts, are charged the same for them and are
-- left for states that agree.
-- Assumes nothing.
use Rattle.std.specs.Prelude.{◌≡◌, refl, cond, ℕ, zero, suc, ◌+◌, ◌*◌, ◌/◌, ◌%◌, ◌<◌, length, get_or}
use Rattle.std.proofs.Common.{sym, ap₂, ◌∙◌, subst, add-zero, zero-add, zero-mul, mod-lt, arith}
use Rattle.std.proofs.Math.Path.{ap}
use mathlib.Core.List.Memᴰ
use mathlib.Core.List.{List, [], ◌∷◌, map, Memᴰ}
use Rattle.std.proofs.Math.Nat.{div-add-mod'}
use Rattle.std.proofs.lemmas.List.{length-map}
use Rattle.semantics.specs.Condition.{Condition, Holds}
use Rattle.semantics.specs.Automata.Proper.{OnTimers, Proper}
use Rattle.semantics.specs.Automaton.{Mode, Automaton, timers, mode_at, move_at}
use Rattle.semantics.specs.Run.{State, initial, Act, wait, move, among, after, act_charge, AllHold, BelowCeilings, Stays, Allowed}
use Rattle.semantics.specs.NodeCount.{factor, cell_count}
use Rattle.semantics.specs.Answer.{count_from}
use Rattle.semantics.specs.Nodes.Node.{IsCell, cell_number, cell_at}
use Rattle.semantics.specs.Timetable.{Pair, after_pair, pair_charge, state_count}
use Rattle.semantics.specs.Graph.MinuteGraph.{values_of, state_number, state_at}
use Rattle.semantics.specs.Nodes.Radix.{pair-below, factor-pos, quotient-below, pair-quotient, pair-remainder}
use Rattle.semantics.specs.Nodes.Cells.{cell_number-below, cell_at-number, number-cell_at, cell_at-length, cell_at-cell}
use Rattle.semantics.specs.Corners.Lists.{length-count_from, get_or-count_from, mem-get_or}
use Rattle.semantics.specs.Regions.Lists.{get_or_map}
use Rattle.semantics.specs.Timetables.Allowed.{PairAllowed}

-- Two states agree: in the mode, and in the value of each timer that is there.
pub record Agree (a : Automaton) (s t : State) : Type 0 where
  pub mode : s.mode ≡ t.mode
  pub value : (x : ℕ) → x < timers a → s.value x ≡ t.value x

-- A state agrees with node v.
abbrev pub Agrees : Automaton → State → ℕ → Type 0
Agrees a s v = Agree a s (state_at a v)

-- The states that have a number: the mode is there, and no timer is above its ceiling.
pub record IsState (a : Automaton) (s : State) : Type 0 where
  pub mode : s.mode < length a.modes
  pub below : BelowCeilings 1 a.ceilings s.value

pub agree-sym : {a : Automaton} {s t : State} → Agree a s t → Agree a t s
agree-sym g = record { mode = sym g.mode; value = λ x h. sym (g.value x h) }

pub agree_trans : {a : Automaton} {s t u : State} → Agree a s t → Agree a t u → Agree a s u
agree_trans g k = record { mode = g.mode ∙ k.mode; value = λ x h. g.value x h ∙ k.value x h }

-- The lists of two functions that agree from i on.
same-values : (v u : ℕ → ℕ) (i n : ℕ) → ((x : ℕ) → x < i + n → v x ≡ u x) → map v (count_from i n) ≡ map u (count_from i n)
same-values v u i zero e = refl
same-values v u i (suc n) e =
    ap₂ (λ (x : ℕ) (l : List ℕ). x ∷ l) (e i (omega arith)) (same-values v u (suc i) n (λ x h. e x (omega arith)))

-- The list of a function that reads the entries of a list.
listed-values : (f : ℕ → ℕ) (i n : ℕ) (l : List ℕ) → length l ≡ n → ((j : ℕ) → j < n → f (i + j) ≡ get_or l j 0) → map f (count_from i n) ≡ l
listed-values f i zero [] q e = refl
listed-values f i zero (x ∷ l) q e = absurd (omega arith)
listed-values f i (suc n) [] q e = absurd (omega arith)
listed-values f i (suc n) (x ∷ l) q e =
    ap₂ (λ (y : ℕ) (k : List ℕ). y ∷ k) (ap f (sym (add-zero i)) ∙ e 0 (omega arith))
    (listed-values f (suc i) n l (omega arith) (λ j h. ap f (next j) ∙ e (suc j) (omega arith)))
  where
    next : (j : ℕ) → suc i + j ≡ i + suc j
    next j = omega arith

zero_number : (cs : List ℕ) (i n : ℕ) → cell_number cs (map (λ x. 0) (count_from i n)) ≡ 0
zero_number [] i n = refl
zero_number (c ∷ cs) i zero = refl
zero_number (c ∷ cs) i (suc n) = rw (zero_number cs (suc i) n) (omega (arith, zero-mul (factor c)))

module _ (a : Automaton) where
  abbrev cells_of : ℕ
  cells_of = cell_count a.ceilings

  abbrev cell_of : State → ℕ
  cell_of s = cell_number a.ceilings (values_of a s)

  -- States that agree have the same number.
  pub agree-number : {s t : State} → Agree a s t → state_number a s ≡ state_number a t
  agree-number {s} {t} g =
      ap₂ (λ (m : ℕ) (l : List ℕ). m * cells_of + cell_number a.ceilings l) g.mode
      (same-values s.value t.value 0 (timers a) (λ x h. g.value x (omega arith)))

  get_or-values : (s : State) (x : ℕ) → x < timers a → get_or (values_of a s) x 0 ≡ s.value x
  get_or-values s x h =
      get_or_map s.value (count_from 0 (timers a)) x (rw (length-count_from 0 (timers a)) h)
      ∙ ap s.value (get_or-count_from 0 (timers a) x 0 h ∙ zero-add x)

  state-cell : (s : State) → BelowCeilings 1 a.ceilings s.value → IsCell a.ceilings (values_of a s)
  state-cell s b = record {
    sized = length-map (count_from 0 (timers a)) s.value ∙ length-count_from 0 (timers a);
    below = λ x h. omega (arith, get_or-values s x h, b x h);
  }

  pub state-below : (s : State) → IsState a s → state_number a s < state_count a
  unfolding state_count
  state-below s i = pair-below cells_of i.mode (cell_number-below a.ceilings (values_of a s) (state-cell s i.below))

  -- A state with no timer above its ceiling agrees with its number.
  pub state-agrees : (s : State) → BelowCeilings 1 a.ceilings s.value → Agrees a s (state_number a s)
  state-agrees s b =
      let c = state-cell s b in
      let l = cell_number-below a.ceilings (values_of a s) c in
      let w = ap (cell_at a.ceilings) (pair-remainder cells_of s.mode (cell_of s) l) ∙ cell_at-number a.ceilings (values_of a s) c in
      record {
        mode = sym (pair-quotient cells_of s.mode (cell_of s) l);
        value = λ x h. sym (ap (λ (k : List ℕ). get_or k x 0) w ∙ get_or-values s x h);
      }

  -- The states of numbers.
  pub state_at-below : (v : ℕ) → BelowCeilings 1 a.ceilings (state_at a v).value
  state_at-below v x h = let b = (cell_at-cell a.ceilings (v % cells_of)).below x h in omega arith

  module _ (v : ℕ) (h : v < state_count a) where
    pub state_at-state : IsState a (state_at a v)
    unfolding state_count
    state_at-state = record { mode = quotient-below (length a.modes) cells_of h; below = state_at-below v }

    pub number-state_at : state_number a (state_at a v) ≡ v
    unfolding state_count
    number-state_at =
        let i = v % cells_of in
        let u = (state_at a v).value in
        let q = listed-values u 0 (timers a) (cell_at a.ceilings i) (cell_at-length a.ceilings i) (λ j l. ap u (zero-add j)) in
        let c = number-cell_at a.ceilings i (mod-lt v (factor-pos (length a.modes) cells_of h)) in
        ap (λ (k : ℕ). v / cells_of * cells_of + k) (ap (cell_number a.ceilings) q ∙ c) ∙ div-add-mod' v cells_of

  -- The start.
  pub initial-number : state_number a initial ≡ 0
  initial-number = rw (zero_number a.ceilings 0 (timers a)) (omega (arith, zero-mul cells_of))

  pub initial-state : Proper a → IsState a initial
  initial-state ok = record { mode = omega (arith, ok.goal-there); below = λ x h. omega arith }

  pub some-state : Proper a → 0 < state_count a
  some-state ok = omega (arith, state-below initial (initial-state ok))

  pub initial-agrees : Agrees a initial 0
  initial-agrees = rw initial-number at (state-agrees initial (λ x h. omega arith))

-- Acts from states that agree leave states that agree, and are charged the same.
module _ (a : Automaton) where
  pub agree_after : (t : Act) {s s' : State} → Agree a s s' → Agree a (after a t s) (after a t s')
  agree_after (wait d) g = record { mode = g.mode; value = λ x h. ap (λ (n : ℕ). n + d) (g.value x h) }
  agree_after (move e) g = record {
    mode = refl;
    value = λ x h. ap (λ (n : ℕ). cond (among x (move_at a e).resets) 0 n) (g.value x h);
  }

  pub agree-charge : (t : Act) {s s' : State} → Agree a s s' → act_charge a 1 t s ≡ act_charge a 1 t s'
  agree-charge (wait d) g = ap (λ (m : ℕ). d * (mode_at a m).rate) g.mode
  agree-charge (move e) g = refl

  module _ (ok : Proper a) where
    -- What a proper automaton asks is asked of its timers.
    mode-on : (l : ℕ) → OnTimers (timers a) (mode_at a l).conditions
    mode-on l = at a.modes ok.invariants-on l
      where
        at :
            (ms : List Mode) → ((m : Mode) → Memᴰ m ms → OnTimers (timers a) m.conditions) → (l : ℕ)
            → OnTimers (timers a) (get_or ms l (record { rate = 0; conditions = [] })).conditions
        at [] h l = λ c m. absurd (Memᴰ.not-nil m)
        at (m ∷ ms) h zero = h m (Memᴰ.head refl)
        at (m ∷ ms) h (suc l) = at ms (λ n k. h n (Memᴰ.tail k)) l

    holds_agree :
        (cs : List Condition) → OnTimers (timers a) cs → (v u : ℕ → ℕ) → ((x : ℕ) → x < timers a → v x ≡ u x) → AllHold 1 cs v
        → AllHold 1 cs u
    holds_agree cs on v u e h c m = subst (Holds 1 c) (e c.timer (on c m)) (h c m)

    stays-agree : (l : ℕ) (v u : ℕ → ℕ) → ((x : ℕ) → x < timers a → v x ≡ u x) → Stays a 1 l v → Stays a 1 l u
    stays-agree l v u e h = (
      holds_agree (mode_at a l).conditions (mode-on l) v u e h.0,
      λ x k. omega (arith, e x k, h.1 x k),
    )

    -- An act that is allowed in the one is allowed in the other.
    pub agree-allowed : (t : Act) {s s' : State} → Agree a s s' → Allowed a 1 t s → Allowed a 1 t s'
    agree-allowed (wait d) {s} {s'} g h =
        let k = agree_after (wait d) g in
        subst (λ (l : ℕ). Stays a 1 l (after a (wait d) s').value) g.mode
        (stays-agree s.mode (after a (wait d) s).value (after a (wait d) s').value k.value h)
    agree-allowed (move e) {s} {s'} g h = (
      h.0,
      h.1 ∙ g.mode,
      holds_agree (move_at a e).conditions (ok.guards-on (move_at a e) (mem-get_or a.moves e _ h.0)) s.value s'.value g.value h.2,
      stays-agree (move_at a e).target (after a (move e) s).value (after a (move e) s').value (agree_after (move e) g).value h.3,
    )

    -- An allowed act leads from a state that has a number to one that has.
    pub next-state : (t : Act) (s : State) → IsState a s → Allowed a 1 t s → IsState a (after a t s)
    next-state (wait d) s i h = record { mode = i.mode; below = h.1 }
    next-state (move e) s i h = record { mode = ok.target-there (move_at a e) (mem-get_or a.moves e _ h.0); below = h.3.1 }

    -- The same of pairs.
    pub pair-agree : (p : Pair) {s s' : State} → Agree a s s' → PairAllowed a p s → PairAllowed a p s'
    pair-agree p g h = record {
      waits = agree-allowed (wait p.minutes) g h.waits;
      moves = agree-allowed (move p.made) (agree_after (wait p.minutes) g) h.moves;
    }

    pub pair-state : (p : Pair) (s : State) → IsState a s → PairAllowed a p s → IsState a (after_pair a p s)
    pair-state p s i h =
        next-state (move p.made) (after a (wait p.minutes) s) (next-state (wait p.minutes) s i h.waits) h.moves

  pub pair-after : (p : Pair) {s s' : State} → Agree a s s' → Agree a (after_pair a p s) (after_pair a p s')
  pair-after p g = agree_after (move p.made) (agree_after (wait p.minutes) g)

  pub pair-charge : (p : Pair) {s s' : State} → Agree a s s' → pair_charge a p s ≡ pair_charge a p s'
  pair-charge p g = ap (λ (c : ℕ). c + (1 * (move_at a p.made).price + 0)) (agree-charge (wait p.minutes) g)
