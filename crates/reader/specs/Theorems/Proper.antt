-- The automaton of a table is proper: whatever it names is there.
-- Assumes nothing.
use Rattle.std.specs.Prelude.{ℕ, suc, ◌+◌, ◌-◌, ◌/◌, ◌%◌, ◌^◌, ◌≤◌, ◌<◌, ◌≡◌, refl, Bool, true, false, cond, eqb, length}
use Rattle.std.proofs.Common.{zero-add, div-one, arith, sym, ap, ◌∙◌, inl, inr, eqb-true}
use Rattle.std.proofs.Math.Nat.{zero-div}
use Rattle.std.proofs.Math.Decide.{dec_lt}
use mathlib.Core.List.Memᴰ
use mathlib.Core.List.{List, [], ◌∷◌, map, Memᴰ}
use Rattle.std.proofs.lemmas.Bool.{eqb-false}
use Rattle.std.proofs.lemmas.List.{length-map}
use Rattle.semantics.specs.Automata.Proper.{OnTimers, Proper}
use Rattle.semantics.specs.Automaton.{Move, start_holds}
use Rattle.table.specs.Fields.{MoveFields, Fields}
use Rattle.table.specs.Meaning.{stands, condition_of, conditions_from, named, named_timers, mode_of, move_of, automaton}
use Rattle.reader.specs.Layout.{Optional, present, absent, InRow, none, more, TimersThere, IsCondition, IsReset, SixConditions, MoveLayout, Layout}
use Rattle.reader.specs.Read.{accepted, read}
use Rattle.reader.specs.Theorems.Accepts.{accepts}
use Rattle.table.specs.Theorems.Access.{map-all}
use Rattle.reader.specs.Theorems.Bits.{there-below, below-there}
use Rattle.reader.specs.Theorems.Rows.{row-all}

-- A condition that is there has its bit.
optional-stands : {Good : ℕ → Type 0} {t : Bool} (xs : List ℕ) (b : ℕ) → Optional Good t xs b → (b ≡ 0 → ⊥) → t ≡ true
optional-stands xs b (present g) h = refl
optional-stands xs b absent h = absurd (h refl)

-- A condition byte and those behind it.
first-or-rest : (n place b : ℕ) (rest : List ℕ) → ((b ≡ 0 → ⊥) → place % 3 < n) → OnTimers n (conditions_from (suc place) rest) → OnTimers n (conditions_from place (b ∷ rest))
first-or-rest n place b rest h k = go (eqb b 0) refl
  where
    go : (t : Bool) → eqb b 0 ≡ t → OnTimers n (cond t (conditions_from (suc place) rest) (condition_of (place % 3) b ∷ conditions_from (suc place) rest))
    go true e = k
    go false e = λ c m. elim (Memᴰ.cases_cons m) [ inl q ↦ rw q (h (eqb-false b 0 e)) | inr q ↦ k c q ]

-- The conditions of a row are on timers whose bits stand.
row-timers : (n map place i : ℕ) (xs cs : List ℕ) → ((x : ℕ) → x < 6 → stands map (suc x) ≡ true → x % 3 < n) → place + length cs ≤ 6 → i ≡ suc place →
    InRow (λ bit. Optional IsCondition (stands map bit)) i xs cs → OnTimers n (conditions_from place cs)
row-timers n map place i xs cs h k e none = λ c m. absurd (Memᴰ.not-nil m)
row-timers n map place i xs cs h k e (more {xs = front} {ys = back} {a = b} {l = rest} r t) =
    first-or-rest n place b rest
    (λ nz. h place (omega arith) (ap (stands map) (sym e) ∙ optional-stands front b r nz))
    (row-timers n map (suc place) (suc i) back rest h (omega arith) (ap suc e) t)

-- Three bits from 1 on and three from 4 on.
six-timers : (n map : ℕ) → TimersThere n 1 map → TimersThere n 4 map → (x : ℕ) → x < 6 → stands map (suc x) ≡ true → x % 3 < n
six-timers n map f g x h e = elim (dec_lt x 3) [
  | yes l ↦
      let bit : suc x ≡ 1 + x = omega arith in
      omega (arith, f x l (ap (stands map) (sym bit) ∙ e))
  | no l ↦
      let bit : suc x ≡ 4 + (x - 3) = omega arith in
      let small : x - 3 < 3 = omega arith in
      omega (arith, g (x - 3) small (ap (stands map) (sym bit) ∙ e))
]

conditions-on : (n map : ℕ) (xs cs : List ℕ) → TimersThere n 1 map → TimersThere n 4 map → SixConditions map xs cs → OnTimers n (conditions_from 0 cs)
conditions-on n map xs cs f g k = row-timers n map 0 1 xs cs (six-timers n map f g) (omega (arith, k.six)) refl k.row

-- The timers that a reset byte names.
named-on : (n b : ℕ) (ts : List ℕ) → ((x : ℕ) → Memᴰ x ts → stands b x ≡ true → x < n) → (x : ℕ) → Memᴰ x (named b ts) → x < n
named-on n b [] h = λ x m. absurd (Memᴰ.not-nil m)
named-on n b (t ∷ ts) h = go (stands b t) refl (named-on n b ts (λ x m. h x (Memᴰ.tail m)))
  where
    go : (s : Bool) → stands b t ≡ s → ((x : ℕ) → Memᴰ x (named b ts) → x < n) → (x : ℕ) → Memᴰ x (cond s (t ∷ named b ts) (named b ts)) → x < n
    go true e k = λ x m. elim (Memᴰ.cases_cons m) [ inl q ↦ rw q (h t (Memᴰ.head refl) e) | inr q ↦ k x q ]
    go false e k = k

no-bit : (x : ℕ) → stands 0 x ≡ true → ⊥
no-bit x e = omega (arith, eqb-true (0 / 2 ^ x % 2) 1 e, zero-div (2 ^ x))

resets-there : {n b : ℕ} {t : Bool} (xs : List ℕ) → Optional (IsReset n) t xs b → TimersThere n 0 b
resets-there xs (present g) = g.there
resets-there xs absent = λ x h e. absurd (no-bit (0 + x) e)

-- Bits 0 to 2 name the timers that the whole byte names.
three-there : (n b : ℕ) → 1 ≤ n → n ≤ 3 → TimersThere n 0 b → TimersThere n 0 (b % 8)
three-there n b some few h =
    let same : b % 8 ≡ b % 8 % 8 = omega arith in
    let below : b % 8 < 2 ^ n = rw (div-one b) at (there-below n 0 b some few h) in
    below-there n 0 (b % 8) some few (rw (div-one (b % 8), ← same) below)

one_of_three : (x : ℕ) → Memᴰ x (0 ∷ 1 ∷ 2 ∷ []) → x < 3
one_of_three x m = elim (Memᴰ.cases_cons m) [
  | inl e ↦ omega arith
  | inr m' ↦ elim (Memᴰ.cases_cons m') [ inl e ↦ omega arith | inr m'' ↦ omega (arith, Memᴰ.eq_of_singleton m'') ]
]

resets-on : (n b : ℕ) → TimersThere n 0 b → (x : ℕ) → Memᴰ x (named_timers b) → x < n
resets-on n b h = named-on n b (0 ∷ 1 ∷ 2 ∷ []) (λ x m e. h x (one_of_three x m) (ap (stands b) (zero-add x) ∙ e))

-- What the layout of a move record gives, every move has.
moves-all : {bytes : List ℕ} (f : Fields) → Layout bytes f → (P : Move → Type 0) →
    ((i : ℕ) (xs : List ℕ) (a : MoveFields) → MoveLayout (length f.modes) (length f.ceilings) xs a → P (move_of a)) → (e : Move) → Memᴰ e (map move_of f.moves) → P e
moves-all f k P h = map-all move_of P f.moves (row-all (λ a. P (move_of a)) h 0 k.move-bytes f.moves k.moves)

pub layout-proper : (bytes : List ℕ) (f : Fields) → Layout bytes f → start_holds (automaton f) ≡ true → Proper (automaton f)
layout-proper bytes f k s =
    let n = length f.ceilings in
    let m = length f.modes in
    let modes : length (map mode_of f.modes) ≡ m = length-map f.modes mode_of in
    let moves : length (map move_of f.moves) ≡ length f.moves = length-map f.moves move_of in
    record {
      some-timer = k.timers-range.0;
      goal-there = omega (arith, k.goal-range);
      few-moves = omega (arith, k.moves-range);
      invariants-on =
          map-all mode_of (λ o. OnTimers n o.conditions) f.modes
          (row-all (λ a. OnTimers n (mode_of a).conditions) (λ i xs a r. conditions-on n r.map r.condition-bytes a.conditions r.first r.further r.conditions)
          0 k.mode-bytes f.modes k.modes);
      guards-on =
          moves-all f k (λ e. OnTimers n e.conditions)
          (λ i xs a r. conditions-on n r.map r.condition-bytes a.conditions r.first r.further r.conditions);
      resets-on =
          moves-all f k (λ e. (x : ℕ) → Memᴰ x e.resets → x < n)
          (λ i xs a r. rw (← r.resets)
          (resets-on n (r.reset % 8) (three-there n r.reset k.timers-range.0 k.timers-range.1 (resets-there r.reset-bytes r.has-reset))));
      source-there = moves-all f k (λ e. e.source < length (map mode_of f.modes)) (λ i xs a r. omega (arith, r.source));
      target-there = moves-all f k (λ e. e.target < length (map mode_of f.modes)) (λ i xs a r. omega (arith, r.target));
      start-holds = s;
    }

pub accepted-proper : (bytes : List ℕ) (f : Fields) → read bytes ≡ accepted f → Proper (automaton f)
accepted-proper bytes f e = let k = (accepts bytes f).0 e in layout-proper bytes f k.0 k.1
