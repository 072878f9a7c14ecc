-- What writing does to conditions: each is kept, those on a timer in their order, and writing again changes nothing.
-- Assumes nothing.
use Rattle.std.specs.Prelude.{ℕ, zero, suc, ◌+◌, ◌%◌, ◌<◌, ◌≡◌, refl, Bool, true, false, cond, ◌&&◌, eqb, length, get_or}
use Rattle.std.proofs.Common.{arith, sym, ap, ap₂, ◌∙◌, inl, inr, eqb-true}
use Rattle.std.proofs.Math.Bool.{and-true, and_assoc, and_comm}
use mathlib.Core.List.Memᴰ
use mathlib.Core.List.{List, [], ◌∷◌, map, Memᴰ}
use Rattle.std.proofs.lemmas.List.{length-map}
use Rattle.semantics.specs.Condition.{holds, hold_at_zero}
use Rattle.semantics.specs.Automaton.{start_holds}
use Rattle.table.specs.Fields.{ModeFields, Fields}
use Rattle.table.specs.Meaning.{condition_of, conditions_from, mode_of, automaton}
use Rattle.table.specs.Theorems.Access.{map-all, get_or-all}
use Rattle.form.specs.Theorems.Said.{IsPlaced, Sayable}
use Rattle.parts.specs.Compact.{first_of, further_of, compact, compact_mode, compact_move, compacted}

-- The two conditions on a timer, placed again.
first-again : (a b : ℕ) → first_of (first_of a b) (further_of a b) ≡ first_of a b
first-again a b = at (eqb a 0) refl
  where
    same : (t : Bool) → eqb b 0 ≡ t → cond t 0 b ≡ b
    same true e = sym (eqb-true b 0 e)
    same false e = refl

    at : (t : Bool) → eqb a 0 ≡ t → first_of (cond t b a) (cond t 0 b) ≡ cond t b a
    at true e = same (eqb b 0) refl
    at false e = rw e

further-again : (a b : ℕ) → further_of (first_of a b) (further_of a b) ≡ further_of a b
further-again a b = at (eqb a 0) refl
  where
    none : (t : Bool) → ◌≡◌ {A = ℕ} (cond t 0 0) 0
    none true = refl
    none false = refl

    at : (t : Bool) → eqb a 0 ≡ t → further_of (cond t b a) (cond t 0 b) ≡ cond t 0 b
    at true e = none (eqb b 0)
    at false e = rw e

pub compact-again : (cs : List ℕ) → compact (compact cs) ≡ compact cs
compact-again cs =
    let a : ℕ → ℕ = λ x. get_or cs x 0 in
    λ i. first-again (a 0) (a 3) i ∷ first-again (a 1) (a 4) i ∷ first-again (a 2) (a 5) i
    ∷ further-again (a 0) (a 3) i ∷ further-again (a 1) (a 4) i ∷ further-again (a 2) (a 5) i ∷ []

-- What f gives twice as once, of every entry.
map-again : {A : Type 0} (f : A → A) (l : List A) → ((a : A) → f (f a) ≡ f a) → map f (map f l) ≡ map f l
map-again f [] h = refl
map-again f (a ∷ l) h = λ i. h a i ∷ map-again f l h i

pub compacted-again : (f : Fields) → compacted (compacted f) ≡ compacted f
compacted-again f =
    let modes = map-again compact_mode f.modes (λ m i. record { rate = m.rate; conditions = compact-again m.conditions i }) in
    let moves =
    map-again compact_move f.moves
    (λ e i. record { source = e.source; target = e.target; price = e.price; conditions = compact-again e.conditions i; resets = e.resets }) in
    λ i. record { goal = f.goal; ceilings = f.ceilings; modes = modes i; moves = moves i }

-- A condition and those behind it, or those alone where it is 0.
abbrev pub with_first : ℕ → List ℕ → List ℕ
with_first c cs = cond (eqb c 0) cs (c ∷ cs)

-- "conditions counted in order": those on a timer, the first and the further one, without the places where there is none.
abbrev pub counted : List ℕ → ℕ → List ℕ
counted cs x = with_first (get_or cs x 0) (with_first (get_or cs (x + 3) 0) [])

pair-counted : (a b : ℕ) → with_first (first_of a b) (with_first (further_of a b) []) ≡ with_first a (with_first b [])
pair-counted a b = at (eqb a 0) refl
  where
    at : (t : Bool) → eqb a 0 ≡ t → with_first (cond t b a) (with_first (cond t 0 b) []) ≡ cond t (with_first b []) (a ∷ with_first b [])
    at true e = refl
    at false e = rw e

pub compact-counted : (cs : List ℕ) (x : ℕ) → x < 3 → counted (compact cs) x ≡ counted cs x
compact-counted cs zero h = pair-counted (get_or cs 0 0) (get_or cs 3 0)
compact-counted cs (suc zero) h = pair-counted (get_or cs 1 0) (get_or cs 4 0)
compact-counted cs (suc (suc zero)) h = pair-counted (get_or cs 2 0) (get_or cs 5 0)
compact-counted cs (suc (suc (suc x))) h = absurd (omega arith)

-- A condition byte on timer x holds at zero, or is none.
abbrev at_zero : ℕ → ℕ → Bool
at_zero x c = cond (eqb c 0) true (holds 1 (condition_of x c) 0)

one-at-zero : (place c : ℕ) (cs : List ℕ) →
    hold_at_zero (conditions_from place (c ∷ cs)) ≡ (at_zero (place % 3) c && hold_at_zero (conditions_from (suc place) cs))
one-at-zero place c cs = at (eqb c 0)
  where
    at : (t : Bool) → hold_at_zero (cond t (conditions_from (suc place) cs) (condition_of (place % 3) c ∷ conditions_from (suc place) cs))
        ≡ (cond t true (holds 1 (condition_of (place % 3) c) 0) && hold_at_zero (conditions_from (suc place) cs))
    at true = refl
    at false = refl

pair-at-zero : (x a b : ℕ) → (at_zero x (first_of a b) && at_zero x (further_of a b)) ≡ (at_zero x a && at_zero x b)
pair-at-zero x a b = at (eqb a 0) refl
  where
    at : (t : Bool) → eqb a 0 ≡ t → (at_zero x (cond t b a) && at_zero x (cond t 0 b)) ≡ (cond t true (holds 1 (condition_of x a) 0) && at_zero x b)
    at true e = and-true (at_zero x b)
    at false e = rw e

and_left : (a b c : Bool) → (a && (b && c)) ≡ (b && (a && c))
and_left a b c = sym (and_assoc a b c) ∙ ap (λ (t : Bool). t && c) (and_comm a b) ∙ and_assoc b a c

-- Six tests, those on a timer together.
by-timer : (a b c d e g : Bool) → (a && (b && (c && (d && (e && (g && true)))))) ≡ ((a && d) && ((b && e) && (c && g)))
by-timer a b c d e g = simp (and-true, and_assoc, and_left)

six-at-zero : (a b c d e g : ℕ) → hold_at_zero (conditions_from 0 (a ∷ b ∷ c ∷ d ∷ e ∷ g ∷ []))
    ≡ ((at_zero 0 a && at_zero 0 d) && ((at_zero 1 b && at_zero 1 e) && (at_zero 2 c && at_zero 2 g)))
six-at-zero a b c d e g =
    rw (
      one-at-zero 0 a (b ∷ c ∷ d ∷ e ∷ g ∷ []),
      one-at-zero 1 b (c ∷ d ∷ e ∷ g ∷ []),
      one-at-zero 2 c (d ∷ e ∷ g ∷ []),
      one-at-zero 3 d (e ∷ g ∷ []),
      one-at-zero 4 e (g ∷ []),
      one-at-zero 5 g [],
    )
    (by-timer (at_zero 0 a) (at_zero 1 b) (at_zero 2 c) (at_zero 0 d) (at_zero 1 e) (at_zero 2 g))

compact-at-zero : (cs : List ℕ) → length cs ≡ 6 → hold_at_zero (conditions_from 0 (compact cs)) ≡ hold_at_zero (conditions_from 0 cs)
compact-at-zero (a ∷ b ∷ c ∷ d ∷ e ∷ g ∷ []) h =
    six-at-zero (first_of a d) (first_of b e) (first_of c g) (further_of a d) (further_of b e) (further_of c g)
    ∙ ap₂ (λ (s t : Bool). s && t) (pair-at-zero 0 a d) (ap₂ (λ (s t : Bool). s && t) (pair-at-zero 1 b e) (pair-at-zero 2 c g))
    ∙ sym (six-at-zero a b c d e g)
compact-at-zero [] h = absurd (omega arith)
compact-at-zero (a ∷ []) h = absurd (omega arith)
compact-at-zero (a ∷ b ∷ []) h = absurd (omega arith)
compact-at-zero (a ∷ b ∷ c ∷ []) h = absurd (omega arith)
compact-at-zero (a ∷ b ∷ c ∷ d ∷ []) h = absurd (omega arith)
compact-at-zero (a ∷ b ∷ c ∷ d ∷ e ∷ []) h = absurd (omega arith)
compact-at-zero (a ∷ b ∷ c ∷ d ∷ e ∷ g ∷ i ∷ l) h = absurd (omega arith)

start-same : (l : List ModeFields) → ((m : ModeFields) → Memᴰ m l → length m.conditions ≡ 6) →
    hold_at_zero (get_or (map mode_of (map compact_mode l)) 0 (record { rate = 0; conditions = [] })).conditions
    ≡ hold_at_zero (get_or (map mode_of l) 0 (record { rate = 0; conditions = [] })).conditions
start-same [] h = refl
start-same (m ∷ l) h = compact-at-zero m.conditions (h m (Memᴰ.head refl))

-- Mode 0's conditions hold at zero exactly if they did: only their order changes.
pub compact-start : (f : Fields) → ((m : ModeFields) → Memᴰ m f.modes → length m.conditions ≡ 6) →
    start_holds (automaton (compacted f)) ≡ start_holds (automaton f)
compact-start f h = start-same f.modes h

-- Condition bytes stay condition bytes.
first-placed : (a b : ℕ) → IsPlaced a → IsPlaced b → IsPlaced (first_of a b)
first-placed a b h k = at (eqb a 0)
  where
    at : (t : Bool) → IsPlaced (cond t b a)
    at true = k
    at false = h

further-placed : (a b : ℕ) → IsPlaced b → IsPlaced (further_of a b)
further-placed a b k = at (eqb a 0)
  where
    at : (t : Bool) → IsPlaced (cond t 0 b)
    at true = inl refl
    at false = k

-- What holds of the first, and of all others.
all_cons : (c : ℕ) (l : List ℕ) → IsPlaced c → ((d : ℕ) → Memᴰ d l → IsPlaced d) → (d : ℕ) → Memᴰ d (c ∷ l) → IsPlaced d
all_cons c l h k d m = elim (Memᴰ.cases_cons m) [ inl e ↦ rw e h | inr q ↦ k d q ]

compact-placed : (cs : List ℕ) → ((c : ℕ) → Memᴰ c cs → IsPlaced c) → (c : ℕ) → Memᴰ c (compact cs) → IsPlaced c
compact-placed cs h =
    let p : (x : ℕ) → IsPlaced (get_or cs x 0) = get_or-all IsPlaced cs h (inl refl) in
    all_cons _ _ (first-placed _ _ (p 0) (p 3)) (all_cons _ _ (first-placed _ _ (p 1) (p 4)) (all_cons _ _ (first-placed _ _ (p 2) (p 5))
    (all_cons _ _ (further-placed (get_or cs 0 0) _ (p 3)) (all_cons _ _ (further-placed (get_or cs 1 0) _ (p 4))
    (all_cons _ _ (further-placed (get_or cs 2 0) _ (p 5))
    (λ c m. absurd (Memᴰ.not-nil m)))))))

pub compact-sayable : (f : Fields) → Sayable f → Sayable (compacted f)
compact-sayable f k = record {
  shaped = record {
    few-modes = omega (arith, length-map f.modes compact_mode, k.shaped.few-modes);
    few-timers = k.shaped.few-timers;
    few-moves = omega (arith, length-map f.moves compact_move, k.shaped.few-moves);
    six-invariants = map-all compact_mode (λ m. length m.conditions ≡ 6) f.modes (λ m h. refl);
    six-guards = map-all compact_move (λ e. length e.conditions ≡ 6) f.moves (λ e h. refl);
  };
  invariants =
      map-all compact_mode (λ m. (c : ℕ) → Memᴰ c m.conditions → IsPlaced c) f.modes
      (λ m h. compact-placed m.conditions (k.invariants m h));
  guards =
      map-all compact_move (λ e. (c : ℕ) → Memᴰ c e.conditions → IsPlaced c) f.moves
      (λ e h. compact-placed e.conditions (k.guards e h));
}
