-- A loop that runs the parsers p first, p (first + 1), .., count of them, and collects what they take.
-- Assumes nothing.
use Prim.Native.Nat.{ℕ, suc, ◌+◌, ◌-◌, ◌≤◌, ◌<◌}
use native.Mathlib.Nat.{add-zero, sub-zero}
use native.Mathlib.Omega.{arith}
use mathlib.Core.Path.{◌≡◌, refl, sym, ap, ap₂, ◌∙◌}
use mathlib.Core.List.{List, [], ◌∷◌, ◌++◌, append_assoc, append-nil}
use lib.ListN.{length, length-append, drop}
use Rattle.reader.specs.Parser.{Parser, done, ◌>>=◌, in_order, Outcome, refused, took, run}
use Rattle.reader.specs.Step.{Took}
use Rattle.reader.specs.Theorems.Running.{run_bind, and_then, after}

after-nil : {A : Type 0} (o : Outcome (List A)) → after [] o ≡ o
after-nil (refused n) = refl
after-nil (took l s) = refl

after-after : {A : Type 0} (l m : List A) (o : Outcome (List A)) → after l (after m o) ≡ after (l ++ m) o
after-after l m (refused n) = refl
after-after l m (took k s) = ap (λ (j : List _). took j s) (sym (append_assoc l m k))

after_one : {A : Type 0} (a : A) (o : Outcome (List A)) → and_then o (λ l. done (a ∷ l)) ≡ after (a ∷ []) o
after_one a (refused n) = refl
after_one a (took l s) = refl

module _ {A : Type 0} (p : ℕ → Parser A) where
  order-took : (i n : ℕ) (s s' : List ℕ) (a : A) → run (p i) s ≡ took a s' → run (in_order p i (suc n)) s ≡ after (a ∷ []) (run (in_order p (suc i) n) s')
  unfolding in_order
  order-took i n s s' a e =
      run_bind (p i) _ s ∙ ap (λ (o : Outcome A). and_then o (λ a. in_order p (suc i) n >>= λ l. done (a ∷ l))) e
      ∙ run_bind (in_order p (suc i) n) _ s' ∙ after_one a (run (in_order p (suc i) n) s')

  order-refused : (i n m : ℕ) (s : List ℕ) → run (p i) s ≡ refused m → run (in_order p i (suc n)) s ≡ refused m
  unfolding in_order
  order-refused i n m s e = run_bind (p i) _ s ∙ ap (λ (o : Outcome A). and_then o (λ a. in_order p (suc i) n >>= λ l. done (a ∷ l))) e

  order-none : (i : ℕ) (s : List ℕ) → run (in_order p i 0) s ≡ took [] s
  unfolding in_order
  order-none i s = refl

  module _ (first count : ℕ) (bytes : List ℕ) (start : ℕ) where
    -- These were taken from the start to the place `next`: what comes of the others there is what comes of all.
    pub record Collected (taken : List A) (next : ℕ) : Type 0 where
      pub same : run (in_order p first count) (drop start bytes)
          ≡ after taken (run (in_order p (first + length taken) (count - length taken)) (drop next bytes))

    pub collected-none : Collected [] start
    collected-none = record { same = rw (add-zero first, sub-zero count) (sym (after-nil (run (in_order p first count) (drop start bytes)))) }

    step_count : (taken : List A) → length taken < count → (i m : ℕ) → i ≡ first + length taken → m ≡ count - suc (length taken) → (next : ℕ) → Collected taken next →
        run (in_order p first count) (drop start bytes) ≡ after taken (run (in_order p i (suc m)) (drop next bytes))
    step_count taken h i m e f next c =
        let g : suc m ≡ count - length taken = omega arith in
        rw (e, g) c.same

    pub collected-more : {taken : List A} {next next' : ℕ} {v : A} → Collected taken next → length taken < count →
        run (p (first + length taken)) (drop next bytes) ≡ took v (drop next' bytes) → Collected (taken ++ v ∷ []) next'
    collected-more {taken} {next} {next'} {v} c h e =
        let further : suc (first + length taken) ≡ first + length (taken ++ v ∷ []) = omega (arith, length-append taken (v ∷ [])) in
        let fewer : count - suc (length taken) ≡ count - length (taken ++ v ∷ []) = omega (arith, length-append taken (v ∷ [])) in
        record {
          same =
              step_count taken h (first + length taken) (count - suc (length taken)) refl refl next c
              ∙ ap (after taken) (order-took (first + length taken) (count - suc (length taken)) (drop next bytes) (drop next' bytes) v e)
              ∙ after-after taken (v ∷ []) (run (in_order p (suc (first + length taken)) (count - suc (length taken))) (drop next' bytes))
              ∙ ap₂ (λ (i m : ℕ). after (taken ++ v ∷ []) (run (in_order p i m) (drop next' bytes))) further fewer;
        }

    pub collected-refused : {taken : List A} {next n : ℕ} → Collected taken next → length taken < count →
        run (p (first + length taken)) (drop next bytes) ≡ refused n → run (in_order p first count) (drop start bytes) ≡ refused n
    collected-refused {taken} {next} {n} c h e =
        step_count taken h (first + length taken) (count - suc (length taken)) refl refl next c
        ∙ ap (after taken) (order-refused (first + length taken) (count - suc (length taken)) n (drop next bytes) e)

    pub collected-all : {taken : List A} {next : ℕ} → Collected taken next → length taken ≡ count → run (in_order p first count) (drop start bytes) ≡ took taken (drop next bytes)
    collected-all {taken} {next} c h =
        let none : count - length taken ≡ 0 = omega arith in
        c.same ∙ ap (λ (m : ℕ). after taken (run (in_order p (first + length taken) m) (drop next bytes))) none
        ∙ ap (after taken) (order-none (first + length taken) (drop next bytes)) ∙ ap (λ (l : List A). took l (drop next bytes)) (append-nil taken)

    -- The state of the loop after i turns, with what else holds of the values.
    pub record Gathered (H : List A → Type 0) (next i : ℕ) : Type 0 where
      pub taken : List A
      pub many : length taken ≡ i
      pub few : i ≤ count
      pub collected : Collected taken next
      pub hold : H taken

    pub gathered_none : {H : List A → Type 0} → H [] → Gathered H start 0
    gathered_none h = record { taken = []; many = refl; few = omega arith; collected = collected-none; hold = h }

    -- One turn more, with what it took.
    pub gathered-more : {H H' : List A → Type 0} {P : A → Type 0} {next next' i : ℕ} → Gathered H next i → i < count →
        Took bytes next' P (run (p (first + i)) (drop next bytes)) →
        ((a : A) (l : List A) → P a → H l → H' (l ++ a ∷ [])) → Gathered H' next' (i + 1)
    gathered-more {i = i} g h t k =
        let same : first + i ≡ first + length g.taken = ap (λ (j : ℕ). first + j) (sym g.many) in
        record {
          taken = g.taken ++ t.value ∷ [];
          many = omega (arith, length-append g.taken (t.value ∷ []), g.many);
          few = omega arith;
          collected = collected-more g.collected (omega (arith, g.many)) (rw same at t.taken);
          hold = k t.value g.taken t.holds g.hold;
        }

    pub gathered-refused : {H : List A → Type 0} {next i n : ℕ} → Gathered H next i → i < count →
        run (p (first + i)) (drop next bytes) ≡ refused n → run (in_order p first count) (drop start bytes) ≡ refused n
    gathered-refused {i = i} g h e =
        let same : first + i ≡ first + length g.taken = ap (λ (j : ℕ). first + j) (sym g.many) in
        collected-refused g.collected (omega (arith, g.many)) (rw same at e)

    pub gathered-all : {H : List A → Type 0} {next i : ℕ} (g : Gathered H next i) → count ≤ i → run (in_order p first count) (drop start bytes) ≡ took g.taken (drop next bytes)
    gathered-all g h = collected-all g.collected (omega (arith, g.many, g.few))
