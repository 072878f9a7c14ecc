-- Arrays that show a state: the one of a numbered state, what waiting and a move make of one, and its number.
-- Assumes nothing.
use Rattle.std.specs.Prelude.{◌≡◌, refl, Bool, true, false, cond, ◌||◌, List, [], ◌∷◌, ℕ, zero, suc, ◌+◌, ◌-◌, ◌%◌, ◌≤◌, ◌<◌, eqb, length, get_or, replicate}
use Rattle.std.proofs.Common.{sym, ap, ap₂, ◌∙◌, not-suc-le-zero, le_of_suc-le-suc, arith, length-append, ext_get_or}
use Rattle.std.proofs.Math.Decide.{dec_lt}
use Rattle.std.proofs.lemmas.List.{length-replicate, length-map}
use Rattle.std.proofs.Math.ListN.{get_or-eq_default}
use Rattle.semantics.specs.Automaton.{Automaton, Move, timers, move_at}
use Rattle.semantics.specs.Run.{State, wait, move, among, after}
use Rattle.semantics.specs.NodeCount.{cell_count}
use Rattle.semantics.specs.Answer.{count_from}
use Rattle.semantics.specs.Nodes.Node.{cell_number, cell_at}
use Rattle.semantics.specs.Nodes.Cells.{cell_at-cell, cell_at-length}
use Rattle.semantics.specs.Regions.Lists.{get_or_map}
use Rattle.semantics.specs.Corners.Lists.{length-count_from, get_or-count_from}
use Rattle.semantics.specs.Graph.MinuteGraph.{values_of, state_at}
use Rattle.table.specs.Meaning.{stands, named, named_timers}
use Rattle.table.specs.Held.{pad, fields_of, automaton_of, move_fields_at, IsTable}
use Rattle.table.specs.Theorems.Access.{get_or-pad, move-of-fields}
use Rattle.arrays.specs.Arrays.{map_to}
use Rattle.regions.specs.Laws.Nodes.{number-padded, table-ceilings, table-padded}
use Rattle.states.specs.States.{most_timers, Shows, zeroed_in}
use Rattle.states.specs.Laws.Bounds.{timers-few}

-- An array of three for a list of at most three.
pad-length : (l : List ℕ) → length l ≤ 3 → length (pad 3 l) ≡ 3
pad-length l h = omega (arith, length-append l (replicate (3 - length l) 0), length-replicate {A = ℕ} (3 - length l) 0)

-- The values of a state.
module _ (a : Automaton) (s : State) where
  pub values_length : length (values_of a s) ≡ timers a
  values_length = length-map (count_from 0 (timers a)) s.value ∙ length-count_from 0 (timers a)

  pub values-at : (x : ℕ) → x < timers a → get_or (values_of a s) x 0 ≡ s.value x
  values-at x h =
      let l = count_from 0 (timers a) in
      get_or_map s.value l x (omega (arith, length-count_from 0 (timers a)))
      ∙ ap s.value (get_or-count_from 0 (timers a) x 0 h ∙ omega arith)

  -- An array that shows the state is its values, and 0 behind them.
  pub shows-values : {values : List ℕ} → Shows a s values → timers a ≤ 3 → values ≡ pad 3 (values_of a s)
  shows-values {values} h few =
      ext_get_or 0 values (pad 3 (values_of a s)) (h.three ∙ sym (pad-length (values_of a s) (omega (arith, values_length))))
      (λ i k. at i (dec_lt i (timers a)) ∙ sym (get_or-pad 3 (values_of a s) i))
    where
      at : (i : ℕ) → Dec (i < timers a) → get_or values i 0 ≡ get_or (values_of a s) i 0
      at i (yes p) = h.there i p ∙ sym (values-at i p)
      at i (no n) =
          let past : timers a ≤ i = omega arith in
          h.spare i past ∙ sym (get_or-eq_default (values_of a s) 0 (omega (arith, values_length)))

-- Its number by the array of all ceilings.
pub shows-number :
    (t : List ℕ) → IsTable t → (s : State) {values : List ℕ} → Shows (automaton_of t) s values
    → cell_number (pad most_timers (automaton_of t).ceilings) values ≡ cell_number (automaton_of t).ceilings (values_of (automaton_of t) s)
shows-number t h s shown =
    let a = automaton_of t in
    let sized : length (values_of a s) ≡ length a.ceilings = values_length a s in
    ap (cell_number (pad most_timers a.ceilings)) (shows-values a s shown (timers-few t h))
    ∙ number-padded (timers a) (pad most_timers a.ceilings) (table-padded t h) (values_of a s) (sized ∙ ap length (sym (table-ceilings t h)))
    ∙ ap (λ (cs : List ℕ). cell_number cs (values_of a s)) (table-ceilings t h)

-- The state with a number.
module _ (a : Automaton) where
  pub state-shown : timers a ≤ 3 → (v : ℕ) → Shows a (state_at a v) (pad 3 (cell_at a.ceilings (v % cell_count a.ceilings)))
  state-shown few v =
      let l = cell_at a.ceilings (v % cell_count a.ceilings) in
      let sized : length l ≡ timers a = cell_at-length a.ceilings (v % cell_count a.ceilings) in
      record {
        three = pad-length l (omega arith);
        there = λ x h. get_or-pad 3 l x;
        spare = λ x h. get_or-pad 3 l x ∙ get_or-eq_default l 0 (omega arith);
      }

  -- No value is above its ceiling.
  pub value-below : (v x : ℕ) → x < timers a → (state_at a v).value x ≤ get_or a.ceilings x 0
  value-below v x h = omega (arith, (cell_at-cell a.ceilings (v % cell_count a.ceilings)).below x h)

-- f at the first n entries.
module _ (f : ℕ → ℕ) where
  map_to-length : (n : ℕ) (l : List ℕ) → length (map_to f n l) ≡ length l
  map_to-length zero l = refl
  map_to-length (suc n) [] = refl
  map_to-length (suc n) (x ∷ l) = ap suc (map_to-length n l)

  map_to-there : (n : ℕ) (l : List ℕ) (i : ℕ) → i < n → i < length l → get_or (map_to f n l) i 0 ≡ f (get_or l i 0)
  map_to-there zero l i h k = absurd (not-suc-le-zero h)
  map_to-there (suc n) [] i h k = absurd (not-suc-le-zero k)
  map_to-there (suc n) (x ∷ l) zero h k = refl
  map_to-there (suc n) (x ∷ l) (suc i) h k = map_to-there n l i (le_of_suc-le-suc h) (le_of_suc-le-suc k)

  map_to-behind : (n : ℕ) (l : List ℕ) (i : ℕ) → n ≤ i → get_or (map_to f n l) i 0 ≡ get_or l i 0
  map_to-behind zero l i h = refl
  map_to-behind (suc n) [] i h = refl
  map_to-behind (suc n) (x ∷ l) zero h = absurd (not-suc-le-zero h)
  map_to-behind (suc n) (x ∷ l) (suc i) h = map_to-behind n l i (le_of_suc-le-suc h)

-- After a wait the values of the timers that are there are greater.
pub shows-waited :
    (a : Automaton) (s : State) (d : ℕ) {values : List ℕ} → Shows a s values → timers a ≤ 3
    → Shows a (after a (wait d) s) (map_to (λ v. v + d) (timers a) values)
shows-waited a s d {values} h few = record {
  three = map_to-length (λ v. v + d) (timers a) values ∙ h.three;
  there = λ x k.
      map_to-there (λ v. v + d) (timers a) values x k (omega (arith, h.three)) ∙ ap (λ (v : ℕ). v + d) (h.there x k);
  spare = λ x k. map_to-behind (λ v. v + d) (timers a) values x k ∙ h.spare x k;
}

-- Whether a timer is among some, with another one or itself before them, or not.
among-other : (b : Bool) (x y : ℕ) (l : List ℕ) → eqb x y ≡ false → among x (cond b (y ∷ l) l) ≡ among x l
among-other true x y l e = ap (λ (c : Bool). c || among x l) e
among-other false x y l e = refl

among-itself : (b : Bool) (x : ℕ) (l : List ℕ) → eqb x x ≡ true → among x l ≡ false → among x (cond b (x ∷ l) l) ≡ b
among-itself true x l e n = ap (λ (c : Bool). c || among x l) e
among-itself false x l e n = n

-- The byte names the timers whose bits stand.
pub among-named : (byte x : ℕ) → x < 3 → among x (named_timers byte) ≡ stands byte x
among-named byte zero h =
    among-itself (stands byte 0) 0 (named byte (1 ∷ 2 ∷ [])) refl
    (among-other (stands byte 1) 0 1 (named byte (2 ∷ [])) refl ∙ among-other (stands byte 2) 0 2 [] refl)
among-named byte (suc zero) h =
    among-other (stands byte 0) 1 0 (named byte (1 ∷ 2 ∷ [])) refl
    ∙ among-itself (stands byte 1) 1 (named byte (2 ∷ [])) refl (among-other (stands byte 2) 1 2 [] refl)
among-named byte (suc (suc zero)) h =
    among-other (stands byte 0) 2 0 (named byte (1 ∷ 2 ∷ [])) refl
    ∙ among-other (stands byte 1) 2 1 (named byte (2 ∷ [])) refl
    ∙ among-itself (stands byte 2) 2 [] refl refl
among-named byte (suc (suc (suc x))) h = absurd (omega arith)

-- An entry of the array after the resets.
zeroed-at : (byte : ℕ) (values : List ℕ) (x : ℕ) → x < 3 → get_or (zeroed_in byte values) x 0 ≡ cond (stands byte x) 0 (get_or values x 0)
zeroed-at byte values zero h = refl
zeroed-at byte values (suc zero) h = refl
zeroed-at byte values (suc (suc zero)) h = refl
zeroed-at byte values (suc (suc (suc x))) h = absurd (omega arith)

zeroed-spare : (b : Bool) {v : ℕ} → v ≡ 0 → cond b 0 v ≡ 0
zeroed-spare true e = refl
zeroed-spare false e = e

-- After a move the timers that its byte names are at 0.
pub shows-moved :
    (t : List ℕ) → IsTable t → (e : ℕ) (s : State) {values : List ℕ} → Shows (automaton_of t) s values
    → Shows (automaton_of t) (after (automaton_of t) (move e) s) (zeroed_in (move_fields_at (fields_of t) e).resets values)
shows-moved t h e s {values} shown = record {
  three = refl;
  there = λ x k.
      let inside : x < 3 = omega (arith, timers-few t h) in
      zeroed-at byte values x inside ∙ ap₂ (λ (b : Bool) (v : ℕ). cond b 0 v) (sym (names x inside)) (shown.there x k);
  spare = λ x k. behind x k (dec_lt x 3);
}
  where
    byte : ℕ
    byte = (move_fields_at (fields_of t) e).resets

    names : (x : ℕ) → x < 3 → among x (move_at (automaton_of t) e).resets ≡ stands byte x
    names x k = ap (λ (m : Move). among x m.resets) (move-of-fields (fields_of t) e) ∙ among-named byte x k

    behind : (x : ℕ) → timers (automaton_of t) ≤ x → Dec (x < 3) → get_or (zeroed_in byte values) x 0 ≡ 0
    behind x k (yes p) = zeroed-at byte values x p ∙ zeroed-spare (stands byte x) (shown.spare x k)
    behind x k (no n) = get_or-eq_default (zeroed_in byte values) 0 {n = x} (omega arith)
