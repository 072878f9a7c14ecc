-- The walk goes a step further: the next place points back to the one at hand.
-- Assumes nothing.
use mathlib.Core.Path.{◌≡◌, refl, sym, ap, subst, subst₂, ◌∙◌}
use mathlib.Core.Bool.{Bool, true, false, cond}
use mathlib.Core.Logic.{◌↔◌, ◌≢◌}
use mathlib.Core.List.{List, [], ◌∷◌, ◌++◌}
use Prim.Native.Nat.{ℕ, suc, ◌+◌, ◌*◌, ◌≤◌, ◌<◌}
use native.Mathlib.Decide.{ℕ_discrete}
use native.Mathlib.Numerals.{add-one}
use native.Mathlib.Omega.{arith}
use borrow.Author.Tests.{eq-eqb, ne_eqb}
use lib.Dec.{eqb}
use Rattle.std.specs.Prelude.{Some}
use lib.ListN.{length, get_or, take, set, length-append, length-set}
use lib.Seq.{get_or-set_same, get_or-set_other, drop-set-lt, take-suc-set}
use Rattle.semantics.specs.Automaton.{Automaton}
use Rattle.semantics.specs.Order.{Cost, cost}
use Rattle.semantics.specs.NodeCount.{node_count}
use Rattle.semantics.specs.Graph.Path.{reached, charge_at, steps_at}
use Rattle.semantics.specs.Graph.CornerGraph.{number_of}
use Rattle.semantics.specs.Answers.Marks.{Led}
use Rattle.semantics.proofs.Answers.Trail.{Trail, trail-few, trail-marked, trail-entry, trail-further}
use Rattle.table.specs.Held.{automaton_of}
use Rattle.space.specs.declared.Space.{Space}
use Rattle.steps.specs.declared.Stand.{Stand}
use Rattle.steps.specs.declared.Next.{Next}
use Rattle.steps.specs.Steps.{Marked, stand_place, Leads, NextStep}
use Rattle.route.specs.Walk.{WalkReady, lowest, pointer, pointing, AdvanceReady, Advanced}
use Rattle.route.proofs.MarkedSets.{lowest-marked}
use Rattle.route.proofs.Live.{turns, turns-advance}
use Rattle.route.proofs.Trailing.{marks, Shown, points, Walking, cost-once, shown-charge, shown-kept}
use Rattle.route.proofs.Walking.{proper, nodes-are, taken, steps-short, words-room, entry_at, sets-here, stand-place, first-there, ready, is-next, tried}

-- A function with another value at k.
abbrev updated : (ℕ → ℕ) → ℕ → ℕ → ℕ → ℕ
updated f k x i = cond (eqb i k) x (f i)

module _ (f : ℕ → ℕ) (k x : ℕ) where
  updated-same : (i : ℕ) → i ≡ k → updated f k x i ≡ x
  updated-same i e = rw (eq-eqb i k e)

  updated-other : (i : ℕ) → i ≢ k → updated f k x i ≡ f i
  updated-other i e = rw (ne_eqb i k e)

  updated-all : (P : ℕ → Type 0) → P x → ((i : ℕ) → P (f i)) → (i : ℕ) → P (updated f k x i)
  updated-all P h g i = at (eqb i k)
    where
      at : (b : Bool) → P (cond b x (f i))
      at true = h
      at false = g i

module _
    {t rs : List ℕ} {s : Space} {ws₀ bs₀ : List ℕ} (w : WalkReady t rs s ws₀ bs₀) {ws bs : List ℕ} {z : Stand} (k : Walking w ws bs z)
    (r : Next) (step : NextStep t s z ws (Some r)) where
  abbrev a : Automaton
  a = automaton_of t

  abbrev l : ℕ
  l = (automaton_of t).goal

  pub few : r.byte < 66
  few = ((is-next w k (Some r) step).leads r refl).0

  leads : Leads t l k.costs z r
  leads = ((is-next w k (Some r) step).leads r refl).1

  -- The places on the way, with the next.
  abbrev firsts' : ℕ → ℕ
  firsts' = updated k.firsts (z.steps + 1) r.first

  abbrev sets' : ℕ → ℕ
  sets' = updated k.sets (z.steps + 1) r.set

  -- They are a trail of one step more.
  longer : Trail a l k.costs (take z.steps bs ++ r.byte ∷ []) 0 firsts' (marks sets')
  longer =
      trail-further a (proper w) l w.best w.is-best (tried w k (Some r) step) (stand_place t z) (stand-place w k) (first-there w k) leads.place
      leads.leads firsts' (λ i h. sym (updated-other k.firsts (z.steps + 1) r.first i (omega (arith, taken w k)))) next-first (marks sets')
      (λ i h. ap Marked (sym (updated-other k.sets (z.steps + 1) r.set i (omega (arith, taken w k))))) next-set
      leads.corner (subst (λ (m : ℕ). Marked m leads.corner) (sym last_set) leads.marked)
    where
      n : ℕ
      n = length (take z.steps bs)

      last_set : sets' (suc n) ≡ r.set
      last_set = updated-same k.sets (z.steps + 1) r.set (suc n) (omega (arith, taken w k))

      next-first : firsts' (suc n) ≡ number_of a leads.place 0
      next-first = updated-same k.firsts (z.steps + 1) r.first (suc n) (omega (arith, taken w k)) ∙ leads.first-is

      next-set : (i : ℕ) → marks sets' (suc n) i ↔ Led a l k.costs (stand_place t z) n (marks k.sets n) r.byte leads.place i
      next-set i =
          subst (λ (m : ℕ). Marked m i ↔ Led a l k.costs (stand_place t z) n (marks k.sets n) r.byte leads.place i) (sym last_set)
          (subst (λ (m : ℕ). Marked r.set i ↔ Led a l k.costs (stand_place t z) n (Marked m) r.byte leads.place i)
          (sym (sets-here w k))
          (subst (λ (m : ℕ). Marked r.set i ↔ Led a l k.costs (stand_place t z) m (Marked z.set) r.byte leads.place i)
          (sym (taken w k)) (leads.marks i)))

  taken' : length (take z.steps bs ++ r.byte ∷ []) ≡ z.steps + 1
  taken' = omega (arith, taken w k, length-append (take z.steps bs) (r.byte ∷ []))

  -- So the route is not yet written.
  pub steps-below : z.steps < w.best.steps
  steps-below = omega (arith, taken', trail-few a (proper w) l w.best w.is-best longer)

  -- The node that will point back.
  abbrev node : ℕ
  node = pointing r.first r.set

  first-last : firsts' (z.steps + 1) ≡ r.first
  first-last = updated-same k.firsts (z.steps + 1) r.first (z.steps + 1) refl

  set_last : sets' (z.steps + 1) ≡ r.set
  set_last = updated-same k.sets (z.steps + 1) r.set (z.steps + 1) refl

  -- It is one of those that cost a step more than the place at hand.
  node-entry : (node < s.nodes) × ((c : ℕ) × (k.costs node ≡ reached (cost c (z.steps + 1))))
  node-entry =
      let low = lowest-marked r.set leads.corner leads.sixteen leads.marked in
      let o =
      trail-entry a (proper w) l w.best w.is-best longer (z.steps + 1) (omega (arith, taken')) (lowest r.set)
      (subst (λ (m : ℕ). Marked m (lowest r.set)) (sym set_last) low) in
      let is : firsts' (z.steps + 1) + lowest r.set ≡ node = ap (λ (v : ℕ). v + lowest r.set) first-last in
      (omega (arith, o.0, is, nodes-are w), (o.1.0, subst (λ (v : ℕ). k.costs v ≡ reached (cost o.1.0 (z.steps + 1))) is o.1.2))

  pub advance-ready : AdvanceReady z r ws
  advance-ready = record {
    there = omega (arith, node-entry.0, words-room w k);
    few = omega (arith, (ready w k).there, w.setting.few);
    sixteen = (ready w k).sixteen;
    short = omega (arith, steps-short w k);
  }

  -- The places before are others.
  before-first : (i : ℕ) → i ≤ z.steps → firsts' i ≡ k.firsts i
  before-first i h = updated-other k.firsts (z.steps + 1) r.first i (omega arith)

  before-set : (i : ℕ) → i ≤ z.steps → sets' i ≡ k.sets i
  before-set i h = updated-other k.sets (z.steps + 1) r.set i (omega arith)

  before-node : (i : ℕ) → i ≤ z.steps → pointing (k.firsts i) (k.sets i) ≡ pointing (firsts' i) (sets' i)
  before-node i h j = pointing (sym (before-first i h) j) (sym (before-set i h) j)

  other-node : (i : ℕ) → i ≤ z.steps → pointing (k.firsts i) (k.sets i) ≢ node
  other-node i h e =
      let m = trail-marked a (proper w) l w.best w.is-best k.trail i (omega (arith, taken w k)) in
      let o = entry_at w k i h (lowest (k.sets i)) (lowest-marked (k.sets i) m.0 (k.sixteen i) m.1) in
      let one = cost-once o.1.2 (ap k.costs e ∙ node-entry.1.1) in
      omega (arith, ap (λ (c : Cost). c.steps) one)

  -- The words with the pointer.
  abbrev ws' : List ℕ
  ws' = set ws (2 * node + 1) (pointer z.first z.set)

  abbrev bs' : List ℕ
  bs' = set bs z.steps r.byte

  abbrev z' : Stand
  z' = record { first = r.first; set = r.set; steps = z.steps + 1; byte = 0 }

  same-charge : (v : ℕ) → charge_at ws' v ≡ charge_at ws v
  same-charge v = get_or-set_other ws (2 * node + 1) (2 * v) (pointer z.first z.set) 0 (omega arith)

  same-steps : (v : ℕ) → v ≢ node → steps_at ws' v ≡ steps_at ws v
  same-steps v o = get_or-set_other ws (2 * node + 1) (2 * v + 1) (pointer z.first z.set) 0 (omega arith)

  new-steps : steps_at ws' node ≡ pointer z.first z.set
  new-steps = get_or-set_same ws (2 * node + 1) (pointer z.first z.set) 0 advance-ready.there

  shown' : (v : ℕ) → Shown firsts' sets' (z.steps + 1) ws' k.costs v
  shown' v = at (ℕ_discrete v node)
    where
      at : Dec (v ≡ node) → Shown firsts' sets' (z.steps + 1) ws' k.costs v
      at (no o) =
          shown-kept (k.shown v) (same-charge v) (same-steps v o) refl (λ i h e. (omega arith, e ∙ before-node i h))
      at (yes o) =
          let entry = ap k.costs o ∙ node-entry.1.1 in
          let x = shown-charge _ (k.shown v) entry in
          points (z.steps + 1) (omega arith) (o ∙ (λ j. pointing (sym first-last j) (sym set_last j))) (rw (same-charge v) x.1)
          (omega (arith, ap (steps_at ws') o, new-steps)) (entry ∙ ap (λ (c : ℕ). reached (cost c (z.steps + 1))) (sym (same-charge v ∙ x.0)))

  pointers' :
      (i : ℕ) → i < z.steps + 1 → steps_at ws' (pointing (firsts' (suc i)) (sets' (suc i))) ≡ pointer (firsts' i) (sets' i)
  pointers' i h = at (ℕ_discrete i z.steps)
    where
      at : Dec (i ≡ z.steps) → steps_at ws' (pointing (firsts' (suc i)) (sets' (suc i))) ≡ pointer (firsts' i) (sets' i)
      at (yes o) =
          let more : suc i ≡ z.steps + 1 = omega arith in
          let there : pointing (firsts' (suc i)) (sets' (suc i)) ≡ node =
          ap (λ (m : ℕ). pointing (firsts' m) (sets' m)) more ∙ (λ j. pointing (first-last j) (set_last j)) in
          let first : firsts' i ≡ z.first = before-first i (omega arith) ∙ ap k.firsts o ∙ k.first-is in
          let mark : sets' i ≡ z.set = before-set i (omega arith) ∙ ap k.sets o ∙ k.set_is in
          ap (steps_at ws') there ∙ new-steps ∙ (λ j. pointer (sym first j) (sym mark j))
      at (no o) =
          let less : i < z.steps = omega arith in
          ap (steps_at ws') (sym (before-node (suc i) (omega arith))) ∙ same-steps _ (other-node (suc i) (omega arith)) ∙ k.pointers i less
          ∙ (λ j. pointer (sym (before-first i (omega arith)) j) (sym (before-set i (omega arith)) j))

  bytes' : (i : ℕ) → i < z.steps + 1 → get_or bs' i 0 < 66
  bytes' i h = at (ℕ_discrete i z.steps)
    where
      at : Dec (i ≡ z.steps) → get_or bs' i 0 < 66
      at (yes o) =
          rw (o, get_or-set_same bs z.steps r.byte 0 (omega (arith, steps-below, k.sized, w.room))) few
      at (no o) = rw (get_or-set_other bs z.steps i r.byte 0 o) (k.bytes_below i (omega arith))

  advance-here : Walking w ws' bs' z'
  advance-here =
      let there : z.steps < length bs = omega (arith, steps-below, k.sized, w.room) in
      let front : take z.steps bs ++ r.byte ∷ [] ≡ take (z.steps + 1) bs' =
      sym (ap (λ (n : ℕ). take n bs') (add-one z.steps) ∙ take-suc-set bs z.steps r.byte there) in
      record {
        costs = k.costs;
        firsts = firsts';
        sets = sets';
        trail = subst (λ (x : List ℕ). Trail a l k.costs x 0 firsts' (marks sets')) front longer;
        shown = shown';
        pointers = pointers';
        sixteen = updated-all k.sets (z.steps + 1) r.set (λ (m : ℕ). m < 16) leads.sixteen k.sixteen;
        first-is = first-last;
        set_is = set_last;
        within = omega (arith, steps-below);
        below = omega arith;
        bytes_below = bytes';
        bytes = drop-set-lt w.best.steps bs z.steps r.byte steps-below ∙ k.bytes;
        sized = length-set bs z.steps r.byte ∙ k.sized;
        words = record {
          rest =
              drop-set-lt (2 * node_count a) ws (2 * node + 1) (pointer z.first z.set)
              (omega (arith, node-entry.0, w.setting.is-space.nodes-are))
              ∙ k.words.rest;
          kept = length-set ws (2 * node + 1) (pointer z.first z.set) ∙ k.words.kept;
        };
      }

  -- The step was taken.
  module _ (vs : List ℕ) (y : Stand) (f : Advanced z r ws vs y) where
    pub walking-advances : Walking w vs (set bs z.steps r.byte) y
    walking-advances =
        subst₂ (λ (v : List ℕ) (x : Stand). Walking w v (set bs z.steps r.byte) x) (sym f.words) (sym f.stand) advance-here

    -- One turn less is to come.
    pub fewer-advance : turns s.nodes (length bs₀) vs y.steps < turns s.nodes (length bs₀) ws z.steps
    fewer-advance =
        subst₂ (λ (v : List ℕ) (x : Stand). turns s.nodes (length bs₀) v x.steps < turns s.nodes (length bs₀) ws z.steps)
        (sym f.words) (sym f.stand)
        (turns-advance s.nodes (length bs₀) ws ws' (λ v e. same-charge v ∙ e) z.steps (omega (arith, steps-below, w.room)))
