-- The walk takes a step back where none leads on: the marked corners of the place are left for good, and the walk stands at the one that the pointer
-- says.
-- Assumes nothing.
use mathlib.Core.Path.{◌≡◌, sym, ap, subst, subst₂, ◌∙◌}
use mathlib.Core.Bool.{cond}
use mathlib.Core.Logic.{◌≢◌, ◌⊎◌, inl, inr}
use mathlib.Core.List.{List, [], ◌∷◌, ◌++◌}
use Prim.Native.Nat.{ℕ, suc, ◌+◌, ◌-◌, ◌/◌, ◌%◌, ◌≤◌, ◌<◌}
use native.Mathlib.Decide.{ℕ_discrete}
use native.Mathlib.Omega.{arith}
use borrow.Author.Tests.{eq-eqb, ne_eqb}
use lib.Dec.{eqb}
use Rattle.std.specs.Prelude.{None}
use lib.ListN.{length, get_or, take}
use lib.Seq.{take-suc}
use Rattle.semantics.specs.Automaton.{Automaton}
use Rattle.semantics.specs.NodeCount.{node_count}
use Rattle.semantics.specs.Graph.Path.{Entry, unreached, infinity, charge_at, steps_at}
use Rattle.semantics.proofs.Answers.Marks.{LeavesMarked}
use Rattle.semantics.proofs.Answers.Trail.{Trail, trail-marked, trail-deep, trail-back}
use Rattle.table.specs.Held.{automaton_of}
use Rattle.space.specs.declared.Space.{Space}
use Rattle.steps.specs.declared.Stand.{Stand}
use Rattle.steps.specs.Steps.{Marked, stand_place, NextStep}
use Rattle.route.specs.Walk.{WalkReady, lowest, pointer, pointing, PruneRoom, BacktrackReady, Backtracked}
use Rattle.route.proofs.MarkedSets.{marked-few, lowest-marked}
use Rattle.route.proofs.Live.{turns, turns-backtrack}
use Rattle.route.proofs.Trailing.{marks, Shown, gone, Walking, shown-charge, shown-gone, shown-kept}
use Rattle.route.proofs.Walking.{proper, taken, words-room, entry_at, entry_here, firsts-here, sets-here, stand-place, first-there, ready, away, tried}

-- What a pointer says.
pointer-first : (first set : ℕ) → first < 65536 → pointer first set % 65536 ≡ first
pointer-first first set h = omega arith

pointer-set : (first set : ℕ) → first < 65536 → set < 16 → pointer first set / 65536 % 16 ≡ set
pointer-set first set h b = omega arith

module _
    {t rs : List ℕ} {s : Space} {ws₀ bs₀ : List ℕ} (w : WalkReady t rs s ws₀ bs₀) {ws bs : List ℕ} {z : Stand} (k : Walking w ws bs z)
    (step : NextStep t s z ws None)
    (far : z.first / s.block ≢ (automaton_of t).goal) where
  abbrev a : Automaton
  a = automaton_of t

  abbrev l : ℕ
  l = (automaton_of t).goal

  all-tried : Trail a l k.costs (take z.steps bs) 66 k.firsts (marks k.sets)
  all-tried = tried w k None step

  -- There is a step to take back, and its byte stands in the route.
  pub steps-some : 0 < z.steps
  steps-some =
      omega (
        arith,
        taken w k,
        trail-deep a (proper w) l w.best w.is-best all-tried (stand_place t z) (stand-place w k) (first-there w k) (away w k far),
      )

  pub byte-there : z.steps - 1 < length bs
  byte-there = omega (arith, steps-some, k.within, k.sized, w.room)

  abbrev byte : ℕ
  byte = get_or bs (z.steps - 1) 0

  before_last : suc (z.steps - 1) ≡ z.steps
  before_last = omega (arith, steps-some)

  last_byte : take z.steps bs ≡ take (z.steps - 1) bs ++ byte ∷ []
  last_byte = ap (λ (n : ℕ). take n bs) (sym before_last) ∙ take-suc bs (z.steps - 1) 0 byte-there

  -- Some corner of the place is marked.
  marked-here : (j : ℕ) × Marked z.set j
  marked-here =
      let m = trail-marked a (proper w) l w.best w.is-best k.trail z.steps (omega (arith, taken w k)) in
      (m.0, subst (λ (n : ℕ). Marked n m.0) k.set_is m.1)

  lowest-here : Marked z.set (lowest z.set)
  lowest-here = lowest-marked z.set marked-here.0 (ready w k).sixteen marked-here.1

  prune-room : PruneRoom z.first z.set ws
  prune-room j m = omega (arith, (entry_here w k j m).0, words-room w k)

  pub backtrack-ready : BacktrackReady z ws
  backtrack-ready = record {
    there = omega (arith, (entry_here w k (lowest z.set) lowest-here).0, words-room w k);
    room = prune-room;
    deep = steps-some;
  }

  -- The pointer says the place before.
  abbrev m : ℕ
  m = z.steps - 1

  pointer-here : steps_at ws (pointing z.first z.set) ≡ pointer (k.firsts m) (k.sets m)
  pointer-here =
      let first : k.firsts (suc m) ≡ z.first = ap k.firsts before_last ∙ k.first-is in
      let mark : k.sets (suc m) ≡ z.set = ap k.sets before_last ∙ k.set_is in
      ap (steps_at ws) (λ j. pointing (sym first j) (sym mark j)) ∙ k.pointers m (omega (arith, steps-some))

  first-few : k.firsts m < 65536
  first-few =
      let c = trail-marked a (proper w) l w.best w.is-best k.trail m (omega (arith, taken w k)) in
      omega (arith, (entry_at w k m (omega arith) c.0 c.1).0, w.setting.few)

  -- The step was taken back.
  module _ (vs : List ℕ) (y : Stand) (f : Backtracked z byte ws vs y) where
    -- The table without the nodes that were left.
    abbrev costs' : ℕ → Entry
    costs' v = cond (eqb (charge_at vs v) infinity) unreached (k.costs v)

    costs-gone : (v : ℕ) → charge_at vs v ≡ infinity → costs' v ≡ unreached
    costs-gone v e = rw (eq-eqb (charge_at vs v) infinity e)

    costs-kept : (v : ℕ) → charge_at vs v ≢ infinity → costs' v ≡ k.costs v
    costs-kept v e = rw (ne_eqb (charge_at vs v) infinity e)

    leaves-here : LeavesMarked k.costs costs' z.first (Marked z.set)
    leaves-here v = at (ℕ_discrete (charge_at vs v) infinity) (f.words.only v)
      where
        at :
            Dec (charge_at vs v ≡ infinity)
            → (charge_at vs v ≡ charge_at ws v) ⊎ ((charge_at vs v ≡ infinity) × ((j : ℕ) × Marked z.set j × (v ≡ z.first + j)))
            → (costs' v ≡ k.costs v) ⊎ ((costs' v ≡ unreached) × ((j : ℕ) × Marked z.set j × (v ≡ z.first + j)))
        at (no e) x = inl (costs-kept v e)
        at (yes e) (inl x) = inl (costs-gone v e ∙ sym (shown-gone (k.shown v) (sym x ∙ e)))
        at (yes e) (inr x) = inr (costs-gone v e, x.1)

    shorter : Trail a l costs' (take m bs) (suc byte) k.firsts (marks k.sets)
    shorter =
        trail-back a (proper w) l w.best w.is-best all-tried (stand_place t z) (stand-place w k) (first-there w k) (away w k far)
        (take m bs) byte costs' last_byte
        (subst₂ (λ (v n : ℕ). LeavesMarked k.costs costs' v (Marked n)) (sym (firsts-here w k)) (sym (sets-here w k)) leaves-here)

    -- The pointer of the place that was left is gone.
    shown' : (v : ℕ) → Shown k.firsts k.sets m vs costs' v
    shown' v = at (ℕ_discrete (charge_at vs v) infinity) (f.words.only v)
      where
        at :
            Dec (charge_at vs v ≡ infinity)
            → (charge_at vs v ≡ charge_at ws v) ⊎ ((charge_at vs v ≡ infinity) × ((j : ℕ) × Marked z.set j × (v ≡ z.first + j)))
            → Shown k.firsts k.sets m vs costs' v
        at (yes e) x = gone e (costs-gone v e)
        at (no e) (inr x) = absurd (e x.0)
        at (no e) (inl x) =
            shown-kept (k.shown v) x (f.words.steps v) (costs-kept v e) (λ i h o. (still i h o (ℕ_discrete i z.steps), o))
          where
            still : (i : ℕ) → i ≤ z.steps → v ≡ pointing (k.firsts i) (k.sets i) → Dec (i ≡ z.steps) → i ≤ m
            still i h o (no q) = omega arith
            still i h o (yes q) =
                let first : k.firsts i ≡ z.first = ap k.firsts q ∙ k.first-is in
                let mark : k.sets i ≡ z.set = ap k.sets q ∙ k.set_is in
                let is : v ≡ pointing z.first z.set = o ∙ (λ j. pointing (first j) (mark j)) in
                let low = marked-few z.set (lowest z.set) (ready w k).sixteen lowest-here in
                absurd (e (ap (charge_at vs) is ∙ f.words.gone (lowest z.set) low lowest-here))

    steps-backtrack : y.steps ≡ m
    steps-backtrack = f.steps-are

    pub walking-backtracks : Walking w vs bs y
    walking-backtracks = record {
      costs = costs';
      firsts = k.firsts;
      sets = k.sets;
      trail =
          let next : suc byte ≡ y.byte = omega (arith, f.byte-is) in
          subst₂ (λ (n b : ℕ). Trail a l costs' (take n bs) b k.firsts (marks k.sets)) (sym steps-backtrack) next shorter;
      shown = λ v. subst (λ (n : ℕ). Shown k.firsts k.sets n vs costs' v) (sym steps-backtrack) (shown' v);
      pointers = λ i h. f.words.steps _ ∙ k.pointers i (omega (arith, steps-backtrack));
      sixteen = k.sixteen;
      first-is = ap k.firsts steps-backtrack ∙ sym (f.first-is ∙ ap (λ (x : ℕ). x % 65536) pointer-here ∙ pointer-first _ (k.sets m) first-few);
      set_is =
          ap k.sets steps-backtrack
          ∙ sym (f.set_is ∙ ap (λ (x : ℕ). x / 65536 % 16) pointer-here ∙ pointer-set (k.firsts m) _ first-few (k.sixteen m));
      within = omega (arith, steps-backtrack, k.within);
      below = omega (arith, f.byte-is, k.bytes_below m (omega (arith, steps-some)));
      bytes_below = λ i h. k.bytes_below i (omega (arith, steps-backtrack));
      bytes = k.bytes;
      sized = k.sized;
      words = record {
        rest =
            f.words.rest (node_count a) (λ j x. omega (arith, (entry_here w k j x).0, w.setting.is-space.nodes-are)) ∙ k.words.rest;
        kept = f.words.kept ∙ k.words.kept;
      };
    }

    -- One turn less is to come: a marked corner was left.
    pub fewer-backtrack : turns s.nodes (length bs₀) vs y.steps < turns s.nodes (length bs₀) ws z.steps
    fewer-backtrack =
        let j = marked-here.0 in
        let o = entry_here w k j marked-here.1 in
        let low = marked-few z.set j (ready w k).sixteen marked-here.1 in
        subst (λ (n : ℕ). turns s.nodes (length bs₀) vs n < turns s.nodes (length bs₀) ws z.steps) (sym steps-backtrack)
        (turns-backtrack s.nodes (length bs₀) ws vs stays z.steps (z.first + j) o.0 (shown-charge _ (k.shown (z.first + j)) o.1.2).1
        (f.words.gone j low marked-here.1))
      where
        stays : (v : ℕ) → charge_at ws v ≡ infinity → charge_at vs v ≡ infinity
        stays v e = at (f.words.only v)
          where
            at :
                (charge_at vs v ≡ charge_at ws v) ⊎ ((charge_at vs v ≡ infinity) × ((j : ℕ) × Marked z.set j × (v ≡ z.first + j)))
                → charge_at vs v ≡ infinity
            at (inl x) = x ∙ e
            at (inr x) = x.0
