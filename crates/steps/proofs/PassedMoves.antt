-- The moves of a walk: those that are passed over lead nowhere, and the others are allowed.
-- Assumes nothing.
use mathlib.Core.Path.{◌≡◌, sym, subst, ◌∙◌}
use mathlib.Core.Bool.{true, false}
use mathlib.Core.List.{List}
use mathlib.Core.Option.{some}
use Prim.Native.Nat.{ℕ, ◌+◌, ◌≤◌, ◌<◌}
use native.Mathlib.Decide.{ℕ_discrete, dec_lt}
use native.Mathlib.Omega.{arith}
use Rattle.std.specs.Prelude.{Option, Some, None}
use Rattle.std.specs.Option.{is_some}
use Rattle.semantics.specs.Automaton.{Automaton, mode_at, move_at}
use Rattle.semantics.specs.Chain.{Place, step}
use Rattle.semantics.specs.Graph.Path.{Entry}
use Rattle.semantics.proofs.Bounds.Steps.{moved_by, moves, view-step}
use Rattle.semantics.proofs.Bounds.Shapes.{shape-charge, shape-meets_all}
use Rattle.semantics.proofs.Answers.Moving.{moved_to, edge-move}
use Rattle.semantics.specs.Answers.Marks.{Led}
use Rattle.table.specs.Meaning.{named_timers}
use Rattle.table.specs.Held.{automaton_of, fields_of, move_fields_at}
use Rattle.rules.specs.Rules.{none, as_move, after_of, IsRules}
use Rattle.rules.specs.Laws.Moves.{some-move}
use Rattle.rules.proofs.Joining.{move-resets}
use Rattle.regions.specs.declared.nodes.NodeRegion.{NodeRegion}
use Rattle.regions.specs.Held.{view}
use Rattle.space.specs.declared.Space.{Space}
use Rattle.steps.specs.declared.Stand.{Stand}
use Rattle.steps.specs.declared.Next.{Next}
use Rattle.space.specs.Space.{place_at}
use Rattle.space.specs.Moves.{Open, OpenMove, OpenFrom, OpenNamed, NextDone}
use Rattle.space.specs.Images.{Images}
use Rattle.steps.specs.Images.{IsImage}
use Rattle.steps.specs.Steps.{Marked}
use Rattle.steps.specs.Leading.{StepReady, Allowed, AlongReady, Silent, TriedOne, Tried, MoveByte}
use Rattle.space.proofs.Settings.{halves_of}
use Rattle.space.proofs.MovesFrom.{after-open}
use Rattle.space.proofs.MoveEdges.{open-edge, edge-open}
use Rattle.steps.proofs.Standing.{stand-corners, silent-here}
use Rattle.steps.proofs.Trying.{no-step, tried-none, tried-found}

-- The bytes from the walk's on and before e lead nowhere.
pub record SilentTo (t : List ℕ) (s : Space) (z : Stand) (ws : List ℕ) (e : ℕ) : Type 0 where
  pub above : z.byte ≤ e
  pub silent : (k : ℕ) → z.byte ≤ k → k < e → Silent t s z ws k

module _ {t : List ℕ} {s : Space} {x : NodeRegion} {z : Stand} {ws : List ℕ} (w : StepReady t s x z ws) {rs : List ℕ} (rules : IsRules t rs)
    {hs : List ℕ} (are : hs ≡ halves_of (view x.region)) where
  abbrev a : Automaton
  a = automaton_of t

  abbrev p : Place
  p = place_at x

  passed : {byte r : ℕ} → OpenFrom t rs hs x.mode byte r → (k : ℕ) → byte ≤ k → k < r → Silent t s z ws k
  passed o k h b = silent-here w k (λ l d tells y i f led. at l d y i led)
    where
      at : (l : ℕ) (d : ℕ → Entry) (y : Place) (i : ℕ) → Led a l d p z.steps (Marked z.set) k y i → ⊥
      at l d y i led =
          let c = w.here.corner in
          let is = led.tight.labelled in
          let e = led.tight.edge in
          let few : e.label < 64 = omega (arith, is, o.move.few) in
          let m = edge-move a l p c.place led.corner (stand-corners w led.corner led.marked) e led.tight.leaves few in
          let opens = edge-open t rs w.ready.setting.is-table rules p c.place led.corner e m in
          o.passed k h b (rw is at m.there) (rw is at m.source) (rw are (rw is at opens))

  -- A move that is not passed over.
  open-allowed : {e : ℕ} → OpenMove t rs hs x.mode e → e < none → Allowed t z e
  open-allowed {e} o h =
      let c = w.here.corner in
      let there = o.there h in
      let opens : Open rs (halves_of (view x.region)) e = rw are at (o.is_open h) in
      let m = open-edge t rs w.ready.setting.is-table rules p c.place 0 e there (o.source h) opens in
      let charged = shape-meets_all _ _ (shape-charge (move_at a e).price (moved_to a e p).region) (mode_at a (move_at a e).target).conditions in
      let f = view-step a p (moves e h there (o.source h) m.guard (sym charged ∙ m.invariant)) in
      let y : Place = record { mode = (move_at a e).target; region = moved_by a e p.region } in
      (there, (y, subst (λ (q : Place). step a e q ≡ some y) w.here.place_is f))

  -- With the image of its reset byte it can be tried.
  pub along-ready :
      {e : ℕ} → OpenMove t rs hs x.mode e → e < none → {byte : ℕ} → byte ≡ (move_fields_at (fields_of t) e).resets → {image : ℕ}
      → IsImage s x (named_timers byte) image → AlongReady t s z ws image e
  along-ready {e} o h {byte} byte-is {image} is = record {
    at = x;
    ready = w;
    allowed = open-allowed o h;
    is = subst (λ (xs : List ℕ). IsImage s x xs image) (move-resets t e byte byte-is) is;
  }

  -- The first of them,
  pub silent-first : {e : ℕ} → OpenFrom t rs hs x.mode z.byte e → SilentTo t s z ws e
  silent-first o = record { above = o.low; silent = passed o }

  -- and the next, after one that leads nowhere.
  pub silent-next :
      {e n : ℕ} {r : Option Next} → SilentTo t s z ws e → TriedOne t s z ws e r → is_some r ≡ false → OpenFrom t rs hs x.mode (e + 1) n → SilentTo t s z ws n
  silent-next {e} {n} {r} to one none o =
      record { above = omega (arith, to.above, o.low); silent = λ k h b. at k h b (dec_lt k e) (ℕ_discrete k e) }
    where
      at : (k : ℕ) → z.byte ≤ k → k < n → Dec (k < e) → Dec (k ≡ e) → Silent t s z ws k
      at k h b (yes l) q = to.silent k h l
      at k h b (no l) (yes q) = rw q (one.silent (no-step none))
      at k h b (no l) (no q) = passed o k (omega arith) b

module _ {t : List ℕ} {s : Space} {z : Stand} {ws : List ℕ} {e : ℕ} (to : SilentTo t s z ws e) where
  -- It leads on,
  pub move-found : e < 64 → {r : Option Next} → TriedOne t s z ws e r → is_some r ≡ true → Tried t s z ws (MoveByte z) r
  move-found h one found = tried-found one found (omega arith) (to.above, h) (λ j m b. to.silent j m.0 b)

  -- or none does.
  pub moves-none : 64 ≤ e → Tried t s z ws (MoveByte z) None
  moves-none h = tried-none (λ k m. to.silent k m.0 (omega arith))

-- What holds at each turn: the moves before the next one lead nowhere, and what is kept of images is right.
pub record Turn (t rs : List ℕ) (s : Space) (x : NodeRegion) (z : Stand) (ws hs : List ℕ) (next : Option ℕ) (images : List ℕ) : Type 0 where
  pub byte : ℕ
  pub named : next ≡ as_move byte
  pub move : OpenMove t rs hs x.mode byte
  pub silent : SilentTo t s z ws byte
  pub images-are : Images (IsImage s x) images

-- Move e is next.
pub record TurnAt (t rs : List ℕ) (s : Space) (x : NodeRegion) (z : Stand) (ws hs : List ℕ) (e : ℕ) : Type 0 where
  pub some : e < none
  pub move : OpenMove t rs hs x.mode e
  pub silent : SilentTo t s z ws e

pub turn-at :
    {t rs : List ℕ} {s : Space} {x : NodeRegion} {z : Stand} {ws hs : List ℕ} {next : Option ℕ} {images : List ℕ}
    → Turn t rs s x z ws hs next images → {e : ℕ} → next ≡ Some e → TurnAt t rs s x z ws hs e
turn-at turn q = let o = some-move turn.named turn.move.few q in record { some = o.1; move = rw o.0 at turn.move; silent = rw o.0 at turn.silent }

-- The next after it.
pub turn-next :
    {t rs : List ℕ} {s : Space} {x : NodeRegion} {z : Stand} {ws hs : List ℕ} {e : ℕ} → TurnAt t rs s x z ws hs e → IsRules t rs
    → {from result : Option ℕ} → from ≡ as_move (after_of rs e) → NextDone rs hs from result → OpenNamed t rs hs x.mode (e + 1) result
turn-next turn rules is done = after-open rules (turn.move.there turn.some) is (turn.move.source turn.some) done
