-- The points of corners: at corner j of a region each timer is on a whole minute, its whole part or, where its group is up (Bounds.Sides), one
-- more. How each step takes the point of a corner to that of another. Such a point need not be in the region, but a condition that is neither <
-- nor > holds at it if the region meets it, and so do the ceilings.
-- Assumes nothing.
use Rattle.std.specs.Prelude.{◌≡◌, refl, Bool, true, false, cond, ℕ, suc, ◌+◌, ◌*◌, ◌<◌, ◌≤◌, length, get_or}
use Rattle.std.proofs.Common.{ap, ◌∙◌, sym, true≢false, ⊎_elim, arith}
use mathlib.Core.List.Memᴰ
use mathlib.Core.List.{List, [], ◌∷◌, Memᴰ}
use Rattle.std.proofs.Math.Decide.{dec_le}
use Rattle.semantics.specs.Condition.{Comparison, less, at_most, equal, at_least, greater, Compares, Condition}
use Rattle.semantics.specs.Automata.Proper.{OnTimers, Proper}
use Rattle.semantics.specs.Automaton.{Mode, Move, Automaton, timers, mode_at, move_at}
use Rattle.semantics.specs.Region.{PricedRegion, WellFormed, count, top, start, leave, arrive, reset_all, meets_all}
use Rattle.semantics.specs.Run.{among, zeroed, AllHold, Stays}
use Rattle.semantics.specs.Closed.{is_closed, all_closed, modes_closed, moves_closed, closed_table}
use Rattle.semantics.specs.Corners.Edges.{reset_all_corner, SameShape}
use Rattle.semantics.specs.Corners.Lists.{mem-get_or}
use Rattle.semantics.specs.Regions.Compare.{Order, below, even, above, order, and-true-iff}
use Rattle.semantics.specs.Regions.Lengths.{prices-top, leave-top, arrive-timers}
use Rattle.semantics.proofs.Regions.Lengths.{arrive-top}
use Rattle.semantics.specs.Regions.Lists.{replicate-zero}
use Rattle.semantics.proofs.Regions.Meets.{scale-lt}
use Rattle.semantics.proofs.Regions.Points.{point_of}
use Rattle.semantics.specs.Bounds.Entries.{raised, leave-group, Arrived, on, off, arrived}
use Rattle.semantics.proofs.Bounds.Inside.{inside-own}
use Rattle.semantics.proofs.Bounds.Reset.{ResetTo}
use Rattle.semantics.proofs.Bounds.Stays.{Admits, guard-at, stays_at}
use Rattle.semantics.proofs.Bounds.Steps.{moved_by}
use Rattle.semantics.proofs.Bounds.Shapes.{shape-top, shape-charge}
use Rattle.semantics.proofs.Bounds.Moved.{reset-well-formed, moved-to}

-- The values v, in minutes, are those of corner j of the region r.
pub record AtCorner (r : PricedRegion) (j : ℕ) (v : ℕ → ℕ) : Type 0 where
  pub down : (x : ℕ) → x < length r.whole → get_or r.group x 0 + j ≤ top r → v x ≡ get_or r.whole x 0
  pub up : (x : ℕ) → x < length r.whole → top r < get_or r.group x 0 + j → v x ≡ suc (get_or r.whole x 0)

-- A timer with whole part w in group g is rounded to n minutes: down, or, not being in r0, up.
data Rounded (w g n : ℕ) : Type 0 where
  downward : n ≡ w → Rounded w g n
  upward : 0 < g → n ≡ suc w → Rounded w g n

-- Prices do not matter.
pub corner-shape : (r s : PricedRegion) (j : ℕ) (v : ℕ → ℕ) → SameShape r s → AtCorner r j v → AtCorner s j v
corner-shape r s j v e p = record {
  down = λ x h l. rw (← e.whole) (p.down x (rw e.whole h) (rw (e.group, shape-top r s e) l));
  up = λ x h l. rw (← e.whole) (p.up x (rw e.whole h) (rw (e.group, shape-top r s e) l));
}

-- The start: every timer is at 0.
pub corner-start : (n : ℕ) → AtCorner (start n) 0 (λ x. 0)
unfolding start
corner-start n = record {
  down = λ x h l. sym (replicate-zero n x);
  up = λ x h l. absurd (omega (arith, replicate-zero n x));
}

module _ (r : PricedRegion) (w : WellFormed r) where
  group-in : (x : ℕ) → get_or r.group x 0 ≤ top r
  group-in x = omega (arith, w.below x, prices-top r w.priced)

  module _ (j : ℕ) (v : ℕ → ℕ) (p : AtCorner r j v) where
    -- Delay out of r0: every corner keeps its point.
    pub corner-leave : (rate : ℕ) → AtCorner (leave rate r) j v
    unfolding leave
    corner-leave rate = record {
      down = λ x h l. p.down x h (omega (arith, leave-group r w x h rate, leave-top r w rate));
      up = λ x h l. p.up x h (omega (arith, leave-group r w x h rate, leave-top r w rate));
    }

  module _ (v : ℕ → ℕ) (p : AtCorner r 0 v) where
    -- At corner 0 every timer is down.
    all-down : (x : ℕ) → x < length r.whole → v x ≡ get_or r.whole x 0
    all-down x h = p.down x h (omega (arith, group-in x))

    -- A minute after it is the last corner of the delay out of r0,
    pub corner-jump : (rate : ℕ) → AtCorner (leave rate r) (suc (top r)) (λ x. v x + 1)
    unfolding leave
    corner-jump rate = record {
      down = λ x h l. absurd (omega (arith, leave-group r w x h rate, leave-top r w rate));
      up = λ x h l. omega (arith, all-down x h);
    }

    -- and where r0 is empty the last corner of the region itself.
    pub corner-linger : count 0 r.group ≡ 0 → AtCorner r (top r) (λ x. v x + 1)
    corner-linger z = record {
      down = λ x h l. absurd (omega (arith, raised r w x h z));
      up = λ x h l. omega (arith, all-down x h);
    }

  -- Delay where r0 is empty: the corners after the first keep their points.
  pub corner-arrive : count 0 r.group ≡ 0 → (j : ℕ) (v : ℕ → ℕ) → suc j ≤ top r → AtCorner r (suc j) v → AtCorner (arrive r) j v
  corner-arrive z j v b p = record {
    down = λ x h l. down x (there x h) l (arrived r w x (there x h));
    up = λ x h l. up x (there x h) l (arrived r w x (there x h));
  }
    where
      there : (x : ℕ) → x < length (arrive r).whole → x < length r.whole
      there x h = omega (arith, (arrive-timers r).whole)

      down :
          (x : ℕ) → x < length r.whole → get_or (arrive r).group x 0 + j ≤ top (arrive r) → Arrived r x
          → v x ≡ get_or (arrive r).whole x 0
      down x h l (on e g u) = rw u (p.up x h (omega arith))
      down x h l (off n g u) = rw u (p.down x h (omega (arith, arrive-top r w, raised r w x h z)))

      up :
          (x : ℕ) → x < length r.whole → top (arrive r) < get_or (arrive r).group x 0 + j → Arrived r x
          → v x ≡ suc (get_or (arrive r).whole x 0)
      up x h l (on e g u) = absurd (omega (arith, arrive-top r w))
      up x h l (off n g u) = rw u (p.up x h (omega (arith, arrive-top r w)))

  -- No timer of r0 is up at any corner.
  corner-rounded :
      (j : ℕ) (v : ℕ → ℕ) → j ≤ top r → AtCorner r j v → (x : ℕ) → x < length r.whole
      → Rounded (get_or r.whole x 0) (get_or r.group x 0) (v x)
  corner-rounded j v b p x h = go (dec_le (get_or r.group x 0 + j) (top r))
    where
      go : Dec (get_or r.group x 0 + j ≤ top r) → Rounded (get_or r.whole x 0) (get_or r.group x 0) (v x)
      go (yes l) = downward (p.down x h l)
      go (no l) = upward (omega arith) (p.up x h (omega arith))

-- A move: the reset timers come to 0.
module _ (a : Automaton) (ok : Proper a) (e : ℕ) (r : PricedRegion) (w : WellFormed r) (sized : length r.whole ≡ timers a) where
  pub corner-move :
      (j : ℕ) (v : ℕ → ℕ) → j ≤ top r → AtCorner r j v
      → AtCorner (moved_by a e r) (reset_all_corner (move_at a e).resets r j) (zeroed (move_at a e).resets v)
  corner-move j v b p =
      corner-shape s (moved_by a e r) (reset_all_corner (move_at a e).resets r j) (zeroed (move_at a e).resets v) (shape-charge (move_at a e).price s)
      (record {
        down = λ x h l. down x (there x h) l (among x (move_at a e).resets) refl;
        up = λ x h l. up x (there x h) l (among x (move_at a e).resets) refl;
      })
    where
      s : PricedRegion
      s = reset_all (move_at a e).resets r

      to : ResetTo (λ x. among x (move_at a e).resets) r s (reset_all_corner (move_at a e).resets r)
      to = moved-to a ok e r w sized

      there : (x : ℕ) → x < length s.whole → x < length r.whole
      there x h = omega (arith, to.timers)

      in-groups : (x : ℕ) → get_or s.group x 0 ≤ top s
      in-groups x = group-in s (reset-well-formed a ok e r w sized) x

      down :
          (x : ℕ) → x < length r.whole → get_or s.group x 0 + reset_all_corner (move_at a e).resets r j ≤ top s
          → (g : Bool) → among x (move_at a e).resets ≡ g → cond g 0 (v x) ≡ get_or s.whole x 0
      down x h l true g = sym (to.zero-whole x h g)
      down x h l false g =
          let o = to.down (get_or s.group x 0) j (in-groups x) b l in
          p.down x h (omega (arith, to.old-group x h g)) ∙ sym (to.same_whole x h g)

      up :
          (x : ℕ) → x < length r.whole → top s < get_or s.group x 0 + reset_all_corner (move_at a e).resets r j
          → (g : Bool) → among x (move_at a e).resets ≡ g → cond g 0 (v x) ≡ suc (get_or s.whole x 0)
      up x h l true g = absurd (omega (arith, to.zero-group x h g, to.there j b))
      up x h l false g =
          let o = to.up (get_or s.group x 0) j (in-groups x) b l in
          p.up x h (omega (arith, to.old-group x h g)) ∙ ap suc (sym (to.same_whole x h g))

-- What holds of a timer between two minutes holds at both, and what holds on a minute holds there, if the comparison is neither < nor >.
closed-compares :
    (k : Comparison) → is_closed k ≡ true → (q w g n v : ℕ) → g < q → Rounded w g n → Order w v → Compares k (q * w + g) (q * v)
    → Compares k n (1 * v)
closed-compares less c q w g n v b o d h = absurd (true≢false (sym c))
closed-compares at_most c q w g n v b (downward e) (below l) h = omega arith
closed-compares at_most c q w g n v b (upward z e) (below l) h = omega arith
closed-compares at_most c q w g n v b (downward e) (even l) h = omega arith
closed-compares at_most c q w g n v b (upward z e) (even l) h = absurd (omega (arith, ap (λ (u : ℕ). q * u) l))
closed-compares at_most c q w g n v b o (above l) h = absurd (omega (arith, scale-lt q l))
closed-compares equal c q w g n v b o (below l) h = absurd (omega (arith, scale-lt q l))
closed-compares equal c q w g n v b (downward e) (even l) h = omega arith
closed-compares equal c q w g n v b (upward z e) (even l) h = absurd (omega (arith, ap (λ (u : ℕ). q * u) l))
closed-compares equal c q w g n v b o (above l) h = absurd (omega (arith, scale-lt q l))
closed-compares at_least c q w g n v b o (below l) h = absurd (omega (arith, scale-lt q l))
closed-compares at_least c q w g n v b (downward e) (even l) h = omega arith
closed-compares at_least c q w g n v b (upward z e) (even l) h = omega arith
closed-compares at_least c q w g n v b (downward e) (above l) h = omega arith
closed-compares at_least c q w g n v b (upward z e) (above l) h = omega arith
closed-compares greater c q w g n v b o d h = absurd (true≢false (sym c))

-- What a closed table says of each of its conditions.
all_closed_lem : (cs : List Condition) → all_closed cs ≡ true → (c : Condition) → Memᴰ c cs → is_closed c.comparison ≡ true
all_closed_lem [] t c m = absurd (Memᴰ.not-nil m)
all_closed_lem (d ∷ cs) t c m =
    let b = (and-true-iff (is_closed d.comparison) (all_closed cs)).0 t in
    ⊎_elim (λ e. ap (λ (c : Condition). is_closed c.comparison) e ∙ b.0) (all_closed_lem cs b.1 c) (Memᴰ.cases_cons m)

modes-closed : (ms : List Mode) → modes_closed ms ≡ true → (m : Mode) → Memᴰ m ms → all_closed m.conditions ≡ true
modes-closed [] t m i = absurd (Memᴰ.not-nil i)
modes-closed (n ∷ ms) t m i =
    let b = (and-true-iff (all_closed n.conditions) (modes_closed ms)).0 t in
    ⊎_elim (λ e. ap (λ (m : Mode). all_closed m.conditions) e ∙ b.0) (modes-closed ms b.1 m) (Memᴰ.cases_cons i)

moves-closed : (es : List Move) → moves_closed es ≡ true → (e : Move) → Memᴰ e es → all_closed e.conditions ≡ true
moves-closed [] t e i = absurd (Memᴰ.not-nil i)
moves-closed (d ∷ es) t e i =
    let b = (and-true-iff (all_closed d.conditions) (moves_closed es)).0 t in
    ⊎_elim (λ p. ap (λ (e : Move). all_closed e.conditions) p ∙ b.0) (moves-closed es b.1 e) (Memᴰ.cases_cons i)

table-closed : (a : Automaton) → closed_table a ≡ true → (modes_closed a.modes ≡ true) × (moves_closed a.moves ≡ true)
unfolding closed_table
table-closed a t = (and-true-iff (modes_closed a.modes) (moves_closed a.moves)).0 t

-- What the tests of a region say at the point of a corner.
module _ (a : Automaton) (ok : Proper a) (closed : closed_table a ≡ true) (r : PricedRegion) (w : WellFormed r)
    (sized : length r.whole ≡ timers a) (j : ℕ) (v : ℕ → ℕ) (b : j ≤ top r) (p : AtCorner r j v) where
  closed-hold : (cs : List Condition) → all_closed cs ≡ true → OnTimers (timers a) cs → AllHold (suc (top r)) cs (point_of r) → AllHold 1 cs v
  closed-hold cs t there h c m =
      let x = c.timer in
      closed-compares c.comparison (all_closed_lem cs t c m) (suc (top r)) (get_or r.whole x 0) (get_or r.group x 0) (v x) c.value
      (omega (arith, group-in r w x)) (corner-rounded r w j v b p x (rw sized (there c m))) (order (get_or r.whole x 0) c.value) (h c m)

  -- A move's conditions,
  pub corner-guard : (e : ℕ) → e < length a.moves → meets_all (move_at a e).conditions r ≡ true → AllHold 1 (move_at a e).conditions v
  corner-guard e i t =
      let m = mem-get_or a.moves e _ i in
      closed-hold (move_at a e).conditions (moves-closed a.moves (table-closed a closed).1 (move_at a e) m) (ok.guards-on (move_at a e) m)
      ((guard-at a ok r w sized (suc (top r)) (point_of r) _ (inside-own r w) e).0 t)

  -- and a mode's with the ceilings.
  pub corner-stays : (l : ℕ) → l < length a.modes → Admits a l r → Stays a 1 l v
  corner-stays l i t =
      let m = mem-get_or a.modes l _ i in
      let s = (stays_at a ok r w sized (suc (top r)) (point_of r) _ (inside-own r w) l).0 t in (
        closed-hold (mode_at a l).conditions (modes-closed a.modes (table-closed a closed).0 (mode_at a l) m) (ok.invariants-on (mode_at a l) m) s.0,
        λ x h.
            closed-compares at_most refl (suc (top r)) (get_or r.whole x 0) (get_or r.group x 0) (v x) (get_or a.ceilings x 0)
            (omega (arith, group-in r w x)) (corner-rounded r w j v b p x (rw sized h)) (order (get_or r.whole x 0) (get_or a.ceilings x 0)) (s.1 x h),
      )
