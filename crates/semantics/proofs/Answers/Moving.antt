-- The edges of moves in the corner graph: an edge from a corner of a place with the byte of a move is there exactly if the move's tests pass,
-- and it leads to the corner to which the move's resets take that corner. If the prices of a region are the indices of its corners, that corner
-- is also the last one whose price after the resets is at most the index.
-- Assumes nothing.
use Rattle.std.specs.Prelude.{◌≡◌, Bool, true, false, cond, ◌&&◌, ℕ, pred, ◌+◌, ◌-◌, ◌<◌, ◌≤◌, ltb, length, get_or}
use Rattle.std.proofs.Math.Path.{refl}
use Rattle.std.proofs.Common.{ap, ◌∙◌, sym, subst, le_refl, le_trans, arith, lt-ltb, ltb-true, ltb-false}
use mathlib.Core.List.Memᴰ
use mathlib.Core.List.{List, [], ◌∷◌, Memᴰ}
use Rattle.std.proofs.Math.Nat.{pred-le, pred-le-pred}
use Rattle.std.proofs.Math.Decide.{dec_lt}
use Rattle.semantics.specs.Automata.Proper.{Proper}
use Rattle.semantics.specs.Automaton.{Automaton, mode_at, move_at}
use Rattle.semantics.specs.Region.{PricedRegion, top, alone, reset, reset_all, charge, meets_all}
use Rattle.semantics.specs.Graph.Path.{Edge, Leaves}
use Rattle.semantics.specs.Nodes.Node.{node_number}
use Rattle.semantics.specs.Chain.{Place}
use Rattle.semantics.specs.Corners.Edges.{Edge as CornerEdge, reset_corner, reset_all_corner, edges}
use Rattle.semantics.specs.Graph.CornerGraph.{number_of, numbered, place_edges, corner_graph}
use Rattle.semantics.specs.Run.{among}
use Rattle.semantics.specs.Corners.Lists.{mem-get_or}
use Rattle.semantics.specs.Corners.Rising.{number-index}
use Rattle.semantics.specs.Bounds.Prices.{price}
use Rattle.semantics.proofs.Bounds.Steps.{moved_by, Stepped, leaves, arrives, lingers, idles, moves, step-view, view-step}
use Rattle.semantics.proofs.Bounds.Shapes.{shape-charge, shape-meets_all}
use Rattle.semantics.proofs.Bounds.Reset.{ResetTo}
use Rattle.semantics.proofs.Bounds.Moved.{reset-well-formed, moved-to}
use Rattle.semantics.specs.Answers.Places.{IsPlace, corner-top}
use Rattle.semantics.proofs.Answers.Places.{moved-cell}
use Rattle.semantics.proofs.Answers.Graph.{step-listed, listed-step, graph-edges}

-- The corners of a place have numbers in a row.
pub number-row :
    (a : Automaton) (p : Place) → IsPlace a p → (j : ℕ) → j ≤ top p.region → number_of a p j ≡ number_of a p 0 + j
unfolding node_number
number-row a p h j b =
    let i = number-index p.region h.well-formed j ((corner-top p.region h.well-formed j).1 b) in
    omega (arith, rw h.cell.sized at i)

-- Where the move e leads from a place, before its price.
abbrev pub moved_to : Automaton → ℕ → Place → Place
moved_to a e p = record { mode = (move_at a e).target; region = reset_all (move_at a e).resets p.region }

-- An edge of a move from corner j of a place.
pub record MoveEdge (a : Automaton) (p : Place) (j : ℕ) (x : Edge) : Type 0 where
  pub there : x.label < length a.moves
  pub source : (move_at a x.label).source ≡ p.mode
  pub guard : meets_all (move_at a x.label).conditions p.region ≡ true
  pub invariant : meets_all (mode_at a (move_at a x.label).target).conditions (moved_to a x.label p).region ≡ true
  pub weighs : x.weight ≡ (move_at a x.label).price
  pub leads : x.to ≡ number_of a (moved_to a x.label p) (reset_all_corner (move_at a x.label).resets p.region j)

module _ (a : Automaton) (p : Place) where
  -- Where the step of a move leads.
  abbrev charged_to : ℕ → Place
  charged_to e = record { mode = (move_at a e).target; region = moved_by a e p.region }

  -- The price of the move changes no test and no number.
  charged-meets :
      (e : ℕ)
      → meets_all (mode_at a (move_at a e).target).conditions (moved_to a e p).region
      ≡ meets_all (mode_at a (move_at a e).target).conditions (moved_by a e p.region)
  charged-meets e = shape-meets_all _ _ (shape-charge (move_at a e).price (moved_to a e p).region) (mode_at a (move_at a e).target).conditions

  charged-number : (e i : ℕ) → number_of a (charged_to e) i ≡ number_of a (moved_to a e p) i
  unfolding charge
  charged-number e i = refl

  module _ (j : ℕ) where
    -- The only corner edge of a move.
    abbrev pub move_corner : ℕ → CornerEdge
    move_corner e = record { corner = reset_all_corner (move_at a e).resets p.region j; weight = (move_at a e).price }

    pub move-corner : (e : ℕ) → e < 64 → (d : CornerEdge) → Memᴰ d (edges a e p j) → d ≡ move_corner e
    unfolding edges
    move-corner e b d m = Memᴰ.eq_of_singleton (rw (lt-ltb e 64 b) at m)

    pub move-listed : (e : ℕ) → e < 64 → Memᴰ (move_corner e) (edges a e p j)
    unfolding edges
    move-listed e b = rw (lt-ltb e 64 b) (Memᴰ.head refl)

    -- The edge of an allowed step with the byte of a move.
    stepped-move :
        {byte : ℕ} {p' : Place} → Stepped a p byte p' → byte < 64 → (d : CornerEdge) → Memᴰ d (edges a byte p j)
        → MoveEdge a p j (numbered a byte p' d)
    stepped-move (leaves z t) l d m = absurd (omega arith)
    stepped-move (arrives z t) l d m = absurd (omega arith)
    stepped-move (lingers z) l d m = absurd (omega arith)
    stepped-move (idles z) l d m = absurd (omega arith)
    stepped-move (moves e b i o g t) l d m =
        let c = move-corner e b d m in
        record {
          there = i;
          source = o;
          guard = g;
          invariant = charged-meets e ∙ t;
          weighs = ap (λ (k : CornerEdge). k.weight) c;
          leads = ap (λ (k : CornerEdge). number_of a (charged_to e) k.corner) c ∙ charged-number e (move_corner e).corner;
        }

    -- And back: the step of the edge is allowed, and the edge is the one of its only corner edge.
    move-stepped : (x : Edge) → x.label < 64 → MoveEdge a p j x → Stepped a p x.label (charged_to x.label)
    move-stepped x l m = moves x.label l m.there m.source m.guard (sym (charged-meets x.label) ∙ m.invariant)

    move-numbered : (x : Edge) → MoveEdge a p j x → numbered a x.label (charged_to x.label) (move_corner x.label) ≡ x
    move-numbered x m =
        let to = charged-number x.label (move_corner x.label).corner ∙ sym m.leads in
        λ i. record { label = x.label; weight = sym m.weighs i; to = to i }

module _ (a : Automaton) (l : ℕ) (p : Place) (h : IsPlace a p) (j : ℕ) (b : j ≤ top p.region) where
  pub edge-move : (x : Edge) → Leaves (corner_graph a l) (number_of a p j) x → x.label < 64 → MoveEdge a p j x
  edge-move x m s =
      let d = listed-step a p j x (rw (graph-edges a l p h j ((corner-top p.region h.well-formed j).1 b)) at m) in
      subst (MoveEdge a p j) (sym d.is) (stepped-move a p j (step-view a p d.next x.label d.step) s d.edge d.listed)

  pub move-edge : (x : Edge) → x.label < 64 → MoveEdge a p j x → Leaves (corner_graph a l) (number_of a p j) x
  move-edge x s m =
      let e = x.label in
      let f = view-step a p (move-stepped a p j x s m) in
      rw (graph-edges a l p h j ((corner-top p.region h.well-formed j).1 b))
      (subst (λ (k : Edge). Memᴰ k (place_edges a p j)) (move-numbered a p j x m)
      (step-listed a p j e (charged_to a p e) f (move_corner a p j e) (move-listed a p j e s)))

-- Resets take no corner to a higher one, and keep the order of corners.
reset-falls : (x : ℕ) (r : PricedRegion) (j : ℕ) → reset_corner x r j ≤ j
reset-falls x r j = go (alone x r.group && ltb (top r - get_or r.group x 0) j)
  where
    go : (b : Bool) → cond b (pred j) j ≤ j
    go true = pred-le j
    go false = le_refl j

reset-monotone : (x : ℕ) (r : PricedRegion) (i j : ℕ) → i ≤ j → reset_corner x r i ≤ reset_corner x r j
reset-monotone x r i j h = go (alone x r.group) (ltb k i) refl (ltb k j) refl
  where
    k : ℕ
    k = top r - get_or r.group x 0

    go : (a b : Bool) → ltb k i ≡ b → (c : Bool) → ltb k j ≡ c → cond (a && b) (pred i) i ≤ cond (a && c) (pred j) j
    go false b e c f = h
    go true true e true f = pred-le-pred h
    go true true e false f = le_trans (pred-le i) h
    go true false e true f = let q : i ≤ pred j = omega (arith, ltb-false k i e, ltb-true k j f) in q
    go true false e false f = h

resets-fall : (xs : List ℕ) (r : PricedRegion) (j : ℕ) → reset_all_corner xs r j ≤ j
unfolding reset_all_corner
resets-fall [] r j = omega arith
resets-fall (x ∷ xs) r j = omega (arith, resets-fall xs (reset x r) (reset_corner x r j), reset-falls x r j)

reset_all_corner-monotone :
    (xs : List ℕ) (r : PricedRegion) (i j : ℕ) → i ≤ j → reset_all_corner xs r i ≤ reset_all_corner xs r j
unfolding reset_all_corner
reset_all_corner-monotone [] r i j h = h
reset_all_corner-monotone (x ∷ xs) r i j h =
    reset_all_corner-monotone xs (reset x r) (reset_corner x r i) (reset_corner x r j) (reset-monotone x r i j h)

module _ (a : Automaton) (ok : Proper a) (e : ℕ) (there : e < length a.moves) (p : Place) (h : IsPlace a p) where
  -- The place after the resets is a place again.
  pub moved-place : IsPlace a (moved_to a e p)
  unfolding charge
  moved-place = record {
    well-formed = reset-well-formed a ok e p.region h.well-formed h.cell.sized;
    cell = moved-cell a ok e p.region h.well-formed h.cell;
    in-modes = ok.target-there (move_at a e) (mem-get_or a.moves e _ there);
  }

  -- If the prices of a region are the indices of its corners:
  module _ (indexed : (j : ℕ) → j ≤ top p.region → price p.region j ≡ j) where
    abbrev corner : ℕ → ℕ
    corner j = reset_all_corner (move_at a e).resets p.region j

    abbrev after : ℕ → ℕ
    after i = price (moved_to a e p).region i

    to : ResetTo (λ x. among x (move_at a e).resets) p.region (moved_to a e p).region (reset_all_corner (move_at a e).resets p.region)
    to = moved-to a ok e p.region h.well-formed h.cell.sized

    -- The last price after the resets that is at most j stands at the corner to which corner j goes.
    pub last-price :
        (j i : ℕ) → j ≤ top p.region → i ≤ top (moved_to a e p).region → price (moved_to a e p).region i ≤ j
        → ((k : ℕ) → i < k → k ≤ top (moved_to a e p).region → j < price (moved_to a e p).region k)
        → i ≡ reset_all_corner (move_at a e).resets p.region j
    last-price j i b c d last = go (dec_lt i (corner j)) (dec_lt (corner j) i)
      where
        go : Dec (i < corner j) → Dec (corner j < i) → i ≡ corner j
        go (yes l) g = absurd (omega (arith, last (corner j) l (to.there j b), to.least j b, indexed j b))
        go (no l) (yes g) =
            let o = to.source i c in
            let f : o.from ≤ j = omega (arith, o.same, indexed o.from o.there) in
            absurd (omega (arith, o.becomes, reset_all_corner-monotone (move_at a e).resets p.region o.from j f))
        go (no l) (no g) = omega arith

    -- The first price is 0.
    pub first-price : price (moved_to a e p).region 0 ≡ 0
    first-price =
        let z : corner 0 ≡ 0 = omega (arith, resets-fall (move_at a e).resets p.region 0) in
        omega (arith, to.least 0 (omega arith), indexed 0 (omega arith), ap after z)
