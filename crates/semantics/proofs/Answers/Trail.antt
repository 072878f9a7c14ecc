-- The walk by sets of corners, whole. A place of it is a node, the first of its corners, and the set of its corners that are marked; both are kept for
-- every place that the chain goes through, since steps are taken back. What is asked of a place is asked of any place that has this first node: steps and
-- edges do not go by prices.
-- Assumes nothing.
use Rattle.std.specs.Prelude.{◌≡◌, ◌↔◌, ◌≢◌, List, [], ◌∷◌, ◌++◌, ℕ, zero, suc, ◌+◌, ◌≤◌, ◌<◌, length, take}
use Rattle.std.proofs.Math.Path.{refl, sym}
use Rattle.std.proofs.Common.{ap, subst, ◌∙◌, arith, length-append, take_all}
use Rattle.std.proofs.Math.Option.{some}
use Rattle.std.proofs.Math.Decide.{dec_lt}
use Rattle.std.proofs.Math.Seq.{take-length, take-append_seam}
use Rattle.std.proofs.lemmas.List.{take-append-le}
use Rattle.semantics.specs.Automata.Proper.{Proper}
use Rattle.semantics.specs.Automaton.{Automaton}
use Rattle.semantics.specs.Order.{Cost, cost}
use Rattle.semantics.specs.Graph.Path.{Entry, reached}
use Rattle.semantics.specs.Graph.Distance.{distance}
use Rattle.semantics.specs.Chain.{Place, step, follow, begin, chain}
use Rattle.semantics.specs.Nodes.Node.{node_of, node_at}
use Rattle.semantics.specs.Answer.{route, answer}
use Rattle.semantics.specs.Corners.Edges.{SamePlace}
use Rattle.semantics.specs.Graph.CornerGraph.{node_place, number_of, start_node, corner_graph}
use Rattle.semantics.specs.Bounds.Prices.{price}
use Rattle.semantics.proofs.Bounds.Reached.{chain-reached}
use Rattle.semantics.proofs.Bounds.Steps.{chain-take}
use Rattle.semantics.specs.Answers.Places.{IsPlace, corner-top}
use Rattle.semantics.proofs.Answers.Places.{reached-place, number-node, node-same, place-alike, number-shape}
use Rattle.semantics.proofs.Answers.Graph.{same-sym, number-alike, step-shape}
use Rattle.semantics.proofs.Answers.Moving.{number-row}
use Rattle.semantics.proofs.Answers.Forward.{corner-inside}
use Rattle.semantics.proofs.Answers.Onward.{step-chain, same_place}
use Rattle.semantics.specs.Answers.Walk.{NearCosts}
use Rattle.semantics.proofs.Answers.Walk.{Stands, OffRoute, Leaves, Walk, walk_begins, stands_from, walk-few, walk-off, walk-further, walk_ends, walk-deep, walk-back}
use Rattle.semantics.specs.Answers.Marks.{Led}
use Rattle.semantics.proofs.Answers.Marks.{Marks, LeavesMarked, marks-stands, marks-leave, marks-kept, begin-marks, marks-next, none-led}
use Rattle.semantics.proofs.Answers.Led.{led-alike}

-- What is known of the place x, to which n steps led: its first node, and marked corners, one at least.
pub record Footing (a : Automaton) (l : ℕ) (d : ℕ → Entry) (x : Place) (n v : ℕ) (S : ℕ → Type 0) : Type 0 where
  pub first : number_of a x 0 ≡ v
  pub marks : Marks a l d x n S
  pub corner : ℕ
  pub marked : S corner

-- The walk has taken the steps ks and tried the bytes below `byte` where it stands; `firsts i` and `sets i` are of the place to which i of its steps led.
pub record Trail (a : Automaton) (l : ℕ) (d : ℕ → Entry) (ks : List ℕ) (byte : ℕ) (firsts : ℕ → ℕ) (sets : ℕ → ℕ → Type 0) : Type 0 where
  pub place : Place
  pub walk : Walk a l d ks place byte
  pub footing : (i : ℕ) (x : Place) → i ≤ length ks → chain a (take i ks) ≡ some x → Footing a l d x i (firsts i) (sets i)

-- The corners of a place are nodes in a row.
footing-row :
    {a : Automaton} {l : ℕ} {d : ℕ → Entry} {x : Place} {n v : ℕ} {S : ℕ → Type 0} → IsPlace a x → Footing a l d x n v S → (j : ℕ) → S j
    → number_of a x j ≡ v + j
footing-row {a} {l} {d} {x} h t j s =
    omega (arith, number-row a x h j ((corner-top x.region h.well-formed j).0 (t.marks.among j s)), t.first)

module _ (a : Automaton) (ok : Proper a) (l : ℕ) (B : Cost) (best : distance (corner_graph a l) (start_node a) ≡ reached B) where
  -- It begins at the start node.
  pub trail-begins :
      (d : ℕ → Entry) → NearCosts (corner_graph a l) (start_node a) d → (firsts : ℕ → ℕ) → firsts 0 ≡ start_node a → (sets : ℕ → ℕ → Type 0)
      → ((j : ℕ) → sets 0 j ↔ (j ≡ 0)) → Trail a l d [] 0 firsts sets
  unfolding chain follow
  trail-begins d near firsts first sets is = record { place = begin a; walk = walk_begins a ok l B best d near; footing = footing }
    where
      here : Footing a l d (begin a) 0 (firsts 0) (sets 0)
      here = record { first = sym first; marks = begin-marks a ok l B best d near (sets 0) is; corner = 0; marked = (is 0).1 refl }

      footing : (i : ℕ) (x : Place) → i ≤ 0 → chain a (take i []) ≡ some x → Footing a l d x i (firsts i) (sets i)
      footing zero x h e = subst (λ (y : Place). Footing a l d y 0 (firsts 0) (sets 0)) (same_place a [] (begin a) refl x e) here
      footing (suc i) x h e = absurd (omega arith)

  module _ {d : ℕ → Entry} {ks : List ℕ} {byte : ℕ} {firsts : ℕ → ℕ} {sets : ℕ → ℕ → Type 0} (t : Trail a l d ks byte firsts sets) where
    -- The steps are at most those of the route.
    pub trail-few : length ks ≤ B.steps
    trail-few = walk-few a ok l B best t.walk

    -- Some corner is marked of each place,
    pub trail-marked : (i : ℕ) → i ≤ length ks → (j : ℕ) × sets i j
    trail-marked i h = let o = chain-take a i ks t.place t.walk.ends in let s = t.footing i o.0 h o.1 in (s.corner, s.marked)

    -- and a marked corner is a node, which by the table is reached in as many steps, at no more than the charge of the route.
    pub trail-entry :
        (i : ℕ) → i ≤ length ks → (j : ℕ) → sets i j
        → (firsts i + j < (corner_graph a l).nodes) × ((c : ℕ) × (c ≤ B.charge) × (d (firsts i + j) ≡ reached (cost c i)))
    trail-entry i h j x =
        let o = chain-take a i ks t.place t.walk.ends in
        let r = chain-reached a ok (take i ks) o.0 o.1 in
        let s = t.footing i o.0 h o.1 in
        let row = footing-row (reached-place a o.0 r) s j x in
        let stood : Stands a d o.0 i = record { corner = j; there = s.marks.among j x; entry = s.marks.stands j x } in (
          rw row at (corner-inside a ok l o.0 j r (s.marks.among j x)),
          (price o.0.region j, (stands_from a ok l B best t.walk o.0 i r stood).1, rw row at (s.marks.stands j x)),
        )

    here_place : IsPlace a t.place
    here_place = reached-place a t.place (chain-reached a ok ks t.place t.walk.ends)

    here : Footing a l d t.place (length ks) (firsts (length ks)) (sets (length ks))
    here = t.footing (length ks) t.place (omega arith) (ap (chain a) (take-length ks) ∙ t.walk.ends)

    -- The place of the node at hand is one that has this first node.
    pub trail-node :
        IsPlace a (node_place (node_at a.ceilings (firsts (length ks))))
        × (number_of a (node_place (node_at a.ceilings (firsts (length ks)))) 0 ≡ firsts (length ks))
    trail-node =
        let x = t.place in
        let inside = here_place.well-formed.priced in
        let y = node_place (node_of x.mode x.region 0) in
        let same = node-same a x here_place 0 inside in
        let e : node_place (node_at a.ceilings (firsts (length ks))) ≡ y =
        ap node_place (ap (node_at a.ceilings) (sym here.first) ∙ number-node a x here_place 0 inside) in
        subst (λ (q : Place). IsPlace a q × (number_of a q 0 ≡ firsts (length ks))) (sym e)
        (place-alike a x y (same-sym y x same) here_place, number-alike a y x same 0 ∙ here.first)

    -- The place q has the first node of the place at hand.
    module _ (q : Place) (held : IsPlace a q) (first : number_of a q 0 ≡ firsts (length ks)) where
      shape : SamePlace t.place q
      shape = number-shape a t.place q here_place held (here.first ∙ sym first)

      -- Its marked corners are corners.
      pub trail-among : (j : ℕ) → sets (length ks) j → j < length q.region.prices
      trail-among j x = rw shape.region.corners at (here.marks.among j x)

      -- In the goal the steps are the route.
      pub trail-ends : q.mode ≡ l → (answer a l ≡ route B.charge ks) × (length ks ≡ B.steps)
      trail-ends e = walk_ends a ok l B best t.walk (shape.mode ∙ e)

      -- The bytes up to byte' have no tight edges.
      pub trail-tried :
          (byte' : ℕ)
          → ((k : ℕ) (y : Place) (i : ℕ) → byte ≤ k → k < byte' → step a k q ≡ some y → Led a l d q (length ks) (sets (length ks)) k y i → ⊥)
          → Trail a l d ks byte' firsts sets
      trail-tried byte' none = record { place = t.place; walk = walk-off a ok l B best t.walk byte' off; footing = t.footing }
        where
          off : (k : ℕ) (z : Place) → byte ≤ k → k < byte' → step a k t.place ≡ some z → OffRoute a l z (suc (length ks))
          off k z b c f =
              let o = step-shape a k t.place q z shape f in
              none-led a ok l t.walk here.marks k z f
              (λ i u. none k o.0 i b c o.1 (led-alike a l d (length ks) (sets (length ks)) k t.place q z o.0 shape o.2 i u))

      -- The byte has some: a step more, to the corners that they lead to.
      module _ (y : Place) (f : step a byte q ≡ some y) (firsts' : ℕ → ℕ) (same-firsts : (i : ℕ) → i ≤ length ks → firsts i ≡ firsts' i)
          (next-first : firsts' (suc (length ks)) ≡ number_of a y 0) (sets' : ℕ → ℕ → Type 0)
          (same-sets : (i : ℕ) → i ≤ length ks → sets i ≡ sets' i)
          (next-set : (i : ℕ) → sets' (suc (length ks)) i ↔ Led a l d q (length ks) (sets (length ks)) byte y i) where
        next : (z : Place) × (step a byte t.place ≡ some z) × SamePlace y z
        next = step-shape a byte q t.place y (same-sym t.place q shape) f

        next_marks : Marks a l d next.0 (suc (length ks)) (sets' (suc (length ks)))
        next_marks =
            let z = next.0 in
            let S = sets (length ks) in
            marks-next a ok l t.walk here.marks byte z next.1 B best (sets' (suc (length ks)))
            (λ i. (
              λ x. led-alike a l d (length ks) S byte q t.place y z (same-sym t.place q shape) next.2 i ((next-set i).0 x),
              λ u. (next-set i).1 (led-alike a l d (length ks) S byte t.place q z y shape (same-sym y z next.2) i u),
            ))

        pub trail-further : (j : ℕ) → sets' (suc (length ks)) j → Trail a l d (ks ++ byte ∷ []) 0 firsts' sets'
        trail-further j x = record {
          place = next.0;
          walk = walk-further a ok l B best t.walk next.0 next.1 (marks-stands next_marks j x);
          footing = λ i z h e. footing i z h e (dec_lt (length ks) i);
        }
          where
            last : Footing a l d next.0 (suc (length ks)) (firsts' (suc (length ks))) (sets' (suc (length ks)))
            last = record {
              first = sym (number-alike a y next.0 next.2 0) ∙ sym next-first;
              marks = next_marks;
              corner = j;
              marked = x;
            }

            more : length (ks ++ byte ∷ []) ≡ suc (length ks)
            more = omega (arith, length-append ks (byte ∷ []))

            footing :
                (i : ℕ) (z : Place) → i ≤ length (ks ++ byte ∷ []) → chain a (take i (ks ++ byte ∷ [])) ≡ some z → Dec (length ks < i)
                → Footing a l d z i (firsts' i) (sets' i)
            footing i z h e (no b) =
                let before = t.footing i z (omega arith) (ap (chain a) (sym (take-append-le i ks (byte ∷ []) (omega arith))) ∙ e) in
                subst (Footing a l d z i (firsts' i)) (same-sets i (omega arith))
                (subst (λ (v : ℕ). Footing a l d z i v (sets i)) (same-firsts i (omega arith)) before)
            footing i z h e (yes b) =
                let n : suc (length ks) ≡ i = omega (arith, more) in
                let all = take_all i (ks ++ byte ∷ []) (omega (arith, more)) in
                let ends = step-chain a ks t.place t.walk.ends byte next.0 next.1 in
                let same = same_place a (ks ++ byte ∷ []) next.0 ends z (ap (chain a) (sym all) ∙ e) in
                rw (← n, ← same) last

  -- All bytes were tried, and the place at hand is not in the goal: its marked corners are left, and the last step is taken back.
  module _ {d : ℕ → Entry} {ks : List ℕ} {firsts : ℕ → ℕ} {sets : ℕ → ℕ → Type 0} (t : Trail a l d ks 66 firsts sets) (q : Place) (held : IsPlace a q)
      (first : number_of a q 0 ≡ firsts (length ks)) (goal : q.mode ≢ l) where
    away : t.place.mode ≢ l
    away e = goal (sym (shape t q held first).mode ∙ e)

    pub trail-deep : 0 < length ks
    trail-deep = walk-deep a ok l B best t.walk away

    pub trail-back :
        (js : List ℕ) (k : ℕ) (d' : ℕ → Entry) → ks ≡ js ++ k ∷ [] → LeavesMarked d d' (firsts (length ks)) (sets (length ks))
        → Trail a l d' js (suc k) firsts sets
    trail-back js k d' is left = record {
      place = before.0;
      walk = walk-back a ok l B best t.walk away js k before.0 d' is before.1 leaves;
      footing = λ i x h f. kept i x h (t.footing i x (omega (arith, more)) (rw (is, take-append-le i js (k ∷ []) h) f));
    }
      where
        more : length ks ≡ suc (length js)
        more = omega (arith, ap length is, length-append js (k ∷ []))

        before : (x : Place) × (chain a js ≡ some x)
        before =
            let o = chain-take a (length js) ks t.place t.walk.ends in
            let front : take (length js) ks ≡ js = rw is (take-append_seam js (k ∷ [])) in
            (o.0, ap (chain a) (sym front) ∙ o.1)

        leaves : Leaves a d d' t.place (length ks)
        leaves = marks-leave (here t).marks (firsts (length ks)) (footing-row (here_place t) (here t)) d' left

        kept : (i : ℕ) (x : Place) → i ≤ length js → Footing a l d x i (firsts i) (sets i) → Footing a l d' x i (firsts i) (sets i)
        kept i x h s = record {
          first = s.first;
          marks = marks-kept s.marks d' t.place (length ks) (omega (arith, more)) leaves;
          corner = s.corner;
          marked = s.marked;
        }
