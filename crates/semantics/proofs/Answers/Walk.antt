-- How the route is found by the words of a search, which hold the least costs from the start: a walk along chains in byte order, that leaves a place
-- again where no step leads on, and then never comes back to it. The first chain that comes into the goal is the route.
-- Assumes nothing.
use Rattle.std.specs.Prelude.{◌≡◌, ◌⊎◌, ◌≢◌, get_or, take}
use Rattle.std.proofs.Math.Path.{refl, sym, ap, subst}
use Rattle.std.proofs.Common.{◌∙◌, true≢false, inr, arith, length-append, take_all}
use Rattle.std.proofs.Math.Logic.{inl}
use mathlib.Core.List.{List, [], ◌∷◌, ◌++◌}
use Rattle.std.proofs.Math.Option.{some}
use Prim.Native.Nat.{ℕ, zero, suc, ◌+◌, ◌≤◌, ◌<◌}
use Rattle.std.proofs.Math.Decide.{dec_lt}
use Rattle.std.proofs.Math.ListN.{length, get_or-append}
use Rattle.std.proofs.Math.Seq.{take-length, take-append_seam, get_or-append_seam}
use Rattle.std.proofs.lemmas.List.{take-append-le}
use Rattle.semantics.specs.Automata.Proper.{Proper}
use Rattle.semantics.specs.Automaton.{Automaton}
use Rattle.semantics.specs.Order.{Cost, cost}
use Rattle.semantics.specs.Graph.Path.{Graph, Entry, unreached, reached}
use Rattle.semantics.specs.Graph.Distance.{distance}
use Rattle.semantics.specs.Graph.Near.{turned, near}
use Rattle.semantics.specs.Chain.{Place, step, follow, begin, chain}
use Rattle.semantics.specs.Answer.{route, answer}
use Rattle.semantics.specs.Graph.CornerGraph.{number_of, start_node, corner_graph}
use Rattle.semantics.specs.Bounds.Prices.{price}
use Rattle.semantics.proofs.Bounds.Reached.{Reached, chain-reached}
use Rattle.semantics.specs.Paths.Turned.{plus}
use Rattle.semantics.specs.Paths.Route.{Completes}
use Rattle.semantics.proofs.Answers.System.{chains, bytes_below}
use Rattle.semantics.proofs.Answers.Table.{begin-completes}
use Rattle.semantics.proofs.Answers.Forward.{near-kept, into-least, corner-inside, chain-paths, mode-cost}
use Rattle.semantics.proofs.Answers.Onward.{step-chain, same_place, rest-entry, chain-stuck, chain_first}
use Rattle.semantics.specs.Answers.Walk.{near_entry, NearCosts}

-- By the table the place stands after n steps: at some corner the price is the charge of the entry, which has n steps.
pub record Stands (a : Automaton) (d : ℕ → Entry) (p : Place) (n : ℕ) : Type 0 where
  pub corner : ℕ
  pub there : corner < length p.region.prices
  pub entry : d (number_of a p corner) ≡ reached (cost (price p.region corner) n)

-- No route goes on from the place p, to which n steps led.
abbrev pub OffRoute : Automaton → ℕ → Place → ℕ → Type 0
OffRoute a l p n =
    (C N m : ℕ) → distance (corner_graph a l) (start_node a) ≡ reached (cost C N) → n + m ≡ N
    → Completes (chains a) (distance (corner_graph a l)) p (cost C m) → ⊥

-- No best path goes through the node v.
abbrev pub OffPaths : Graph → ℕ → ℕ → Type 0
OffPaths g s v = (b c : Cost) → distance (turned g s) v ≡ reached b → distance g v ≡ reached c → distance g s ≡ reached (plus b c) → ⊥

-- The walk stands at the place p, to which the steps ks led, and has tried the bytes below `byte` there. By the table d some nodes were left since the
-- search.
pub record Walk (a : Automaton) (l : ℕ) (d : ℕ → Entry) (ks : List ℕ) (p : Place) (byte : ℕ) : Type 0 where
  pub ends : chain a ks ≡ some p
  pub standing : (i : ℕ) (q : Place) → i ≤ length ks → chain a (take i ks) ≡ some q → Stands a d q i
  -- No lesser byte than the one taken, and none of those tried, leads on to the goal.
  pub passed :
      (i : ℕ) (q : Place) (k : ℕ) (z : Place) → i < length ks → chain a (take i ks) ≡ some q → k < get_or ks i 0 → step a k q ≡ some z
      → OffRoute a l z (suc i)
  pub tried : (k : ℕ) (z : Place) → k < byte → step a k p ≡ some z → OffRoute a l z (suc (length ks))
  -- The entries are those of the search, but for nodes that were left, through which no best path goes.
  pub kept : (v : ℕ) (c : Cost) → v < (corner_graph a l).nodes → d v ≡ reached c → near_entry (corner_graph a l) (start_node a) v ≡ reached c
  pub left :
      (v : ℕ) (c : Cost) → v < (corner_graph a l).nodes → near_entry (corner_graph a l) (start_node a) v ≡ reached c
      → (d v ≡ reached c) ⊎ OffPaths (corner_graph a l) (start_node a) v

-- The table d became d': node v was kept, or it was left, as one of those by which the place p, to which n steps led, stood.
abbrev pub LeavesAt : Automaton → (ℕ → Entry) → (ℕ → Entry) → Place → ℕ → ℕ → Type 0
LeavesAt a d d' p n v =
    (d' v ≡ d v)
    ⊎ ((d' v ≡ unreached) × ((j : ℕ) × (j < length p.region.prices) × (v ≡ number_of a p j) × (d v ≡ reached (cost (price p.region j) n))))

-- Of the place the nodes by which it stood were left, and no others.
abbrev pub Leaves : Automaton → (ℕ → Entry) → (ℕ → Entry) → Place → ℕ → Type 0
Leaves a d d' p n = (v : ℕ) → LeavesAt a d d' p n v

module _ (a : Automaton) (ok : Proper a) (l : ℕ) (B : Cost) (best : distance (corner_graph a l) (start_node a) ≡ reached B) where
  abbrev g : Graph
  g = corner_graph a l

  -- The rest of B, with m steps to come, can be completed from the place.
  abbrev Rest : Place → ℕ → Type 0
  Rest q m = Completes (chains a) (distance g) q (cost B.charge m)

  -- The best cost is B, and no other.
  off-route : (q : Place) (n : ℕ) → ((m : ℕ) → n + m ≡ B.steps → Rest q m → ⊥) → OffRoute a l q n
  off-route q n none C N m e x t =
      let same : cost C N ≡ B = cc in
      none m (x ∙ ap (λ (c : Cost). c.steps) same)
      (subst (λ (c : ℕ). Completes (chains a) (distance g) q (cost c m)) (ap (λ (c : Cost). c.charge) same) t)

  -- By a table that has the entries of the search, but for nodes through which no best path goes, a place stands that the rest can be completed from.
  completes-stands :
      (d : ℕ → Entry)
      → ((v : ℕ) (c : Cost) → v < g.nodes → near_entry g (start_node a) v ≡ reached c → (d v ≡ reached c) ⊎ OffPaths g (start_node a) v)
      → (ks : List ℕ) (q : Place) → chain a ks ≡ some q → (m : ℕ) → length ks + m ≡ B.steps → Rest q m → Stands a d q (length ks)
  completes-stands d left ks q f m e t =
      record { corner = t.corner; there = t.among; entry = rest-entry a ok l B best ks q f d left m e t }

  -- The start stands.
  begin-stands : (d : ℕ → Entry) → NearCosts g (start_node a) d → Stands a d (begin a) 0
  unfolding chain follow
  begin-stands d costs =
      completes-stands d (λ v c h q. inl (costs v h ∙ q)) [] (begin a) refl B.steps (omega arith)
      (begin-completes a ok l (distance g) (into-least a ok l) B best)

  -- It is the only place of the chain of no steps.
  none-stands : (d : ℕ → Entry) → Stands a d (begin a) 0 → (i : ℕ) (q : Place) → i ≤ 0 → chain a (take i []) ≡ some q → Stands a d q i
  unfolding chain follow
  none-stands d st zero q h e = subst (λ (x : Place). Stands a d x 0) (same_place a [] (begin a) refl q e) st
  none-stands d st (suc i) q h e = absurd (omega arith)

  -- The walk begins at the start, with the words as the search left them.
  pub walk_begins : (d : ℕ → Entry) → NearCosts (corner_graph a l) (start_node a) d → Walk a l d [] (begin a) 0
  unfolding chain follow
  walk_begins d near = record {
    ends = refl;
    standing = none-stands d (begin-stands d near);
    passed = λ i q k z h. absurd (omega arith);
    tried = λ k z h. absurd (omega arith);
    kept = λ v c h q. sym (near v h) ∙ q;
    left = λ v c h q. inl (near v h ∙ q);
  }

  module _ {d : ℕ → Entry} {ks : List ℕ} {p : Place} {byte : ℕ} (w : Walk a l d ks p byte) where
    -- Where a place stands, the entry is the least cost from the start, and as near as the goal.
    pub stands_from :
        (q : Place) (n : ℕ) → Reached a q → (t : Stands a d q n)
        → (distance (turned g (start_node a)) (number_of a q t.corner) ≡ reached (cost (price q.region t.corner) n))
        × (price q.region t.corner ≤ B.charge) × (n ≤ B.steps)
    stands_from q n h t =
        let v = number_of a q t.corner in
        let b = cost (price q.region t.corner) n in
        near-kept (distance g (start_node a)) (distance (turned g (start_node a)) v) B b best
        (w.kept v b (corner-inside a ok l q t.corner h t.there) t.entry)

    -- The place at hand does.
    here-reached : Reached a p
    here-reached = chain-reached a ok ks p w.ends

    here-stands : Stands a d p (length ks)
    here-stands = w.standing (length ks) p (omega arith) (ap (chain a) (take-length ks) ∙ w.ends)

    -- The steps are at most those of the route.
    pub walk-few : length ks ≤ B.steps
    walk-few = (stands_from p (length ks) here-reached here-stands).2

    -- The bytes up to byte' lead to no place on a route.
    pub walk-off :
        (byte' : ℕ) → ((k : ℕ) (z : Place) → byte ≤ k → k < byte' → step a k p ≡ some z → OffRoute a l z (suc (length ks)))
        → Walk a l d ks p byte'
    walk-off byte' off =
        record { ends = w.ends; standing = w.standing; passed = w.passed; tried = λ k z h e. at k z h e (dec_lt k byte); kept = w.kept; left = w.left }
      where
        at : (k : ℕ) (z : Place) → k < byte' → step a k p ≡ some z → Dec (k < byte) → OffRoute a l z (suc (length ks))
        at k z h e (yes b) = w.tried k z b e
        at k z h e (no b) = off k z (omega arith) h e

    -- They lead to none that stands.
    pub walk-tried :
        (byte' : ℕ)
        → ((k : ℕ) (z : Place) → byte ≤ k → k < byte' → step a k p ≡ some z → Stands a d z (suc (length ks)) → ⊥)
        → Walk a l d ks p byte'
    walk-tried byte' none =
        walk-off byte'
        (λ k z b h e. off-route z (suc (length ks))
        (λ m x t.
        let more : suc (length ks) ≡ length (ks ++ k ∷ []) = omega (arith, length-append ks (k ∷ [])) in
        none k z b h e
        (rw more (completes-stands d w.left (ks ++ k ∷ []) z (step-chain a ks p w.ends k z e) m (omega (arith, more)) t))))

    -- The byte leads to a place that stands: a step more.
    pub walk-further : (p' : Place) → step a byte p ≡ some p' → Stands a d p' (suc (length ks)) → Walk a l d (ks ++ byte ∷ []) p' 0
    walk-further p' e s = record {
      ends = step-chain a ks p w.ends byte p' e;
      standing = λ i q h f. stands i q h f (dec_lt (length ks) i);
      passed = λ i q k z h f. off i q k z h f (dec_lt i (length ks));
      tried = λ k z h. absurd (omega arith);
      kept = w.kept;
      left = w.left;
    }
      where
        more : length (ks ++ byte ∷ []) ≡ suc (length ks)
        more = omega (arith, length-append ks (byte ∷ []))

        stands :
            (i : ℕ) (q : Place) → i ≤ length (ks ++ byte ∷ []) → chain a (take i (ks ++ byte ∷ [])) ≡ some q → Dec (length ks < i)
            → Stands a d q i
        stands i q h f (no b) = w.standing i q (omega arith) (ap (chain a) (sym (take-append-le i ks (byte ∷ []) (omega arith))) ∙ f)
        stands i q h f (yes b) =
            let n : suc (length ks) ≡ i = omega (arith, more) in
            let all = take_all i (ks ++ byte ∷ []) (omega (arith, more)) in
            let same = same_place a (ks ++ byte ∷ []) p' (step-chain a ks p w.ends byte p' e) q (ap (chain a) (sym all) ∙ f) in
            rw (← n, ← same) s

        off :
            (i : ℕ) (q : Place) (k : ℕ) (z : Place) → i < length (ks ++ byte ∷ []) → chain a (take i (ks ++ byte ∷ [])) ≡ some q
            → Dec (i < length ks) → k < get_or (ks ++ byte ∷ []) i 0 → step a k q ≡ some z → OffRoute a l z (suc i)
        off i q k z h f (yes b) less t =
            w.passed i q k z b (ap (chain a) (sym (take-append-le i ks (byte ∷ []) (omega arith))) ∙ f)
            (rw (get_or-append ks (byte ∷ []) 0 i b) at less) t
        off i q k z h f (no b) less t =
            let n : i ≡ length ks = omega (arith, more) in
            let f' = ap (chain a) (sym (take-append_seam ks (byte ∷ []))) ∙ (rw n at f) in
            let same = same_place a ks p w.ends q f' in
            let less' : k < byte = rw (n, get_or-append_seam ks byte [] 0) at less in
            rw n (w.tried k z less' (rw (← same) at t))

    -- In the goal the steps are the route.
    pub walk_ends : p.mode ≡ l → (answer a l ≡ route B.charge ks) × (length ks ≡ B.steps)
    walk_ends e =
        let t = here-stands in
        let near = stands_from p (length ks) here-reached t in
        let c = mode-cost a ok l p here-reached B best (length ks) t.corner t.there (chain-paths a ok l ks p w.ends) e near.1 near.2 in (
          chain_first a ok l B best ks (λ i q k z h f less s m n r. w.passed i q k z h f less s B.charge B.steps m best n r) p w.ends e
              t.corner t.there c,
          ap (λ (x : Cost). x.steps) c,
        )

  -- All bytes were tried, and the place is not in the goal: the last step is taken back.
  module _ {d : ℕ → Entry} {ks : List ℕ} {p : Place} (w : Walk a l d ks p 66) (goal : p.mode ≢ l) where
    -- No route goes on from the place.
    stuck : OffRoute a l p (length ks)
    stuck =
        off-route p (length ks)
        (chain-stuck a ok l B best ks p w.ends goal
        (λ k z m e n r. w.tried k z (bytes_below a ok p z k (here-reached w) e) e B.charge B.steps m best n r))

    -- From the start a route does.
    pub walk-deep : 0 < length ks
    unfolding chain follow
    walk-deep = at ks refl
      where
        at : (js : List ℕ) → ks ≡ js → 0 < length ks
        at [] e =
            let same = same_place a [] (begin a) refl p (ap (chain a) (sym e) ∙ w.ends) in
            let n = ap length e in
            absurd
            (stuck B.charge B.steps B.steps best (omega arith) (rw same at (begin-completes a ok l (distance g) (into-least a ok l) B best)))
        at (k ∷ js) e = omega (arith, ap length e)

    -- No best path goes through a node by which it stood.
    off-paths :
        (j : ℕ) → j < length p.region.prices → d (number_of a p j) ≡ reached (cost (price p.region j) (length ks))
        → OffPaths g (start_node a) (number_of a p j)
    off-paths j h e b c x y z =
        let from = (stands_from w p (length ks) (here-reached w) (record { corner = j; there = h; entry = e })).0 in
        let same : b ≡ cost (price p.region j) (length ks) = cc in
        stuck (b.charge + c.charge) (b.steps + c.steps) c.steps z (omega (arith, ap (λ (u : Cost). u.steps) same))
        (record { corner = j; among = h; left = c.charge; entry = y; sum = omega (arith, ap (λ (u : Cost). u.charge) same) })

    -- The place is left, and the walk goes on from the one before it, behind the byte that led here.
    pub walk-back :
        (js : List ℕ) (k : ℕ) (q : Place) (d' : ℕ → Entry) → ks ≡ js ++ k ∷ [] → chain a js ≡ some q → Leaves a d d' p (length ks)
        → Walk a l d' js q (suc k)
    walk-back js k q d' is ends left = record {
      ends = ends;
      standing = λ i x h f. stands i x h (w.standing i x (omega (arith, more)) (front i x h f));
      passed = λ i x k' z h f less.
          w.passed i x k' z (omega (arith, more)) (front i x (omega arith) f) (rw (is, get_or-append js (k ∷ []) 0 i h) less);
      tried = λ k' z h e. off k' z h e (dec_lt k' k);
      kept = λ v c h e. w.kept v c h (was v c e (left v));
      left = λ v c h e. gone v c (w.left v c h e) (left v);
    }
      where
        more : length ks ≡ suc (length js)
        more = omega (arith, ap length is, length-append js (k ∷ []))

        front : (i : ℕ) (x : Place) → i ≤ length js → chain a (take i js) ≡ some x → chain a (take i ks) ≡ some x
        front i x h f = rw (is, take-append-le i js (k ∷ []) h) f

        -- The places before stand as they did: they have fewer steps.
        stands : (i : ℕ) (x : Place) → i ≤ length js → Stands a d x i → Stands a d' x i
        stands i x h t = record { corner = t.corner; there = t.there; entry = at (left (number_of a x t.corner)) }
          where
            at : LeavesAt a d d' p (length ks) (number_of a x t.corner) → d' (number_of a x t.corner) ≡ reached (cost (price x.region t.corner) i)
            at (inl e) = e ∙ t.entry
            at (inr e) =
                let z : cost (price x.region t.corner) i ≡ cost (price p.region e.1.0) (length ks) = cc in
                absurd (omega (arith, more, ap (λ (u : Cost). u.steps) z))

        off : (k' : ℕ) (z : Place) → k' < suc k → step a k' q ≡ some z → Dec (k' < k) → OffRoute a l z (suc (length js))
        off k' z h e (yes less) =
            w.passed (length js) q k' z (omega (arith, more)) (front (length js) q (omega arith) (ap (chain a) (take-length js) ∙ ends))
            (rw (is, get_or-append_seam js k [] 0) less) e
        off k' z h e (no x) =
            let n : k' ≡ k = omega arith in
            let same = same_place a (js ++ k ∷ []) z (step-chain a js q ends k z (rw n at e)) p (ap (chain a) (sym is) ∙ w.ends) in
            rw (← more, same) stuck

        was : (v : ℕ) (c : Cost) → d' v ≡ reached c → LeavesAt a d d' p (length ks) v → d v ≡ reached c
        was v c e (inl x) = sym x ∙ e
        was v c e (inr x) = absurd (true≢false cc)

        gone :
            (v : ℕ) (c : Cost) → (d v ≡ reached c) ⊎ OffPaths g (start_node a) v → LeavesAt a d d' p (length ks) v
            → (d' v ≡ reached c) ⊎ OffPaths g (start_node a) v
        gone v c (inr x) y = inr x
        gone v c (inl x) (inl y) = inl (y ∙ x)
        gone v c (inl x) (inr y) = inr (rw y.1.2 (off-paths y.1.0 y.1.1 (rw y.1.2 at y.1.3)))
