-- The walk by sets of corners: at a place some corners are marked, those that tight edges led to, and no prices are needed, since the table has the charge
-- of each. Every marked corner stands by the table, and every corner through which a best path goes is marked.
-- Assumes nothing.
use Rattle.std.specs.Prelude.{◌≡◌, refl, ◌↔◌, ◌⊎◌, List, [], ◌∷◌, ◌++◌, ℕ, suc, ◌+◌, ◌≤◌, ◌<◌, length}
use Rattle.std.proofs.Common.{sym, ap, subst, ◌∙◌, inl, inr, arith, length-append}
use Rattle.std.proofs.Math.Option.{some, some-injective}
use Rattle.semantics.specs.Automata.Proper.{Proper}
use Rattle.semantics.specs.Automaton.{Automaton}
use Rattle.semantics.specs.Order.{Cost, cost}
use Rattle.semantics.specs.Graph.Path.{Graph, Entry, unreached, reached}
use Rattle.semantics.specs.Graph.Distance.{distance}
use Rattle.semantics.specs.Graph.Near.{turned}
use Rattle.semantics.specs.Chain.{Place, step, follow, begin, chain}
use Rattle.semantics.specs.Graph.CornerGraph.{number_of, start_node, corner_graph}
use Rattle.semantics.specs.Bounds.Prices.{price}
use Rattle.semantics.proofs.Bounds.Reached.{Reached, chain-reached}
use Rattle.semantics.specs.Paths.Cost.{cost-charge}
use Rattle.semantics.specs.Paths.Least.{no-less-cost}
use Rattle.semantics.specs.Paths.Turned.{turned-nodes}
use Rattle.semantics.specs.Paths.Route.{Completes, completes-before}
use Rattle.semantics.specs.Answers.Places.{IsPlace, corner-top}
use Rattle.semantics.proofs.Answers.Places.{reached-place}
use Rattle.semantics.proofs.Answers.Moving.{number-row}
use Rattle.semantics.proofs.Answers.System.{chains, chains-follow, reached-next, begin-starts}
use Rattle.semantics.proofs.Answers.Table.{begin-completes}
use Rattle.semantics.proofs.Answers.Forward.{near-kept, into-least, from-least, forward-routing, corner-inside, chain-paths}
use Rattle.semantics.proofs.Answers.Onward.{step-chain, rest-entry, chain-bound}
use Rattle.semantics.specs.Answers.Walk.{NearCosts}
use Rattle.semantics.proofs.Answers.Walk.{Stands, OffRoute, LeavesAt, Leaves, Walk}
use Rattle.semantics.specs.Answers.Marks.{Led}

module _ (a : Automaton) (l : ℕ) (d : ℕ → Entry) (p : Place) (n : ℕ) (S : ℕ → Type 0) where
  -- S marks corners of the place p, to which n steps led: only such as stand, and all through which a best path goes.
  pub record Marks : Type 0 where
    pub among : (j : ℕ) → S j → j < length p.region.prices
    pub stands : (j : ℕ) → S j → d (number_of a p j) ≡ reached (cost (price p.region j) n)
    pub covers :
        (B : Cost) (m : ℕ) → distance (corner_graph a l) (start_node a) ≡ reached B → n + m ≡ B.steps
        → (t : Completes (chains a) (distance (corner_graph a l)) p (cost B.charge m)) → S t.corner

-- The table d became d': of the corners in a row from the node v on those that S marks were left, and no others.
abbrev pub LeavesMarked : (ℕ → Entry) → (ℕ → Entry) → ℕ → (ℕ → Type 0) → Type 0
LeavesMarked d d' v S = (w : ℕ) → (d' w ≡ d w) ⊎ ((d' w ≡ unreached) × ((j : ℕ) × S j × (w ≡ v + j)))

module _ {a : Automaton} {l : ℕ} {d : ℕ → Entry} {p : Place} {n : ℕ} {S : ℕ → Type 0} (m : Marks a l d p n S) where
  -- By a marked corner the place stands,
  pub marks-stands : (j : ℕ) → S j → Stands a d p n
  marks-stands j x = record { corner = j; there = m.among j x; entry = m.stands j x }

  -- so it is left with them.
  pub marks-leave :
      (v : ℕ) → ((j : ℕ) → S j → number_of a p j ≡ v + j) → (d' : ℕ → Entry) → LeavesMarked d d' v S → Leaves a d d' p n
  marks-leave v row d' left w = at (left w)
    where
      at : (d' w ≡ d w) ⊎ ((d' w ≡ unreached) × ((j : ℕ) × S j × (w ≡ v + j))) → LeavesAt a d d' p n w
      at (inl e) = inl e
      at (inr e) =
          let j = e.1.0 in
          let x = e.1.1 in
          let is : w ≡ number_of a p j = e.1.2 ∙ sym (row j x) in
          inr (e.0, (j, m.among j x, is, ap d is ∙ m.stands j x))

  -- Its corners stay marked when a place of more steps is left.
  pub marks-kept : (d' : ℕ → Entry) (q : Place) (n' : ℕ) → n < n' → Leaves a d d' q n' → Marks a l d' p n S
  marks-kept d' q n' h left =
      record { among = m.among; stands = λ j x. at j (m.stands j x) (left (number_of a p j)); covers = m.covers }
    where
      at :
          (j : ℕ) → d (number_of a p j) ≡ reached (cost (price p.region j) n) → LeavesAt a d d' q n' (number_of a p j)
          → d' (number_of a p j) ≡ reached (cost (price p.region j) n)
      at j y (inl e) = e ∙ y
      at j y (inr e) =
          let z : cost (price p.region j) n ≡ cost (price q.region e.1.0) n' = cc in
          absurd (omega (arith, ap (λ (u : Cost). u.steps) z))

-- The corners of a place are different nodes.
pub corners-differ :
    (a : Automaton) (p : Place) → IsPlace a p → (i j : ℕ) → i < length p.region.prices → j < length p.region.prices
    → number_of a p i ≡ number_of a p j → i ≡ j
corners-differ a p h i j b c e =
    let row : (k : ℕ) → k < length p.region.prices → number_of a p k ≡ number_of a p 0 + k =
    λ k x. number-row a p h k ((corner-top p.region h.well-formed k).0 x) in
    omega (arith, row i b, row j c)

module _ (a : Automaton) (ok : Proper a) (l : ℕ) where
  abbrev g : Graph
  g = corner_graph a l

  -- At the start its only corner is marked.
  pub begin-marks :
      (B : Cost) → distance (corner_graph a l) (start_node a) ≡ reached B → (d : ℕ → Entry) → NearCosts (corner_graph a l) (start_node a) d
      → (S : ℕ → Type 0) → ((j : ℕ) → S j ↔ (j ≡ 0)) → Marks a l d (begin a) 0 S
  unfolding chain follow
  begin-marks B best d costs S is = record {
    among = λ j x. omega (arith, (is j).0 x, (begin-starts a ok).single);
    stands = λ j x. stands j ((is j).0 x);
    covers = λ B' m e c t. (is t.corner).1 (only t);
  }
    where
      only : {c : Cost} (t : Completes (chains a) (distance g) (begin a) c) → t.corner ≡ 0
      only t = omega (arith, t.among, (begin-starts a ok).single)

      stands : (j : ℕ) → j ≡ 0 → d (number_of a (begin a) j) ≡ reached (cost (price (begin a).region j) 0)
      stands j z =
          let t = begin-completes a ok l (distance g) (into-least a ok l) B best in
          let e : t.corner ≡ j = only t ∙ sym z in
          subst (λ (i : ℕ). d (number_of a (begin a) i) ≡ reached (cost (price (begin a).region i) 0)) e
          (rest-entry a ok l B best [] (begin a) refl d (λ v c h q. inl (costs v h ∙ q)) B.steps (omega arith) t)

  -- From the place p of the walk the byte k leads to z.
  module _ {d : ℕ → Entry} {ks : List ℕ} {p : Place} {byte : ℕ} (w : Walk a l d ks p byte) {S : ℕ → Type 0} (m : Marks a l d p (length ks) S)
      (k : ℕ) (z : Place) (f : step a k p ≡ some z) where
    here : Reached a p
    here = chain-reached a ok ks p w.ends

    longer : chain a (ks ++ k ∷ []) ≡ some z
    longer = step-chain a ks p w.ends k z f

    more : length (ks ++ k ∷ []) ≡ suc (length ks)
    more = omega (arith, length-append ks (k ∷ []))

    -- Where a best path goes through a corner of z, a tight edge leads to it.
    completes-led :
        (B : Cost) (m : ℕ) → distance (corner_graph a l) (start_node a) ≡ reached B → suc (length ks) + m ≡ B.steps
        → (t : Completes (chains a) (distance (corner_graph a l)) z (cost B.charge m)) → Led a l d p (length ks) S k z t.corner
    completes-led B n best e t =
        let o = (chains-follow a ok l).predecessor p z k t.corner here f t.among in
        let bound = chain-bound a ok l B best ks p w.ends (suc n) (omega arith) in
        let u = completes-before (forward-routing a ok l) p B.charge n here bound z k f t o in
        let from = rest-entry a ok l B best ks p w.ends d w.left (suc n) (omega arith) u.0 in
        let to = rest-entry a ok l B best (ks ++ k ∷ []) z longer d w.left n (omega (arith, more)) t in
        record {
          there = t.among;
          corner = o.corner;
          marked = subst S u.1 (m.covers B (suc n) best (omega arith) u.0);
          tight = record {
            edge = o.edge;
            leaves = o.leaves;
            labelled = o.labelled;
            leads = o.leads;
            grows = record {
              charge = price p.region o.corner;
              from = subst (λ (j : ℕ). d (number_of a p j) ≡ reached (cost (price p.region j) (length ks))) u.1 from;
              to = to ∙ ap (λ (c : Cost). reached c) (λ i. record { charge = o.priced i; steps = more i });
            };
          };
        }

    module _ (B : Cost) (best : distance (corner_graph a l) (start_node a) ≡ reached B) (i : ℕ) (t : Led a l d p (length ks) S k z i) where
      -- The table's charge of a marked corner is its price.
      led-charge : t.tight.grows.charge ≡ price p.region t.corner
      led-charge =
          let x = t.tight.grows.from in
          let y = m.stands t.corner t.marked in
          let e : cost t.tight.grows.charge (length ks) ≡ cost (price p.region t.corner) (length ks) = cc in
          ap (λ (c : Cost). c.charge) e

      -- A tight edge comes to no less than the price of its end,
      led-high : price z.region i ≤ price p.region t.corner + t.tight.edge.weight
      led-high =
          let o = (chains-follow a ok l).successor p t.corner t.tight.edge here (m.among t.corner t.marked) t.tight.leaves in
          let q : o.next ≡ z = some-injective o.next z (sym o.step ∙ ap (λ (b : ℕ). step a b p) t.tight.labelled ∙ f) in
          let leads : number_of a z o.corner ≡ number_of a z i = (rw q at o.leads) ∙ t.tight.leads in
          let same = corners-differ a z (reached-place a z (reached-next a ok p z k here f)) o.corner i (rw q at o.among) t.there leads in
          rw (q, same) at o.priced

      -- and to no more, since the table has least costs from the start and the price is the cost of a path.
      led-low : price p.region t.corner + t.tight.edge.weight ≤ price z.region i
      led-low =
          let s = start_node a in
          let v = number_of a z i in
          let c = cost (t.tight.grows.charge + t.tight.edge.weight) (suc (length ks)) in
          let inside = corner-inside a ok l z i (reached-next a ok p z k here f) t.there in
          let near = (near-kept (distance g s) (distance (turned g s) v) B c best (w.kept v c inside t.tight.grows.to)).0 in
          let path = chain-paths a ok l (ks ++ k ∷ []) z longer i t.there in
          let low = no-less-cost (turned g s) v c _ ((from-least a ok l).least v c (rw (turned-nodes g s) inside) near) path in
          omega (arith, cost-charge c _ low, led-charge)

      -- So the price of its end is the price of its beginning and its weight.
      pub led-price : price z.region i ≡ price p.region t.corner + t.tight.edge.weight
      led-price = omega (arith, led-high, led-low)

      -- The corner stands.
      pub led-stands : d (number_of a z i) ≡ reached (cost (price z.region i) (suc (length ks)))
      led-stands = t.tight.grows.to ∙ ap (λ (c : ℕ). reached (cost c (suc (length ks)))) (omega (arith, led-price, led-charge))

    -- Marked next are the corners that tight edges lead to.
    pub marks-next :
        (B : Cost) → distance (corner_graph a l) (start_node a) ≡ reached B → (S' : ℕ → Type 0)
        → ((i : ℕ) → S' i ↔ Led a l d p (length ks) S k z i) → Marks a l d z (suc (length ks)) S'
    marks-next B best S' is = record {
      among = λ i x. ((is i).0 x).there;
      stands = λ i x. led-stands B best i ((is i).0 x);
      covers = λ B' n e c t. (is t.corner).1 (completes-led B' n e c t);
    }

    -- If there are none, no route goes on by this byte.
    pub none-led : ((i : ℕ) → Led a l d p (length ks) S k z i → ⊥) → OffRoute a l z (suc (length ks))
    none-led none C N n best e t = none t.corner (completes-led (cost C N) n best e t)
