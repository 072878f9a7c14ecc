-- Chains that are a part of the route: what no step leads on from is off it, and what leaves out no step that leads on is the route.
-- Assumes nothing.
use Rattle.std.specs.Prelude.{◌≡◌, ◌⊎◌, ◌≢◌, ℕ, zero, suc, ◌+◌, ◌<◌, length, get_or, take}
use Rattle.std.proofs.Math.Path.{refl, sym, ap}
use Rattle.std.proofs.Common.{◌∙◌, inl, inr, ⊎_elim, arith, length-append}
use mathlib.Core.List.{List, [], ◌∷◌, ◌++◌, append_assoc}
use Rattle.std.proofs.Math.Option.{some}
use Rattle.std.proofs.Math.Decide.{dec_lt}
use Rattle.std.proofs.Math.Seq.{take-append_seam, get_or-append_seam}
use Rattle.semantics.specs.Automata.Proper.{Proper}
use Rattle.semantics.specs.Automaton.{Automaton}
use Rattle.semantics.specs.Order.{Cost, cost, ◌⊑◌}
use Rattle.semantics.specs.Graph.Path.{Graph, Entry, reached}
use Rattle.semantics.specs.Graph.Distance.{distance}
use Rattle.semantics.specs.Graph.Near.{turned, near}
use Rattle.semantics.specs.Chain.{Place, step, follow, begin, chain}
use Rattle.semantics.specs.Answer.{Comes, route, answer}
use Rattle.semantics.specs.Graph.CornerGraph.{number_of, start_node, corner_graph}
use Rattle.semantics.specs.Bounds.Prices.{price}
use Rattle.semantics.proofs.Bounds.Reached.{chain-reached}
use Rattle.semantics.proofs.Bounds.Steps.{step-view, chain_snoc}
use Rattle.semantics.specs.Paths.Cost.{cost-same}
use Rattle.semantics.specs.Paths.Turned.{plus}
use Rattle.semantics.specs.Paths.System.{arrives-step}
use Rattle.semantics.specs.Paths.Route.{Completes, LowerBound, ArrivesAt, arrives-completes, completes-onward}
use Rattle.semantics.proofs.Answers.System.{chains, price-corner}
use Rattle.semantics.proofs.Answers.Comes.{comes-arrives}
use Rattle.semantics.proofs.Answers.Table.{first-answer}
use Rattle.semantics.proofs.Answers.Forward.{into-least, forward-routing, corner-inside, chain-paths, completes-mode, forward-bound, completes-from, completes-near}

module _ (a : Automaton) (ks : List ℕ) (p : Place) (f : chain a ks ≡ some p) where
  -- A chain one step longer.
  pub step-chain : (k : ℕ) (z : Place) → step a k p ≡ some z → chain a (ks ++ k ∷ []) ≡ some z
  step-chain k z e = chain_snoc a ks k p z f (step-view a p z k e)

  -- A chain ends at one place.
  pub same_place : (q : Place) → chain a ks ≡ some q → p ≡ q
  same_place q e = cc

module _ (a : Automaton) (ok : Proper a) (l : ℕ) (B : Cost) (best : distance (corner_graph a l) (start_node a) ≡ reached B) where
  abbrev g : Graph
  g = corner_graph a l

  abbrev s : ℕ
  s = start_node a

  -- The rest of B, with m steps to come, can be completed from the place.
  abbrev Rest : Place → ℕ → Type 0
  Rest q m = Completes (chains a) (distance g) q (cost B.charge m)

  module _ (ks : List ℕ) (p : Place) (f : chain a ks ≡ some p) where
    -- Nothing less than B leads through the place.
    pub chain-bound : (m : ℕ) → length ks + m ≡ B.steps → LowerBound (chains a) (distance g) p (cost B.charge m)
    chain-bound m e = forward-bound a ok l p (chain-reached a ok ks p f) B best (length ks) m e (chain-paths a ok l ks p f)

    -- If no step leads on from a place that is not in the goal, no route goes through it.
    pub chain-stuck :
        p.mode ≢ l
        → ((k : ℕ) (z : Place) (m : ℕ) → step a k p ≡ some z → suc (length ks) + m ≡ B.steps → Rest z m → ⊥)
        → (m : ℕ) → length ks + m ≡ B.steps → Rest p m → ⊥
    chain-stuck goal none zero e t = goal (completes-mode a ok l p (chain-reached a ok ks p f) B.charge t)
    chain-stuck goal none (suc m) e t =
        let o = completes-onward (forward-routing a ok l) p B.charge m (chain-reached a ok ks p f) (chain-bound (suc m) e) t in
        none o.label o.next m o.step (omega arith) o.completes

    -- Where the rest can be completed, a table has the entry of the search, if it has it for all nodes but those through which no best path goes.
    pub rest-entry :
        (d : ℕ → Entry)
        → ((v : ℕ) (c : Cost) → v < g.nodes → near (distance g s) (distance (turned g s) v) ≡ reached c
        → (d v ≡ reached c)
        ⊎ ((b c : Cost) → distance (turned g s) v ≡ reached b → distance g v ≡ reached c → distance g s ≡ reached (plus b c) → ⊥))
        → (m : ℕ) → length ks + m ≡ B.steps → (t : Rest p m)
        → d (number_of a p t.corner) ≡ reached (cost (price p.region t.corner) (length ks))
    rest-entry d left m e t =
        let h = chain-reached a ok ks p f in
        let paths = chain-paths a ok l ks p f in
        let v = number_of a p t.corner in
        let b = cost (price p.region t.corner) (length ks) in
        let c = cost t.left m in
        let whole : B ≡ plus b c = cost-same B (plus b c) (sym t.sum) (sym e) in
        ⊎_elim (λ x. x) (λ off. absurd (off b c (completes-from a ok l p h B best (length ks) m e paths t) t.entry (best ∙ ap reached whole)))
        (left v b (corner-inside a ok l p t.corner h t.among) (completes-near a ok l p h B best (length ks) m e paths t))

    -- If steps arrive from it at the rest of B, that can be completed.
    arrives-rest : (m : ℕ) (ls : List ℕ) → length ks + m ≡ B.steps → ArrivesAt g (chains a) p (cost B.charge m) ls → Rest p m
    arrives-rest m ls e t =
        arrives-completes (forward-routing a ok l) p (cost B.charge m) (chain-reached a ok ks p f) (chain-bound m e) ls t

  -- A chain of which no lesser byte than the one taken leads on to the goal.
  module _ (ks : List ℕ)
      (passed : (i : ℕ) (q : Place) (k : ℕ) (z : Place) → i < length ks → chain a (take i ks) ≡ some q → k < get_or ks i 0 → step a k q ≡ some z
      → (m : ℕ) → suc i + m ≡ B.steps → Rest z m → ⊥) where
    module _ (js : List ℕ) (k : ℕ) (rest : List ℕ) (is : ks ≡ js ++ k ∷ rest) (q : Place) (f : chain a js ≡ some q)
        (counted : length js + suc (length rest) ≡ B.steps) where
      -- No byte before k arrives.
      none-lesser :
          (k' : ℕ) (ls : List ℕ) (z : Place) → step a k' q ≡ some z → ArrivesAt g (chains a) z (cost B.charge (length rest)) ls → k' < k → ⊥
      none-lesser k' ls z e t less =
          let more = length-append js (k' ∷ []) in
          let all = ap length is ∙ length-append js (k ∷ rest) in
          let front : take (length js) ks ≡ js = rw is (take-append_seam js (k ∷ rest)) in
          passed (length js) q k' z (omega arith) (ap (chain a) front ∙ f) (rw (is, get_or-append_seam js k rest 0) less) e (length rest) (omega arith)
          (arrives-rest (js ++ k' ∷ []) z (step-chain a js q f k' z e) (length rest) ls (omega arith) t)

    -- So what is left of the chain comes no later than what arrives.
    no-earlier :
        (rest js : List ℕ) (q : Place) → ks ≡ js ++ rest → chain a js ≡ some q → length js + length rest ≡ B.steps → (ls : List ℕ)
        → ArrivesAt g (chains a) q (cost B.charge (length rest)) ls → rest ⊑ ls
    no-earlier [] js q is f e ls t = tt
    no-earlier (k ∷ rest) js q is f e [] t = absurd (omega arith)
    no-earlier (k ∷ rest) js q is f e (k' ∷ ls) t =
        let y = arrives-step g (chains a) q k' ls B.charge t.0 in
        at y.0 y.1 (y.2, omega arith) (dec_lt k' k) (dec_lt k k') (no-earlier rest (js ++ k ∷ []) y.0)
      where
        at :
            (z : Place) → step a k' q ≡ some z → ArrivesAt g (chains a) z (cost B.charge (length rest)) ls → Dec (k' < k) → Dec (k < k')
            → (ks ≡ (js ++ k ∷ []) ++ rest → chain a (js ++ k ∷ []) ≡ some z → length (js ++ k ∷ []) + length rest ≡ B.steps → (ms : List ℕ)
            → ArrivesAt g (chains a) z (cost B.charge (length rest)) ms → rest ⊑ ms)
            → (k < k') ⊎ ((k ≡ k') × (rest ⊑ ls))
        at z s u (yes less) more ih = absurd (none-lesser js k rest is q f e k' ls z s u less)
        at z s u (no _) (yes more) ih = inl more
        at z s u (no x) (no y) ih =
            let same : k' ≡ k = omega arith in
            let n = length-append js (k ∷ []) in
            inr (
              sym same,
              ih (is ∙ sym (append_assoc js (k ∷ []) rest)) (step-chain a js q f k z (rw same at s)) (omega arith) ls u,
            )

    -- If it comes into the goal at the cost B, it is the route.
    pub chain_first :
        (p : Place) → chain a ks ≡ some p → p.mode ≡ l → (j : ℕ) → j < length p.region.prices → cost (price p.region j) (length ks) ≡ B
        → answer a l ≡ route B.charge ks
    unfolding chain follow
    chain_first p f e j h c =
        let n = ap (λ (x : Cost). x.steps) c in
        let there = (price-corner p.region.prices B.charge).1 (j, h, ap (λ (x : Cost). x.charge) c) in
        let comes : Comes a l ks B.charge = record { place = p; ends = f; mode = e; corner = there } in
        first-answer a ok l (distance g) (into-least a ok l) B best ks
        (record {
          good = ((comes-arrives a ok l ks B.charge).0 comes, n);
          first = λ ls t. no-earlier ks [] (begin a) refl refl (omega arith) ls (t.0, t.1 ∙ sym n);
        })
