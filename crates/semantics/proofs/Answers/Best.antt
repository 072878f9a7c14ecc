-- The answer is the best of all chains, whatever their length: no chain of E steps or more is better than all shorter ones, since its corner
-- path comes to a node twice and can do without what lies between.
-- Assumes nothing.
use Rattle.std.specs.Prelude.{◌≡◌, refl, ◌↔◌, List, length}
use Rattle.std.proofs.Common.{subst, le_trans, mul-le-mul_right, arith}
use Prim.Native.Nat.{ℕ, suc, pred, ◌*◌, ◌-◌, ◌≤◌}
use Rattle.semantics.specs.Automata.Proper.{Proper}
use Rattle.semantics.specs.Automaton.{Automaton}
use Rattle.semantics.specs.Order.{cost, Best}
use Rattle.semantics.specs.NodeCount.{node_count}
use Rattle.semantics.specs.Chain.{begin}
use Rattle.semantics.specs.Answer.{Comes, Answer, no_route, route, answer}
use Rattle.semantics.specs.Graph.CornerGraph.{corner_graph, PricesWithin}
use Rattle.semantics.proofs.Bounds.Reached.{Reached, reached-begin}
use Rattle.semantics.specs.Paths.Labels.{Few, Shortened, best-unique, best-short}
use Rattle.semantics.specs.Paths.System.{arrives-short}
use Rattle.semantics.proofs.Answers.Graph.{graph-closed}
use Rattle.semantics.proofs.Answers.System.{chains, price-corner, chains-follow, begin-inside}
use Rattle.semantics.proofs.Answers.Comes.{comes-arrives, chain-priced}
use Rattle.semantics.proofs.Answers.Better.{IsBest, is-best-map}
use Rattle.semantics.proofs.Answers.Few.{few-best}

module _ (a : Automaton) (ok : Proper a) (l : ℕ) where
  -- The answer is the best of the chains of fewer than E steps.
  answer-few : IsBest (Few (node_count a) (Comes a l)) (answer a l)
  unfolding answer
  answer-few =
      let e : suc (pred (node_count a)) ≡ node_count a = omega (arith, begin-inside a ok) in
      is-best-map (answer a l) (λ ks C k. ((comes-arrives a ok l ks C).1 k.0, rw e at k.1))
      (λ ks C k. ((comes-arrives a ok l ks C).0 k.0, rw e k.1))
      (few-best a ok l (pred (node_count a)) (begin a) (reached-begin a ok))

  -- A chain that comes can be replaced by one of fewer than E steps.
  comes-short : (ks : List ℕ) (C : ℕ) → Comes a l ks C → Shortened (Comes a l) (node_count a) (cost C (length ks))
  unfolding corner_graph
  comes-short ks C c =
      let r = (comes-arrives a ok l ks C).0 c in
      let s = arrives-short (corner_graph a l) (chains a) (Reached a) (chains-follow a ok l) (graph-closed a l ok) (begin a) (reached-begin a ok) ks C r in
      record {
        labels = s.labels;
        charge = s.charge;
        comes = (comes-arrives a ok l s.labels s.charge).1 s.comes;
        few = s.few;
        within = s.within;
      }

  all-best : (x : Answer) → IsBest (Few (node_count a) (Comes a l)) x → IsBest (Comes a l) x
  all-best no_route b = λ ks C c. let s = comes-short ks C c in b s.labels s.charge (s.comes, s.few)
  all-best (route C ks) b = best-short (Comes a l) (node_count a) comes-short (cost C (length ks)) ks b

  -- The answer is the best of all chains, or there is no chain.
  answer-is-best : IsBest (Comes a l) (answer a l)
  answer-is-best = all-best (answer a l) answer-few

  -- Nothing else is: two routes that are the best are equal.
  best-answer : (x y : Answer) → IsBest (Comes a l) x → IsBest (Comes a l) y → x ≡ y
  best-answer no_route no_route b c = refl
  best-answer no_route (route D ks) b c = absurd (b ks D c.first.good.0)
  best-answer (route C js) no_route b c = absurd (c js C b.first.good.0)
  best-answer (route C js) (route D ks) b c =
      let u = best-unique (cost C (length js)) (cost D (length ks)) js ks b c in
      λ i. route (u.0 i).charge (u.1 i)

  -- The answer is a route with its charge exactly if these are the best of all chains.
  pub answer-best : (C : ℕ) (ks : List ℕ) → (answer a l ≡ route C ks) ↔ Best (Comes a l) (cost C (length ks)) ks
  answer-best C ks = (
    λ e. subst (IsBest (Comes a l)) e answer-is-best,
    λ b. best-answer (answer a l) (route C ks) answer-is-best b,
  )

  -- It is no route exactly if no chain comes.
  pub answer-none : (answer a l ≡ no_route) ↔ ((ks : List ℕ) (C : ℕ) → Comes a l ks C → ⊥)
  answer-none = (
    λ e. subst (IsBest (Comes a l)) e answer-is-best,
    λ b. best-answer (answer a l) no_route answer-is-best b,
  )

  module _ (C : ℕ) (ks : List ℕ) (e : answer a l ≡ route C ks) where
    -- The route has at most E - 1 steps.
    pub answer-steps : length ks ≤ node_count a - 1
    answer-steps =
        let b = subst (IsBest (Few (node_count a) (Comes a l))) e answer-few in
        omega (arith, b.first.good.0.1)

    -- Its charge is at most the greatest rate or price for each of them.
    pub answer-charge : (w : ℕ) → PricesWithin a w → C ≤ (node_count a - 1) * w
    answer-charge w light =
        let c = ((answer-best C ks).0 e).first.good.0 in
        let o = (price-corner c.place.region.prices C).0 c.corner in
        le_trans (subst (λ (n : ℕ). n ≤ length ks * w) o.2 (chain-priced a ok w light ks c.place c.ends o.0 o.1))
        (mul-le-mul_right w answer-steps)
