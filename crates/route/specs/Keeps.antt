-- The outcome of the definitions keeps demands 2 and 3.
-- Assumes nothing.
use Rattle.std.specs.Prelude.{◌≡◌, refl, ◌↔◌, ◌≢◌, Bool, true, false, cond, List, ◌++◌, ℕ, ◌*◌, leb, length, drop, take}
use Rattle.std.proofs.Common.{sym, ap, subst, ◌∙◌, true≢false, arith, leb-true, leb-false}
use Rattle.std.proofs.Math.Seq.{take-append_seam}
use Rattle.semantics.specs.Automata.Proper.{Proper}
use Rattle.semantics.specs.Automaton.{Automaton}
use Rattle.semantics.specs.NodeCount.{node_count}
use Rattle.semantics.specs.Chain.{moves_of}
use Rattle.semantics.specs.Order.{cost, Best}
use Rattle.semantics.specs.Demand.{AtLeast, Approached, NoRun}
use Rattle.semantics.specs.Answer.{Comes, NoChain, Answer as Found, no_route, route, answer}
use Rattle.semantics.proofs.Answers.Best.{answer-best}
use Rattle.semantics.proofs.Answers.Demand.{answer-no-chain, answer-no-run, answer-at-least, answer-approached}
use Rattle.table.specs.Fields.{Fields}
use Rattle.table.specs.Meaning.{automaton}
use Rattle.reader.specs.Read.{Judgement, accepted, rejected, read}
use Rattle.reader.specs.Theorems.Proper.{accepted-proper}
use Rattle.reader.specs.Theorems.Refusals.{rejected-range}
use Rattle.search.specs.Outcome.{most_nodes, answered, cleared}
use Rattle.search.specs.Outcome.{Nodes as Searched-as-Nodes, Refused as Searched-as-Refused}
use Rattle.route.specs.Answers.{Answer}
use Rattle.route.specs.Answers.{Refused, NoRoute, Route}
use Rattle.route.specs.Plan.{Outcome, outcome, routed, after_room, planned_table, judged, planned}
use Rattle.route.specs.Promise.{IsSearched, KeepsDemand}

module _ (bytes : List ℕ) (lent : ℕ) where
  -- The outcome keeps the demands.
  abbrev Keeps : Outcome → Type 0
  Keeps o = KeepsDemand bytes lent o.route o.answer

  -- The bytes have one automaton.
  one-automaton : (a b : Automaton) → IsSearched bytes lent a → IsSearched bytes lent b → a ≡ b
  one-automaton a b s t =
      let same : s.fields ≡ t.fields = cc (s.is-accepted, t.is-accepted) in
      s.is-automaton ∙ ap automaton same ∙ sym t.is-automaton

  -- A refusal before the search, by another number than 10.
  refused-keeps :
      (rs : List ℕ) (n : ℕ) → n ≢ 10 → ((a : Automaton) → IsSearched bytes lent a → ⊥) → KeepsDemand bytes lent rs (Refused n)
  refused-keeps rs n other none = record {
    reported = λ C k e. absurd (true≢false cc);
    best = λ C k e a s. absurd (none a s);
    no-chain = λ a s. absurd (none a s);
    at_least = λ C k e a s. absurd (none a s);
    approached = λ C k e a s. absurd (none a s);
    no-route = λ a s. absurd (none a s);
    ten = λ e. absurd (other (cc e));
  }

  -- After a search: what holds of the automaton in hand holds of every one.
  module _ (a : Automaton) (ok : Proper a) (s : IsSearched bytes lent a) where
    others : (P : Automaton → Type 0) → P a → (b : Automaton) → IsSearched bytes lent b → P b
    others P p b t = subst P (one-automaton a b s t) p

    -- An answer that is no route exactly if the definitions have none.
    module _ (r : Answer) (same : (r ≡ NoRoute) ↔ (answer a a.goal ≡ no_route)) where
      same-chains : (b : Automaton) → IsSearched bytes lent b → (r ≡ NoRoute) ↔ NoChain b b.goal
      same-chains =
          let k = answer-no-chain a ok a.goal in
          others (λ b. (r ≡ NoRoute) ↔ NoChain b b.goal) (λ e. k.0 (same.0 e), λ n. same.1 (k.1 n))

      same_runs : (b : Automaton) → IsSearched bytes lent b → (r ≡ NoRoute) ↔ NoRun b b.goal
      same_runs =
          let k = answer-no-run a ok a.goal in
          others (λ b. (r ≡ NoRoute) ↔ NoRun b b.goal) (λ e. k.0 (same.0 e), λ n. same.1 (k.1 n))

    none-keeps : (rs : List ℕ) → answer a a.goal ≡ no_route → KeepsDemand bytes lent rs NoRoute
    none-keeps rs is = record {
      reported = λ C k e. absurd (true≢false cc);
      best = λ C k e. absurd (true≢false cc);
      no-chain = same-chains NoRoute same;
      at_least = λ C k e. absurd (true≢false cc);
      approached = λ C k e. absurd (true≢false cc);
      no-route = same_runs NoRoute same;
      ten = λ e. absurd (true≢false cc);
    }
      where
        same : (NoRoute ≡ NoRoute) ↔ (answer a a.goal ≡ no_route)
        same = (λ e. is, λ e. refl)

    module _ (C : ℕ) (ks : List ℕ) (is : answer a a.goal ≡ route C ks) where
      -- Neither a route nor 10 is no route.
      no_none : (r : Answer) → (r ≡ NoRoute → ⊥) → (r ≡ NoRoute) ↔ (answer a a.goal ≡ no_route)
      no_none r other = (λ e. absurd (other e), λ e. absurd (true≢false cc))

      ten-keeps : (rs : List ℕ) → KeepsDemand bytes lent rs (Refused 10)
      ten-keeps rs = record {
        reported = λ D k e. absurd (true≢false cc);
        best = λ D k e. absurd (true≢false cc);
        no-chain = same-chains (Refused 10) none;
        at_least = λ D k e. absurd (true≢false cc);
        approached = λ D k e. absurd (true≢false cc);
        no-route = same_runs (Refused 10) none;
        ten = λ e. (a, s, λ n. let q = (answer-no-run a ok a.goal).1 n in true≢false cc);
      }
        where
          none : (Refused 10 ≡ NoRoute) ↔ (answer a a.goal ≡ no_route)
          none = no_none (Refused 10) (λ e. true≢false cc)

      route-keeps : (rs : List ℕ) → KeepsDemand bytes lent (ks ++ rs) (Route C (length ks))
      route-keeps rs = record {
        reported = λ D k e. (a, s);
        best = λ D k e.
            others (λ b. Best (Comes b b.goal) (cost D k) (take k (ks ++ rs)))
            (told (λ D k js. Best (Comes a a.goal) (cost D k) js) D k e ((answer-best a ok a.goal C ks).0 is));
        no-chain = same-chains (Route C (length ks)) none;
        at_least = λ D k e.
            others (λ b. AtLeast b b.goal D)
            (told (λ D k js. AtLeast a a.goal D) D k e (answer-at-least a ok a.goal C ks is));
        approached = λ D k e.
            others (λ b. Approached b b.goal (moves_of (take k (ks ++ rs))) D)
            (told (λ D k js. Approached a a.goal (moves_of js) D) D k e (answer-approached a ok a.goal C ks is));
        no-route = same_runs (Route C (length ks)) none;
        ten = λ e. absurd (true≢false cc);
      }
        where
          none : (Route C (length ks) ≡ NoRoute) ↔ (answer a a.goal ≡ no_route)
          none = no_none (Route C (length ks)) (λ e. true≢false cc)

          -- What holds of the charge, the steps and the route holds of what is reported.
          told :
              (P : ℕ → ℕ → List ℕ → Type 0) (D k : ℕ) → Route C (length ks) ≡ Route D k → P C (length ks) ks
              → P D k (take k (ks ++ rs))
          told P D k e p =
              let charged : C ≡ D = cc in
              let counted : length ks ≡ k = cc in
              rw (← charged, ← counted, take-append_seam ks rs) p

    -- The answer of the definitions, with the route bytes lent for it.
    routed-keeps : (x : Found) → answer a a.goal ≡ x → (ws rs : List ℕ) → Keeps (routed a x ws rs)
    routed-keeps no_route is ws rs = none-keeps rs is
    routed-keeps (route C ks) is ws rs = go (leb (length ks) (length rs))
      where
        go :
            (b : Bool)
            → Keeps (cond b (outcome (Route C (length ks)) (cleared a ws) (ks ++ drop (length ks) rs)) (outcome (Refused 10) (cleared a ws) rs))
        go true = route-keeps C ks is (drop (length ks) rs)
        go false = ten-keeps C ks is rs

  -- The room for the search, of a table that was read.
  module _ (a : Automaton) (f : Fields) (is : a ≡ automaton f) (read_as : read bytes ≡ accepted f) where
    same_nodes : (b : Automaton) → IsSearched bytes lent b → node_count b ≡ node_count a
    same_nodes b t = let same : t.fields ≡ f = cc t.is-accepted in ap node_count (t.is-automaton ∙ ap automaton same ∙ sym is)

    room-keeps : (ws rs : List ℕ) → Keeps (after_room (answered a lent) a ws rs)
    room-keeps ws rs = go (leb (node_count a) most_nodes) refl (leb (2 * node_count a) lent) refl
      where
        go :
            (b : Bool) → leb (node_count a) most_nodes ≡ b → (d : Bool) → leb (2 * node_count a) lent ≡ d
            → Keeps (after_room (cond b (cond d (Searched-as-Nodes (node_count a)) (Searched-as-Refused 9)) (Searched-as-Refused 8)) a ws rs)
        go true q true h =
            routed-keeps a (subst Proper (sym is) (accepted-proper bytes f read_as))
            (record {
              fields = f;
              is-accepted = read_as;
              is-automaton = is;
              few = leb-true (node_count a) most_nodes q;
              room = leb-true (2 * node_count a) lent h;
            }) (answer a a.goal) refl ws rs
        go true q false h =
            refused-keeps rs 9 (λ e. omega arith) (λ b t. omega (arith, same_nodes b t, t.room, leb-false (2 * node_count a) lent h))
        go false q d h =
            refused-keeps rs 8 (λ e. omega arith) (λ b t. omega (arith, same_nodes b t, t.few, leb-false (node_count a) most_nodes q))

pub planned-keeps :
    (bytes ws rs : List ℕ) → KeepsDemand bytes (length ws) (planned bytes ws rs).route (planned bytes ws rs).answer
unfolding planned planned_table
planned-keeps bytes ws rs = go (read bytes) refl
  where
    go : (j : Judgement) → read bytes ≡ j → Keeps bytes (length ws) (judged j ws rs)
    go (rejected n) e =
        refused-keeps bytes (length ws) rs n (λ q. omega (arith, rejected-range bytes n e))
        (λ b t. let k = t.is-accepted in true≢false cc)
    go (accepted f) e = room-keeps bytes (length ws) (automaton f) f refl e ws rs
