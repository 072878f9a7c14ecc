-- The outcome of the definitions keeps what is promised of it.
-- Assumes nothing.
use Rattle.std.specs.Prelude.{◌≡◌, ◌↔◌, ◌≢◌, Bool, cond, List, ◌++◌, ℕ, ◌*◌, ◌/◌, ◌<◌, leb, length, drop, take}
use Rattle.std.proofs.Math.Path.{refl, ap}
use Rattle.std.proofs.Common.{sym, subst, ◌∙◌, arith, leb-true, leb-false}
use Rattle.std.proofs.Math.Bool.{true, false, true≢false}
use Rattle.std.proofs.Math.Seq.{take-append_seam}
use Rattle.semantics.specs.Distinct.{distinct}
use Rattle.semantics.specs.Automata.Proper.{Proper}
use Rattle.semantics.specs.Automaton.{Automaton}
use Rattle.semantics.specs.NodeCount.{node_count}
use Rattle.semantics.specs.Order.{cost, Best}
use Rattle.semantics.specs.Demand.{AtLeast, NoRun}
use Rattle.semantics.specs.Answer.{Answer as Found, no_route, route, answer}
use Rattle.semantics.specs.Closed.{closed_table}
use Rattle.semantics.specs.Timetable.{Timetable as IsTimetable, timetable}
use Rattle.semantics.proofs.Answers.Best.{answer-best}
use Rattle.semantics.proofs.Answers.Demand.{answer-no-run, answer-at-least}
use Rattle.semantics.specs.Timetables.Edges.{bytes-length}
use Rattle.semantics.proofs.Timetables.Best.{best-timetable, timetable-pairs}
use Rattle.table.specs.Fields.{Fields}
use Rattle.table.specs.Meaning.{automaton}
use Rattle.reader.specs.Read.{Judgement, accepted, rejected, read}
use Rattle.reader.specs.Theorems.Proper.{accepted-proper}
use Rattle.reader.specs.Theorems.Refusals.{rejected-range}
use Rattle.search.specs.Outcome.{most_nodes, answered, cleared}
use Rattle.search.specs.Outcome.{Nodes as Searched-as-Nodes, Refused as Searched-as-Refused}
use Rattle.route.specs.Answers.{Route}
use Rattle.route.specs.Plan.{planned}
use Rattle.route.specs.Promise.{IsSearched}
use Rattle.route.specs.Keeps.{planned-keeps}
use Rattle.timetable.specs.Answers.{Answer}
use Rattle.timetable.specs.Answers.{Refused, NoRoute, Timetable}
use Rattle.timetable.specs.Timetabled.{Outcome, outcome, told, after_room, timetabled_table, judged, timetabled}
use Rattle.timetable.specs.Promise.{IsTimetabled, KeepsTimetable}
use Rattle.timetable.specs.Same.{timetable-answer, same_none, exists-both}

module _ (bytes ws : List ℕ) where
  -- The outcome keeps the promise.
  abbrev Keeps : Outcome → Type 0
  Keeps o = KeepsTimetable bytes ws o.route o.answer

  -- The bytes have one automaton.
  one-automaton : (a b : Automaton) → IsSearched bytes (length ws) a → IsSearched bytes (length ws) b → a ≡ b
  one-automaton a b s t =
      let same : s.fields ≡ t.fields = cc (s.is-accepted, t.is-accepted) in
      s.is-automaton ∙ ap automaton same ∙ sym t.is-automaton

  -- A refusal before the search, by another number than 10.
  refused-keeps :
      (rs : List ℕ) (n : ℕ) → n ≢ 10 → ((a : Automaton) → IsTimetabled bytes (length ws) a → ⊥) → KeepsTimetable bytes ws rs (Refused n)
  refused-keeps rs n other none = record {
    reported = λ C k e. distinct cc;
    run = λ C k e. distinct cc;
    best = λ C k e. distinct cc;
    charged = λ C k e. distinct cc;
    as-planned = λ C k e. distinct cc;
    at_least = λ C k e. distinct cc;
    no-route = λ a s. absurd (none a s);
    no_run = λ a s. absurd (none a s);
    exists = λ a s. absurd (none a s);
    ten = λ e. absurd (other (cc e));
  }

  -- After a search: what holds of the automaton in hand holds of every one.
  module _ (a : Automaton) (ok : Proper a) (s : IsTimetabled bytes (length ws) a) where
    others : (P : Automaton → Type 0) → P a → (b : Automaton) → IsTimetabled bytes (length ws) b → P b
    others P p b t = subst P (one-automaton a b s.searched t.searched) p

    abbrev Both : Automaton → Type 0
    Both b = ((C : ℕ) × (js : List ℕ) × IsTimetable b b.goal js C) ↔ ((C : ℕ) × (ks : List ℕ) × (answer b b.goal ≡ route C ks))

    both : (b : Automaton) → IsTimetabled bytes (length ws) b → Both b
    both = others Both (exists-both a ok s.closed a.goal)

    -- An answer that is no route exactly if the definitions have no timetable.
    module _ (r : Answer) (same : (r ≡ NoRoute) ↔ (timetable a a.goal ≡ no_route)) where
      same-routes : (b : Automaton) → IsTimetabled bytes (length ws) b → (r ≡ NoRoute) ↔ (answer b b.goal ≡ no_route)
      same-routes =
          let k = same_none a ok s.closed a.goal in
          others (λ b. (r ≡ NoRoute) ↔ (answer b b.goal ≡ no_route)) (λ e. k.0 (same.0 e), λ n. same.1 (k.1 n))

      same_runs : (b : Automaton) → IsTimetabled bytes (length ws) b → (r ≡ NoRoute) ↔ NoRun b b.goal
      same_runs =
          let k = same_none a ok s.closed a.goal in
          let m = answer-no-run a ok a.goal in
          others (λ b. (r ≡ NoRoute) ↔ NoRun b b.goal) (λ e. m.0 (k.0 (same.0 e)), λ n. same.1 (k.1 (m.1 n)))

    none-keeps : (rs : List ℕ) → timetable a a.goal ≡ no_route → KeepsTimetable bytes ws rs NoRoute
    none-keeps rs is = record {
      reported = λ C k e. distinct cc;
      run = λ C k e. distinct cc;
      best = λ C k e. distinct cc;
      charged = λ C k e. distinct cc;
      as-planned = λ C k e. distinct cc;
      at_least = λ C k e. distinct cc;
      no-route = same-routes NoRoute (λ e. is, λ e. refl);
      no_run = same_runs NoRoute (λ e. is, λ e. refl);
      exists = both;
      ten = λ e. distinct cc;
    }

    module _ (C : ℕ) (ks : List ℕ) (is : timetable a a.goal ≡ route C ks) where
      -- Neither a timetable nor 10 is no route.
      no_none : (r : Answer) → (r ≡ NoRoute → ⊥) → (r ≡ NoRoute) ↔ (timetable a a.goal ≡ no_route)
      no_none r other = (λ e. absurd (other e), λ e. distinct cc)

      -- The bytes are those of pairs, so there is an even number of them.
      even : 2 * (length ks / 2) ≡ length ks
      even = let o = (timetable-pairs a ok a.goal C ks is).1 in omega (arith, ap length o.1, bytes-length o.0)

      ten-keeps : (rs : List ℕ) → length rs < length ks → KeepsTimetable bytes ws rs (Refused 10)
      ten-keeps rs short =
          let many = (timetable-pairs a ok a.goal C ks is).0 in
          let none : (Refused 10 ≡ NoRoute) ↔ (timetable a a.goal ≡ no_route) = no_none (Refused 10) (λ e. true≢false cc) in
          record {
            reported = λ D k e. distinct cc;
            run = λ D k e. distinct cc;
            best = λ D k e. distinct cc;
            charged = λ D k e. distinct cc;
            as-planned = λ D k e. distinct cc;
            at_least = λ D k e. distinct cc;
            no-route = same-routes (Refused 10) none;
            no_run = same_runs (Refused 10) none;
            exists = both;
            ten = λ e. (a, s, (λ n. let q = (same_runs (Refused 10) none a s).1 n in distinct cc), omega (arith, short, many, even));
          }

      own-route : (js : List ℕ) × (answer a a.goal ≡ route C js)
      own-route = timetable-answer a ok s.closed a.goal C ks is

      -- What planning reports is the charge of the route.
      planned-charge : (bs : List ℕ) (D k : ℕ) → (planned bytes ws bs).answer ≡ Route D k → D ≡ C
      planned-charge bs D k e =
          let p = planned-keeps bytes ws bs in
          let b = p.best D k e a s.searched in
          let found : answer a a.goal ≡ route D (take k (planned bytes ws bs).route) =
          (answer-best a ok a.goal D (take k (planned bytes ws bs).route)).1 (rw b.first.good.1 b) in
          let own = own-route.1 in
          cc

      timetable-keeps : (rs : List ℕ) → KeepsTimetable bytes ws (ks ++ rs) (Timetable C (length ks / 2))
      timetable-keeps rs = record {
        reported = λ D k e. (a, s);
        run = λ D k e.
            others (λ b. IsTimetable b b.goal (take (2 * k) (ks ++ rs)) D)
            (reports (λ D k js. IsTimetable a a.goal js D) D k e ((best-timetable a ok a.goal C ks).0 is).first.good.0);
        best = λ D k e.
            others (λ b. Best (IsTimetable b b.goal) (cost D (2 * k)) (take (2 * k) (ks ++ rs)))
            (reports (λ D n js. Best (IsTimetable a a.goal) (cost D n) js) D k e ((best-timetable a ok a.goal C ks).0 is));
        charged = λ D k e.
            others (λ b. (js : List ℕ) × (answer b b.goal ≡ route D js))
            (reports (λ D n js. (js : List ℕ) × (answer a a.goal ≡ route D js)) D k e own-route);
        as-planned = λ D k e bs D' k' p. planned-charge bs D' k' p ∙ reports (λ D n js. C ≡ D) D k e refl;
        at_least = λ D k e.
            others (λ b. AtLeast b b.goal D)
            (reports (λ D n js. AtLeast a a.goal D) D k e (answer-at-least a ok a.goal C own-route.0 own-route.1));
        no-route = same-routes (Timetable C (length ks / 2)) none;
        no_run = same_runs (Timetable C (length ks / 2)) none;
        exists = both;
        ten = λ e. distinct cc;
      }
        where
          none : (Timetable C (length ks / 2) ≡ NoRoute) ↔ (timetable a a.goal ≡ no_route)
          none = no_none (Timetable C (length ks / 2)) (λ e. true≢false cc)

          -- What holds of the charge, the number of bytes and the bytes holds of what is reported.
          reports :
              (P : ℕ → ℕ → List ℕ → Type 0) (D k : ℕ) → Timetable C (length ks / 2) ≡ Timetable D k → P C (length ks) ks
              → P D (2 * k) (take (2 * k) (ks ++ rs))
          reports P D k e p =
              let same : C ≡ D = cc in
              let counted : length ks / 2 ≡ k = cc in
              let all : length ks ≡ 2 * k = omega (arith, even, counted) in
              rw (← same, ← all, take-append_seam ks rs) p

    -- The timetable of the definitions, with the route bytes lent for it.
    told-keeps : (x : Found) → timetable a a.goal ≡ x → (rs : List ℕ) → Keeps (told a x ws rs)
    told-keeps no_route is rs = none-keeps rs is
    told-keeps (route C ks) is rs = go (leb (length ks) (length rs)) refl
      where
        go :
            (b : Bool) → leb (length ks) (length rs) ≡ b
            → Keeps (cond b (outcome (Timetable C (length ks / 2)) (cleared a ws) (ks ++ drop (length ks) rs)) (outcome (Refused 10) (cleared a ws) rs))
        go true q = timetable-keeps C ks is (drop (length ks) rs)
        go false q = ten-keeps C ks is rs (leb-false (length ks) (length rs) q)

  -- A table that was read.
  module _ (f : Fields) (read_as : read bytes ≡ accepted f) where
    abbrev own : Automaton
    own = automaton f

    same-automaton : (b : Automaton) → IsSearched bytes (length ws) b → b ≡ automaton f
    same-automaton b t = let same : t.fields ≡ f = cc t.is-accepted in t.is-automaton ∙ ap automaton same

    room-keeps : closed_table (automaton f) ≡ true → (rs : List ℕ) → Keeps (after_room (answered (automaton f) (length ws)) (automaton f) ws rs)
    room-keeps closed rs = go (leb (node_count own) most_nodes) refl (leb (2 * node_count own) (length ws)) refl
      where
        go :
            (b : Bool) → leb (node_count own) most_nodes ≡ b → (d : Bool) → leb (2 * node_count own) (length ws) ≡ d
            → Keeps (after_room (cond b (cond d (Searched-as-Nodes (node_count own)) (Searched-as-Refused 9)) (Searched-as-Refused 8)) own ws rs)
        go true q true h =
            told-keeps own (accepted-proper bytes f read_as)
            (record {
              searched = record {
                fields = f;
                is-accepted = read_as;
                is-automaton = refl;
                few = leb-true (node_count own) most_nodes q;
                room = leb-true (2 * node_count own) (length ws) h;
              };
              closed = closed;
            }) (timetable own own.goal) refl rs
        go true q false h =
            refused-keeps rs 9 (λ e. omega arith)
            (λ b t. omega (arith, ap node_count (same-automaton b t.searched), t.searched.room, leb-false (2 * node_count own) (length ws) h))
        go false q d h =
            refused-keeps rs 8 (λ e. omega arith)
            (λ b t. omega (arith, ap node_count (same-automaton b t.searched), t.searched.few, leb-false (node_count own) most_nodes q))

    table-keeps : (rs : List ℕ) → Keeps (timetabled_table (automaton f) ws rs)
    unfolding timetabled_table
    table-keeps rs = go (closed_table own) refl
      where
        go :
            (b : Bool) → closed_table own ≡ b → Keeps (cond b (after_room (answered own (length ws)) own ws rs) (outcome (Refused 12) ws rs))
        go true q = room-keeps q rs
        go false q =
            refused-keeps rs 12 (λ e. omega arith)
            (λ b t. true≢false (sym t.closed ∙ ap closed_table (same-automaton b t.searched) ∙ q))

pub timetabled-keeps :
    (bytes ws rs : List ℕ) → KeepsTimetable bytes ws (timetabled bytes ws rs).route (timetabled bytes ws rs).answer
unfolding timetabled
timetabled-keeps bytes ws rs = go (read bytes) refl
  where
    go : (j : Judgement) → read bytes ≡ j → Keeps bytes ws (judged j ws rs)
    go (rejected n) e =
        refused-keeps bytes ws rs n (λ q. omega (arith, rejected-range bytes n e))
        (λ b t. let k = t.searched.is-accepted in true≢false cc)
    go (accepted f) e = table-keeps bytes ws f e rs
