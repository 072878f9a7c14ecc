-- Planning refuses by the first line of document 01's table that holds, and by the numbers 1 to 10 alone.
-- Assumes nothing.
use Rattle.std.specs.Prelude.{◌≡◌, Bool, cond, ◌↔◌, ℕ, ◌*◌, ◌<◌, ◌≤◌, length, drop}
use Rattle.std.proofs.Math.Path.{refl}
use Rattle.std.proofs.Common.{sym, ap, subst, subst₂, ◌∙◌, true≢false, arith}
use Rattle.std.proofs.Math.Bool.{true, false}
use mathlib.Core.List.{List, [], ◌∷◌, ◌++◌}
use Rattle.std.proofs.Math.Decide.{dec_lt}
use borrow.Author.Tests.{leb-true, leb-false}
use Rattle.std.proofs.Math.Dec.{leb}
use Rattle.semantics.specs.Automaton.{start_holds}
use Rattle.semantics.specs.NodeCount.{node_count}
use Rattle.semantics.specs.Order.{cost, Best}
use Rattle.semantics.specs.Answer.{Comes, Answer as Found, no_route, route, answer}
use Rattle.semantics.proofs.Answers.Best.{answer-best}
use Rattle.reader.specs.Parser.{Outcome as Parsed, refused, took, run}
use Rattle.table.specs.Fields.{Fields}
use Rattle.reader.specs.Format.{table}
use Rattle.table.specs.Meaning.{automaton}
use Rattle.reader.specs.Read.{accepted, rejected, judge, read}
use Rattle.reader.specs.Theorems.Exactly.{frame, taken}
use Rattle.reader.specs.Theorems.Accepts.{table-exactly}
use Rattle.reader.specs.Theorems.Proper.{accepted-proper}
use Rattle.reader.specs.Theorems.Refusals.{rejected-range}
use Rattle.search.specs.Outcome.{most_nodes, cleared}
use Rattle.search.specs.Outcome.{Nodes as Searched-as-Nodes, Refused as Searched-as-Refused}
use Rattle.route.specs.Answers.{Answer}
use Rattle.route.specs.Answers.{Refused, NoRoute, Route}
use Rattle.route.specs.Plan.{outcome, routed, after_room, planned_table, judged, planned}
use Rattle.route.specs.Refusals.{Begins, Later, left_over, start-fails, large, few_words, long-route, Line, at_byte, behind, FirstLine}

-- The bytes begin with a table exactly if the parser takes it.
begins-run : (bytes : List ℕ) (f : Fields) (left : List ℕ) → Begins bytes f left → run table bytes ≡ took f left
begins-run bytes f left b = rw b.split (frame table b.front [] left f (table-exactly.takes b.front f b.laid))

run-begins : (bytes : List ℕ) (f : Fields) (left : List ℕ) → run table bytes ≡ took f left → Begins bytes f left
run-begins bytes f left e =
    let t = taken table bytes f left e in
    record { front = t.front; split = t.split; laid = table-exactly.lays t.front f t.alone }

module _ (f : Fields) (left : List ℕ) (words room : ℕ) where
  -- What makes the lines below k fail.
  record Passes (k : ℕ) : Type 0 where
    whole : 6 < k → length left ≡ 0
    starts : 7 < k → start_holds (automaton f) ≡ true
    small : 8 < k → node_count (automaton f) ≤ 65536
    lent : 9 < k → 2 * node_count (automaton f) ≤ words
    short : 10 < k → (C : ℕ) (ks : List ℕ) → Best (Comes (automaton f) f.goal) (cost C (length ks)) ks → length ks ≤ room

  none_below : (k : ℕ) → Passes k → (n : ℕ) → Later f left words room n → n < k → ⊥
  none_below k p n (left_over h) b = omega (arith, p.whole b, h)
  none_below k p n (start-fails h) b = true≢false (sym (p.starts b) ∙ h)
  none_below k p n (large h) b = omega (arith, p.small b, h)
  none_below k p n (few_words h) b = omega (arith, p.lent b, h)
  none_below k p n (long-route C ks best h) b = omega (arith, p.short b C ks best, h)

  later-range : (n : ℕ) → Later f left words room n → (1 ≤ n) × (n ≤ 10)
  later-range n (left_over h) = (omega arith, omega arith)
  later-range n (start-fails h) = (omega arith, omega arith)
  later-range n (large h) = (omega arith, omega arith)
  later-range n (few_words h) = (omega arith, omega arith)
  later-range n (long-route C ks best h) = (omega arith, omega arith)

module _ (bytes ws rs : List ℕ) where
  abbrev Holds : ℕ → Type 0
  Holds = Line bytes (length ws) (length rs)

  abbrev IsFirst : ℕ → Type 0
  IsFirst = FirstLine bytes (length ws) (length rs)

  first-once : (k n : ℕ) → IsFirst k → IsFirst n → k ≡ n
  first-once k n x y = at (dec_lt k n) (dec_lt n k)
    where
      at : Dec (k < n) → Dec (n < k) → k ≡ n
      at (yes h) d = absurd (y.none_before k x.line h)
      at (no h) (yes d) = absurd (x.none_before n y.line d)
      at (no h) (no d) = omega arith

  -- The answer refuses by the first line that holds, and by it alone.
  abbrev Fits : Answer → Type 0
  Fits r = (n : ℕ) → (r ≡ Refused n) ↔ IsFirst n

  refused-fits : (k : ℕ) → IsFirst k → Fits (Refused k)
  refused-fits k x n = (λ e. let q : k ≡ n = cc in subst IsFirst q x, λ y. ap Refused (first-once k n x y))

  other_fits : (r : Answer) → ((n : ℕ) → r ≡ Refused n → ⊥) → ((n : ℕ) → Holds n → ⊥) → Fits r
  other_fits r other none n = (λ e. absurd (other n e), λ y. absurd (none n y.line))

  -- A fault in the bytes is the only line.
  byte-only : (m : ℕ) → run table bytes ≡ refused m → (n : ℕ) → Holds n → n ≡ m
  byte-only m e n (at_byte q) = cc
  byte-only m e n (behind f left b x) = let q = begins-run bytes f left b in absurd (true≢false cc)

  module _ (f : Fields) (left : List ℕ) (e : run table bytes ≡ took f left) where
    abbrev Advanced : ℕ → Type 0
    Advanced = Later f left (length ws) (length rs)

    only-later : (n : ℕ) → Holds n → Advanced n
    only-later n (at_byte q) = absurd (true≢false cc)
    only-later n (behind g l b x) =
        let q = begins-run bytes g l b in
        let same : g ≡ f = cc in
        let rest : l ≡ left = cc in
        subst₂ (λ (h : Fields) (r : List ℕ). Later h r (length ws) (length rs) n) same rest x

    later-fits : (k : ℕ) → Advanced k → Passes f left (length ws) (length rs) k → Fits (Refused k)
    later-fits k x p =
        refused-fits k
        (record {
          line = behind f left (run-begins bytes f left e) x;
          none_before = λ n y b. none_below f left (length ws) (length rs) k p n (only-later n y) b;
        })

    passed-fits : (r : Answer) → ((n : ℕ) → r ≡ Refused n → ⊥) → Passes f left (length ws) (length rs) 11 → Fits r
    passed-fits r other p =
        other_fits r other
        (λ n y.
        let x = only-later n y in
        none_below f left (length ws) (length rs) 11 p n x (omega (arith, later-range f left (length ws) (length rs) n x)))

  -- After 7: the room for the search, and then the route.
  module _ (f : Fields) (e : run table bytes ≡ took f []) (starts : start_holds (automaton f) ≡ true) where
    is-accepted : read bytes ≡ accepted f
    unfolding read
    is-accepted = rw (e, starts)

    passes :
        (k : ℕ) → (8 < k → node_count (automaton f) ≤ 65536) → (9 < k → 2 * node_count (automaton f) ≤ length ws)
        → (10 < k → (C : ℕ) (ks : List ℕ) → Best (Comes (automaton f) f.goal) (cost C (length ks)) ks → length ks ≤ length rs)
        → Passes f [] (length ws) (length rs) k
    passes k small lent short = record { whole = λ b. refl; starts = λ b. starts; small = small; lent = lent; short = short }

    module _ (small : node_count (automaton f) ≤ 65536) (lent : 2 * node_count (automaton f) ≤ length ws) where
      best-is :
          (C : ℕ) (ks : List ℕ)
          → (answer (automaton f) f.goal ≡ route C ks) ↔ Best (Comes (automaton f) f.goal) (cost C (length ks)) ks
      best-is = answer-best (automaton f) (accepted-proper bytes f is-accepted) f.goal

      routed-fits : (x : Found) → answer (automaton f) f.goal ≡ x → Fits (routed (automaton f) x ws rs).answer
      routed-fits no_route is =
          passed-fits f [] e NoRoute (λ n q. true≢false cc)
          (passes 11 (λ b. small) (λ b. lent) (λ b D js best. let q = (best-is D js).1 best in absurd (true≢false cc)))
      routed-fits (route C ks) is = go (leb (length ks) (length rs)) refl
        where
          go :
              (t : Bool) → leb (length ks) (length rs) ≡ t
              → Fits
              (cond t (outcome (Route C (length ks)) (cleared (automaton f) ws) (ks ++ drop (length ks) rs))
              (outcome (Refused 10) (cleared (automaton f) ws) rs)).answer
          go true t =
              passed-fits f [] e (Route C (length ks)) (λ n q. true≢false cc)
              (passes 11 (λ b. small) (λ b. lent) (λ b D js best.
              let q = (best-is D js).1 best in
              let same : js ≡ ks = cc in
              rw same (leb-true (length ks) (length rs) t)))
          go false t =
              later-fits f [] e 10 (long-route C ks ((best-is C ks).0 is) (leb-false (length ks) (length rs) t))
              (passes 10 (λ b. small) (λ b. lent) (λ b. absurd (omega arith)))

    table_fits : Fits (planned_table (automaton f) ws rs).answer
    unfolding planned_table
    table_fits = go (leb (node_count (automaton f)) most_nodes) refl (leb (2 * node_count (automaton f)) (length ws)) refl
      where
        go :
            (b : Bool) → leb (node_count (automaton f)) most_nodes ≡ b → (d : Bool) → leb (2 * node_count (automaton f)) (length ws) ≡ d
            → Fits
            (after_room (cond b (cond d (Searched-as-Nodes (node_count (automaton f))) (Searched-as-Refused 9)) (Searched-as-Refused 8)) (automaton f) ws rs
            ).answer
        go true p true q =
            routed-fits (leb-true (node_count (automaton f)) most_nodes p) (leb-true (2 * node_count (automaton f)) (length ws) q)
            (answer (automaton f) f.goal) refl
        go true p false q =
            later-fits f [] e 9 (few_words (leb-false (2 * node_count (automaton f)) (length ws) q))
            (passes 9 (λ b. leb-true (node_count (automaton f)) most_nodes p) (λ b. absurd (omega arith)) (λ b. absurd (omega arith)))
        go false p d q =
            later-fits f [] e 8 (large (leb-false (node_count (automaton f)) most_nodes p))
            (passes 8 (λ b. absurd (omega arith)) (λ b. absurd (omega arith)) (λ b. absurd (omega arith)))

  -- Planning refuses by n exactly if line n is the first that holds.
  pub refused-first : (n : ℕ) → ((planned bytes ws rs).answer ≡ Refused n) ↔ FirstLine bytes (length ws) (length rs) n
  unfolding planned read
  refused-first = go (run table bytes) refl
    where
      started :
          (f : Fields) → run table bytes ≡ took f [] → (t : Bool) → start_holds (automaton f) ≡ t
          → Fits (judged (cond t (accepted f) (rejected 7)) ws rs).answer
      started f e true h = table_fits f e h
      started f e false h =
          later-fits f [] e 7 (start-fails h)
          (record {
            whole = λ b. refl;
            starts = λ b. absurd (omega arith);
            small = λ b. absurd (omega arith);
            lent = λ b. absurd (omega arith);
            short = λ b. absurd (omega arith);
          })

      go : (o : Parsed Fields) → run table bytes ≡ o → Fits (judged (judge o) ws rs).answer
      go (refused m) e = refused-fits m (record { line = at_byte e; none_before = λ k x b. omega (arith, byte-only m e k x) })
      go (took f (b ∷ left)) e =
          later-fits f (b ∷ left) e 6 (left_over (omega arith))
          (record {
            whole = λ h. absurd (omega arith);
            starts = λ h. absurd (omega arith);
            small = λ h. absurd (omega arith);
            lent = λ h. absurd (omega arith);
            short = λ h. absurd (omega arith);
          })
      go (took f []) e = started f e (start_holds (automaton f)) refl

  -- The numbers of planning's refusals.
  pub planned-range : (n : ℕ) → (planned bytes ws rs).answer ≡ Refused n → (1 ≤ n) × (n ≤ 10)
  unfolding read
  planned-range n e = at ((refused-first n).0 e).line
    where
      at : Holds n → (1 ≤ n) × (n ≤ 10)
      at (at_byte q) = let r = rejected-range bytes n (ap judge q) in (r.0, omega (arith, r.1))
      at (behind f left b x) = later-range f left (length ws) (length rs) n x
