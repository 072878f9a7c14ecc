-- The words at the start of a search: only the start is reached, and it is pending.
-- Assumes nothing.
use mathlib.Core.Path.{◌≡◌, refl, ap, ◌∙◌}
use mathlib.Core.Logic.{◌≢◌, inl}
use mathlib.Core.List.{List, ◌++◌}
use Prim.Native.Nat.{ℕ, ◌*◌, ◌/◌, ◌≤◌, ◌<◌}
use native.Mathlib.Decide.{ℕ_discrete}
use native.Mathlib.Omega.{arith}
use lib.ListN.{length, get_or, take, drop, replicate, length-append, length-drop, length-replicate, get_or-replicate, get_or-append}
use lib.Seq.{length-take-le, drop_at}
use Rattle.semantics.specs.Distinct.{distinct}
use Rattle.semantics.specs.Order.{Cost, cost}
use Rattle.semantics.specs.Graph.Path.{Graph, HasCost, unreached, reached, infinity, charge_at, table}
use Rattle.semantics.specs.Graph.Near.{turned}
use Rattle.semantics.specs.Paths.Words.{table-unreached, table-stored, table-other}
use Rattle.semantics.specs.Paths.Turned.{turned-target, turned-start}
use Rattle.queue.specs.Tournament.{none}
use Rattle.queue.specs.Queue.{lows, slot_at, Queue, LowerReady, LowerDone}
use Rattle.queue.specs.Laws.First.{empty-unreached, empty-queue}
use Rattle.queue.specs.Laws.Lows.{lows-length, lowered-length, lowered-rest}
use Rattle.search.specs.Exploring.{costs_in, Between}
use Rattle.search.specs.Seeding.{SeedReady, blank_words, Seeded}

-- As code leaves the words after the fill.
pub blank-is :
    (nodes : ℕ) (ws new : List ℕ) → 2 * nodes ≤ length ws → new ≡ replicate (length (take (2 * nodes) ws)) infinity
    → new ++ drop (2 * nodes) ws ≡ blank_words nodes ws
blank-is nodes ws new room e = rw (e, length-take-le (2 * nodes) ws room) refl

module _ (nodes start : ℕ) (ws : List ℕ) (r : SeedReady nodes start ws) where
  abbrev us : List ℕ
  us = blank_words nodes ws

  blank-length : length (blank_words nodes ws) ≡ length ws
  blank-length =
      omega (
        arith,
        r.room,
        length-append (replicate (2 * nodes) infinity) (drop (2 * nodes) ws),
        length-replicate (2 * nodes) infinity,
        length-drop (2 * nodes) ws,
      )

  blank-rest : drop (2 * nodes) (blank_words nodes ws) ≡ drop (2 * nodes) ws
  blank-rest = drop_at (replicate (2 * nodes) infinity) (drop (2 * nodes) ws) (2 * nodes) (length-replicate (2 * nodes) infinity)

  blank-queue : Queue nodes 0 (blank_words nodes ws)
  blank-queue = empty-queue nodes 0 (drop (2 * nodes) ws) r.two r.few

  blank-charge : (v : ℕ) → v < nodes → charge_at (lows nodes (blank_words nodes ws)) v ≡ infinity
  blank-charge = empty-unreached nodes 0 (drop (2 * nodes) ws) r.two r.few

  blank-outside : slot_at (blank_words nodes ws) 0 ≡ none
  blank-outside =
      let word : get_or (blank_words nodes ws) 1 0 ≡ infinity =
      get_or-append (replicate (2 * nodes) infinity) (drop (2 * nodes) ws) 0 1 (omega (arith, r.two, length-replicate (2 * nodes) infinity))
      ∙ get_or-replicate (2 * nodes) 1 infinity 0 (omega (arith, r.two)) in
      ap (λ (w : ℕ). w / 65536) word

  -- The start may be lowered to cost 0,
  pub seed-ready : (vs : List ℕ) → vs ≡ blank_words nodes ws → LowerReady nodes start 0 0 vs
  seed-ready vs e =
      rw e (record {
        relax = record {
          upto = 0;
          queue = blank-queue;
          later = omega arith;
          there = r.there;
          fits = omega arith;
          known = λ q. omega arith;
        };
        less = inl (omega (arith, blank-charge start r.there));
      })

  -- and then it is the only one that is reached.
  pub seeds : (vs ws' : List ℕ) → vs ≡ blank_words nodes ws → LowerDone nodes start 0 0 vs ws' → Seeded nodes start ws ws'
  seeds vs ws' e done =
      let d : LowerDone nodes start 0 0 us ws' = rw e at done in
      record { costs = d.costs; queue = d.queue 0 blank-queue (omega arith); outside = d.outside ∙ blank-outside }

  module _ (ws' : List ℕ) (s : Seeded nodes start ws ws') where
    pub seeded-rest : drop (2 * nodes) ws' ≡ drop (2 * nodes) ws
    seeded-rest = lowered-rest nodes us ws' start (cost 0 0) s.costs r.there ∙ blank-rest

    pub seeded-kept : length ws' ≡ length ws
    seeded-kept = lowered-length nodes us ws' start (cost 0 0) s.costs ∙ blank-length

    own-entry : costs_in nodes ws' start ≡ reached (cost 0 0)
    own-entry =
        ap (λ (l : List ℕ). table l start) s.costs
        ∙ table-stored (lows nodes us) start (cost 0 0) (omega (arith, r.there, r.room, blank-length, lows-length nodes us)) (λ q. omega arith)

    other-entry : (v : ℕ) → v < nodes → v ≢ start → costs_in nodes ws' v ≡ unreached
    other-entry v h n =
        ap (λ (l : List ℕ). table l v) s.costs ∙ table-other (lows nodes us) start (cost 0 0) v n
        ∙ table-unreached (lows nodes us) v (blank-charge v h)

    -- What is reached is the start, at cost 0.
    only-start : (v : ℕ) (a : Cost) → v < nodes → costs_in nodes ws' v ≡ reached a → (v ≡ start) × (a ≡ cost 0 0)
    only-start v a h q = at (ℕ_discrete v start)
      where
        at : Dec (v ≡ start) → (v ≡ start) × (a ≡ cost 0 0)
        at (yes e) = (e, let o = own-entry in let p : costs_in nodes ws' start ≡ reached a = rw e at q in cc)
        at (no n) = absurd (let o = other-entry v h n in distinct cc)

    -- A search from it has begun: nothing is settled.
    pub seeded-between : (g : Graph) → g.nodes ≡ nodes → Between g start nodes 0 ws'
    seeded-between g sized = record {
      sized = sized;
      queue = s.queue;
      settling = record {
        costs = record {
          attained = λ v a h q. attained v a (only-start v a (omega arith) q);
          few = λ v a h q. few a (only-start v a (omega arith) q).1;
          start = λ v h t. ap (costs_in nodes ws') ((turned-target g start v).0 t) ∙ own-entry;
        };
        settled = λ v e a h l z. absurd (omega (arith, z.before));
        targets = λ v a h t z. omega (arith, z.before);
      };
    }
      where
        attained : (v : ℕ) (a : Cost) → (v ≡ start) × (a ≡ cost 0 0) → HasCost (turned g start) v a
        attained v a o = rw (o.0, o.1) (turned-start g start)

        few : (a : Cost) → a ≡ cost 0 0 → a.steps < g.nodes
        few a e = omega (arith, ap (λ (c : Cost). c.steps) e, r.there, sized)
