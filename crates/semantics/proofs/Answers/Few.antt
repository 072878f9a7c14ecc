-- The recursion of the page Answer finds the best of all chains of a bounded number of steps.
-- Assumes nothing.
use Rattle.std.specs.Prelude.{◌≡◌, refl, Bool, true, false, cond, ◌↔◌, ◌⊎◌, eqb}
use Rattle.std.proofs.Math.Path.{ap}
use Rattle.std.proofs.Common.{◌∙◌, sym, subst, inl, inr, ⊎_elim, arith, eqb-true}
use mathlib.Core.List.Memᴰ
use mathlib.Core.List.{List, [], ◌∷◌, Memᴰ}
use Rattle.std.proofs.Math.Option.{Option, none, some, some-injective, none-ne-some}
use Prim.Native.Nat.{ℕ, zero, suc, ◌<◌}
use Rattle.std.proofs.lemmas.Bool.{eqb-false}
use Rattle.std.proofs.Math.ListN.{length}
use Rattle.semantics.specs.Automata.Proper.{Proper}
use Rattle.semantics.specs.Automaton.{Automaton}
use Rattle.semantics.specs.Order.{cost}
use Rattle.semantics.specs.Chain.{Place, step}
use Rattle.semantics.specs.Answer.{Answer, no_route, route, better, behind, least, stopping, step_bytes, over_steps, best_from}
use Rattle.semantics.specs.Graph.CornerGraph.{corner_graph}
use Rattle.semantics.specs.Corners.Lists.{mem_below}
use Rattle.semantics.proofs.Bounds.Reached.{Reached}
use Rattle.semantics.specs.Paths.Cost.{cost-both}
use Rattle.semantics.specs.Paths.Labels.{Few}
use Rattle.semantics.specs.Paths.Better.{Either, Before}
use Rattle.semantics.specs.Paths.System.{Arrives, arrives-cons, arrives-step, arrives-here}
use Rattle.semantics.proofs.Answers.Graph.{label-below}
use Rattle.semantics.proofs.Answers.System.{chains, price-corner, reached-next, target-mode}
use Rattle.semantics.proofs.Answers.Better.{IsBest, is-best-map, is-best-better, is-best-behind, least-listed, least-most}

-- An allowed step of this byte, and then a list of the kind that its next place has.
record Stepping (a : Automaton) (Q : Place → List ℕ → ℕ → Type 0) (p : Place) (byte : ℕ) (ks : List ℕ) (C : ℕ) : Type 0 where
  next : Place
  step : step a byte p ≡ some next
  before : Before byte (Q next) ks C

-- Such a step of one of the bytes.
record SteppingBy (a : Automaton) (Q : Place → List ℕ → ℕ → Type 0) (p : Place) (bytes ks : List ℕ) (C : ℕ) : Type 0 where
  byte : ℕ
  listed : Memᴰ byte bytes
  first : Stepping a Q p byte ks C

module _ (a : Automaton) (Q : Place → List ℕ → ℕ → Type 0) (go : Place → Answer) (p : Place)
    (best : (byte : ℕ) (p' : Place) → step a byte p ≡ some p' → IsBest (Q p') (go p')) where
  -- One byte.
  step-best : (byte : ℕ) → IsBest (Stepping a Q p byte) (elim (step a byte p) [ none ↦ no_route | some p' ↦ behind byte (go p') ])
  step-best byte = at (step a byte p) refl
    where
      at :
          (o : Option Place) → step a byte p ≡ o
          → IsBest (Stepping a Q p byte) (elim o [ none ↦ no_route | some p' ↦ behind byte (go p') ])
      at none e = λ ks C s. none-ne-some s.next (sym e ∙ s.step)
      at (some p') e =
          is-best-map (behind byte (go p')) (λ ks C b. record { next = p'; step = e; before = b })
          (λ ks C s. subst (λ (q : Place). Before byte (Q q) ks C) (some-injective s.next p' (sym s.step ∙ e)) s.before)
          (is-best-behind (Q p') byte (go p') (best byte p' e))

  -- All of them.
  steps-best : (bytes : List ℕ) → IsBest (SteppingBy a Q p bytes) (over_steps go a p bytes)
  steps-best [] = λ ks C s. Memᴰ.not-nil s.listed
  steps-best (byte ∷ bytes) =
      is-best-map (over_steps go a p (byte ∷ bytes)) (λ ks C k. ⊎_elim (here ks C) (later ks C) k)
      (λ ks C s. split ks C s (Memᴰ.cases_cons s.listed))
      (is-best-better (Stepping a Q p byte) (SteppingBy a Q p bytes)
      (elim (step a byte p) [ none ↦ no_route | some p' ↦ behind byte (go p') ]) (over_steps go a p bytes) (step-best byte) (steps-best bytes))
    where
      here : (ks : List ℕ) (C : ℕ) → Stepping a Q p byte ks C → SteppingBy a Q p (byte ∷ bytes) ks C
      here ks C s = record { byte = byte; listed = Memᴰ.head refl; first = s }

      later : (ks : List ℕ) (C : ℕ) → SteppingBy a Q p bytes ks C → SteppingBy a Q p (byte ∷ bytes) ks C
      later ks C s = record { byte = s.byte; listed = Memᴰ.tail s.listed; first = s.first }

      split :
          (ks : List ℕ) (C : ℕ) (s : SteppingBy a Q p (byte ∷ bytes) ks C) → (s.byte ≡ byte) ⊎ Memᴰ s.byte bytes
          → Either (Stepping a Q p byte) (SteppingBy a Q p bytes) ks C
      split ks C s (inl e) = inl (subst (λ (b : ℕ). Stepping a Q p b ks C) e s.first)
      split ks C s (inr m) = inr (record { byte = s.byte; listed = m; first = s.first })

module _ (a : Automaton) (ok : Proper a) (l : ℕ) where
  -- The steps that lead from p into mode l.
  abbrev From : Place → List ℕ → ℕ → Type 0
  From p ks C = Arrives (corner_graph a l) (chains a) p ks C

  -- No steps.
  abbrev Stops : Place → List ℕ → ℕ → Type 0
  Stops p ks C = (ks ≡ []) × From p ks C

  -- No steps come at each price of the place, if its mode is l.
  stops-price : (p : Place) (C : ℕ) → Reached a p → From p [] C ↔ ((p.mode ≡ l) × Memᴰ C p.region.prices)
  stops-price p C h = (
    λ f.
        let o = arrives-here (corner_graph a l) (chains a) p C f in
        ((target-mode a ok l p h o.0 o.1).0 o.2, (price-corner p.region.prices C).1 (o.0, o.1, o.3)),
    λ m.
        let o = (price-corner p.region.prices C).0 m.1 in
        record {
          last = p;
          follows = refl;
          corner = o.0;
          among = o.1;
          target = (target-mode a ok l p h o.0 o.1).1 m.0;
          priced = o.2;
        },
  )

  stopping-best : (p : Place) → Reached a p → IsBest (Stops p) (stopping l p)
  stopping-best p h = at (eqb p.mode l) refl
    where
      cs : List ℕ
      cs = p.region.prices

      known : (ks : List ℕ) (C : ℕ) → Stops p ks C → (p.mode ≡ l) × Memᴰ C p.region.prices
      known ks C s = (stops-price p C h).0 (subst (λ (js : List ℕ). From p js C) s.0 s.1)

      at : (b : Bool) → eqb p.mode l ≡ b → IsBest (Stops p) (cond b (route (least p.region.prices) []) no_route)
      at true e = record {
        least = λ ks C s. cost-both (cost (least cs) 0) (cost C (length ks)) (least-most cs C (known ks C s).1) (omega arith);
        first = record {
          good = ((refl, (stops-price p (least cs) h).1 (eqb-true p.mode l e, least-listed cs h.well-formed.priced)), refl);
          first = λ ks s. tt;
        };
      }
      at false e = λ ks C s. eqb-false p.mode l e (known ks C s).0

  empty : (ks : List ℕ) → length ks < 1 → ks ≡ []
  empty [] h = refl
  empty (k ∷ ks) h = absurd (omega arith)

  -- No steps, or a step and then at most n.
  abbrev Kinds : ℕ → Place → List ℕ → ℕ → Type 0
  Kinds n p = Either (Stops p) (SteppingBy a (λ p'. Few (suc n) (From p')) p step_bytes)

  kinds-few : (n : ℕ) (p : Place) (ks : List ℕ) (C : ℕ) → Kinds n p ks C → Few (suc (suc n)) (From p) ks C
  kinds-few n p ks C (inl s) = (s.1, omega (arith, ap length s.0))
  kinds-few n p ks C (inr s) =
      let f = s.first in
      let b = f.before in (
        subst (λ (js : List ℕ). From p js C) (sym b.is)
            (arrives-cons (corner_graph a l) (chains a) p f.next s.byte b.rest C f.step b.comes.0),
        omega (arith, ap length b.is, b.comes.1),
      )

  few-kinds : (n : ℕ) (p : Place) (ks : List ℕ) (C : ℕ) → Few (suc (suc n)) (From p) ks C → Kinds n p ks C
  few-kinds n p [] C f = inl (refl, f.0)
  few-kinds n p (k ∷ ks) C f =
      let o = arrives-step (corner_graph a l) (chains a) p k ks C f.0 in
      inr
      (record {
        byte = k;
        listed = mem_below 66 k (label-below a p k o.0 o.1);
        first = record { next = o.0; step = o.1; before = record { rest = ks; is = refl; comes = (o.2, omega (arith, f.1)) } };
      })

  -- At most n steps.
  pub few-best : (n : ℕ) (p : Place) → Reached a p → IsBest (Few (suc n) (From p)) (best_from a l n p)
  unfolding best_from
  few-best zero p h =
      is-best-map (stopping l p) (λ ks C s. (s.1, omega (arith, ap length s.0))) (λ ks C f. (empty ks f.1, f.0)) (stopping-best p h)
  few-best (suc n) p h =
      let rest : Place → Answer = λ p'. best_from a l n p' in
      is-best-map (better (stopping l p) (over_steps rest a p step_bytes)) (kinds-few n p) (few-kinds n p)
      (is-best-better (Stops p) (SteppingBy a (λ p'. Few (suc n) (From p')) p step_bytes) (stopping l p) (over_steps rest a p step_bytes)
      (stopping-best p h)
      (steps-best a (λ p'. Few (suc n) (From p')) rest p (λ byte p' e. few-best n p' (reached-next a ok p p' byte h e)) step_bytes))
