-- The recursion of the page Timetable finds the best of all timetables of a bounded number of pairs.
-- Assumes nothing.
use Rattle.std.specs.Prelude.{◌≡◌, refl, Bool, true, false, cond, ◌⊎◌, eqb}
use Rattle.std.proofs.Math.Path.{ap}
use Rattle.std.proofs.Common.{◌∙◌, sym, subst, inl, inr, ⊎_elim, arith, eqb-true}
use mathlib.Core.List.Memᴰ
use mathlib.Core.List.{List, [], ◌∷◌, Memᴰ}
use Rattle.std.proofs.Math.Option.{Option, none, some, some-injective, none-ne-some}
use Prim.Native.Nat.{ℕ, zero, suc, ◌+◌, ◌*◌}
use Rattle.std.proofs.lemmas.Bool.{eqb-false}
use Rattle.std.proofs.Math.ListN.{length}
use Rattle.semantics.specs.Automata.Proper.{Proper}
use Rattle.semantics.specs.Automaton.{Automaton}
use Rattle.semantics.specs.Order.{Cost, cost, ◌≼◌, ◌⊑◌, Best}
use Rattle.semantics.specs.Run.{State}
use Rattle.semantics.specs.Answer.{Answer, no_route, route, better}
use Rattle.semantics.specs.Timetable.{Pair, bytes_of, after_pair, pair_step, pair_charge, all_pairs, behind_pair, stopping_at, over_pairs, best_pairs}
use Rattle.semantics.specs.Paths.Cost.{cost-both}
use Rattle.semantics.specs.Paths.Labels.{Few}
use Rattle.semantics.specs.Paths.Better.{Either}
use Rattle.semantics.proofs.Answers.Better.{IsBest, is-best-map, is-best-better}
use Rattle.semantics.specs.Timetables.Allowed.{pair_step_lem}
use Rattle.semantics.specs.Timetables.Edges.{pair-listed}
use Rattle.semantics.specs.Timetables.Paths.{Way, way-cons, way-first}

-- The bytes of a pair, charged c, before a list.
record PairBefore (p : Pair) (c : ℕ) (P : List ℕ → ℕ → Type 0) (ks : List ℕ) (C : ℕ) : Type 0 where
  rest : List ℕ
  charge : ℕ
  is : ks ≡ p.minutes ∷ p.made ∷ rest
  sum : c + charge ≡ C
  comes : P rest charge

-- A pair before the best of the rest.
best-pair :
    {P : List ℕ → ℕ → Type 0} (p : Pair) (k : ℕ) (c : Cost) (ls : List ℕ) → Best P c ls
    → Best (PairBefore p k P) (cost (k + c.charge) (suc (suc c.steps))) (p.minutes ∷ p.made ∷ ls)
best-pair {P} p k c ls x = record {
  least = λ ks C b. least ks C b (x.least b.rest b.charge b.comes);
  first = record {
    good = (record { rest = ls; charge = c.charge; is = refl; sum = refl; comes = x.first.good.0 }, omega (arith, x.first.good.1));
    first = λ ks b. first ks b.0 b.1;
  };
}
  where
    least :
        (ks : List ℕ) (C : ℕ) (b : PairBefore p k P ks C) → c ≼ cost b.charge (length b.rest)
        → cost (k + c.charge) (suc (suc c.steps)) ≼ cost C (length ks)
    least ks C b (inl h) = inl (omega (arith, b.sum))
    least ks C b (inr h) = inr (omega (arith, b.sum, h.0), omega (arith, ap length b.is, h.1))

    first : (ks : List ℕ) → PairBefore p k P ks (k + c.charge) → length ks ≡ suc (suc c.steps) → (p.minutes ∷ p.made ∷ ls) ⊑ ks
    first ks b n =
        let e : b.charge ≡ c.charge = omega (arith, b.sum) in
        let h = x.first.first b.rest (subst (P b.rest) e b.comes, omega (arith, ap length b.is)) in
        rw b.is (inr (refl, inr (refl, h)))

is-best-pair : (P : List ℕ → ℕ → Type 0) (p : Pair) (c : ℕ) (x : Answer) → IsBest P x → IsBest (PairBefore p c P) (behind_pair p c x)
is-best-pair P p c no_route b = λ ks C k. b k.rest k.charge k.comes
is-best-pair P p c (route C ks) b = best-pair p c (cost C (length ks)) ks b

-- An allowed pair, and then a list of the kind that its next state has.
record Stepping (a : Automaton) (Q : State → List ℕ → ℕ → Type 0) (s : State) (p : Pair) (ks : List ℕ) (C : ℕ) : Type 0 where
  next : State
  step : pair_step a p s ≡ some next
  before : PairBefore p (pair_charge a p s) (Q next) ks C

-- Such a pair, one of these.
record SteppingBy (a : Automaton) (Q : State → List ℕ → ℕ → Type 0) (s : State) (ps : List Pair) (ks : List ℕ) (C : ℕ) : Type 0 where
  pair : Pair
  listed : Memᴰ pair ps
  first : Stepping a Q s pair ks C

module _ (a : Automaton) (Q : State → List ℕ → ℕ → Type 0) (go : State → Answer) (s : State) (best : (s' : State) → IsBest (Q s') (go s')) where
  -- One pair.
  abbrev found : Pair → Option State → Answer
  found p o = elim o [ none ↦ no_route | some s' ↦ behind_pair p (pair_charge a p s) (go s') ]

  pair-best : (p : Pair) → IsBest (Stepping a Q s p) (found p (pair_step a p s))
  pair-best p = at (pair_step a p s) refl
    where
      at : (o : Option State) → pair_step a p s ≡ o → IsBest (Stepping a Q s p) (found p o)
      at none e = λ ks C k. none-ne-some k.next (sym e ∙ k.step)
      at (some s') e =
          is-best-map (behind_pair p (pair_charge a p s) (go s')) (λ ks C b. record { next = s'; step = e; before = b })
          (λ ks C k.
          subst (λ (t : State). PairBefore p (pair_charge a p s) (Q t) ks C) (some-injective k.next s' (sym k.step ∙ e)) k.before)
          (is-best-pair (Q s') p (pair_charge a p s) (go s') (best s'))

  -- All of them.
  pairs-best : (ps : List Pair) → IsBest (SteppingBy a Q s ps) (over_pairs go a s ps)
  pairs-best [] = λ ks C k. Memᴰ.not-nil k.listed
  pairs-best (p ∷ ps) =
      is-best-map (over_pairs go a s (p ∷ ps)) (λ ks C k. ⊎_elim (here ks C) (later ks C) k)
      (λ ks C k. split ks C k (Memᴰ.cases_cons k.listed))
      (is-best-better (Stepping a Q s p) (SteppingBy a Q s ps) (found p (pair_step a p s)) (over_pairs go a s ps) (pair-best p) (pairs-best ps))
    where
      here : (ks : List ℕ) (C : ℕ) → Stepping a Q s p ks C → SteppingBy a Q s (p ∷ ps) ks C
      here ks C k = record { pair = p; listed = Memᴰ.head refl; first = k }

      later : (ks : List ℕ) (C : ℕ) → SteppingBy a Q s ps ks C → SteppingBy a Q s (p ∷ ps) ks C
      later ks C k = record { pair = k.pair; listed = Memᴰ.tail k.listed; first = k.first }

      split :
          (ks : List ℕ) (C : ℕ) (k : SteppingBy a Q s (p ∷ ps) ks C) → (k.pair ≡ p) ⊎ Memᴰ k.pair ps
          → Either (Stepping a Q s p) (SteppingBy a Q s ps) ks C
      split ks C k (inl e) = inl (subst (λ (q : Pair). Stepping a Q s q ks C) e k.first)
      split ks C k (inr m) = inr (record { pair = k.pair; listed = m; first = k.first })

-- The bytes ks are those of a way from s into mode l that is charged C.
pub record WayBytes (a : Automaton) (l : ℕ) (s : State) (ks : List ℕ) (C : ℕ) : Type 0 where
  pub pairs : List Pair
  pub bytes : ks ≡ bytes_of pairs
  pub way : Way a l s pairs C

module _ (a : Automaton) (ok : Proper a) (l : ℕ) where
  abbrev From : State → List ℕ → ℕ → Type 0
  From s = WayBytes a l s

  -- No pairs.
  abbrev Stops : State → List ℕ → ℕ → Type 0
  Stops s ks C = (ks ≡ []) × From s ks C

  -- No pairs come at no charge, if the mode of the state is l.
  stops-mode : (s : State) (ps : List Pair) (C : ℕ) → length (bytes_of ps) ≡ 0 → Way a l s ps C → s.mode ≡ l
  stops-mode s [] C e w = w.arrives
  stops-mode s (p ∷ ps) C e w = absurd (omega arith)

  stopping-best : (s : State) → IsBest (Stops s) (stopping_at l s)
  stopping-best s = at (eqb s.mode l) refl
    where
      at : (b : Bool) → eqb s.mode l ≡ b → IsBest (Stops s) (cond b (route 0 []) no_route)
      at true e = record {
        least = λ ks C k. cost-both (cost 0 0) (cost C (length ks)) (omega arith) (omega arith);
        first = record {
          good = (
            (refl, record { pairs = []; bytes = refl; way = record { allowed = tt; arrives = eqb-true s.mode l e; charged = refl } }),
            refl,
          );
          first = λ ks k. tt;
        };
      }
      at false e = λ ks C k.
          let w = k.1 in
          eqb-false s.mode l e (stops-mode s w.pairs C (sym (ap length w.bytes) ∙ ap length k.0) w.way)

  -- No pairs, or a pair and then at most n.
  abbrev Kinds : ℕ → State → List ℕ → ℕ → Type 0
  Kinds n s = Either (Stops s) (SteppingBy a (λ s'. Few (2 * suc n) (From s')) s (all_pairs a))

  kinds-few : (n : ℕ) (s : State) (ks : List ℕ) (C : ℕ) → Kinds n s ks C → Few (2 * suc (suc n)) (From s) ks C
  kinds-few n s ks C (inl k) = (k.1, omega (arith, ap length k.0))
  kinds-few n s ks C (inr k) =
      let f = k.first in
      let b = f.before in
      let p = k.pair in
      let o = (pair_step_lem a p s f.next).0 f.step in
      let w = b.comes.0 in (
        record {
          pairs = p ∷ w.pairs;
          bytes = b.is ∙ ap (λ (js : List ℕ). p.minutes ∷ p.made ∷ js) w.bytes;
          way = way-cons a l s p w.pairs C (record {
            allowed = o.0;
            charge = b.charge;
            rest = subst (λ (t : State). Way a l t w.pairs b.charge) o.1 w.way;
            sum = b.sum;
          });
        },
        omega (arith, ap length b.is, b.comes.1),
      )

  few-kinds : (n : ℕ) (s : State) (ks : List ℕ) (C : ℕ) → Few (2 * suc (suc n)) (From s) ks C → Kinds n s ks C
  few-kinds n s ks C f = at f.0.pairs f.0.bytes f.0.way
    where
      at : (ps : List Pair) → ks ≡ bytes_of ps → Way a l s ps C → Kinds n s ks C
      at [] e w = inl (e, record { pairs = []; bytes = e; way = w })
      at (p ∷ ps) e w =
          let o = way-first a l s p ps C w in
          inr
          (record {
            pair = p;
            listed = pair-listed a ok p s o.allowed;
            first = record {
              next = after_pair a p s;
              step = (pair_step_lem a p s (after_pair a p s)).1 (o.allowed, refl);
              before = record {
                rest = bytes_of ps;
                charge = o.charge;
                is = e;
                sum = o.sum;
                comes = (record { pairs = ps; bytes = refl; way = o.rest }, omega (arith, ap length e, f.1));
              };
            };
          })

  few-stops : (s : State) (ks : List ℕ) (C : ℕ) → Few 2 (From s) ks C → Stops s ks C
  few-stops s ks C f = (at f.0.pairs f.0.bytes, f.0)
    where
      at : (ps : List Pair) → ks ≡ bytes_of ps → ks ≡ []
      at [] e = e
      at (p ∷ ps) e = absurd (omega (arith, ap length e, f.1))

  -- At most n pairs.
  pub few-best : (n : ℕ) (s : State) → IsBest (Few (2 * suc n) (From s)) (best_pairs a l n s)
  unfolding best_pairs
  few-best zero s = is-best-map (stopping_at l s) (λ ks C k. (k.1, omega (arith, ap length k.0))) (few-stops s) (stopping-best s)
  few-best (suc n) s =
      let rest : State → Answer = λ s'. best_pairs a l n s' in
      is-best-map (better (stopping_at l s) (over_pairs rest a s (all_pairs a))) (kinds-few n s) (few-kinds n s)
      (is-best-better (Stops s) (SteppingBy a (λ s'. Few (2 * suc n) (From s')) s (all_pairs a)) (stopping_at l s) (over_pairs rest a s (all_pairs a))
      (stopping-best s) (pairs-best a (λ s'. Few (2 * suc n) (From s')) rest s (λ s'. few-best n s') (all_pairs a)))
