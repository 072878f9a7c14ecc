-- Runs by where they end and what they are charged, and runs one act longer.
-- Assumes nothing.
use Rattle.std.specs.Prelude.{◌≡◌, refl, List, [], ◌∷◌, ◌++◌, ℕ, ◌+◌, ◌*◌, ◌≤◌, ◌<◌, length}
use Rattle.std.proofs.Common.{ap, ap₂, ◌∙◌, subst, append-nil, arith}
use Rattle.semantics.specs.Automaton.{Automaton, mode_at, move_at}
use Rattle.semantics.specs.Run.{State, initial, Act, wait, move, zeroed, after, act_charge, AllHold, Stays, Allowed, AllAllowed, final, charge_from, moves_in, RunInto, charge}

-- A run in q-ths of these moves that ends in mode l with the timers at v, charged S.
pub record RunTo (a : Automaton) (q l : ℕ) (v : ℕ → ℕ) (S : ℕ) (moves : List ℕ) : Type 0 where
  pub acts : List Act
  pub allowed : AllAllowed a q acts initial
  pub ends : final a acts initial ≡ record { mode = l; value = v }
  pub charged : charge a q acts ≡ S
  pub moves-made : moves_in acts ≡ moves

module _ (a : Automaton) (q : ℕ) where
  allowed-snoc : (ts : List Act) (t : Act) (s : State) → AllAllowed a q ts s → Allowed a q t (final a ts s) → AllAllowed a q (ts ++ t ∷ []) s
  allowed-snoc [] t s h l = (l, tt)
  allowed-snoc (u ∷ ts) t s h l = (h.0, allowed-snoc ts t (after a u s) h.1 l)

  final-snoc : (ts : List Act) (t : Act) (s : State) → final a (ts ++ t ∷ []) s ≡ after a t (final a ts s)
  final-snoc [] t s = refl
  final-snoc (u ∷ ts) t s = final-snoc ts t (after a u s)

  charge-snoc : (ts : List Act) (t : Act) (s : State) → charge_from a q (ts ++ t ∷ []) s ≡ charge_from a q ts s + act_charge a q t (final a ts s)
  charge-snoc [] t s = omega arith
  charge-snoc (u ∷ ts) t s = omega (arith, charge-snoc ts t (after a u s))

  moves-snoc : (ts : List Act) (t : Act) → moves_in (ts ++ t ∷ []) ≡ moves_in ts ++ moves_in (t ∷ [])
  moves-snoc [] t = refl
  moves-snoc (wait d ∷ ts) t = moves-snoc ts t
  moves-snoc (move e ∷ ts) t = ap (λ (es : List ℕ). e ∷ es) (moves-snoc ts t)

  module _ (l : ℕ) (v : ℕ → ℕ) (S : ℕ) (moves : List ℕ) (r : RunTo a q l v S moves) where
    run-after :
        (t : Act) → Allowed a q t (record { mode = l; value = v })
        → RunTo a q (after a t (record { mode = l; value = v })).mode (after a t (record { mode = l; value = v })).value
        (S + act_charge a q t (record { mode = l; value = v })) (moves ++ moves_in (t ∷ []))
    run-after t h = record {
      acts = r.acts ++ t ∷ [];
      allowed = allowed-snoc r.acts t initial r.allowed (rw r.ends h);
      ends = final-snoc r.acts t initial ∙ ap (after a t) r.ends;
      charged =
          charge-snoc r.acts t initial
          ∙ ap₂ (λ (n : ℕ) (s : State). n + act_charge a q t s) r.charged r.ends;
      moves-made = moves-snoc r.acts t ∙ ap (λ (es : List ℕ). es ++ moves_in (t ∷ [])) r.moves-made;
    }

    -- A wait that is allowed.
    pub run-wait : (d : ℕ) → Stays a q l (λ x. v x + d) → RunTo a q l (λ x. v x + d) (S + d * (mode_at a l).rate) moves
    run-wait d h = subst (RunTo a q l (λ x. v x + d) (S + d * (mode_at a l).rate)) (append-nil moves) (run-after (wait d) h)

    -- A move that is allowed.
    pub run-move :
        (e : ℕ) → e < length a.moves → (move_at a e).source ≡ l → AllHold q (move_at a e).conditions v
        → Stays a q (move_at a e).target (zeroed (move_at a e).resets v)
        → RunTo a q (move_at a e).target (zeroed (move_at a e).resets v) (S + q * (move_at a e).price) (moves ++ e ∷ [])
    run-move e i o g h = run-after (move e) (i, o, g, h)

    pub run-into : 1 ≤ q → RunInto a l q r.acts
    run-into h = record { from_one = h; allowed = r.allowed; arrives = ap (λ (s : State). s.mode) r.ends }

  -- The run of no steps.
  pub run_none : RunTo a q 0 (λ x. 0) 0 []
  run_none = record { acts = []; allowed = tt; ends = refl; charged = refl; moves-made = refl }
