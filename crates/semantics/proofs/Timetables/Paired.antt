-- Every run can be written as pairs of a wait and a move, for no more charge: waits in a row become one, a move with no wait before it gets a wait
-- of 0, and waits behind the last move are dropped.
-- Assumes nothing.
use Rattle.std.specs.Prelude.{◌≡◌, refl, List, [], ◌∷◌, ℕ, ◌+◌, ◌*◌, ◌≤◌}
use Rattle.std.proofs.Common.{ap, ◌∙◌, sym, subst, add-mul, zero-mul, arith}
use Rattle.std.proofs.Math.Path.{fun_ext}
use Rattle.semantics.specs.Automata.Proper.{Proper}
use Rattle.semantics.specs.Automaton.{Automaton, mode_at}
use Rattle.semantics.specs.Run.{State, initial, Act, wait, move, after, Stays, Allowed, AllAllowed, final, charge_from, moves_in, RunInto, charge}
use Rattle.semantics.specs.Timetable.{Pair, acts}
use Rattle.semantics.proofs.Bounds.Stays.{start-stays}

-- The pairs of the acts, where d has been waited since the last move.
abbrev pairs_of : ℕ → List Act → List Pair
pairs_of d [] = []
pairs_of d (wait k ∷ ts) = pairs_of (d + k) ts
pairs_of d (move e ∷ ts) = record { minutes = d; made = e } ∷ pairs_of 0 ts

-- The pairs ps from the state s do what the acts ts do from the state u, a wait of d after s, for no more charge.
record PairedFrom (a : Automaton) (s : State) (d : ℕ) (u : State) (ts : List Act) (ps : List Pair) : Type 0 where
  allowed : AllAllowed a 1 (acts ps) s
  arrives : (final a (acts ps) s).mode ≡ (final a ts u).mode
  charged : charge_from a 1 (acts ps) s ≤ d * (mode_at a s.mode).rate + charge_from a 1 ts u
  moves-made : moves_in (acts ps) ≡ moves_in ts

module _ (a : Automaton) where
  -- A wait after a wait,
  wait-wait : (d k : ℕ) (s : State) → after a (wait k) (after a (wait d) s) ≡ after a (wait (d + k)) s
  wait-wait d k s = ap (λ (v : ℕ → ℕ). record { mode = s.mode; value = v }) (fun_ext (λ x. omega arith))

  -- and a wait of 0.
  wait-none : (s : State) → s ≡ after a (wait 0) s
  wait-none s = ap (λ (v : ℕ → ℕ). record { mode = s.mode; value = v }) (fun_ext (λ x. omega arith))

  paired-from :
      (ts : List Act) (s : State) (d : ℕ) (u : State) → u ≡ after a (wait d) s → Stays a 1 u.mode u.value → AllAllowed a 1 ts u
      → PairedFrom a s d u ts (pairs_of d ts)
  paired-from [] s d u e h l = record { allowed = tt; arrives = sym (ap (λ (t : State). t.mode) e); charged = omega arith; moves-made = refl }
  paired-from (wait k ∷ ts) s d u e h l =
      let n = paired-from ts s (d + k) (after a (wait k) u) (ap (after a (wait k)) e ∙ wait-wait d k s) l.0 l.1 in
      let m = ap (λ (t : State). k * (mode_at a t.mode).rate) e in
      record {
        allowed = n.allowed;
        arrives = n.arrives;
        charged = omega (arith, n.charged, add-mul d k (mode_at a s.mode).rate, m);
        moves-made = n.moves-made;
      }
  paired-from (move j ∷ ts) s d u e h l =
      let v = after a (move j) (after a (wait d) s) in
      let n = paired-from ts v 0 (after a (move j) u) (ap (after a (move j)) e ∙ wait-none v) l.0.3 l.1 in
      let one : Stays a 1 (after a (wait d) s).mode (after a (wait d) s).value = subst (λ (t : State). Stays a 1 t.mode t.value) e h in
      record {
        allowed = (one, (subst (Allowed a 1 (move j)) e l.0, n.allowed));
        arrives = n.arrives;
        charged = omega (arith, n.charged, zero-mul (mode_at a v.mode).rate);
        moves-made = ap (λ (es : List ℕ). j ∷ es) n.moves-made;
      }

-- The pairs of a run into mode l.
pub record PairedRun (a : Automaton) (l : ℕ) (ts : List Act) : Type 0 where
  pub pairs : List Pair
  pub run : RunInto a l 1 (acts pairs)
  pub cheaper : charge a 1 (acts pairs) ≤ charge a 1 ts
  pub moves-made : moves_in (acts pairs) ≡ moves_in ts

-- Every run in minutes has them.
pub run-paired : (a : Automaton) → Proper a → (l : ℕ) (ts : List Act) → RunInto a l 1 ts → PairedRun a l ts
run-paired a ok l ts run =
    let n = paired-from a ts initial 0 initial (wait-none a initial) (start-stays a ok 1 (omega arith)) run.allowed in
    record {
      pairs = pairs_of 0 ts;
      run = record { from_one = omega arith; allowed = n.allowed; arrives = n.arrives ∙ run.arrives };
      cheaper = omega (arith, n.charged, zero-mul (mode_at a 0).rate);
      moves-made = n.moves-made;
    }
