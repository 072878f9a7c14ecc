-- Numbers that stand for an answer keep what holds of it.
-- Assumes nothing.
use mathlib.Core.Path.{◌≡◌, refl, sym, ap, subst, ◌∙◌}
use mathlib.Core.Bool.{Bool, cond}
use mathlib.Core.List.{List, []}
use Prim.Native.Nat.{ℕ, ◌≤◌}
use native.Mathlib.Omega.{arith}
use borrow.Author.Tests.{ne_eqb}
use lib.Dec.{eqb}
use lib.ListN.{length}
use Rattle.route.specs.Answers.{Answer}
use Rattle.route.specs.Answers.{Refused, NoRoute, Route}
use Rattle.route.specs.Lend.{Needs}
use Rattle.route.specs.Lend.{Refused as Needs-as-Refused, Memory}
use Rattle.route.specs.Plan.{outcome, planned}
use Rattle.route.specs.Promise.{KeepsDemand}
use Rattle.route.specs.Refused.{planned-range}
use Rattle.route.specs.Lend.{needed, Enough}
use Rattle.planner.specs.Numbers.{decoded, decoded_needs, Untouched}

decoded-route : (C n : ℕ) → decoded 0 C n ≡ Route C n
unfolding decoded
decoded-route C n = refl

decoded-none : (C n : ℕ) → decoded 255 C n ≡ NoRoute
unfolding decoded
decoded-none C n = refl

-- A refusal of planning has neither of the two numbers.
decoded-refused : (k C n : ℕ) → 1 ≤ k → k ≤ 10 → decoded k C n ≡ Refused k
unfolding decoded
decoded-refused k C n low high =
    ap (λ (t : Bool). cond t (Route C n) (cond (eqb k 255) NoRoute (Refused k))) (ne_eqb k 0 (λ e. omega arith))
    ∙ ap (λ (t : Bool). cond t NoRoute (Refused k)) (ne_eqb k 255 (λ e. omega arith))

-- The bytes, words and route bytes lent, the words and route bytes at exit, and the answer.
module _ (bytes ws rs ws' rs' : List ℕ) (r : Answer) (e : outcome r ws' rs' ≡ planned bytes ws rs) (k : KeepsDemand bytes (length ws) rs' r) where
  -- What is promised of numbers that stand for the answer s, with the charge and the steps before and after the call.
  abbrev Told : Answer → (number C C' n n' : ℕ) → Type 0
  Told s number C C' n n' =
      (outcome s ws' rs' ≡ planned bytes ws rs) × (Untouched number C C' × (Untouched number n n' × KeepsDemand bytes (length ws) rs' s))

  told :
      (number C C' n n' : ℕ) → decoded number C' n' ≡ r → Untouched number C C' → Untouched number n n'
      → Told (decoded number C' n') number C C' n n'
  told number C C' n n' t u v = subst (λ s. Told s number C C' n n') (sym t) (e, (u, (v, k)))

  pub told-refused : (m C n : ℕ) → r ≡ Refused m → Told (decoded m C n) m C C n n
  told-refused m C n t =
      let b = planned-range bytes ws rs m (ap (λ o. o.answer) (sym e) ∙ t) in
      told m C C n n (decoded-refused m C n b.0 b.1 ∙ sym t) (λ o. refl) (λ o. refl)

  pub told_none : (C n : ℕ) → r ≡ NoRoute → Told (decoded 255 C n) 255 C C n n
  told_none C n t = told 255 C C n n (decoded-none C n ∙ sym t) (λ o. refl) (λ o. refl)

  pub told-route : (C C' n n' : ℕ) → r ≡ Route C' n' → Told (decoded 0 C' n') 0 C C' n n'
  told-route C C' n n' t = told 0 C C' n n' (decoded-route C' n' ∙ sym t) (λ o. absurd (o refl)) (λ o. absurd (o refl))

-- How much to lend: the bytes, and the answer.
module _ (bytes : List ℕ) (r : Needs) (e : r ≡ needed bytes) (k : Enough bytes r) where
  -- What is promised of numbers that stand for the answer s, with the words and route bytes before and after the call.
  abbrev ToldNeeds : Needs → (number w w' b b' : ℕ) → Type 0
  ToldNeeds s number w w' b b' = (s ≡ needed bytes) × (Untouched number w w' × (Untouched number b b' × Enough bytes s))

  -- A refusal has another number than 0.
  pub lend-refused : (m w b : ℕ) → r ≡ Needs-as-Refused m → ToldNeeds (decoded_needs m w b) m w w b b
  unfolding decoded_needs
  lend-refused m w b t =
      let refused = planned-range bytes [] [] m ((k.same [] [] m).0 t).0 in
      let is : decoded_needs m w b ≡ r =
      ap (λ (z : Bool). cond z (Memory w b) (Needs-as-Refused m)) (ne_eqb m 0 (λ z. omega (arith, refused))) ∙ sym t in
      subst (λ s. ToldNeeds s m w w b b) (sym is) (e, (λ o. refl, (λ o. refl, k)))

  pub lend-memory : (w w' b b' : ℕ) → r ≡ Memory w' b' → ToldNeeds (decoded_needs 0 w' b') 0 w w' b b'
  unfolding decoded_needs
  lend-memory w w' b b' t =
      subst (λ s. ToldNeeds s 0 w w' b b') t (e, (λ o. absurd (o refl), (λ o. absurd (o refl), k)))
