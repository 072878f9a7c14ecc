-- The bytes of a walk that were tried: one after another, and all of them.
-- Assumes nothing.
use mathlib.Core.Path.{◌≡◌, refl, sym, ap}
use mathlib.Core.Bool.{true, false, true≢false}
use mathlib.Core.List.{List}
use Prim.Native.Nat.{ℕ, ◌≤◌, ◌<◌}
use native.Mathlib.Decide.{ℕ_discrete, dec_lt}
use native.Mathlib.Omega.{arith}
use Rattle.std.specs.Prelude.{Option, Some, None}
use Rattle.std.specs.Option.{is_some}
use Rattle.std.proofs.lemmas.Option.{none-some}
use Rattle.space.specs.declared.Space.{Space}
use Rattle.steps.specs.declared.Stand.{Stand}
use Rattle.steps.specs.declared.Next.{Next}
use Rattle.steps.specs.Steps.{byte_of, NextStep}
use Rattle.steps.specs.Leading.{Silent, LeadsOn, TriedOne, Tried, MoveByte, OnlyByte}

-- Whether there is a step.
pub some-step : {r : Option Next} → is_some r ≡ true → (n : Next) × (r ≡ Some n)
some-step {r = Some n} e = (n, refl)
some-step {r = None} e = absurd (true≢false (sym e))

pub no-step : {r : Option Next} → is_some r ≡ false → r ≡ None
no-step {r = Some n} e = absurd (true≢false e)
no-step {r = None} e = refl

module _ {t : List ℕ} {s : Space} {z : Stand} {ws : List ℕ} where
  -- None of them leads on.
  pub tried-none : {Among : ℕ → Type 0} → ((k : ℕ) → Among k → Silent t s z ws k) → Tried t s z ws Among None
  tried-none none = record { leads = λ n q. absurd (none-some n q); none_before = λ k among h. none k among }

  -- One does, and none before it.
  pub tried-found :
      {Among : ℕ → Type 0} {k : ℕ} {r : Option Next} → TriedOne t s z ws k r → is_some r ≡ true → k < 66 → Among k
      → ((j : ℕ) → Among j → j < k → Silent t s z ws j) → Tried t s z ws Among r
  tried-found {Among} {k} {r} one e few among before =
      let o : (n : Next) × (r ≡ Some n) = some-step e in record {
        leads = λ m p. let l = one.leads m p in (rw l.0 few, rw l.0 among, l.1);
        none_before = λ j m h. before j m (omega (arith, (one.leads o.0 o.1).0, ap byte_of o.1));
      }

  -- One byte alone leads nowhere, or was tried.
  pub one-silent : {b : ℕ} → Silent t s z ws b → Tried t s z ws (OnlyByte b z) None
  one-silent silent = tried-none (λ k m. rw m.1 silent)

  pub one_tried : {b : ℕ} {r : Option Next} → b < 66 → z.byte ≤ b → TriedOne t s z ws b r → Tried t s z ws (OnlyByte b z) r
  one_tried {b} {r = None} few from one = one-silent (one.silent refl)
  one_tried {b} {r = Some n} few from one = tried-found one refl few (from, refl) (λ j m h. absurd (omega (arith, m.1)))

  next-step :
      (r : Option Next) → z.byte ≤ 66 → ((n : Next) → r ≡ Some n → (n.byte < 66) × (z.byte ≤ n.byte) × LeadsOn t s z ws n)
      → ((k : ℕ) → z.byte ≤ k → k < byte_of r → Silent t s z ws k) → NextStep t s z ws r
  next-step r below leads silent l d tells = record {
    from = from r leads;
    none_before = λ k y i h b f led. silent k h b l d tells y i f led;
    leads = λ n q. let o = leads n q in (o.0, o.2 l d tells);
  }
    where
      from : (q : Option Next) → ((n : Next) → q ≡ Some n → (n.byte < 66) × (z.byte ≤ n.byte) × LeadsOn t s z ws n) → z.byte ≤ byte_of q
      from None leads = below
      from (Some n) leads = (leads n refl).1

  module _ (below : z.byte ≤ 66) {r : Option Next} (moves : Tried t s z ws (MoveByte z) r) where
    -- A move leads on.
    pub next-move : is_some r ≡ true → NextStep t s z ws r
    next-move e =
        let o : (n : Next) × (r ≡ Some n) = some-step e in
        next-step r below (λ m p. let l = moves.leads m p in (l.0, l.1.0, l.2))
        (λ k b c. moves.none_before k (b, omega (arith, (moves.leads o.0 o.1).1.1, ap byte_of o.1)) c)

    module _ (none : is_some r ≡ false) {q : Option Next} (delay : Tried t s z ws (OnlyByte 64 z) q) where
      before : (k : ℕ) → z.byte ≤ k → k < 64 → Silent t s z ws k
      before k b c = moves.none_before k (b, c) (omega (arith, ap byte_of (no-step none)))

      -- No move, but the delay.
      pub next-delay : is_some q ≡ true → NextStep t s z ws q
      next-delay e =
          let o : (n : Next) × (q ≡ Some n) = some-step e in
          next-step q below (λ m p. let l = delay.leads m p in (l.0, l.1.0, l.2))
          (λ k b c. before k b (omega (arith, (delay.leads o.0 o.1).1.1, ap byte_of o.1)))

      -- Neither.
      pub next-linger : is_some q ≡ false → {v : Option Next} → Tried t s z ws (OnlyByte 65 z) v → NextStep t s z ws v
      next-linger still {v} linger =
          next-step v below (λ m p. let l = linger.leads m p in (l.0, l.1.0, l.2)) (λ k b c. at k b c (dec_lt k 64) (ℕ_discrete k 64))
        where
          few : (u : Option Next) → Tried t s z ws (OnlyByte 65 z) u → byte_of u ≤ 66
          few None _ = omega arith
          few (Some n) u = omega (arith, (u.leads n refl).0)

          at : (k : ℕ) → z.byte ≤ k → k < byte_of v → Dec (k < 64) → Dec (k ≡ 64) → Silent t s z ws k
          at k b c (yes l) e = before k b l
          at k b c (no l) (yes e) = delay.none_before k (b, e) (omega (arith, ap byte_of (no-step still)))
          at k b c (no l) (no e) = linger.none_before k (b, omega (arith, few v linger)) c
