-- One step of a chain by its cases, and chains one step longer.
-- Assumes nothing.
use Rattle.std.specs.Prelude.{◌≡◌, Bool, length, take}
use Rattle.std.proofs.Math.Path.{refl, ap, subst}
use Rattle.std.proofs.Common.{◌∙◌, sym, ⊎_elim}
use Rattle.std.proofs.Math.Bool.{true, false, cond}
use mathlib.Core.List.{List, [], ◌∷◌, ◌++◌}
use Rattle.std.proofs.Math.Option.{Option, none, some, some-injective, none-ne-some}
use Prim.Native.Nat.{ℕ, zero, suc, ◌<◌}
use borrow.Author.Tests.{eqb-true, eq-eqb, ltb-true, lt-ltb}
use Rattle.std.proofs.Math.Dec.{ltb, eqb}
use Rattle.semantics.specs.Automaton.{Automaton, mode_at, move_at}
use Rattle.semantics.specs.Region.{PricedRegion, count, leave, arrive, delay, linger, reset_all, charge, meets_all}
use Rattle.semantics.specs.Chain.{Place, only_if, delay_step, linger_step, move_step, step, follow, begin, chain}
use Rattle.semantics.specs.Regions.Compare.{and-true-iff}
use Rattle.semantics.specs.Regions.Cases.{zero-cases, delay-arrive, delay-leave, lingered, linger-empty, linger-same}
use Rattle.semantics.proofs.Bounds.Stays.{Admits}
use Rattle.semantics.specs.Bounds.Steps.{rate_at}

-- The region after the move e.
abbrev pub moved_by : Automaton → ℕ → PricedRegion → PricedRegion
moved_by a e r = charge (move_at a e).price (reset_all (move_at a e).resets r)

-- The step of a byte leads from the place p to another.
pub data Stepped (a : Automaton) (p : Place) : ℕ → Place → Type 0 where
  leaves :
      0 < count 0 p.region.group → Admits a p.mode (leave (rate_at a p) p.region)
      → Stepped a p 64 (record { mode = p.mode; region = leave (rate_at a p) p.region })
  arrives :
      count 0 p.region.group ≡ 0 → Admits a p.mode (arrive p.region)
      → Stepped a p 64 (record { mode = p.mode; region = arrive p.region })
  lingers : count 0 p.region.group ≡ 0 → Stepped a p 65 (record { mode = p.mode; region = lingered (rate_at a p) p.region })
  idles : 0 < count 0 p.region.group → Stepped a p 65 p
  moves :
      (e : ℕ) → e < 64 → e < length a.moves → (move_at a e).source ≡ p.mode → meets_all (move_at a e).conditions p.region ≡ true
      → meets_all (mode_at a (move_at a e).target).conditions (moved_by a e p.region) ≡ true
      → Stepped a p e (record { mode = (move_at a e).target; region = moved_by a e p.region })

only-if : (b : Bool) (p p' : Place) → only_if b p ≡ some p' → (b ≡ true) × (p ≡ p')
only-if true p p' h = (refl, some-injective p p' h)
only-if false p p' h = absurd (none-ne-some p' h)

module _ (a : Automaton) (p : Place) where
  -- An allowed delay.
  pub delayed :
      Admits a p.mode (delay (rate_at a p) p.region)
      → Stepped a p 64 (record { mode = p.mode; region = delay (rate_at a p) p.region })
  delayed t =
      ⊎_elim (λ z. let e = delay-arrive (rate_at a p) p.region z in rw e (arrives z (rw e at t)))
      (λ z. let e = delay-leave (rate_at a p) p.region z in rw e (leaves z (rw e at t)))
      (zero-cases p.region)

  lingering : Stepped a p 65 (record { mode = p.mode; region = linger (rate_at a p) p.region })
  lingering =
      ⊎_elim (λ z. rw (linger-empty (rate_at a p) p.region z) (lingers z))
      (λ z. rw (linger-same (rate_at a p) p.region z) (idles z))
      (zero-cases p.region)

  module _ (p' : Place) where
    delay-view : delay_step a p ≡ some p' → Stepped a p 64 p'
    unfolding delay_step
    delay-view h =
        let o = only-if _ _ p' h in
        let t = (and-true-iff _ _).0 o.0 in
        subst (Stepped a p 64) o.1 (delayed (record { conditions = t.0; ceilings = t.1 }))

    linger-view : linger_step a p ≡ some p' → Stepped a p 65 p'
    unfolding linger_step
    linger-view h = subst (Stepped a p 65) (some-injective _ p' h) lingering

    move-view : (e : ℕ) → e < 64 → move_step a e p ≡ some p' → Stepped a p e p'
    unfolding move_step
    move-view e b h =
        let o = only-if _ _ p' h in
        let t₁ = (and-true-iff _ _).0 o.0 in
        let t₂ = (and-true-iff _ _).0 t₁.0 in
        let t₃ = (and-true-iff _ _).0 t₂.0 in
        subst (Stepped a p e) o.1 (moves e b (ltb-true e _ t₃.0) (eqb-true _ _ t₃.1) t₂.1 t₁.1)

    -- An allowed step, by its cases.
    pub step-view : (byte : ℕ) → step a byte p ≡ some p' → Stepped a p byte p'
    unfolding step
    step-view byte h = go (ltb byte 64) refl (eqb byte 64) refl (eqb byte 65) refl h
      where
        go :
            (b : Bool) → ltb byte 64 ≡ b → (c : Bool) → eqb byte 64 ≡ c → (d : Bool) → eqb byte 65 ≡ d
            → cond b (move_step a byte p) (cond c (delay_step a p) (cond d (linger_step a p) none)) ≡ some p' → Stepped a p byte p'
        go true b c e d f h = move-view byte (ltb-true byte 64 b) h
        go false b true e d f h = rw (eqb-true byte 64 e) (delay-view h)
        go false b false e true f h = rw (eqb-true byte 65 f) (linger-view h)
        go false b false e false f h = absurd (none-ne-some p' h)

  -- And a step of one of the cases is allowed.
  pub view-step : {byte : ℕ} {p' : Place} → Stepped a p byte p' → step a byte p ≡ some p'
  unfolding step delay_step linger_step move_step
  view-step (leaves z t) = rw (delay-leave (rate_at a p) p.region z, t.conditions, t.ceilings) refl
  view-step (arrives z t) = rw (delay-arrive (rate_at a p) p.region z, t.conditions, t.ceilings) refl
  view-step (lingers z) = rw (linger-empty (rate_at a p) p.region z) refl
  view-step (idles z) = rw (linger-same (rate_at a p) p.region z) refl
  view-step (moves e b i o g m) = rw (lt-ltb e 64 b, lt-ltb e (length a.moves) i, eq-eqb (move_at a e).source p.mode o, g, m) refl

module _ (a : Automaton) where
  -- The first step that is followed, and the rest.
  pub follow-first :
      (byte : ℕ) (bytes : List ℕ) (p p'' : Place) → follow a (byte ∷ bytes) p ≡ some p''
      → (p' : Place) × (step a byte p ≡ some p') × (follow a bytes p' ≡ some p'')
  unfolding follow
  follow-first byte bytes p p'' h = go (step a byte p) refl h
    where
      go :
          (o : Option Place) → step a byte p ≡ o → (elim o [ none ↦ none | some p' ↦ follow a bytes p' ]) ≡ some p''
          → (p' : Place) × (step a byte p ≡ some p') × (follow a bytes p' ≡ some p'')
      go none e h = absurd (none-ne-some p'' h)
      go (some p') e h = (p', e, h)

  pub follow-cons :
      (byte : ℕ) (bytes : List ℕ) (p p' : Place) → step a byte p ≡ some p' → follow a (byte ∷ bytes) p ≡ follow a bytes p'
  unfolding follow
  follow-cons byte bytes p p' e = ap rest e
    where
      rest : Option Place → Option Place
      rest none = none
      rest (some p'') = follow a bytes p''

  follow-snoc :
      (bytes : List ℕ) (byte : ℕ) (p p' p'' : Place) → follow a bytes p ≡ some p' → step a byte p' ≡ some p''
      → follow a (bytes ++ byte ∷ []) p ≡ some p''
  unfolding follow
  follow-snoc [] byte p p' p'' h e =
      follow-cons byte [] p p'' (subst (λ (s : Place). step a byte s ≡ some p'') (sym (some-injective p p' h)) e)
  follow-snoc (b ∷ bytes) byte p p' p'' h e =
      let f = follow-first b bytes p p' h in
      follow-cons b (bytes ++ byte ∷ []) p f.0 f.1 ∙ follow-snoc bytes byte f.0 p' p'' f.2 e

  -- A chain one step longer.
  pub chain_snoc :
      (bytes : List ℕ) (byte : ℕ) (p p' : Place) → chain a bytes ≡ some p → Stepped a p byte p' → chain a (bytes ++ byte ∷ []) ≡ some p'
  unfolding chain
  chain_snoc bytes byte p p' h s = follow-snoc bytes byte (begin a) p p' h (view-step a p s)

  -- The first steps of a chain are one.
  pub follow-take :
      (i : ℕ) (bytes : List ℕ) (p p'' : Place) → follow a bytes p ≡ some p'' → (p' : Place) × (follow a (take i bytes) p ≡ some p')
  unfolding follow
  follow-take zero bytes p p'' h = (p, refl)
  follow-take (suc i) [] p p'' h = (p, refl)
  follow-take (suc i) (byte ∷ bytes) p p'' h =
      let f = follow-first byte bytes p p'' h in
      let o = follow-take i bytes f.0 p'' f.2 in
      (o.0, follow-cons byte (take i bytes) p f.0 f.1 ∙ o.1)

  pub chain-take : (i : ℕ) (bytes : List ℕ) (p : Place) → chain a bytes ≡ some p → (p' : Place) × (chain a (take i bytes) ≡ some p')
  unfolding chain
  chain-take i bytes p h = follow-take i bytes (begin a) p h

  -- What every allowed step keeps, a chain keeps.
  pub follow-keeps :
      (P : Place → Type 0) → ((byte : ℕ) (p p' : Place) → P p → Stepped a p byte p' → P p') → (bytes : List ℕ) (p p' : Place)
      → follow a bytes p ≡ some p' → P p → P p'
  unfolding follow
  follow-keeps P one [] p p' h k = subst P (some-injective p p' h) k
  follow-keeps P one (byte ∷ bytes) p p' h k =
      let f = follow-first byte bytes p p' h in
      follow-keeps P one bytes f.0 p' f.2 (one byte p f.0 k (step-view a p f.0 byte f.1))
