-- The words of a walk: where it stands, and that they tell what is asked of them, in spite of the words that point back.
-- Assumes nothing.
use mathlib.Core.Path.{◌≡◌, sym, ap, ◌∙◌}
use mathlib.Core.Bool.{true≢false}
use mathlib.Core.Logic.{◌≢◌}
use mathlib.Core.List.{List}
use Prim.Native.Nat.{ℕ, suc, ◌≤◌, ◌<◌}
use native.Mathlib.Omega.{arith}
use lib.ListN.{length, get_or, take, drop}
use Rattle.semantics.specs.Order.{Cost, cost}
use Rattle.semantics.specs.Graph.Path.{Entry, unreached, reached, infinity, charge_at, steps_at}
use Rattle.semantics.proofs.Answers.Trail.{Trail}
use Rattle.table.specs.Held.{automaton_of}
use Rattle.space.specs.declared.Space.{Space}
use Rattle.steps.specs.declared.Stand.{Stand}
use Rattle.steps.specs.Steps.{Marked}
use Rattle.route.specs.Walk.{WalkReady, RestKept, back_pointer, pointer, pointing}

-- The marked corners of the place to which i steps led.
abbrev pub marks : (ℕ → ℕ) → ℕ → ℕ → Type 0
marks sets i j = Marked (sets i) j

-- The words of node v, after n steps, and its cost in the table d: they say that it is unreached, or what it costs; or they say its charge and point
-- back, and it costs as many steps as led to the place of which it is the lowest marked corner.
pub data Shown (firsts sets : ℕ → ℕ) (n : ℕ) (ws : List ℕ) (d : ℕ → Entry) (v : ℕ) : Type 0 where
  gone : charge_at ws v ≡ infinity → d v ≡ unreached → Shown firsts sets n ws d v
  plain : charge_at ws v ≢ infinity → d v ≡ reached (cost (charge_at ws v) (steps_at ws v)) → Shown firsts sets n ws d v
  points :
      (i : ℕ) → i ≤ n → v ≡ pointing (firsts i) (sets i) → charge_at ws v ≢ infinity → back_pointer ≤ steps_at ws v
      → d v ≡ reached (cost (charge_at ws v) i) → Shown firsts sets n ws d v

-- The walk stands at z, after as many of the route bytes bs.
pub record Walking {t rs : List ℕ} {s : Space} {ws₀ bs₀ : List ℕ} (w : WalkReady t rs s ws₀ bs₀) (ws bs : List ℕ) (z : Stand) : Type 0 where
  pub costs : ℕ → Entry
  pub firsts : ℕ → ℕ
  pub sets : ℕ → ℕ
  pub trail : Trail (automaton_of t) (automaton_of t).goal costs (take z.steps bs) z.byte firsts (marks sets)
  pub shown : (v : ℕ) → Shown firsts sets z.steps ws costs v
  pub pointers : (i : ℕ) → i < z.steps → steps_at ws (pointing (firsts (suc i)) (sets (suc i))) ≡ pointer (firsts i) (sets i)
  pub sixteen : (i : ℕ) → sets i < 16
  pub first-is : firsts z.steps ≡ z.first
  pub set_is : sets z.steps ≡ z.set
  pub within : z.steps ≤ w.best.steps
  pub below : z.byte ≤ 66
  pub bytes_below : (i : ℕ) → i < z.steps → get_or bs i 0 < 66
  -- What it has left alone.
  pub bytes : drop w.best.steps bs ≡ drop w.best.steps bs₀
  pub sized : length bs ≡ length bs₀
  pub words : RestKept t ws₀ ws

-- An entry has one cost.
pub cost-once : {x : Entry} {b c : Cost} → x ≡ reached b → x ≡ reached c → b ≡ c
cost-once p q = cc

module _ {firsts sets : ℕ → ℕ} {n : ℕ} {ws : List ℕ} {d : ℕ → Entry} {v : ℕ} where
  -- The charge of a node is that of its entry,
  pub shown-charge : (c : Cost) → Shown firsts sets n ws d v → d v ≡ reached c → (charge_at ws v ≡ c.charge) × (charge_at ws v ≢ infinity)
  shown-charge c (gone e q) p = absurd (true≢false cc)
  shown-charge c (plain e q) p = (ap (λ (x : Cost). x.charge) (cost-once q p), e)
  shown-charge c (points i h o e b q) p = (ap (λ (x : Cost). x.charge) (cost-once q p), e)

  -- and infinity if it has none.
  pub shown-gone : Shown firsts sets n ws d v → charge_at ws v ≡ infinity → d v ≡ unreached
  shown-gone (gone e q) p = q
  shown-gone (plain e q) p = absurd (e p)
  shown-gone (points i h o e b q) p = absurd (e p)

  -- Of a node that costs one step more the words say it,
  pub shown-next : (c : ℕ) → Shown firsts sets n ws d v → d v ≡ reached (cost c (suc n)) → (charge_at ws v ≡ c) × (steps_at ws v ≡ suc n)
  shown-next c (gone e q) p = absurd (true≢false cc)
  shown-next c (plain e q) p =
      let o = cost-once q p in (ap (λ (x : Cost). x.charge) o, ap (λ (x : Cost). x.steps) o)
  shown-next c (points i h o e b q) p = absurd (omega (arith, ap (λ (x : Cost). x.steps) (cost-once q p)))

  -- and they say it of no other.
  pub next-shown :
      (c : ℕ) → c < infinity → n < 65536 → Shown firsts sets n ws d v → (charge_at ws v ≡ c) × (steps_at ws v ≡ suc n)
      → d v ≡ reached (cost c (suc n))
  next-shown c few short (gone e q) p = absurd (omega arith)
  next-shown c few short (plain e q) p = q ∙ (λ k. reached (cost (p.0 k) (p.1 k)))
  next-shown c few short (points i h o e b q) p = absurd (omega arith)

-- The words of the node stay, and if they point back they still do to the place before.
pub shown-kept :
    {firsts sets firsts' sets' : ℕ → ℕ} {n n' : ℕ} {ws ws' : List ℕ} {d d' : ℕ → Entry} {v : ℕ} → Shown firsts sets n ws d v
    → charge_at ws' v ≡ charge_at ws v → steps_at ws' v ≡ steps_at ws v → d' v ≡ d v
    → ((i : ℕ) → i ≤ n → v ≡ pointing (firsts i) (sets i) → (i ≤ n') × (v ≡ pointing (firsts' i) (sets' i))) → Shown firsts' sets' n' ws' d' v
shown-kept (gone e q) c s p still = gone (c ∙ e) (p ∙ q)
shown-kept (plain e q) c s p still = plain (rw c e) (p ∙ q ∙ (λ k. reached (cost (sym c k) (sym s k))))
shown-kept (points i h o e b q) c s p still =
    let x = still i h o in points i x.0 x.1 (rw c e) (omega arith) (p ∙ q ∙ ap (λ (u : ℕ). reached (cost u i)) (sym c))
