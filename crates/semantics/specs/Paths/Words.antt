-- A table in words: what its words say of an entry, and what a store of an entry does to it.
-- Assumes nothing.
use Rattle.std.specs.Prelude.{◌≡◌, Bool, ◌≢◌, List, ℕ, ◌+◌, ◌*◌, ◌<◌, length, set, drop}
use Rattle.std.proofs.Math.Path.{refl}
use Rattle.std.proofs.Common.{◌∙◌, true≢false, arith, length-set, get_or-set_same, get_or-set_other, drop-set-lt}
use Rattle.std.proofs.Math.Bool.{true, false, cond}
use Rattle.std.proofs.Math.Dec.{eqb}
use borrow.Author.Tests.{eq-eqb, ne_eqb, eqb-true, eqb-false}
use Rattle.semantics.specs.Order.{Cost, cost}
use Rattle.semantics.specs.Graph.Path.{unreached, reached, infinity, charge_at, steps_at, table}

-- The words of node v hold the cost c.
pub record HoldsCost (ws : List ℕ) (v : ℕ) (c : Cost) : Type 0 where
  pub known : charge_at ws v ≢ infinity
  pub charge : charge_at ws v ≡ c.charge
  pub steps : steps_at ws v ≡ c.steps

-- If node v is unreached, both of its words say so.
abbrev pub Blank : List ℕ → ℕ → Type 0
Blank ws v = charge_at ws v ≡ infinity → steps_at ws v ≡ infinity

module _ (ws : List ℕ) (v : ℕ) where
  pub table-unreached : charge_at ws v ≡ infinity → table ws v ≡ unreached
  unfolding table
  table-unreached e = rw (eq-eqb (charge_at ws v) infinity e)

  pub table-reached : charge_at ws v ≢ infinity → table ws v ≡ reached (cost (charge_at ws v) (steps_at ws v))
  unfolding table
  table-reached n = rw (ne_eqb (charge_at ws v) infinity n)

  pub table-holds : (c : Cost) → HoldsCost ws v c → table ws v ≡ reached c
  table-holds c h = table-reached h.known ∙ (λ i. reached (record { charge = h.charge i; steps = h.steps i }))

  pub reached-words : (c : Cost) → table ws v ≡ reached c → HoldsCost ws v c
  unfolding table
  reached-words c q = go (eqb (charge_at ws v) infinity) refl q
    where
      go :
          (b : Bool) → eqb (charge_at ws v) infinity ≡ b
          → cond b unreached (reached (cost (charge_at ws v) (steps_at ws v))) ≡ reached c → HoldsCost ws v c
      go true e r = absurd (true≢false cc)
      go false e r = record { known = eqb-false (charge_at ws v) infinity e; charge = cc; steps = cc }

  pub unreached-words : table ws v ≡ unreached → charge_at ws v ≡ infinity
  unfolding table
  unreached-words q = go (eqb (charge_at ws v) infinity) refl q
    where
      go :
          (b : Bool) → eqb (charge_at ws v) infinity ≡ b
          → cond b unreached (reached (cost (charge_at ws v) (steps_at ws v))) ≡ unreached → charge_at ws v ≡ infinity
      go true e r = eqb-true (charge_at ws v) infinity e
      go false e r = absurd (true≢false cc)

-- The words with the cost c stored for node v.
abbrev pub stored : List ℕ → ℕ → Cost → List ℕ
stored ws v c = set (set ws (2 * v) c.charge) (2 * v + 1) c.steps

module _ (ws : List ℕ) (v : ℕ) (c : Cost) where
  pub stored-length : length (stored ws v c) ≡ length ws
  stored-length = simp length-set

  -- The words past the table of E nodes.
  pub stored-rest : (E : ℕ) → v < E → drop (2 * E) (stored ws v c) ≡ drop (2 * E) ws
  stored-rest E h =
      drop-set-lt (2 * E) (set ws (2 * v) c.charge) (2 * v + 1) c.steps (omega arith)
      ∙ drop-set-lt (2 * E) ws (2 * v) c.charge (omega arith)

  module _ (room : 2 * v + 1 < length ws) where
    pub stored-charge : charge_at (stored ws v c) v ≡ c.charge
    stored-charge =
        get_or-set_other (set ws (2 * v) c.charge) (2 * v + 1) (2 * v) c.steps 0 (omega arith)
        ∙ get_or-set_same ws (2 * v) c.charge 0 (omega arith)

    pub stored-steps : steps_at (stored ws v c) v ≡ c.steps
    stored-steps = get_or-set_same (set ws (2 * v) c.charge) (2 * v + 1) c.steps 0 (simp length-set (omega arith))

    pub table-stored : c.charge ≢ infinity → table (stored ws v c) v ≡ reached c
    table-stored known =
        table-holds (stored ws v c) v c (record { known = rw stored-charge known; charge = stored-charge; steps = stored-steps })

  module _ (u : ℕ) (other : u ≢ v) where
    pub other-charge : charge_at (stored ws v c) u ≡ charge_at ws u
    other-charge =
        get_or-set_other (set ws (2 * v) c.charge) (2 * v + 1) (2 * u) c.steps 0 (omega arith)
        ∙ get_or-set_other ws (2 * v) (2 * u) c.charge 0 (omega arith)

    pub other-steps : steps_at (stored ws v c) u ≡ steps_at ws u
    other-steps =
        get_or-set_other (set ws (2 * v) c.charge) (2 * v + 1) (2 * u + 1) c.steps 0 (omega arith)
        ∙ get_or-set_other ws (2 * v) (2 * u + 1) c.charge 0 (omega arith)

    pub table-other : table (stored ws v c) u ≡ table ws u
    unfolding table
    table-other = rw (other-charge, other-steps)
