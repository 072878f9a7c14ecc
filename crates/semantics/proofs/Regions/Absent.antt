-- Resets of timers that a region does not have change nothing, so that resets keep it well-formed whatever timers they name.
-- Assumes nothing.
use Rattle.std.specs.Prelude.{◌≡◌, refl, false, List, [], ◌∷◌, ℕ, ◌<◌, ◌≤◌, length}
use Rattle.std.proofs.Common.{◌∙◌, sym, subst, arith}
use Rattle.std.proofs.Math.Decide.{dec_lt}
use Rattle.std.proofs.Math.ListN.{get_or-eq_default}
use Rattle.std.proofs.Math.Seq.{set_out}
use Rattle.semantics.specs.Region.{PricedRegion, WellFormed, alone, reset, reset_all}
use Rattle.semantics.specs.Regions.Cases.{reset-joined}
use Rattle.semantics.proofs.Regions.WellFormed.{reset-well-formed}

pub reset-absent : (r : PricedRegion) → WellFormed r → (x : ℕ) → length r.whole ≤ x → reset x r ≡ r
reset-absent r w x h =
    let g : length r.group ≤ x = rw w.paired h in
    let a : alone x r.group ≡ false = rw (get_or-eq_default r.group 0 g) refl in
    reset-joined x r a ∙ (λ i. record { whole = set_out r.whole x 0 h i; group = set_out r.group x 0 g i; prices = r.prices })

pub reset-any-well-formed : (r : PricedRegion) → WellFormed r → (x : ℕ) → WellFormed (reset x r)
reset-any-well-formed r w x = go (dec_lt x (length r.whole))
  where
    go : Dec (x < length r.whole) → WellFormed (reset x r)
    go (yes p) = reset-well-formed r w x p
    go (no p) = subst WellFormed (sym (reset-absent r w x (omega arith))) w

pub reset_all-any-well-formed : (xs : List ℕ) (r : PricedRegion) → WellFormed r → WellFormed (reset_all xs r)
unfolding reset_all
reset_all-any-well-formed [] r w = w
reset_all-any-well-formed (x ∷ xs) r w = reset_all-any-well-formed xs (reset x r) (reset-any-well-formed r w x)
