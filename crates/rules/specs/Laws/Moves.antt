-- What a caller concludes from the move that a byte names.
-- Assumes nothing.
use Rattle.std.specs.Prelude.{◌≡◌, ◌≢◌, refl, ℕ, ◌-◌, ◌≤◌, ◌<◌, Option, Some, None}
use Rattle.std.proofs.Common.{arith}
use Rattle.rules.specs.Rules.{none, as_move}

module _ {named : Option ℕ} {r : ℕ} (is : named ≡ as_move r) where
  -- A move that is named has the byte's number,
  pub some-number : {e : ℕ} → named ≡ Some e → (r ≡ e) × (e ≢ none)
  some-number some = grind arith

  -- and is below 64 if the byte is no more.
  pub some-move : {e : ℕ} → r ≤ none → named ≡ Some e → (r ≡ e) × (e < none)
  some-move few some = let o = some-number some in (o.0, omega (arith, few, o.0, o.1))

  -- If none is, the byte is that of no move.
  pub no-move : named ≡ None → none ≤ r
  no-move nobody = grind arith

-- How many numbers of moves are left, from the move that is named.
abbrev pub left : Option ℕ → ℕ
left None = 0
left (Some e) = none - e

-- They become fewer where a later one is named.
pub left-less : {next : Option ℕ} {e r : ℕ} → e < none → next ≡ as_move r → e < r → left next < left (Some e)
left-less {next = None} few is later = omega (arith, few)
left-less {next = Some x} few is later = omega (arith, few, later, (some-number is refl).0)
