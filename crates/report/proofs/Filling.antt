-- Lines put at the start of a destination: what the contracts of the public calls say of it.
-- Assumes nothing.
use mathlib.Core.Path.{◌≡◌, refl, sym, ap, ap₂, ◌∙◌}
use mathlib.Core.List.{List, ◌++◌}
use Prim.Native.Nat.{ℕ, ◌+◌, ◌≤◌, ◌<◌}
use native.Mathlib.Omega.{arith}
use borrow.Author.Tests.{le-leb, lt-leb}
use lib.ListN.{length, take, drop, length-append}
use lib.Seq.{take_at}
use Rattle.io.specs.Counts.{IsPrefixLen}
use Rattle.route.specs.Answers.{Answer}
use Rattle.route.specs.Plan.{outcome, planned}
use Rattle.std.specs.Prelude.{Some, None}
use Rattle.report.specs.Lines.{lines}
use Rattle.report.specs.Destination.{overwritten, room, filled, lines_into}
use Rattle.report.specs.Text.{shown, lent_words, lent_route, printed, kept, printed-kept}
use Rattle.report.specs.Put.{Put}

module _ {w d : List ℕ} {next : ℕ} {e : List ℕ} (p : Put w 0 d next e) where
  start-count : next ≡ length w
  start-count = omega (arith, p.behind)

  start-bytes : e ≡ overwritten w d
  start-bytes = let m : 0 + length w ≡ length w = omega arith in p.bytes ∙ ap (λ (k : ℕ). w ++ drop k d) m

module _ (answer : Answer) (rs d : List ℕ) where
  pub lines-refused-short : length d < room (length rs) → filled None d ≡ lines_into answer rs d
  unfolding lines_into
  lines-refused-short h = rw (lt-leb (room (length rs)) (length d) h) refl

  pub lines-put : {next : ℕ} {e : List ℕ} → room (length rs) ≤ length d → Put (lines answer rs) 0 d next e →
      filled (Some next) e ≡ lines_into answer rs d
  unfolding lines_into
  lines-put h p =
      rw (le-leb (room (length rs)) (length d) h)
      (ap₂ (λ (n : ℕ) (l : List ℕ). filled (Some n) l) (start-count p) (start-bytes p))

-- The lines of an outcome of planning with the memory that the unit lends.
module _ (bytes : List ℕ) {answer : Answer} {ws rs : List ℕ} (o : outcome answer ws rs ≡ planned bytes lent_words lent_route) where
  lines-printed : lines answer rs ≡ printed bytes
  unfolding printed
  lines-printed = ap shown o

  module _ {d : List ℕ} {next : ℕ} {e : List ℕ} (p : Put (lines answer rs) 0 d next e) where
    text-count : next ≡ length (printed bytes)
    text-count = start-count p ∙ ap length lines-printed

    text-bytes : e ≡ overwritten (printed bytes) d
    text-bytes = start-bytes p ∙ ap (λ (l : List ℕ). overwritten l d) lines-printed

    text-taken : take next e ≡ printed bytes
    text-taken = ap (take next) text-bytes ∙ take_at (printed bytes) (drop (length (printed bytes)) d) next (sym text-count)

    text-within : IsPrefixLen next e
    text-within = (
      omega (arith, text-count, ap length text-bytes, length-append (printed bytes) (drop (length (printed bytes)) d)),
      omega (arith, text-count, ap length text-taken),
    )

    pub text-put :
        IsPrefixLen next e
        × ((next ≡ length (printed bytes))
        × ((e ≡ overwritten (printed bytes) d) × ((rest : List ℕ) → kept ≤ length bytes → take next e ≡ printed (bytes ++ rest))))
    text-put = (text-within, (text-count, (text-bytes, λ rest h. text-taken ∙ printed-kept bytes rest h)))
