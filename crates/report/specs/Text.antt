-- What `plan` prints for every list of bytes, and how many of them it has to keep.
-- Assumes nothing.
use Rattle.std.specs.Prelude.{◌≡◌, refl, List, ◌++◌, ℕ, ◌+◌, ◌≤◌, length, replicate}
use Rattle.std.proofs.Common.{sym, ap, ◌∙◌, arith, take_at}
use Rattle.reader.specs.Format.{longest}
use Rattle.reader.specs.Read.{Judgement, read}
use Rattle.reader.specs.Theorems.Longer.{longer-same}
use Rattle.route.specs.Plan.{Outcome, judged, planned}
use Rattle.report.specs.Lines.{lines}

-- The lines of what planning answers, and of the route bytes that it leaves.
abbrev pub shown : Outcome → List ℕ
shown o = lines o.answer o.route

-- "the program's [0u32; 6000] and [0u8; 256] buffers".
abbrev pub lent_words : List ℕ
lent_words = replicate 6000 0

abbrev pub lent_route : List ℕ
lent_route = replicate 256 0

-- "`plan` reads a table from standard input, lends 6,000 words and 256 route bytes, and prints."
unfoldable pub printed : List ℕ → List ℕ
printed bytes = shown (planned bytes lent_words lent_route)

-- "the longest table has 919 bytes": with one more, whatever stands behind them changes nothing.
abbrev pub kept : ℕ
kept = longest + 1

pub printed-kept : (bytes rest : List ℕ) → kept ≤ length bytes → printed bytes ≡ printed (bytes ++ rest)
unfolding printed planned
printed-kept bytes rest h =
    let same : read bytes ≡ read (bytes ++ rest) =
    sym (ap read (take_at bytes rest (length bytes) refl)) ∙ longer-same (bytes ++ rest) (length bytes) (omega arith) in
    ap (λ (j : Judgement). shown (judged j lent_words lent_route)) same
