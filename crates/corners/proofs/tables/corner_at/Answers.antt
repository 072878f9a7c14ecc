-- `corners::tables::corner_at` meets its contract.
-- Assumes nothing.
use mathlib.Core.Path.{◌≡◌, ap, ◌∙◌}
use Prim.Native.Nat.{ℕ, ◌+◌}
use Rattle.semantics.specs.Corners.Corner.{corner_at}
use Rattle.corners.specs.Tables.{byte_of, corner_byte}
use Rattle.corners.proofs.Rules.{byte-is, entry-is, corner-is}
use Rattle.corners.proofs.tables.corner_at.Goals as goal

pub returns : goal.returns
returns c =
    let a = c.args in
    let byte : c.entry-byte.result ≡ byte_of (corner_at a.timers a.number) =
    c.entry-byte.ensures ∙ entry-is corner_byte (c.from.result + a.number) c.corner_row.ensures
    ∙ ap (λ (first : ℕ). corner_byte (first + a.number)) c.from.ensures
    ∙ byte-is a.timers c.requires.0 c.requires.1 a.number c.requires.2
    in
    rw (c.from-2.ensures, c.max-2.ensures, c.max.ensures, byte) (corner-is a.timers a.number c.requires.1 c.requires.2)
