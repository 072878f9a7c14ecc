-- `reader::records::header` meets its contract. Assumes nothing.
use Prim.Native.Nat.{◌-◌}
use native.Mathlib.Omega.{arith}
use mathlib.Core.Path.{◌∙◌}
use lib.ListN.{drop}
use Rattle.reader.specs.Format.{within, header}
use Rattle.reader.proofs.Giving.{part-refused, part-taken, passed-up}
use Rattle.reader.proofs.Copying.{copied-value, header-whole}
use Rattle.reader.proofs.records.header.Goals as goal

pub returns-in_err-modes : goal.returns-in_err-modes
unfolding header
returns-in_err-modes c =
    passed-up c.from_residual.result _ _ _ c.from_residual.ensures.1 (part-refused (within 2 1 16) _ c.args.bytes.now c.in_err-modes.ensures)

pub returns-in_err-copied : goal.returns-in_err-copied
unfolding header
returns-in_err-copied c =
    let bytes = c.args.bytes.now in
    let up = c.from_residual-in_err-copied in
    passed-up up.result _ _ _ up.ensures.1
    (part-taken (within 2 1 16) _ bytes (copied-value c.in_ok-modes.ensures) ∙ part-refused (within 2 1 3) _ (drop 1 bytes) c.in_err-copied.ensures)

pub returns-in_err-copied-2 : goal.returns-in_err-copied-2
unfolding header
returns-in_err-copied-2 c =
    let bytes = c.args.bytes.now in
    let up = c.from_residual-in_err-copied-2 in
    passed-up up.result _ _ _ up.ensures.1
    (part-taken (within 2 1 16) _ bytes (copied-value c.in_ok-modes.ensures)
    ∙ part-taken (within 2 1 3) _ (drop 1 bytes) (copied-value c.in_ok-copied.ensures)
    ∙ part-refused (within 2 0 64) _ (drop 2 bytes) c.in_err-copied-2.ensures)

pub returns-in_err-copied-3 : goal.returns-in_err-copied-3
unfolding header
returns-in_err-copied-3 c =
    let bytes = c.args.bytes.now in
    let up = c.from_residual-in_err-copied-3 in
    passed-up up.result _ _ _ up.ensures.1
    (part-taken (within 2 1 16) _ bytes (copied-value c.in_ok-modes.ensures)
    ∙ part-taken (within 2 1 3) _ (drop 1 bytes) (copied-value c.in_ok-copied.ensures)
    ∙ part-taken (within 2 0 64) _ (drop 2 bytes) (copied-value c.in_ok-copied-2.ensures)
    ∙ part-refused (within 2 0 (c.in_ok-modes.modes - 1)) _ (drop 3 bytes) c.in_err-copied-3.ensures)

pub returns : goal.returns
returns c = header-whole (omega arith) c.in_ok-modes.ensures c.in_ok-copied.ensures c.in_ok-copied-2.ensures c.in_ok-copied-3.ensures
