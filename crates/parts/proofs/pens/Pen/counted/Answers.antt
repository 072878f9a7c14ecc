-- `parts::pens::Pen::counted` meets its contract. Assumes nothing.
use Rattle.std.proofs.Common.{rules}
use Rattle.table.specs.Refusals.{number}
use native.Mathlib.Omega.{arith}
use Rattle.parts.proofs.pens.Pen.counted.Goals as goal

pub returns : goal.returns
returns c = let byte = c.checked.ensures number (omega arith) in search rules
