-- `reader::records::high_byte` meets its contract. Assumes nothing.
use mathlib.Core.Path.{refl}
use Rattle.reader.specs.Format.{amount_byte}
use Rattle.reader.proofs.Giving.{known, passed-up}
use Rattle.reader.proofs.records.high_byte.Goals as goal

pub returns-in_err-high : goal.returns-in_err-high
unfolding amount_byte
returns-in_err-high c = passed-up c.from_residual.result _ _ _ c.from_residual.ensures.1 c.in_err-high.ensures

pub returns : goal.returns
unfolding amount_byte
returns c = record { value = _; taken = known c.in_ok-high.ensures; holds = refl }
