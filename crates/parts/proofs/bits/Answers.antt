-- `parts::bits` meets its contract. Assumes nothing.
use Rattle.parts.proofs.Mapping.{bits-six}
use native.Mathlib.Omega.{arith}
use Rattle.parts.proofs.bits.Goals as goal

pub returns-clause-is : goal.returns-clause-is
returns-clause-is c =
    let a = c.args in
    let whole = bits-six a.low a.last a.six (omega arith) in
    omega (
      arith,
      whole,
      c.bit_of-2.ensures.is,
      c.bit_of.ensures.is,
      c.three-further.ensures.is,
      c.three-first.ensures.is,
    )
