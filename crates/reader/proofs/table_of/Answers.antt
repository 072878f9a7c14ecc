-- `reader::table_of` meets its contract. Assumes nothing.
use native.Mathlib.Omega.{arith}
use mathlib.Core.Path.{refl}
use Rattle.reader.specs.Theorems.Accepted.{accepted-table, accepted-read}
use Rattle.reader.proofs.table_of.Goals as goal

pub invariant_of-result : goal.invariant_of-result
invariant_of-result c =
    record { is_table = accepted-table c.args.bytes.now c.read.new.table _ (λ i. omega (arith, c.type_inv.bytes i)) c.in_ok-read.ensures refl }

pub returns : goal.returns
returns c = accepted-read c.args.bytes.now c.read.new.table _ (λ i. omega (arith, c.type_inv.bytes i)) c.in_ok-read.ensures refl
