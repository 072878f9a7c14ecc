-- `form::records::places` meets its contract. Assumes nothing.
use Rattle.form.proofs.Filling.{place-more}
use native.Mathlib.Omega.{arith}
use Rattle.form.proofs.records.places.Goals as goal

pub loop-i-preserved : goal.loop-i-preserved
loop-i-preserved c = place-more c.args.table.now c.args.from c.loop-i.i (omega arith) c.loop-i.invariant c.place.ensures
