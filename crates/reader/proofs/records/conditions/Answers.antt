-- `reader::records::conditions` meets its contract. The loop has collected the first i conditions. Assumes nothing.
use mathlib.Core.Path.{◌≡◌}
use native.Mathlib.Omega.{arith}
use Rattle.reader.specs.Format.{conditions}
use Rattle.reader.proofs.Giving.{passed-up}
use Rattle.reader.proofs.Writing.{wrote-byte}
use Rattle.reader.proofs.Collecting.{gathered-more, gathered-refused, gathered-all}
use Rattle.reader.proofs.records.conditions.Invariants.{place}
use Rattle.reader.proofs.records.conditions.Goals as goal

pub returns-in_err-condition : goal.returns-in_err-condition
unfolding conditions
returns-in_err-condition c =
    let a = c.args in
    passed-up c.from_residual.result _ _ _ c.from_residual.ensures.1
    (gathered-refused (place a.map) 1 6 a.bytes.now a.from c.loop-i.invariant (omega arith) c.in_err-condition.ensures)

pub loop-i-preserved : goal.loop-i-preserved
loop-i-preserved c =
    let a = c.args in
    gathered-more (place a.map) 1 6 a.bytes.now a.from c.loop-i.invariant (omega arith) c.in_ok-condition.ensures (λ b l e w. wrote-byte e w)

pub returns : goal.returns
unfolding conditions
returns c =
    let a = c.args in
    let f = c.loop-i.invariant in
    let six : c.loop-i.i ≡ 6 = omega arith in
    record { value = f.taken; taken = gathered-all (place a.map) 1 6 a.bytes.now a.from f (omega arith); holds = rw six at f.hold }
