-- `reader::records::move_records` meets its contract. The loop has collected the first i records. Assumes nothing.
use mathlib.Core.Path.{◌≡◌}
use native.Mathlib.Omega.{arith}
use Rattle.reader.specs.Format.{move_record}
use Rattle.table.specs.Held.{move_bytes}
use Rattle.reader.proofs.Giving.{passed-up}
use Rattle.reader.proofs.Writing.{wrote-more}
use Rattle.reader.proofs.Collecting.{gathered-more, gathered-refused, gathered-all}
use Rattle.reader.proofs.records.move_records.Goals as goal

pub returns-in_err-next : goal.returns-in_err-next
returns-in_err-next c =
    let a = c.args in
    passed-up c.from_residual.result _ _ _ c.from_residual.ensures.1
    (gathered-refused (λ i. move_record a.modes a.timers) 0 a.moves a.bytes.now a.from c.loop-i.invariant (omega arith) c.in_err-next.ensures)

pub loop-i-preserved : goal.loop-i-preserved
loop-i-preserved c =
    let a = c.args in
    gathered-more (λ i. move_record a.modes a.timers) 0 a.moves a.bytes.now a.from c.loop-i.invariant (omega arith) c.in_ok-next.ensures
    (λ e l w v. wrote-more move_bytes 12 c.loop-i.i e l w v)

pub returns : goal.returns
returns c =
    let a = c.args in
    let g = c.loop-i.invariant in
    let all : c.loop-i.i ≡ a.moves = omega (arith, g.few) in
    record {
      value = g.taken;
      taken = gathered-all (λ i. move_record a.modes a.timers) 0 a.moves a.bytes.now a.from g (omega arith);
      holds = rw all at g.hold;
    }
