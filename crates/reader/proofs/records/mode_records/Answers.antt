-- `reader::records::mode_records` meets its contract. The loop has collected the first i records. Assumes nothing.
use mathlib.Core.Path.{◌≡◌}
use native.Mathlib.Omega.{arith}
use Rattle.reader.specs.Format.{mode_record}
use Rattle.table.specs.Held.{mode_bytes}
use Rattle.reader.proofs.Giving.{passed-up}
use Rattle.reader.proofs.Writing.{wrote-more}
use Rattle.reader.proofs.Collecting.{gathered-more, gathered-refused, gathered-all}
use Rattle.reader.proofs.records.mode_records.Goals as goal

pub returns-in_err-next : goal.returns-in_err-next
returns-in_err-next c =
    let a = c.args in
    passed-up c.from_residual.result _ _ _ c.from_residual.ensures.1
    (gathered-refused (λ i. mode_record a.timers) 0 a.modes a.bytes.now a.from c.loop-i.invariant (omega arith) c.in_err-next.ensures)

pub loop-i-preserved : goal.loop-i-preserved
loop-i-preserved c =
    let a = c.args in
    gathered-more (λ i. mode_record a.timers) 0 a.modes a.bytes.now a.from c.loop-i.invariant (omega arith) c.in_ok-next.ensures
    (λ e l w v. wrote-more mode_bytes 8 c.loop-i.i e l w v)

pub returns : goal.returns
returns c =
    let a = c.args in
    let g = c.loop-i.invariant in
    let all : c.loop-i.i ≡ a.modes = omega (arith, g.few) in
    record {
      value = g.taken;
      taken = gathered-all (λ i. mode_record a.timers) 0 a.modes a.bytes.now a.from g (omega arith);
      holds = rw all at g.hold;
    }
