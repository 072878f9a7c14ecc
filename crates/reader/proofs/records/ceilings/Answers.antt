-- `reader::records::ceilings` meets its contract. The loop has collected the ceilings before the place `at`. Assumes nothing.
use Prim.Native.Nat.{◌+◌, ◌-◌}
use mathlib.Core.Path.{◌≡◌}
use native.Mathlib.Omega.{arith}
use Rattle.reader.proofs.Giving.{passed-up}
use Rattle.reader.proofs.Writing.{wrote-byte}
use Rattle.reader.proofs.Collecting.{gathered-more, gathered-refused, gathered-all}
use Rattle.reader.proofs.records.ceilings.Invariants.{ceiling}
use Rattle.reader.proofs.records.ceilings.Goals as goal

pub returns-in_err-copied : goal.returns-in_err-copied
returns-in_err-copied c =
    let a = c.args in
    passed-up c.from_residual.result _ _ _ c.from_residual.ensures.1
    (gathered-refused ceiling 0 a.timers a.bytes.now 4 c.loop-at.invariant (omega arith) c.in_err-copied.ensures)

pub loop-at-preserved : goal.loop-at-preserved
loop-at-preserved c =
    let a = c.args in
    let at = c.loop-at.at in
    let further : at + 1 - 4 ≡ at - 4 + 1 = omega arith in
    let place : 4 + (at - 4) ≡ at = omega arith in
    rw further
    (gathered-more ceiling 0 a.timers a.bytes.now 4 c.loop-at.invariant (omega arith) c.in_ok-copied.ensures
    (λ b l k w. rw k.is (rw place at (wrote-byte k.value w))))

pub returns : goal.returns
returns c =
    let a = c.args in
    let f = c.loop-at.invariant in
    let all : c.loop-at.at - 4 ≡ a.timers = omega (arith, f.few) in
    let behind : c.loop-at.at ≡ 4 + c.from-behind.result = omega (arith, f.few, c.from-behind.ensures) in
    record {
      value = f.taken;
      taken = rw behind at (gathered-all ceiling 0 a.timers a.bytes.now 4 f (omega arith));
      holds = rw all at f.hold;
    }
