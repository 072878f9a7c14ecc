-- `report::put_steps` meets its contract. The loop has put the first steps.
-- Assumes nothing.
use mathlib.Core.Path.{◌≡◌}
use Prim.Native.Nat.{◌+◌, ◌≤◌, ◌<◌, min}
use native.Mathlib.Numerals.{add-one}
use native.Mathlib.Omega.{arith}
use lib.ListN.{length, take, length-take}
use lib.Seq.{get_or-take}
use Rattle.report.specs.Lines.{step_texts}
use Rattle.report.proofs.Putting.{put-none, put_both}
use Rattle.report.proofs.Stepping.{steps-more, steps-room, same-steps}
use Rattle.report.proofs.put_steps.Goals.{In-loop-byte}
use Rattle.report.proofs.put_steps.Goals as goal

-- The place in hand is one of the first n and one of the route's.
there : (c : In-loop-byte) → (c.loop-byte.byte-index < c.args.n) × (c.loop-byte.byte-index < length c.args.route.now) × (c.loop-byte.byte-index < c.min.result)
there c =
    let t = c.loop-byte-test.true in
    let long = length-take c.min.result c.args.route.now in
    (omega (arith, t, long, c.min.ensures), omega (arith, t, long, c.min.ensures), omega (arith, t, long))

pub loop-byte-init : goal.loop-byte-init
loop-byte-init c = put-none c.args.at c.args.out.now

pub put_field-next-requires : goal.put_field-next-requires
put_field-next-requires c =
    let a = c.args in
    let i = c.loop-byte.byte-index in
    let l = there (goal.at.put_field-next-requires c).In-loop-byte in
    rw (get_or-take c.min.result a.route.now i 0 l.2) (omega (arith, c.requires, c.loop-byte.invariant.behind, steps-room i a.n a.route.now l.0 l.1))

pub loop-byte-preserved : goal.loop-byte-preserved
loop-byte-preserved c =
    let a = c.args in
    let i = c.loop-byte.byte-index in
    let l = there (goal.at.loop-byte-preserved c).In-loop-byte in
    let room : a.at + length (step_texts (take i a.route.now)) ≤ length a.out.now = omega (arith, c.requires, steps-room i a.n a.route.now l.0 l.1) in
    rw (add-one i, steps-more i a.route.now l.1) (put_both c.loop-byte.invariant room (rw (get_or-take c.min.result a.route.now i 0 l.2) at c.put_field-next.ensures))

pub returns : goal.returns
returns c =
    let a = c.args in
    let long = length-take c.min.result a.route.now in
    let all : c.loop-byte.byte-index ≡ min a.n (length a.route.now) =
    omega (arith, c.loop-byte-test.false, c.loop-byte.auto.byte-index-end, long, c.min.ensures) in
    rw (← same-steps a.n c.loop-byte.byte-index a.route.now all) c.loop-byte.invariant
