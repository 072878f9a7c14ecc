-- `settle` meets its contract. The loop's invariant: the matches up to this place were played again, and slot 0 stays. Assumes nothing.
use mathlib.Core.Path.{◌≡◌, refl, sym, ◌∙◌}
use mathlib.Core.Logic.{inl, inr, ⊎_elim}
use Prim.Native.Nat.{ℕ, ◌/◌}
use native.Mathlib.Omega.{arith}
use Rattle.queue.specs.Queue.{lows, slot_at, key}
use Rattle.queue.specs.Playing.{Seat, put}
use Rattle.queue.proofs.Slots.{seat-words, key-lows, seat, put-puts}
use Rattle.queue.proofs.Replays.{Taken, replayed-start, beside-seated, match-seated, replayed-up, replayed-end}
use Rattle.queue.proofs.settle.Goals.{After-winner-other, In-loop-place, Joined-ahead, then-ahead, else-ahead}
use Rattle.queue.proofs.settle.Goals as goal

-- Slot 0 is in no match: whoever wins the one above this place, it stays.
outside : (c : In-loop-place) → (b : ℕ)
    → slot_at (put c.loop-place.words (c.loop-place.place / 2) b) 0 ≡ slot_at c.args.words.now 0
outside c b =
    let n = c.args.nodes in
    let loop = c.loop-place in
    let r = loop.invariant.1 in
    (put-puts n loop.words r.words (loop.place / 2) b (omega (arith, r.high))).others 0 (omega arith) ∙ loop.invariant.2

pub loop-place-init : goal.loop-place-init
loop-place-init c =
    let n = c.args.nodes in
    let ws = c.args.words.now in
    let e : c.key-settled.result ≡ key (lows n ws) c.args.node =
    c.key-settled.ensures ∙ sym (key-lows n ws (lows n ws) c.args.node refl c.requires.there) in
    (e, replayed-start n c.args.node c.key-settled.result ws c.requires e, refl)

-- Who has won at the other place may be tested.
other-seat : (c : After-winner-other) → Seat c.loop-place.words c.winner-other.result
other-seat c =
    let loop = c.loop-place in
    let n = c.args.nodes in
    let k = c.key-settled.result in
    seat n loop.words loop.invariant.1.words c.winner-other.result
    (beside-seated n k c.args.words.now loop.words loop.place loop.best loop.least (omega arith) loop.invariant.1
    c.winner-other.result c.winner-other.ensures)

-- Whichever way the test goes.
taken :
    (c : Joined-ahead)
    → Taken c.loop-place.words c.loop-place.best c.loop-place.least c.winner-other.result c.if-ahead.best c.if-ahead.least
taken c =
    let told = c.ahead.ensures in
    elim c.if-ahead.branch [
      | then-ahead w ↦ inl (w.best-is, w.least-is ∙ w.key-least.ensures, told.ahead w.if-ahead.true)
      | else-ahead w ↦ inr (w.best-is, w.least-is, told.behind w.if-ahead.false)
    ]

pub ahead-requires : goal.ahead-requires
ahead-requires c = other-seat c

pub key-least-requires : goal.key-least-requires
key-least-requires c =
    seat-words c.loop-place.words c.winner-other.result (other-seat (goal.at.key-least-requires c).After-winner-other)
    (c.ahead.ensures.ahead c.if-ahead.true).0

pub set_slot-requires : goal.set_slot-requires
set_slot-requires c =
    let loop = c.loop-place in
    let k = c.key-settled.result in
    let r = loop.invariant.1 in (
      omega (arith, r.high, r.words),
      ⊎_elim (λ e. omega arith) (λ h. omega (arith, r.words))
          (match-seated c.args.nodes k c.args.words.now loop.words loop.place loop.best loop.least (omega arith) r
          c.winner-other.result c.winner-other.ensures c.if-ahead.best c.if-ahead.least (taken (goal.at.set_slot-requires c).Joined-ahead)),
    )

pub loop-place-preserved : goal.loop-place-preserved
loop-place-preserved c =
    let loop = c.loop-place in
    let k = c.key-settled.result in (
      loop.invariant.0,
      rw c.set_slot.ensures
          (replayed-up c.args.nodes k c.args.words.now loop.words loop.place loop.best loop.least (omega arith)
          loop.invariant.1
          c.winner-other.result c.winner-other.ensures c.if-ahead.best c.if-ahead.least (taken (goal.at.loop-place-preserved c).Joined-ahead)),
      rw c.set_slot.ensures (outside (goal.at.loop-place-preserved c).In-loop-place c.if-ahead.best),
    )

pub returns : goal.returns
returns c =
    let loop = c.loop-place in
    replayed-end c.args.nodes c.key-settled.result c.args.words.now loop.words c.args.node loop.place loop.best loop.least
    loop.invariant.0 (omega arith) loop.invariant.2 loop.invariant.1
