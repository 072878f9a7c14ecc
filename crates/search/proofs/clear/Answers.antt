-- `search::clear` meets its contract. Assumes nothing.
use mathlib.Core.Path.{◌≡◌, sym, ap, ◌∙◌}
use mathlib.Core.List.{List, ◌++◌}
use Prim.Native.Nat.{ℕ, ◌*◌}
use native.Mathlib.Omega.{arith}
use lib.ListN.{length, drop, replicate}
use lib.Seq.{length-take-le}
use Rattle.table.specs.Refusals.{number}
use Rattle.table.specs.Held.{automaton_of}
use Rattle.search.specs.Outcome.{told}
use Rattle.search.specs.Laws.Answers.{Fits, answer-fits, cleared-refused, cleared-nodes}
use Rattle.search.proofs.clear.Goals.{In-Ok}
use Rattle.search.proofs.clear.Goals as goal

-- The nodes' words were lent.
fits : (c : In-Ok) → Fits (automaton_of c.args.table.now.bytes) (length c.args.words.now) c.in-Ok.nodes
fits c = answer-fits (automaton_of c.args.table.now.bytes) (length c.args.words.now) c.in-Ok.nodes (sym c.in-Ok.ensures)

pub overflow_mul-nodes : goal.overflow_mul-nodes
overflow_mul-nodes c = omega (arith, (fits (goal.at.overflow_mul-nodes c).In-Ok).few)

pub slice_bounds-fill-end : goal.slice_bounds-fill-end
slice_bounds-fill-end c = (fits (goal.at.slice_bounds-fill-end c).In-Ok).room

pub returns-in-Ok : goal.returns-in-Ok
returns-in-Ok c =
    let a = automaton_of c.args.table.now.bytes in
    let ws = c.args.words.now in
    let n = c.in-Ok.nodes in
    let f = fits (goal.at.returns-in-Ok c).In-Ok in
    let filled : c.fill.new.self ≡ replicate (2 * n) 0 =
    c.fill.ensures.after (λ y e. e) ∙ ap (λ (k : ℕ). replicate k 0) (length-take-le (2 * n) ws f.room) in
    ap (λ (l : List ℕ). l ++ drop (2 * n) ws) filled ∙ cleared-nodes a ws n (sym c.in-Ok.ensures) f.counted

pub returns-in_default : goal.returns-in_default
returns-in_default c =
    cleared-refused (automaton_of c.args.table.now.bytes) c.args.words.now (number c.in_default.field-0) (sym c.room.ensures ∙ ap told c.in_default.is)
