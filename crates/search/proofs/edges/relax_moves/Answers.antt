-- `search::edges::relax_moves` meets its contract. The loop has relaxed the edges of the moves before the next one, which is not passed over.
-- Assumes nothing.
use mathlib.Core.Path.{◌≡◌}
use Prim.Native.Nat.{◌+◌, ◌*◌, ◌<◌}
use native.Mathlib.Omega.{arith}
use Rattle.table.specs.Held.{automaton_of}
use Rattle.table.specs.Theorems.Access.{target_below}
use Rattle.rules.specs.Rules.{first_of, FirstFrom}
use Rattle.rules.specs.Laws.Moves.{no-move, left-less}
use Rattle.space.specs.Moves.{OpenNamed}
use Rattle.space.specs.Space.{place_at}
use Rattle.space.specs.Laws.Shares.{few-modes, block_within}
use Rattle.space.specs.Laws.Images.{images-none}
use Rattle.space.proofs.Settings.{place-mode, place-half-room}
use Rattle.space.proofs.Imaging.{move-image}
use Rattle.space.proofs.MoveEdges.{move_edge}
use Rattle.space.proofs.MovesFrom.{named-ready, named-open, after-ready, after-open}
use Rattle.search.specs.Edges.{Holding}
use Rattle.search.proofs.Offers.{hold-again}
use Rattle.search.proofs.MoveRelaxing.{TurnAt, turn-at, moves-none, moves-all, move-node, move-inside, move-sum, move-ready, moves_more}
use Rattle.search.proofs.edges.relax_moves.Goals.{Start, In-Some, After-image, After-next_move-next-in-Some}
use Rattle.search.proofs.edges.relax_moves.Goals as goal

-- The rules of the mode begin with its first move.
begins :
    (c : Start)
    → FirstFrom (automaton_of c.args.corners.now.table.now.bytes) c.args.from.at.mode 0 (first_of c.args.corners.now.rules.now c.args.from.at.mode)
begins c = c.args.corners.now.setting.is-rules.first _ c.requires.0.corner.place.in-modes

-- The move in hand.
here :
    (c : In-Some)
    → TurnAt c.args.corners.now.table.now.bytes c.args.corners.now.rules.now c.args.corners.now.space c.args.from c.halves-halves.result c.in-Some.e
    c.args.words.now c.loop-next.words
here c = turn-at c.loop-next.invariant c.in-Some.is

-- The node to which it leads, by the image of its resets.
node :
    (c : After-image)
    → c.image.result + c.target-target.result * c.args.corners.now.space.block
    ≡ (move_edge (automaton_of c.args.corners.now.table.now.bytes) (place_at c.args.from.at) c.args.from.at.index c.in-Some.e).to
node c =
    let h = turn-at c.loop-next.invariant c.in-Some.is in
    move-node c.args.corners.now.setting c.args.from c.requires.0.corner _ c.halves-halves.ensures _ h.some h.move
    _ c.resets-resets.ensures _ _ c.image.ensures.is c.target-target.ensures

node-few :
    (c : After-image)
    → (move_edge (automaton_of c.args.corners.now.table.now.bytes) (place_at c.args.from.at) c.args.from.at.index c.in-Some.e).to < 65535
node-few c =
    let z = c.requires.0 in
    let h = turn-at c.loop-next.invariant c.in-Some.is in
    let inside = move-inside z.setting c.args.from z.corner _ c.halves-halves.ensures _ h.some h.move z.goal _ z.holding in
    omega (arith, inside, z.setting.few)

-- The node in hand, after the moves before this one.
held : (c : In-Some) → Holding c.args.corners.now.table.now.bytes c.args.corners.now.space c.args.from c.loop-next.words c.requires.0.goal
held c = hold-again c.requires.0.holding ((here c).moves c.requires.0.goal c.requires.0.holding)

-- The next move.
after : (c : After-next_move-next-in-Some)
    → OpenNamed c.args.corners.now.table.now.bytes c.args.corners.now.rules.now c.halves-halves.result c.args.from.at.mode (c.in-Some.e + 1)
    c.next_move-next-in-Some.result
after c =
    let h = turn-at c.loop-next.invariant c.in-Some.is in
    after-open c.requires.0.setting.is-rules (h.move.there h.some) c.after.ensures (h.move.source h.some) c.next_move-next-in-Some.ensures

pub halves-halves-requires : goal.halves-halves-requires
halves-halves-requires c =
    (c.requires.0.corner.valid, place-half-room _ c.requires.0.setting.is-table (place_at c.args.from.at) c.requires.0.corner.place)

pub overflow_cast-block : goal.overflow_cast-block
overflow_cast-block c =
    let z = c.requires.0.setting in
    omega (arith, block_within _ z.is-table z.is-space, z.few)

pub first-requires : goal.first-requires
first-requires c = place-mode _ c.requires.0.setting.is-table (place_at c.args.from.at) c.requires.0.corner.place

pub next_move-next-requires : goal.next_move-next-requires
next_move-next-requires c = named-ready c.requires.0.setting.is-rules (begins (goal.at.next_move-next-requires c).Start) c.first.ensures

pub loop-next-init : goal.loop-next-init
loop-next-init c =
    let z = c.requires.0 in
    let named = named-open z.setting.is-rules (begins (goal.at.loop-next-init c).Start) c.first.ensures c.next_move-next.ensures in
    record {
      byte = named.0;
      named = named.1;
      move = named.2.move;
      images = images-none _;
      moves = moves-none z.setting c.args.from z.corner _ c.halves-halves.ensures _ named.2 c.args.words.now;
    }

pub target-target-requires : goal.target-target-requires
target-target-requires c = let h = here (goal.at.target-target-requires c).In-Some in h.move.there h.some

pub overflow_cast-target : goal.overflow_cast-target
overflow_cast-target c =
    let z = c.requires.0.setting.is-table in
    let h = here (goal.at.overflow_cast-target c).In-Some in
    omega (arith, c.target-target.ensures, target_below c.args.corners.now.table.now.bytes z c.in-Some.e (h.move.there h.some), few-modes _ z)

pub resets-resets-requires : goal.resets-resets-requires
resets-resets-requires c = let h = here (goal.at.resets-resets-requires c).In-Some in h.move.there h.some

pub image-requires : goal.image-requires
image-requires c =
    let h = here (goal.at.image-requires c).In-Some in
    (move-image c.requires.0.setting c.requires.0.corner h.move h.some c.resets-resets.ensures, c.loop-next.invariant.images)

pub overflow_mul-to : goal.overflow_mul-to
overflow_mul-to c = omega (arith, node (goal.at.overflow_mul-to c).After-image, node-few (goal.at.overflow_mul-to c).After-image)

pub overflow_cast-to : goal.overflow_cast-to
overflow_cast-to c = omega (arith, node (goal.at.overflow_cast-to c).After-image, node-few (goal.at.overflow_cast-to c).After-image)

pub overflow_add-to : goal.overflow_add-to
overflow_add-to c = omega (arith, node (goal.at.overflow_add-to c).After-image, node-few (goal.at.overflow_add-to c).After-image)

pub price-requires : goal.price-requires
price-requires c = let h = here (goal.at.price-requires c).In-Some in h.move.there h.some

pub overflow_add-charge : goal.overflow_add-charge
overflow_add-charge c =
    let z = c.requires.0 in
    let at = (goal.at.overflow_add-charge c).In-Some in
    let h = here at in
    omega (arith, move-sum z.setting c.args.from z.corner _ c.halves-halves.ensures _ h.some h.move z.goal _ (held at) c.price.result c.price.ensures)

pub relax-requires : goal.relax-requires
relax-requires c =
    let z = c.requires.0 in
    let p = goal.at.relax-requires c in
    let h = here p.In-Some in
    move-ready z.setting c.args.from z.corner _ c.halves-halves.ensures _ h.some h.move z.goal _ (held p.In-Some) c.requires.1 _ _ (node p.After-image)
    c.price.ensures

pub after-requires : goal.after-requires
after-requires c = (here (goal.at.after-requires c).In-Some).some

pub next_move-next-requires-in-Some : goal.next_move-next-requires-in-Some
next_move-next-requires-in-Some c =
    let h = here (goal.at.next_move-next-requires-in-Some c).In-Some in
    after-ready c.requires.0.setting.is-rules (h.move.there h.some) c.after.ensures

pub loop-next-smaller : goal.loop-next-smaller
loop-next-smaller c =
    let p = goal.at.loop-next-smaller c in
    let named = after p.After-next_move-next-in-Some in
    rw c.in-Some.is (left-less (here p.In-Some).some named.1 (omega (arith, named.2.low)))

pub loop-next-preserved : goal.loop-next-preserved
loop-next-preserved c =
    let z = c.requires.0 in
    let p = goal.at.loop-next-preserved c in
    let h = here p.In-Some in
    let named = after p.After-next_move-next-in-Some in
    record {
      byte = named.0;
      named = named.1;
      move = named.2.move;
      images = c.image.ensures.images;
      moves = moves_more z.setting c.args.from z.corner _ c.halves-halves.ensures _ h.some h.move
          c.requires.1 c.args.words.now _ _ h.moves _ _ (node p.After-image) c.price.ensures c.relax.ensures _ named.2;
    }

pub returns : goal.returns
returns c =
    let z = c.requires.0 in
    let turn = c.loop-next.invariant in
    moves-all z.setting c.args.from z.corner _ c.halves-halves.ensures _ turn.move.few (no-move turn.named c.in_default.is) c.args.words.now _ turn.moves
