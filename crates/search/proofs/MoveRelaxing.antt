-- The edges of moves from the node in hand, relaxed one after another along the moves of its mode.
-- Assumes nothing.
use mathlib.Core.Path.{◌≡◌, ap, subst, ◌∙◌}
use mathlib.Core.Logic.{◌⊎◌, inl, inr}
use mathlib.Core.List.{List}
use Prim.Native.Nat.{ℕ, ◌+◌, ◌*◌, ◌≤◌, ◌<◌}
use native.Mathlib.Decide.{ℕ_discrete, dec_lt}
use native.Mathlib.Omega.{arith}
use Rattle.semantics.specs.Automaton.{move_at}
use Rattle.semantics.specs.Corners.Edges.{reset_all_corner}
use Rattle.semantics.specs.Graph.Path.{Edge, Leaves, infinity}
use Rattle.semantics.proofs.Answers.Moving.{moved_to, MoveEdge, edge-move, move-edge}
use Rattle.table.specs.Meaning.{named_timers}
use Rattle.table.specs.Held.{automaton_of, fields_of, move_fields_at}
use Rattle.regions.specs.Held.{view}
use Rattle.std.specs.Prelude.{Option, Some}
use Rattle.rules.specs.Rules.{none, as_move}
use Rattle.rules.specs.Laws.Moves.{some-move}
use Rattle.queue.specs.Queue.{RelaxReady, RelaxDone}
use Rattle.space.specs.declared.Space.{Space}
use Rattle.space.specs.Space.{graph_of, Setting, place_at, IsCorner}
use Rattle.space.specs.Images.{NodeImage, Images}
use Rattle.space.specs.Moves.{Open, OpenMove, OpenFrom}
use Rattle.space.proofs.Settings.{halves_of, corner-number, corner-leaves}
use Rattle.space.proofs.Imaging.{move-image, image-number}
use Rattle.space.proofs.MoveEdges.{move_edge, open-edge, edge-open, edge-is, mode-block}
use Rattle.search.specs.declared.edges.Source.{Source}
use Rattle.search.specs.Exploring.{relaxes-none, relaxes-then}
use Rattle.search.specs.Edges.{IsMove, node_in, Holding, Short, EdgesDone}
use Rattle.search.proofs.Offers.{edge-inside, edge-sum, edge-ready, edge-relaxes, hold-again}

-- The edges of the moves before e were relaxed.
abbrev pub MovesTo : List ℕ → Space → Source → ℕ → List ℕ → List ℕ → Type 0
MovesTo t s x e = EdgesDone (λ y. y.label < e) t s x

-- What holds at each turn: the edges of the moves before the next one were relaxed, and what is kept of images is right.
pub record Turn (t rs : List ℕ) (s : Space) (x : Source) (hs : List ℕ) (next : Option ℕ) (found ws ws' : List ℕ) : Type 0 where
  pub byte : ℕ
  pub named : next ≡ as_move byte
  pub move : OpenMove t rs hs x.at.mode byte
  pub images : Images (NodeImage s x.at) found
  pub moves : MovesTo t s x byte ws ws'

-- Move e is next.
pub record TurnAt (t rs : List ℕ) (s : Space) (x : Source) (hs : List ℕ) (e : ℕ) (ws ws' : List ℕ) : Type 0 where
  pub some : e < none
  pub move : OpenMove t rs hs x.at.mode e
  pub moves : MovesTo t s x e ws ws'

pub turn-at :
    {t rs : List ℕ} {s : Space} {x : Source} {hs : List ℕ} {next : Option ℕ} {found ws ws' : List ℕ} → Turn t rs s x hs next found ws ws'
    → {e : ℕ} → next ≡ Some e → TurnAt t rs s x hs e ws ws'
turn-at turn q = let o = some-move turn.named turn.move.few q in record { some = o.1; move = rw o.0 at turn.move; moves = rw o.0 at turn.moves }

module _ {t rs : List ℕ} {s : Space} (set : Setting t rs s) (x : Source) (k : IsCorner t x.at) (hs : List ℕ)
    (stand : hs ≡ halves_of (view x.at.region)) where
  -- An edge of a move is the one of a move that is not passed over.
  module _ (goal : ℕ) (y : Edge) (leaves : Leaves (graph_of t goal) (node_in x) y) (move : y.label < none) where
    of-move : MoveEdge (automaton_of t) (place_at x.at) x.at.index y
    of-move =
        edge-move (automaton_of t) goal (place_at x.at) k.place x.at.index k.inside y (corner-leaves k goal y leaves) move

    of-open : Open rs hs y.label
    of-open = rw stand (edge-open t rs set.is-table set.is-rules (place_at x.at) k.place x.at.index y of-move)

  -- No move was looked at yet.
  pub moves-none : (e : ℕ) → OpenFrom t rs hs x.at.mode 0 e → (ws : List ℕ) → MovesTo t s x e ws ws
  moves-none e f ws goal h =
      relaxes-none h.hand (λ y. y.label < e)
      (λ y l b. let m : y.label < none = omega (arith, f.move.few) in
      f.passed y.label (omega arith) b (of-move goal y l m).there (of-move goal y l m).source (of-open goal y l m))

  -- All were.
  pub moves-all : (e : ℕ) → e ≤ none → none ≤ e → (ws ws' : List ℕ) → MovesTo t s x e ws ws' → EdgesDone IsMove t s x ws ws'
  moves-all e few past ws ws' done = let q : e ≡ none = omega arith in rw q at done

  -- Move e is not passed over.
  module _ (e : ℕ) (some : e < none) (o : OpenMove t rs hs x.at.mode e) where
    abbrev edge : Edge
    edge = move_edge (automaton_of t) (place_at x.at) x.at.index e

    edge-leaves : (goal : ℕ) → Leaves (graph_of t goal) (node_in x) (move_edge (automaton_of t) (place_at x.at) x.at.index e)
    edge-leaves goal =
        let m = open-edge t rs set.is-table set.is-rules (place_at x.at) k.place x.at.index e (o.there some) (o.source some)
        (rw stand at (o.is_open some)) in
        rw (corner-number k x.at.index k.inside) at (move-edge (automaton_of t) goal (place_at x.at) k.place x.at.index k.inside edge some m)

    -- By its image, its node.
    pub move-node :
        (byte : ℕ) → byte ≡ (move_fields_at (fields_of t) e).resets → (image target : ℕ) → NodeImage s x.at (named_timers byte) image
        → target ≡ (move_at (automaton_of t) e).target
        → image + target * s.block ≡ (move_edge (automaton_of t) (place_at x.at) x.at.index e).to
    move-node byte byte-is image target image-is target_is =
        let r = (moved_to (automaton_of t) e (place_at x.at)).region in
        let corner = reset_all_corner (move_at (automaton_of t) e).resets (view x.at.region) x.at.index in
        ap (λ (n : ℕ). image + n * s.block) target_is
        ∙ mode-block set.is-space r (move_at (automaton_of t) e).target corner (image-is ∙ image-number (move-image set k o some byte-is))

    module _ (goal : ℕ) (ws : List ℕ) (h : Holding t s x ws goal) where
      pub move-inside : (move_edge (automaton_of t) (place_at x.at) x.at.index e).to < s.nodes
      move-inside = edge-inside set goal h edge (edge-leaves goal)

      pub move-sum : (weight : ℕ) → weight ≡ (move_at (automaton_of t) e).price → weight + x.charge < infinity
      move-sum weight weighs = rw weighs (edge-sum set goal h edge (edge-leaves goal))

      pub move-ready :
          Short s x → (to weight : ℕ) → to ≡ (move_edge (automaton_of t) (place_at x.at) x.at.index e).to → weight ≡ (move_at (automaton_of t) e).price
          → RelaxReady s.nodes to (weight + x.charge) x.steps ws
      move-ready short to weight to_is weighs = rw (to_is, weighs) (edge-ready set goal h edge (edge-leaves goal) short)

    pub moves_more :
        Short s x → (ws ws' ws'' : List ℕ) → MovesTo t s x e ws ws' → (to weight : ℕ)
        → to ≡ (move_edge (automaton_of t) (place_at x.at) x.at.index e).to → weight ≡ (move_at (automaton_of t) e).price
        → RelaxDone s.nodes to (weight + x.charge) x.steps ws' ws'' → (next : ℕ) → OpenFrom t rs hs x.at.mode (e + 1) next
        → MovesTo t s x next ws ws''
    moves_more short ws ws' ws'' done to weight to_is weighs made next f goal h =
        relaxes-then (λ y. y.label < next) (done goal h)
        (edge-relaxes set goal (hold-again h (done goal h)) edge (edge-leaves goal) short ws'' (rw (to_is, weighs) at made))
        (λ y l b. at y l b (dec_lt y.label e) (ℕ_discrete y.label e))
      where
        at :
            (y : Edge) → Leaves (graph_of t goal) (node_in x) y → y.label < next → Dec (y.label < e) → Dec (y.label ≡ e)
            → (y.label < e) ⊎ (y ≡ move_edge (automaton_of t) (place_at x.at) x.at.index e)
        at y l b (yes m) d = inl m
        at y l b (no n) (yes q) =
            inr (subst (λ (i : ℕ). y ≡ move_edge (automaton_of t) (place_at x.at) x.at.index i) q
            (edge-is (automaton_of t) (place_at x.at) x.at.index y (of-move goal y l (omega arith))))
        at y l b (no n) (no d) =
            let m : y.label < none = omega (arith, f.move.few) in
            absurd (f.passed y.label (omega arith) b (of-move goal y l m).there (of-move goal y l m).source (of-open goal y l m))
