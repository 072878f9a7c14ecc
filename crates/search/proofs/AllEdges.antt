-- All edges of the node in hand: those of waiting and then those of moves; none where they arrive with E steps or more.
-- Assumes nothing.
use mathlib.Core.List.{List}
use Prim.Native.Nat.{ℕ, ◌≤◌}
use native.Mathlib.Omega.{arith}
use Rattle.space.specs.declared.Space.{Space}
use Rattle.search.specs.declared.edges.Source.{Source}
use Rattle.search.specs.Exploring.{relaxes-already, long-relaxed, relaxes-then}
use Rattle.search.specs.Edges.{IsMove, IsWait, IsAny, EdgesReady, EdgesDone}
use Rattle.search.proofs.Offers.{edge-inside, hold-again}

module _ {t rs : List ℕ} {s : Space} {x : Source} {ws : List ℕ} (r : EdgesReady t rs s x ws) where
  pub edges-long : s.nodes ≤ x.steps → EdgesDone IsAny t s x ws ws
  edges-long many goal h =
      relaxes-already h.hand IsAny
      (λ e l f. long-relaxed h.hand e l (edge-inside r.setting goal h e l) (omega (arith, many, h.steps-are)))

  module _ {ws' : List ℕ} (waits : EdgesDone IsWait t s x ws ws') where
    pub edges-again : EdgesReady t rs s x ws'
    edges-again =
        record { setting = r.setting; corner = r.corner; goal = r.goal; holding = hold-again r.holding (waits r.goal r.holding) }

    pub edges-done : {ws'' : List ℕ} → EdgesDone IsMove t s x ws' ws'' → EdgesDone IsAny t s x ws ws''
    edges-done moves goal h = relaxes-then IsAny (waits goal h) (moves goal (hold-again h (waits goal h))) (λ e l f. f)
