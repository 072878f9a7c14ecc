-- What holds of every place on a chain: its region is well-formed and has the automaton's timers, its mode is one of the automaton's, and
-- the region meets the mode's conditions and the ceilings.
-- Assumes nothing.
use Rattle.std.specs.Prelude.{◌≡◌, List, ℕ, ◌<◌, length}
use Rattle.std.proofs.Common.{◌∙◌, arith}
use Rattle.std.proofs.Math.Option.{some}
use Rattle.semantics.specs.Automata.Proper.{Proper}
use Rattle.semantics.specs.Automaton.{Automaton, timers, move_at}
use Rattle.semantics.specs.Region.{WellFormed, start}
use Rattle.semantics.specs.Chain.{Place, begin, chain}
use Rattle.semantics.specs.Regions.Lengths.{start-timers, leave-timers, arrive-timers}
use Rattle.semantics.proofs.Regions.WellFormed.{start-well-formed, leave-well-formed, arrive-well-formed}
use Rattle.semantics.specs.Corners.Lists.{mem-get_or}
use Rattle.semantics.proofs.Bounds.Inside.{start-inside}
use Rattle.semantics.proofs.Bounds.Stays.{Admits, stays_at, start-stays}
use Rattle.semantics.specs.Bounds.Steps.{rate_at}
use Rattle.semantics.proofs.Bounds.Steps.{Stepped, leaves, arrives, lingers, idles, moves, follow-keeps}
use Rattle.semantics.proofs.Bounds.Shapes.{shape-linger, shape-well-formed, shape-admits}
use Rattle.semantics.proofs.Bounds.Moved.{moved-well-formed, moved-sized, moved-admits}

pub record Reached (a : Automaton) (p : Place) : Type 0 where
  pub well-formed : WellFormed p.region
  pub sized : length p.region.whole ≡ timers a
  pub in-modes : p.mode < length a.modes
  pub admits : Admits a p.mode p.region

module _ (a : Automaton) (ok : Proper a) where
  pub reached-begin : Reached a (begin a)
  reached-begin =
      let w = start-well-formed (timers a) ok.some-timer in
      let n = (start-timers (timers a)).0 in
      let p = start-inside (timers a) 1 (omega arith) in
      let s = start-stays a ok 1 (omega arith) in
      record {
        well-formed = w;
        sized = n;
        in-modes = omega (arith, ok.goal-there);
        admits = (stays_at a ok (start (timers a)) w n 1 _ _ p 0).1 s;
      }

  pub reached-step : (byte : ℕ) (p p' : Place) → Reached a p → Stepped a p byte p' → Reached a p'
  reached-step byte p p' h (leaves z t) = record {
    well-formed = leave-well-formed p.region h.well-formed _ z;
    sized = (leave-timers p.region _).whole ∙ h.sized;
    in-modes = h.in-modes;
    admits = t;
  }
  reached-step byte p p' h (arrives z t) = record {
    well-formed = arrive-well-formed p.region h.well-formed z;
    sized = (arrive-timers p.region).whole ∙ h.sized;
    in-modes = h.in-modes;
    admits = t;
  }
  reached-step byte p p' h (lingers z) = record {
    well-formed = shape-well-formed _ _ (shape-linger (rate_at a p) p.region) h.well-formed;
    sized = h.sized;
    in-modes = h.in-modes;
    admits = shape-admits _ _ (shape-linger (rate_at a p) p.region) a p.mode h.admits;
  }
  reached-step byte p p' h (idles z) = h
  reached-step byte p p' h (moves e b i o g m) = record {
    well-formed = moved-well-formed a ok e p.region h.well-formed h.sized;
    sized = moved-sized a ok e p.region h.well-formed h.sized;
    in-modes = ok.target-there (move_at a e) (mem-get_or a.moves e _ i);
    admits = moved-admits a ok e p.region h.well-formed h.sized p.mode h.admits m;
  }

  pub chain-reached : (bytes : List ℕ) (p : Place) → chain a bytes ≡ some p → Reached a p
  unfolding chain
  chain-reached bytes p h = follow-keeps a (Reached a) reached-step bytes (begin a) p h reached-begin
