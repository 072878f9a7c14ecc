-- Waiting in a state: what the struct is of some minutes later; and whether a state stays in its mode, by the rules.
-- Assumes nothing.
use mathlib.Core.Path.{◌≡◌, refl, ap}
use mathlib.Core.Bool.{Bool, true}
use mathlib.Core.Logic.{◌↔◌}
use mathlib.Core.List.{List, [], ◌∷◌, map}
use Prim.Native.Nat.{ℕ, zero, suc, ◌+◌, ◌*◌, ◌≤◌}
use native.Mathlib.Omega.{arith}
use lib.ListN.{get_or}
use Rattle.semantics.specs.Automaton.{mode_at}
use Rattle.arrays.specs.Arrays.{map_to}
use Rattle.table.specs.Held.{automaton_of}
use Rattle.rules.specs.Rules.{InRow}
use Rattle.states.specs.declared.States.{States}
use Rattle.states.specs.declared.State.{State as StateHeld}
use Rattle.minutes.specs.declared.waits.Source.{Source}
use Rattle.minutes.specs.Settings.{Setting}
use Rattle.minutes.specs.Waits.{Room, WaitReady, WaitDone, StaysDone}
use Rattle.states.specs.Laws.Bounds.{timers-few}
use Rattle.states.specs.Laws.Shows.{shows-waited}
use Rattle.minutes.specs.Laws.Rows.{mode-row}
use Rattle.minutes.specs.Laws.Pairs.{twice-at}

-- No value rises by more than the minutes.
later-most : (d n : ℕ) (l : List ℕ) (i : ℕ) → get_or (map_to (λ v. v + d) n l) i 0 ≤ get_or l i 0 + d
later-most d zero l i = omega arith
later-most d (suc n) [] i = omega arith
later-most d (suc n) (x ∷ l) zero = omega arith
later-most d (suc n) (x ∷ l) (suc i) = later-most d n l i

module _ {t rs : List ℕ} {s : States} (z : Setting t rs s) {x : Source} {d : ℕ} (w : WaitReady t x d) where
  pub wait-done :
      (rate : ℕ) → rate ≡ (mode_at (automaton_of t) x.at.mode).rate → (later : List ℕ) → later ≡ map_to (λ v. v + d) s.timers x.at.values
      → WaitDone t x d (record { at = record { mode = x.at.mode; values = later }; charge = d * rate + x.charge; pairs = x.pairs })
  wait-done rate e later l = record {
    stands = λ k h. record {
      mode-is = h.mode-is;
      shows = rw (l, z.is-states.timers-are) (shows-waited (automaton_of t) k d h.shows (timers-few t z.is-table));
    };
    room = λ i. rw l (omega (arith, later-most d s.timers x.at.values i, w.values-few i));
    charge-is = ap (λ (u : ℕ). d * u + x.charge) e;
    pairs-are = refl;
  }

pub stays-done :
    {rs : List ℕ} {x : StateHeld} → Room x.values → (hs : List ℕ) → hs ≡ map (λ v. 2 * v) x.values → (r : Bool)
    → (r ≡ true) ↔ InRow rs x.mode hs → StaysDone rs x r
stays-done {rs} {x} room hs is r tested t of s h =
    let twice : (i : ℕ) → get_or hs i 0 ≡ 2 * get_or x.values i 0 = λ i. rw is (twice-at x.values i) in
    let row = mode-row t rs of.is-table of.is-rules s x.values hs h.shows twice room x.mode of.mode-there in (
      λ q. rw (← h.mode-is) (row.0 (tested.0 q)),
      λ q. tested.1 (row.1 (rw h.mode-is q)),
    )
