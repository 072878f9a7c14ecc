-- The same of what the code answers, a `Result`.
-- Assumes nothing.
use mathlib.Core.Path.{◌≡◌, refl}
use mathlib.Core.List.{List}
use Prim.Native.Nat.{ℕ}
use lib.ListN.{length}
use Rattle.std.specs.Prelude.{Option, Some, None, Result, Ok, Err}
use Rattle.table.specs.declared.refusals.Refusal.{Refusal}
use Rattle.table.specs.Refusals.{number}
use Rattle.near.specs.declared.Cost.{Cost}
use Rattle.route.specs.Answers.{told}
use Rattle.route.specs.Plan.{outcome, planned}
use Rattle.route.specs.Promise.{KeepsDemand}
use Rattle.timetable.specs.Answers.{told_timetable}
use Rattle.timetable.specs.Timetabled.{outcome as Timetabled·outcome, timetabled}
use Rattle.timetable.specs.Promise.{KeepsTimetable}
use Rattle.planner.specs.Numbers.{decoded, decoded_timetable, number_of, charge_after, count_after, Untouched}
use Rattle.planner.proofs.Telling.{told-refused, told_none, told-route}
use Rattle.planner.proofs.Timing.{timed-refused, timed-none, timed-timetable}

-- A route.
pub route-told :
    (bytes ws rs ws' rs' : List ℕ) (r : Result (Option Cost) Refusal) → outcome (told r) ws' rs' ≡ planned bytes ws rs
    → KeepsDemand bytes (length ws) rs' (told r) → (C n : ℕ)
    → let s = decoded (number_of r) (charge_after r C) (count_after r n) in
    (outcome s ws' rs' ≡ planned bytes ws rs) × (Untouched (number_of r) C (charge_after r C) × (Untouched (number_of r) n (count_after r n) × KeepsDemand bytes (length ws) rs' s))
route-told bytes ws rs ws' rs' (Ok (Some cost)) e k C n = told-route bytes ws rs ws' rs' _ e k C cost.charge n cost.steps refl
route-told bytes ws rs ws' rs' (Ok None) e k C n = told_none bytes ws rs ws' rs' _ e k C n refl
route-told bytes ws rs ws' rs' (Err refusal) e k C n = told-refused bytes ws rs ws' rs' _ e k (number refusal) C n refl

-- A timetable.
pub timetable-told :
    (bytes ws rs ws' rs' : List ℕ) (r : Result (Option Cost) Refusal) → Timetabled·outcome (told_timetable r) ws' rs' ≡ timetabled bytes ws rs
    → KeepsTimetable bytes ws rs' (told_timetable r) → (C n : ℕ)
    → let s = decoded_timetable (number_of r) (charge_after r C) (count_after r n) in
    (Timetabled·outcome s ws' rs' ≡ timetabled bytes ws rs)
    × (Untouched (number_of r) C (charge_after r C) × (Untouched (number_of r) n (count_after r n) × KeepsTimetable bytes ws rs' s))
timetable-told bytes ws rs ws' rs' (Ok (Some cost)) e k C n = timed-timetable bytes ws rs ws' rs' _ e k C cost.charge n cost.steps refl
timetable-told bytes ws rs ws' rs' (Ok None) e k C n = timed-none bytes ws rs ws' rs' _ e k C n refl
timetable-told bytes ws rs ws' rs' (Err refusal) e k C n = timed-refused bytes ws rs ws' rs' _ e k (number refusal) C n refl
