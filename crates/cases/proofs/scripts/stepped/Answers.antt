-- `cases::scripts::stepped` meets its contract: a test changes nothing.
-- Assumes nothing.
use Rattle.cases.proofs.Steps.{kept_same}
use Rattle.cases.proofs.scripts.stepped.Goals as goal
use Rattle.cases.proofs.scripts.stepped.Goals.{in-Some, in-None}

pub returns-then-letter-lt119 : goal.returns-then-letter-lt119
returns-then-letter-lt119 g c =
    elim c.match-of_letter.branch [
      | in-Some w ↦ rw w.after-is w.operated-after.ensures
      | in-None w ↦ rw w.after-is (kept_same c.args.region c.requires.0)
    ]

pub returns-else-letter-lt119 : goal.returns-else-letter-lt119
returns-else-letter-lt119 g c =
    elim c.match-of_letter.branch [
      | in-Some w ↦ rw w.after-is w.operated-after.ensures
      | in-None w ↦ rw w.after-is (kept_same c.args.region c.requires.0)
    ]
