-- `words::is_near` meets its contract.
-- Assumes nothing.
use Rattle.search.proofs.Keeping.{unreached-far, none-nearer, best-cheaper, best-dearer}
use Rattle.search.proofs.words.is_near.Goals as goal

pub returns-then-charge-eq-INFINITY : goal.returns-then-charge-eq-INFINITY
returns-then-charge-eq-INFINITY c = let a = c.args in unreached-far a.charge a.steps a.best c.if-charge-eq-INFINITY.true

pub returns-in-None : goal.returns-in-None
returns-in-None c = let a = c.args in none-nearer a.charge a.steps a.best c.if-charge-eq-INFINITY.false c.in-None.is

pub returns-then-charge-cost : goal.returns-then-charge-cost
returns-then-charge-cost c =
    let a = c.args in best-cheaper a.charge a.steps a.best c.if-charge-eq-INFINITY.false c.in-Some.is c.if-charge-cost.true

pub returns-else-charge-cost : goal.returns-else-charge-cost
returns-else-charge-cost c =
    let a = c.args in best-dearer a.charge a.steps a.best c.if-charge-eq-INFINITY.false c.in-Some.is c.if-charge-cost.false
