-- `corners::tables::first_row` meets its contract: each row by a test that is computed.
-- Assumes nothing.
use mathlib.Core.Path.{◌≡◌, refl}
use native.Mathlib.Omega.{arith}
use Rattle.semantics.specs.Corners.Corner.{corner_number}
use Rattle.corners.specs.Tables.{first_at}
use Rattle.corners.proofs.Rules.{row_test, row_is}
use Rattle.corners.proofs.tables.first_row.Goals as goal

pub returns-in-0 : goal.returns-in-0
unfolding row_test corner_number
returns-in-0 c = row_is first_at c.in-0.is refl

pub returns-in-1 : goal.returns-in-1
unfolding row_test corner_number
returns-in-1 c = row_is first_at c.in-1.is refl

pub returns-in-2 : goal.returns-in-2
unfolding row_test corner_number
returns-in-2 c = row_is first_at c.in-2.is refl

pub returns-in-3 : goal.returns-in-3
unfolding row_test corner_number
returns-in-3 c = row_is first_at c.in-3.is refl

pub returns-in-4 : goal.returns-in-4
unfolding row_test corner_number
returns-in-4 c = row_is first_at c.in-4.is refl

pub returns-in-5 : goal.returns-in-5
unfolding row_test corner_number
returns-in-5 c = row_is first_at c.in-5.is refl

pub returns-in-6 : goal.returns-in-6
unfolding row_test corner_number
returns-in-6 c = row_is first_at c.in-6.is refl

pub returns-in-7 : goal.returns-in-7
unfolding row_test corner_number
returns-in-7 c = row_is first_at c.in-7.is refl

pub returns-in-8 : goal.returns-in-8
unfolding row_test corner_number
returns-in-8 c = row_is first_at c.in-8.is refl

pub returns-in-9 : goal.returns-in-9
unfolding row_test corner_number
returns-in-9 c = row_is first_at c.in-9.is refl

pub returns-in-10 : goal.returns-in-10
unfolding row_test corner_number
returns-in-10 c = row_is first_at c.in-10.is refl

pub returns-in-11 : goal.returns-in-11
unfolding row_test corner_number
returns-in-11 c = row_is first_at c.in-11.is refl

pub returns-in-12 : goal.returns-in-12
unfolding row_test corner_number
returns-in-12 c = row_is first_at c.in-12.is refl

pub returns-in-13 : goal.returns-in-13
unfolding row_test corner_number
returns-in-13 c = row_is first_at c.in-13.is refl

pub returns-in-14 : goal.returns-in-14
unfolding row_test corner_number
returns-in-14 c = row_is first_at c.in-14.is refl

pub returns-in-15 : goal.returns-in-15
unfolding row_test corner_number
returns-in-15 c = row_is first_at c.in-15.is refl

pub returns-in-16 : goal.returns-in-16
unfolding row_test corner_number
returns-in-16 c = row_is first_at c.in-16.is refl

pub returns-in-17 : goal.returns-in-17
unfolding row_test corner_number
returns-in-17 c = row_is first_at c.in-17.is refl

pub returns-in-18 : goal.returns-in-18
unfolding row_test corner_number
returns-in-18 c = row_is first_at c.in-18.is refl

pub returns-in-19 : goal.returns-in-19
unfolding row_test corner_number
returns-in-19 c = row_is first_at c.in-19.is refl

pub returns-in-20 : goal.returns-in-20
unfolding row_test corner_number
returns-in-20 c = row_is first_at c.in-20.is refl

pub returns-in-21 : goal.returns-in-21
unfolding row_test corner_number
returns-in-21 c = row_is first_at c.in-21.is refl

pub returns-in-22 : goal.returns-in-22
unfolding row_test corner_number
returns-in-22 c = row_is first_at c.in-22.is refl

pub returns-in_default : goal.returns-in_default
unfolding row_test corner_number
returns-in_default c = let last : c.args.row ≡ 23 = omega arith in row_is first_at last refl
