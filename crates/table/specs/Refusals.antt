-- The refusals by their numbers.
-- Assumes nothing.
use Rattle.std.specs.Prelude.{ℕ}
use Rattle.table.specs.declared.refusals.Refusal.{Refusal}
use Rattle.table.specs.declared.refusals.Refusal.TheVariants.{NoByteLeft, OutOfRange, AbsentTimer, BadCode, NoSuchMode, BytesLeftOver, StartFails, TooManyNodes, TooFewWords, RouteTooLong, DestinationTooShort, NotClosed}

abbrev pub number : Refusal → ℕ
-- "a byte is needed and none is left"
number NoByteLeft = 1
-- a count, goal or ceiling out of range
number OutOfRange = 2
-- a condition or reset on an absent timer
number AbsentTimer = 3
-- a condition byte whose code is not 1 to 5
number BadCode = 4
-- a move from or to a mode that is not there
number NoSuchMode = 5
-- "bytes left over"
number BytesLeftOver = 6
-- "mode 0's conditions fail at zero"
number StartFails = 7
-- "E above 65,536"
number TooManyNodes = 8
-- "fewer than 2E words lent"
number TooFewWords = 9
-- "the route has more steps than route bytes lent"
number RouteTooLong = 10
-- "11 if the destination is too short"
number DestinationTooShort = 11
-- "12 for a table with < or >"
number NotClosed = 12
