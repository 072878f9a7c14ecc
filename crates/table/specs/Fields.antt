-- The fields of a table, as the bytes have them: document 01, "Bytes of a table", with the high bytes of document 02, N2.
-- Assumes nothing.
use Rattle.std.specs.Prelude.{ℕ, ◌+◌, ◌*◌, List}

-- "modes m, 1 to 16", "timers n, 1 to 3", "n ceilings, 1 to 15".
abbrev pub most_modes : ℕ
most_modes = 16

abbrev pub most_timers : ℕ
most_timers = 3

abbrev pub most_ceiling : ℕ
most_ceiling = 15

-- "A price or rate may now have a high byte, weight 256".
abbrev pub amount_of : ℕ → ℕ → ℕ
amount_of low high = low + 256 * high

-- "Every promise that bounds a price by 255 now bounds it by 65,535": the greatest price and the greatest rate.
abbrev pub most_price : ℕ
most_price = 65535

-- Of each record the six condition bytes: on timers 0, 1, 2, then the further ones on timers 0, 1, 2.
-- 0 stands for none: no condition byte is 0, since the codes begin at 1. "An absent rate or price is 0."
pub record ModeFields : Type 0 where
  pub rate : ℕ
  pub conditions : List ℕ

-- `resets` has the bits that name timers, 0 to 2, of the reset byte, and is 0 where that is absent.
pub record MoveFields : Type 0 where
  pub source : ℕ
  pub target : ℕ
  pub price : ℕ
  pub conditions : List ℕ
  pub resets : ℕ

-- The counts m, n, e of modes, timers and moves are the lengths of the lists.
pub record Fields : Type 0 where
  pub goal : ℕ
  pub ceilings : List ℕ
  pub modes : List ModeFields
  pub moves : List MoveFields
