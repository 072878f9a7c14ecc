-- What the contracts of the private functions cite: a text stands at a place, and what is around it is as it was.
-- Assumes nothing.
use Rattle.std.specs.Prelude.{◌≡◌, List, ◌++◌, ℕ, ◌+◌, length, take, drop}

-- The text w was put at a place of the bytes d, which are now e, and `next` is the place behind it.
pub record Put (w : List ℕ) (place : ℕ) (d : List ℕ) (next : ℕ) (e : List ℕ) : Type 0 where
  pub behind : next ≡ place + length w
  pub bytes : e ≡ take place d ++ w ++ drop (place + length w) d
