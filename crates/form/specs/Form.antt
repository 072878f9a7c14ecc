-- The fields of a table as a configuration page holds them: a form of 1,384 bytes at fixed offsets, any of which may be out of its range.
-- Document 02, N3: "The writer takes counts, goal, ceilings, rates, each move's two modes, prices, conditions and resets".
-- Assumes nothing.
use Rattle.std.specs.Prelude.{ℕ, ◌+◌, ◌*◌, cond, ◌&&◌, List, leb, eqb, get_or, drop}
use Rattle.table.specs.Fields.{amount_of, ModeFields, MoveFields, Fields}
use Rattle.table.specs.Held.{records_from}

-- A condition by its code, 0 for none, and its value. "A condition byte is 16 × code + value, value 0 to 15". A code or a value that no such byte
-- can say stands as 255, whose code is 15: refused by the same number.
abbrev pub condition_byte : ℕ → ℕ → ℕ
condition_byte code value = cond (eqb code 0) 0 (cond (leb code 15 && leb value 15) (16 * code + value) 255)

-- The place with which the bytes begin: a code, and a value.
abbrev pub place_from : List ℕ → ℕ
place_from t = condition_byte (get_or t 0 0) (get_or t 1 0)

-- Six places: the first of timers 0, 1, 2, then the further ones of timers 0, 1, 2.
abbrev pub six_places : List ℕ → List ℕ
six_places t = records_from place_from 2 6 t

-- The record with which the bytes begin. A mode's has 14 bytes: the rate, its low byte first, and six places.
abbrev pub mode_said : List ℕ → ModeFields
mode_said t = record { rate = amount_of (get_or t 0 0) (get_or t 1 0); conditions = six_places (drop 2 t) }

-- A move's has 18 bytes: the from mode, the to mode, the price, its low byte first, six places, the byte of the resets, and one that says nothing.
abbrev pub move_said : List ℕ → MoveFields
move_said t = record {
  source = get_or t 0 0;
  target = get_or t 1 0;
  price = amount_of (get_or t 2 0) (get_or t 3 0);
  conditions = six_places (drop 4 t);
  resets = get_or t 16 0;
}

-- The fields that a form says: the counts and the goal, from 4 on the ceilings, from 8 on the modes, from 232 on the moves. What is behind the
-- last of each says nothing.
unfoldable pub said : List ℕ → Fields
said t = record {
  goal = get_or t 3 0;
  ceilings = records_from (λ u. get_or u 0 0) 1 (get_or t 1 0) (drop 4 t);
  modes = records_from mode_said 14 (get_or t 0 0) (drop 8 t);
  moves = records_from move_said 18 (get_or t 2 0) (drop 232 t);
}
