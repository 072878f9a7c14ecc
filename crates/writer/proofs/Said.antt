-- What a form says, record by record.
-- Assumes nothing.
use Prim.Native.Nat.{ℕ, ◌+◌, ◌*◌, ◌≤◌, ◌<◌}
use native.Mathlib.Omega.{arith}
use mathlib.Core.Path.{◌≡◌, sym, ap, ◌∙◌}
use mathlib.Core.List.{List, [], map}
use lib.ListN.{length, get_or, take, drop, length-map, get_or-map}
use Rattle.std.proofs.lemmas.List.{get_or-take}
use lib.Seq.{get_or-drop, drop-drop}
use Rattle.table.specs.Fields.{ModeFields, MoveFields}
use Rattle.table.specs.Held.{records_from}
use Rattle.table.specs.Theorems.Access.{record-at, record-count}
use Rattle.form.specs.Form.{mode_said, move_said, said}
use Rattle.parts.specs.Part.{◌then◌, each}
use Rattle.parts.specs.Format.{mode_record, move_record, header, ceiling_byte, table}
use Rattle.parts.specs.Compact.{compact_mode, compact_move, compacted}
use Rattle.writer.specs.Theorems.Tables.{header-range}

-- Fields that nothing is said of.
abbrev no_mode : ModeFields
no_mode = record { rate = 0; conditions = [] }

abbrev no_move : MoveFields
no_move = record { source = 0; target = 0; price = 0; conditions = []; resets = 0 }

abbrev pub mode_none : ModeFields
mode_none = compact_mode no_mode

abbrev pub move_none : MoveFields
move_none = compact_move no_move

module _ (form : List ℕ) (n : ℕ) where
  abbrev pub ceilings_said : List ℕ
  ceilings_said = records_from (λ u. get_or u 0 0) 1 n (drop 4 form)

  abbrev pub modes_said : List ModeFields
  modes_said = map compact_mode (records_from mode_said 14 n (drop 8 form))

  abbrev pub moves_said : List MoveFields
  moves_said = map compact_move (records_from move_said 18 n (drop 232 form))

  pub ceilings-many : length ceilings_said ≡ n
  ceilings-many = record-count (λ u. get_or u 0 0) 1 n (drop 4 form)

  pub modes-many : length modes_said ≡ n
  modes-many = length-map (records_from mode_said 14 n (drop 8 form)) compact_mode ∙ record-count mode_said 14 n (drop 8 form)

  pub moves-many : length moves_said ≡ n
  moves-many = length-map (records_from move_said 18 n (drop 232 form)) compact_move ∙ record-count move_said 18 n (drop 232 form)

  module _ (i : ℕ) (h : i < n) where
    pub ceiling-at : (k : ℕ) → k ≡ n → get_or ceilings_said i 0 ≡ get_or (take k (drop 4 form)) i 0
    ceiling-at k e =
        let place : 4 + 1 * i + 0 ≡ 4 + i = omega arith in
        record-at (λ u. get_or u 0 0) 1 n (drop 4 form) 0 i h ∙ ap (λ (l : List ℕ). get_or l 0 0) (drop-drop (1 * i) 4 form) ∙ get_or-drop (4 + 1 * i) form 0 0
        ∙ ap (λ (j : ℕ). get_or form j 0) place ∙ sym (get_or-drop 4 form i 0) ∙ sym (get_or-take k (drop 4 form) i 0 (omega arith))

    pub mode-at : get_or modes_said i mode_none ≡ compact_mode (mode_said (drop (8 + 14 * i) form))
    mode-at =
        get_or-map compact_mode (records_from mode_said 14 n (drop 8 form)) i no_mode
        ∙ ap compact_mode (record-at mode_said 14 n (drop 8 form) no_mode i h ∙ ap mode_said (drop-drop (14 * i) 8 form))

    pub move-at : get_or moves_said i move_none ≡ compact_move (move_said (drop (232 + 18 * i) form))
    move-at =
        get_or-map compact_move (records_from move_said 18 n (drop 232 form)) i no_move
        ∙ ap compact_move (record-at move_said 18 n (drop 232 form) no_move i h ∙ ap move_said (drop-drop (18 * i) 232 form))

-- The table that a form says, by the counts that stand in it.
pub table-said : (form : List ℕ) →
    let m = get_or form 0 0 in
    let n = get_or form 1 0 in
    let e = get_or form 2 0 in
    table (compacted (said form))
    ≡ (header m n e (get_or form 3 0) then (each ceiling_byte (ceilings_said form n)
    then (each (mode_record n) (modes_said form m) then each (move_record m n) (moves_said form e))))
unfolding table said
table-said form = rw (ceilings-many form (get_or form 1 0), modes-many form (get_or form 0 0), moves-many form (get_or form 2 0))

-- The counts in a form whose header is not refused.
abbrev pub Counts : List ℕ → Type 0
Counts form = (1 ≤ get_or form 0 0) × (get_or form 0 0 ≤ 16) × (get_or form 1 0 ≤ 3) × (get_or form 2 0 ≤ 64)

pub counts : (form : List ℕ) → 0 ≡ (header (get_or form 0 0) (get_or form 1 0) (get_or form 2 0) (get_or form 3 0)).fault → Counts form
counts form e = header-range (get_or form 0 0) (get_or form 1 0) (get_or form 2 0) (get_or form 3 0) (sym e)
