-- A table is read along what is written.
-- Assumes nothing.
use Rattle.std.specs.Prelude.{ℕ, ◌≤◌, ◌<◌, ◌≡◌, true, leb, length}
use Rattle.std.proofs.Common.{arith}
use mathlib.Core.List.{Memᴰ}
use borrow.Author.Tests.{leb-true}
use Rattle.std.proofs.Math.Dec.{leb-zero}
use Rattle.semantics.specs.Regions.Compare.{and-true-iff}
use Rattle.table.specs.Fields.{ModeFields, MoveFields, Fields}
use Rattle.reader.specs.Format as reader
use Rattle.reader.specs.Format.{between}
use Rattle.parts.specs.Part.{checked}
use Rattle.parts.specs.Format.{mode_record, move_record, header, ceiling_byte, table}
use Rattle.writer.specs.Theorems.Mirrors.{Mirrors, no-fault, passed, mirror-then, mirror-made, mirror-under, mirror-checked, mirror-tested, mirror-all}
use Rattle.writer.specs.Theorems.Records.{below-mirrors, mode-mirrors, move-mirrors}

-- Every record has six places for conditions.
pub record SixEach (f : Fields) : Type 0 where
  pub six-invariants : (m : ModeFields) → Memᴰ m f.modes → length m.conditions ≡ 6
  pub six-guards : (e : MoveFields) → Memᴰ e f.moves → length e.conditions ≡ 6

-- Bit 7 of a reset byte announces a high byte, so that no byte can express it as a fault.
abbrev pub ResetsFit : Fields → Type 0
ResetsFit f = (e : MoveFields) → Memᴰ e f.moves → e.resets < 128

within-mirrors : {Fits : Type 0} (number least most b : ℕ) → 0 < number → Mirrors Fits (reader.within number least most)
    (checked (between least most b) number b) b
unfolding reader.within
within-mirrors number least most b some = mirror-tested (between least most) number b some

-- A byte that is at most so much.
most-mirrors : {Fits : Type 0} (number most b : ℕ) → 0 < number → Mirrors Fits (reader.within number 0 most) (checked (leb b most) number b) b
unfolding reader.within
most-mirrors number most b some = mirror-checked (between 0 most) number b some (leb b most) (λ e. rw (leb-zero b) e) (λ fit e. rw (leb-zero b) e)

pub between-true : (least most b : ℕ) → between least most b ≡ true → (least ≤ b) × (b ≤ most)
between-true least most b e =
    let c = (and-true-iff (leb least b) (leb b most)).0 e in
    (leb-true least b c.0, leb-true b most c.1)

-- A byte of the counts that is not refused is in its range.
count-range : (least most b : ℕ) → (checked (between least most b) 2 b).fault ≡ 0 → (least ≤ b) × (b ≤ most)
count-range least most b h = between-true least most b (passed (between least most b) 2 (omega arith) h)

module _ (m n e goal : ℕ) where
  header-mirrors : {Fits : Type 0} → Mirrors Fits reader.header (header m n e goal) (record { modes = m; timers = n; moves = e; goal = goal })
  unfolding reader.header header
  header-mirrors =
      mirror-then _ (within-mirrors 2 1 16 m (omega arith)) (λ h. mirror-then _ (within-mirrors 2 1 3 n (omega arith)) (λ z.
      mirror-then _ (most-mirrors 2 64 e (omega arith)) (λ z. mirror-made _ (below-mirrors 2 m goal (omega arith) (count-range 1 16 m h).0))))

  -- A header that is not refused has counts that are in their ranges.
  pub header-range : (header m n e goal).fault ≡ 0 → (1 ≤ m) × (m ≤ 16) × (n ≤ 3) × (e ≤ 64)
  unfolding header
  header-range h =
      let a = no-fault _ _ h in
      let b = no-fault _ _ a.1 in
      let c = no-fault _ _ b.1 in
      let modes = count-range 1 16 m a.0 in
      (modes.0, modes.1, (count-range 1 3 n b.0).1, leb-true e 64 (passed (leb e 64) 2 (omega arith) c.0))

module _ (f : Fields) where
  abbrev m : ℕ
  m = length f.modes

  abbrev n : ℕ
  n = length f.ceilings

  pub table-mirrors : SixEach f → Mirrors (ResetsFit f) reader.table (table f) f
  unfolding reader.table table
  table-mirrors six =
      mirror-then _ (header-mirrors m n (length f.moves) f.goal) (λ h.
      let r = header-range m n (length f.moves) f.goal h in
      mirror-then _ (mirror-all (reader.within 2 1 15) ceiling_byte f.ceilings 0 (λ c k. within-mirrors 2 1 15 c (omega arith))) (λ z.
      mirror-then _ (mirror-all (reader.mode_record n) (mode_record n) f.modes 0 (λ a k. mode-mirrors n a (six.six-invariants a k))) (λ z.
      mirror-made _ (mirror-all (reader.move_record m n) (move_record m n) f.moves 0 (λ a k.
      mirror-under (λ fit. fit a k) (move-mirrors n r.2 a m r.0 (six.six-guards a k)))))))
