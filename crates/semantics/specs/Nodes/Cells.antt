-- The numbers of cells: each cell has its own number below `cell_count`, each such number its cell, and a cell has a higher number where no
-- whole part is lower and one is higher.
-- Assumes nothing.
use Rattle.std.specs.Prelude.{◌≡◌, refl, List, [], ◌∷◌, ℕ, zero, suc, ◌+◌, ◌*◌, ◌/◌, ◌%◌, ◌<◌, length, get_or}
use Rattle.std.proofs.Common.{ap, ap₂, ◌∙◌, not-suc-le-zero, le_of_suc-le-suc, mod-lt, div-add-mod', arith}
use Rattle.semantics.specs.NodeCount.{factor, cell_count}
use Rattle.semantics.specs.Nodes.Node.{IsCell, cell_number, cell_at}
use Rattle.semantics.specs.Nodes.Radix.{pair-below, quotient-below, pair-quotient, pair-remainder}

cell-tail : {c w : ℕ} {cs ws : List ℕ} → IsCell (c ∷ cs) (w ∷ ws) → IsCell cs ws
cell-tail f = record { sized = omega (arith, f.sized); below = λ t h. f.below (suc t) (omega arith) }

pub cell_number-below : (cs ws : List ℕ) → IsCell cs ws → cell_number cs ws < cell_count cs
cell_number-below [] ws f = omega arith
cell_number-below (c ∷ cs) [] f = absurd (omega (arith, f.sized))
cell_number-below (c ∷ cs) (w ∷ ws) f = pair-below (factor c) (cell_number-below cs ws (cell-tail f)) (f.below 0 (omega arith))

pub cell_at-number : (cs ws : List ℕ) → IsCell cs ws → cell_at cs (cell_number cs ws) ≡ ws
cell_at-number [] [] f = refl
cell_at-number [] (w ∷ ws) f = absurd (omega (arith, f.sized))
cell_at-number (c ∷ cs) [] f = absurd (omega (arith, f.sized))
cell_at-number (c ∷ cs) (w ∷ ws) f =
    let h = f.below 0 (omega arith) in
    ap₂ (λ (a : ℕ) (l : List ℕ). a ∷ l) (pair-remainder (factor c) (cell_number cs ws) w h)
    (ap (cell_at cs) (pair-quotient (factor c) (cell_number cs ws) w h) ∙ cell_at-number cs ws (cell-tail f))

pub number-cell_at : (cs : List ℕ) (i : ℕ) → i < cell_count cs → cell_number cs (cell_at cs i) ≡ i
number-cell_at [] i h = omega arith
number-cell_at (c ∷ cs) i h =
    ap (λ (n : ℕ). n * factor c + i % factor c) (number-cell_at cs (i / factor c) (quotient-below (cell_count cs) (factor c) h))
    ∙ div-add-mod' i (factor c)

pub cell_at-length : (cs : List ℕ) (i : ℕ) → length (cell_at cs i) ≡ length cs
cell_at-length [] i = refl
cell_at-length (c ∷ cs) i = ap suc (cell_at-length cs (i / factor c))

pub cell_at-cell : (cs : List ℕ) (i : ℕ) → IsCell cs (cell_at cs i)
cell_at-cell cs i = record { sized = cell_at-length cs i; below = below cs i }
  where
    below : (cs : List ℕ) (i t : ℕ) → t < length cs → get_or (cell_at cs i) t 0 < factor (get_or cs t 0)
    below [] i t h = absurd (not-suc-le-zero h)
    below (c ∷ cs) i zero h = mod-lt i {m = factor c} (omega arith)
    below (c ∷ cs) i (suc t) h = below cs (i / factor c) t (le_of_suc-le-suc h)
