-- The corners of a cell for any number of timers, and their numbers. The timers' whole parts fix a cell; its regions differ in the groups of
-- the timers, and each has k + 1 corners.
-- Assumes nothing.
use Rattle.std.specs.Prelude.{Bool, true, false, cond, ◌&&◌, List, [], ◌∷◌, ◌++◌, map, ℕ, zero, suc, eqb, leb, get_or}
use Rattle.semantics.specs.Region.{PricedRegion}
use Rattle.semantics.specs.Answer.{count_from}

-- A corner: the group of each timer, which is the region in its cell, and the index of the corner's price.
pub record Corner : Type 0 where
  pub group : List ℕ
  pub index : ℕ

-- Corner j of a region, whose price is cj.
abbrev pub corner_of : PricedRegion → ℕ → Corner
corner_of r j = record { group = r.group; index = j }

abbrev pub flat_map : {A B : Type 0} → (A → List B) → List A → List B
flat_map f [] = []
flat_map f (a ∷ l) = f a ++ flat_map f l

-- A weak order of timers: how many blocks it has, and for each timer the number of its block, from 0 up.
pub record WeakOrder : Type 0 where
  pub blocks : ℕ
  pub block : List ℕ

-- A new block x comes in, and the blocks from x on move up one place.
abbrev pub raised : ℕ → ℕ → ℕ
raised x y = cond (leb x y) (suc y) y

-- One more timer in block x, which is there, and in a new block x.
abbrev pub joining : WeakOrder → ℕ → WeakOrder
joining w x = record { blocks = w.blocks; block = x ∷ w.block }

abbrev pub opening : WeakOrder → ℕ → WeakOrder
opening w x = record { blocks = suc w.blocks; block = x ∷ map (raised x) w.block }

abbrev pub extended : WeakOrder → List WeakOrder
extended w = map (joining w) (count_from 0 w.blocks) ++ map (opening w) (count_from 0 (suc w.blocks))

-- The weak orders of n timers.
abbrev pub weak_orders : ℕ → List WeakOrder
weak_orders zero = record { blocks = 0; block = [] } ∷ []
weak_orders (suc n) = flat_map extended (weak_orders n)

-- The corners of a region with these groups and so many prices.
abbrev pub region_corners : List ℕ → ℕ → List Corner
region_corners g prices = map (λ j. record { group = g; index = j }) (count_from 0 prices)

-- The blocks are the groups from r0 on; or r0 is empty, and they are the groups from r1 on.
abbrev pub zero_corners : WeakOrder → List Corner
zero_corners w = region_corners w.block w.blocks

abbrev pub open_corners : WeakOrder → List Corner
open_corners w = region_corners (map suc w.block) (suc w.blocks)

-- The corners of a cell of n timers: those of the regions with a timer in r0 before those with none, and a region's by rising index, so that
-- within a cell delay and linger lead to corners further on.
abbrev pub corners : ℕ → List Corner
corners n = flat_map zero_corners (weak_orders n) ++ flat_map open_corners (weak_orders n)

-- Whether two corners are the same.
abbrev pub same_list : List ℕ → List ℕ → Bool
same_list [] [] = true
same_list [] (y ∷ ys) = false
same_list (x ∷ xs) [] = false
same_list (x ∷ xs) (y ∷ ys) = eqb x y && same_list xs ys

abbrev pub same_corner : Corner → Corner → Bool
same_corner c d = eqb c.index d.index && same_list c.group d.group

-- The place of a corner in a list.
abbrev pub place_in : List Corner → Corner → ℕ
place_in [] c = 0
place_in (d ∷ l) c = elim (same_corner c d) [ true ↦ 0 | false ↦ suc (place_in l c) ]

-- The number of a corner of n timers is its place in the list of corners; and the corner with a number.
unfoldable pub corner_number : ℕ → Corner → ℕ
corner_number n c = place_in (corners n) c

unfoldable pub corner_at : ℕ → ℕ → Corner
corner_at n i = get_or (corners n) i (record { group = []; index = 0 })
