-- The list of weak orders of n timers: it has exactly the lists of n block numbers in which each number below the number of blocks stands,
-- and each of them once.
-- Assumes nothing.
use Rattle.std.specs.Prelude.{◌≡◌, refl, ◌⊎◌, ℕ, zero, suc, pred, ◌<◌, length, get_or}
use Rattle.std.proofs.Common.{ap, ◌∙◌, sym, subst, inl, inr, not-suc-le-zero, arith}
use mathlib.Core.List.Memᴰ
use mathlib.Core.List.{List, [], ◌∷◌, map, tail, Memᴰ}
use Rattle.std.proofs.lemmas.List.{length-map}
use Rattle.semantics.specs.Region.{count}
use Rattle.semantics.specs.Answer.{count_from}
use Rattle.semantics.specs.Corners.Corner.{WeakOrder, raised, joining, opening, extended, weak_orders}
use Rattle.semantics.specs.Regions.Renumber.{lowered}
use Rattle.semantics.specs.Corners.Lists.{below-bound, mem-flat_map, mem-of-flat_map, Distinct, distinct_append, distinct-map, distinct-flat_map, distinct-count_from}
use Rattle.semantics.specs.Corners.Raise.{count-raised, lower-raise}
use Rattle.semantics.specs.Corners.Blocks.{Blocks, blocks-joining, blocks-opening, removed}

-- Each of them is in the list.
pub weak_orders-complete : (n b : ℕ) (g : List ℕ) → length g ≡ n → Blocks b g → Memᴰ (record { blocks = b; block = g }) (weak_orders n)
weak_orders-complete zero zero [] e c = Memᴰ.head refl
weak_orders-complete zero (suc b) [] e c = absurd (not-suc-le-zero (c.full 0 (omega arith)))
weak_orders-complete zero b (x ∷ g) e c = absurd (omega arith)
weak_orders-complete (suc n) b [] e c = absurd (omega arith)
weak_orders-complete (suc n) b (x ∷ g) e c =
    let o = removed b x g c in
    mem-flat_map extended (weak_orders-complete n o.left.blocks o.left.block (omega (arith, o.size)) o.good) o.made

-- How a weak order with one more timer came from another.
data Made (w v : WeakOrder) : Type 0 where
  joins : (x : ℕ) → x < w.blocks → v ≡ joining w x → Made w v
  opens : (x : ℕ) → x < suc w.blocks → v ≡ opening w x → Made w v

made : (w v : WeakOrder) → Memᴰ v (extended w) → Made w v
made w v m = go (Memᴰ.append_cases (map (joining w) (count_from 0 w.blocks)) m)
  where
    go : Memᴰ v (map (joining w) (count_from 0 w.blocks)) ⊎ Memᴰ v (map (opening w) (count_from 0 (suc w.blocks))) → Made w v
    go (inl k) =
        let o = Memᴰ.of_map (joining w) (count_from 0 w.blocks) k in
        joins o.0 (below-bound w.blocks o.0 o.1) (sym o.2)
    go (inr k) =
        let o = Memᴰ.of_map (opening w) (count_from 0 (suc w.blocks)) k in
        opens o.0 (below-bound (suc w.blocks) o.0 o.1) (sym o.2)

-- And nothing else is.
pub weak_orders-sound : (n : ℕ) (w : WeakOrder) → Memᴰ w (weak_orders n) → Blocks w.blocks w.block × (length w.block ≡ n)
weak_orders-sound zero w m =
    let e = Memᴰ.eq_of_singleton m in
    let b : Blocks 0 [] = record { below = λ i h. absurd (not-suc-le-zero h); full = λ x h. absurd (not-suc-le-zero h) } in
    (subst (λ (v : WeakOrder). Blocks v.blocks v.block) (sym e) b, ap (λ (v : WeakOrder). length v.block) e)
weak_orders-sound (suc n) v m =
    let o = mem-of-flat_map extended (weak_orders n) v m in
    go o.0 (weak_orders-sound n o.0 o.1) (made o.0 v o.2)
  where
    go :
        (w : WeakOrder) → Blocks w.blocks w.block × (length w.block ≡ n) → Made w v
        → Blocks v.blocks v.block × (length v.block ≡ suc n)
    go w c (joins x h e) = (
      subst (λ (u : WeakOrder). Blocks u.blocks u.block) (sym e) (blocks-joining w.blocks x w.block c.0 h),
      ap (λ (u : WeakOrder). length u.block) e ∙ ap suc c.1,
    )
    go w c (opens x h e) = (
      subst (λ (u : WeakOrder). Blocks u.blocks u.block) (sym e) (blocks-opening w.blocks x w.block c.0 h),
      ap (λ (u : WeakOrder). length u.block) e ∙ ap suc (length-map w.block (raised x) ∙ c.1),
    )

first : WeakOrder → ℕ
first w = get_or w.block 0 0

rest : WeakOrder → List ℕ
rest w = tail w.block

distinct-extended : (w : WeakOrder) → Distinct (extended w)
unfolding first
distinct-extended w =
    distinct_append (map (joining w) (count_from 0 w.blocks)) (map (opening w) (count_from 0 (suc w.blocks)))
    (distinct-map (joining w) (λ a b e. ap first e) (count_from 0 w.blocks) (distinct-count_from 0 w.blocks))
    (distinct-map (opening w) (λ a b e. ap first e) (count_from 0 (suc w.blocks)) (distinct-count_from 0 (suc w.blocks)))
    (λ v m k.
    let p = Memᴰ.of_map (joining w) (count_from 0 w.blocks) m in
    let q = Memᴰ.of_map (opening w) (count_from 0 (suc w.blocks)) k in
    let e : w.blocks ≡ suc w.blocks = ap (λ (u : WeakOrder). u.blocks) (p.2 ∙ sym q.2) in
    omega arith)

-- A timer that joined a block is not alone in a new one.
joining-opening : (u w : WeakOrder) (x y : ℕ) → 0 < count x u.block → joining u x ≡ opening w y → ⊥
unfolding first rest
joining-opening u w x y p e =
    let n : count y u.block ≡ 0 = ap (count y) (ap rest e) ∙ count-raised y w.block in
    let q : 0 < count y u.block = subst (λ (z : ℕ). 0 < count z u.block) (ap first e) p in
    omega arith

opening-once : (u w : WeakOrder) (x y : ℕ) → opening u x ≡ opening w y → u.block ≡ w.block
unfolding first rest
opening-once u w x y e =
    sym (lower-raise x u.block) ∙ ap (map (lowered x)) (ap rest e)
    ∙ subst (λ (z : ℕ). map (lowered z) (map (raised y) w.block) ≡ w.block) (sym (ap first e)) (lower-raise y w.block)

-- A weak order comes from one other only.
made-once : (u w v : WeakOrder) → Blocks u.blocks u.block → Blocks w.blocks w.block → Made u v → Made w v → u ≡ w
unfolding rest
made-once u w v c d (joins x h e) (joins y k f) =
    let p : joining u x ≡ joining w y = sym e ∙ f in
    λ i. record { blocks = (p i).blocks; block = ap rest p i }
made-once u w v c d (joins x h e) (opens y k f) = absurd (joining-opening u w x y (c.full x h) (sym e ∙ f))
made-once u w v c d (opens x h e) (joins y k f) = absurd (joining-opening w u y x (d.full y k) (sym f ∙ e))
made-once u w v c d (opens x h e) (opens y k f) =
    let p : opening u x ≡ opening w y = sym e ∙ f in
    let q = opening-once u w x y p in
    λ i. record { blocks = pred (p i).blocks; block = q i }

-- And none is in it twice.
pub weak_orders-distinct : (n : ℕ) → Distinct (weak_orders n)
weak_orders-distinct zero = (Memᴰ.not-nil, tt)
weak_orders-distinct (suc n) =
    distinct-flat_map extended (weak_orders n) (weak_orders-distinct n) (λ w m. distinct-extended w)
    (λ u w v m k p q. made-once u w v (weak_orders-sound n u m).0 (weak_orders-sound n w k).0 (made u v p) (made w v q))
