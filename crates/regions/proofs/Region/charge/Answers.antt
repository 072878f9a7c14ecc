-- `regions::Region::charge` meets its contract.
-- Assumes nothing.
use Prim.Native.Nat.{◌≤◌}
use mathlib.Core.Path.{◌≡◌, ◌∙◌, sym}
use native.Mathlib.Omega.{arith}
use Rattle.regions.specs.Held.{view}
use Rattle.regions.specs.Laws.Fields.{holds, top-is, top-few, price-at}
use Rattle.regions.proofs.Methods.{charged-is}
use Rattle.regions.proofs.Region.charge.Goals as goal

-- How many corners there are.
corners : (c : goal.After-top) → (c.top.result ≡ c.args.self.top) × (c.top.result ≤ 3)
corners c =
    let s = c.args.self in
    let h = holds s c.requires.0 in
    (c.top.ensures ∙ sym (top-is s (view s) h), omega (arith, c.top.ensures, top-is s (view s) h, top-few s (view s) h))

pub overflow_add-top : goal.overflow_add-top
overflow_add-top c = omega (arith, corners c)

pub charged-self-requires : goal.charged-self-requires
charged-self-requires c =
    let s = c.args.self in
    let h = holds s c.requires.0 in
    (omega (arith, corners c), λ i. rw (price-at s (view s) h i) (c.requires.1 i))

pub returns : goal.returns
returns c =
    let s = c.args.self in
    let h = holds s c.requires.0 in
    rw (c.charged-self.ensures, (corners c.before).0) (charged-is s (view s) h c.args.price)
