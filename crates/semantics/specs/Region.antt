-- Priced regions of any number of timers: document 01, "Priced regions" (source document 001, definitions 3 to 8).
-- Assumes nothing.
use Rattle.std.specs.Prelude.{◌≡◌, Bool, true, cond, ◌&&◌, List, [], ◌∷◌, ◌++◌, map, ℕ, zero, suc, pred, ◌+◌, ◌-◌, ◌<◌, min, leb, ltb, eqb, length, get_or, drop, set, replicate}
use Rattle.semantics.specs.Condition.{Comparison, less, at_most, equal, at_least, greater, Condition}

-- "A region has a whole part for each timer and groups r0 to rk of timers by rising fraction. [..] Each region has k + 1 prices c0 to ck".
-- A group goes by its number: 0 for r0, whose timers have fraction 0, and a greater number for a greater fraction.
pub record PricedRegion : Type 0 where
  pub whole : List ℕ
  pub group : List ℕ
  pub prices : List ℕ

-- The number of timers in group g.
abbrev pub count : ℕ → List ℕ → ℕ
count g [] = 0
count g (h ∷ hs) = cond (eqb h g) (suc (count g hs)) (count g hs)

-- k, the number of the highest group.
abbrev pub top : PricedRegion → ℕ
top r = pred (length r.prices)

-- "r0 holds those with fraction 0 and may be empty".
abbrev pub no_zero : PricedRegion → Bool
no_zero r = eqb (count 0 r.group) 0

-- "r0 [..] may be empty; the others may not. Each region has k + 1 prices".
pub record WellFormed (r : PricedRegion) : Type 0 where
  pub some : 0 < length r.whole
  pub paired : length r.group ≡ length r.whole
  pub priced : 0 < length r.prices
  pub below : (i : ℕ) → get_or r.group i 0 < length r.prices
  pub full : (g : ℕ) → 0 < g → g < length r.prices → 0 < count g r.group

-- "The start region has all timers in r0 and the single price 0."
unfoldable pub start : ℕ → PricedRegion
start n = record { whole = replicate n 0; group = replicate n 0; prices = 0 ∷ [] }

-- "Delay, r0 not empty: every group moves up one place, r0 is empty, and c0 + rate is added at the end."
unfoldable pub leave : ℕ → PricedRegion → PricedRegion
leave rate r = record {
  whole = r.whole;
  group = map suc r.group;
  prices = r.prices ++ (get_or r.prices 0 0 + rate) ∷ [];
}

-- The whole parts, those of group k one higher.
abbrev pub risen : ℕ → List ℕ → List ℕ → List ℕ
risen k [] ws = ws
risen k (g ∷ gs) [] = []
risen k (g ∷ gs) (w ∷ ws) = cond (eqb g k) (suc w) w ∷ risen k gs ws

-- "Delay, r0 empty: rk becomes r0, its whole parts rise by 1, c0 is dropped."
unfoldable pub arrive : PricedRegion → PricedRegion
arrive r = record {
  whole = risen (top r) r.group r.whole;
  group = map (λ g. cond (eqb g (top r)) 0 g) r.group;
  prices = drop 1 r.prices;
}

unfoldable pub delay : ℕ → PricedRegion → PricedRegion
delay rate r = cond (no_zero r) (arrive r) (leave rate r)

-- "Linger, r0 empty: ck becomes the smaller of ck and c0 + rate. Otherwise nothing changes." (The paper's self.)
unfoldable pub linger : ℕ → PricedRegion → PricedRegion
linger rate r =
    cond (no_zero r)
    (record {
      whole = r.whole;
      group = r.group;
      prices = set r.prices (top r) (min (get_or r.prices (top r) 0) (get_or r.prices 0 0 + rate));
    })
    r

-- The prices at i and i + 1 become one, the smaller.
abbrev pub merge : ℕ → List ℕ → List ℕ
merge i [] = []
merge i (c ∷ []) = c ∷ []
merge zero (c ∷ d ∷ cs) = min c d ∷ cs
merge (suc i) (c ∷ d ∷ cs) = c ∷ merge i (d ∷ cs)

-- Timer x is alone in its group, which is not r0.
abbrev pub alone : ℕ → List ℕ → Bool
alone x gs = ltb 0 (get_or gs x 0) && eqb (count (get_or gs x 0) gs) 1

-- "Reset of one timer: its whole part becomes 0 and it joins r0. If it was alone in ri, i at least 1, the prices c(k-i) and c(k-i+1)
-- become one, the smaller." Group i is then gone, and those above it move down one place.
unfoldable pub reset : ℕ → PricedRegion → PricedRegion
reset x r =
    cond (alone x r.group)
    (record {
      whole = set r.whole x 0;
      group = set (map (λ g. cond (ltb (get_or r.group x 0) g) (pred g) g) r.group) x 0;
      prices = merge (top r - get_or r.group x 0) r.prices;
    })
    (record { whole = set r.whole x 0; group = set r.group x 0; prices = r.prices })

-- "Several timers are reset one after another."
unfoldable pub reset_all : List ℕ → PricedRegion → PricedRegion
reset_all [] r = r
reset_all (x ∷ xs) r = reset_all xs (reset x r)

-- "Charge: the move's price is added to every corner." (The paper's increment.)
unfoldable pub charge : ℕ → PricedRegion → PricedRegion
charge price r = record { whole = r.whole; group = r.group; prices = map (λ c. c + price) r.prices }

-- The least whole number that no point is above, for a timer with whole part w in group g.
abbrev pub high : ℕ → ℕ → ℕ
high w g = cond (eqb g 0) w (suc w)

-- Every value with whole part w and a fraction of group g compares so with v.
abbrev pub meets_at : Comparison → ℕ → ℕ → ℕ → Bool
meets_at less v w g = ltb w v
meets_at at_most v w g = leb (high w g) v
meets_at equal v w g = eqb g 0 && eqb w v
meets_at at_least v w g = leb v w
meets_at greater v w g = ltb v (high w g)

-- "A region meets a condition if all its points do".
unfoldable pub meets : Condition → PricedRegion → Bool
meets c r = meets_at c.comparison c.value (get_or r.whole c.timer 0) (get_or r.group c.timer 0)

-- All conditions hold together.
abbrev pub meets_all : List Condition → PricedRegion → Bool
meets_all [] r = true
meets_all (c ∷ cs) r = meets c r && meets_all cs r

-- "each timer must also stay at or below its ceiling", a test for each from timer x on.
abbrev pub within_from : ℕ → List ℕ → PricedRegion → Bool
within_from x [] r = true
within_from x (ceiling ∷ cs) r = meets (record { timer = x; comparison = at_most; value = ceiling }) r && within_from (suc x) cs r

unfoldable pub within : List ℕ → PricedRegion → Bool
within ceilings r = within_from 0 ceilings r
