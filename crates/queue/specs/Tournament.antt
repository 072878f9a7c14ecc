-- A tournament: the places of a tree are 1 .. 2 × nodes - 1. Place nodes + v is the leaf of node v, and at a place z below `nodes` the winners of the
-- two places whose half is z have a match.
-- Assumes nothing.
use Rattle.std.specs.Prelude.{◌≡◌, cond, ◌⊎◌, ◌≢◌, ℕ, ◌-◌, ◌/◌, ◌≤◌, ◌<◌, ltb}

-- Nobody: the winner where nobody plays.
abbrev pub none : ℕ
none = 0xFFFF

-- Who enters at the leaf of a node, itself or nobody; and by which number a node is compared.
pub record Players : Type 0 where
  pub entrant : ℕ → ℕ
  pub key : ℕ → ℕ

-- Each node enters at its own leaf, or nobody does.
abbrev pub OwnLeaves : Players → Type 0
OwnLeaves p = (v : ℕ) → (p.entrant v ≡ v) ⊎ (p.entrant v ≡ none)

-- a has the least key of a and b; nobody is behind everybody.
abbrev pub Before : (ℕ → ℕ) → ℕ → ℕ → Type 0
Before key a b = (b ≡ none) ⊎ ((a ≢ none) × (key a ≤ key b))

-- a won the match between b and d.
pub record Match (key : ℕ → ℕ) (b d a : ℕ) : Type 0 where
  pub one : (a ≡ b) ⊎ (a ≡ d)
  pub left : Before key a b
  pub right : Before key a d

-- Who has won at a place, if `slots` says it of each match.
unfoldable pub winner : ℕ → Players → (ℕ → ℕ) → ℕ → ℕ
winner nodes p slots z = cond (ltb z nodes) (slots z) (p.entrant (z - nodes))

-- Slot z holds the winner of a place whose half is z.
abbrev pub Won : ℕ → Players → (ℕ → ℕ) → ℕ → Type 0
Won nodes p slots z = (c : ℕ) × (c / 2 ≡ z) × (slots z ≡ winner nodes p slots c)

-- The match at z is fair: one of the two has won it, and neither comes before the winner.
pub record Fair (nodes : ℕ) (p : Players) (slots : ℕ → ℕ) (z : ℕ) : Type 0 where
  pub won : Won nodes p slots z
  pub first : (c : ℕ) → c / 2 ≡ z → Before p.key (slots z) (winner nodes p slots c)

abbrev pub AllFair : ℕ → Players → (ℕ → ℕ) → Type 0
AllFair nodes p slots = (z : ℕ) → 1 ≤ z → z < nodes → Fair nodes p slots z

-- Place z is on the way up from place x.
pub data OnWay : ℕ → ℕ → Type 0 where
  here : {x : ℕ} → OnWay x x
  up : {x z : ℕ} → OnWay (x / 2) z → OnWay x z

-- b was put into slot x.
pub record Put (slots : ℕ → ℕ) (x b : ℕ) (slots' : ℕ → ℕ) : Type 0 where
  pub at_x : slots' x ≡ b
  pub others : (z : ℕ) → z ≢ x → slots' z ≡ slots z
