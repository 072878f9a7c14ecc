-- A list that is held in an array, with 0 behind it: its front is the list, and an array of zeros is one.
-- Assumes nothing.
use Rattle.std.specs.Prelude.{◌≡◌, List, ℕ, ◌+◌, ◌-◌, ◌≤◌, length, take, replicate}
use Rattle.std.proofs.Common.{sym, ap, ◌∙◌, arith, take_at}
use Rattle.std.proofs.lemmas.List.{length-replicate, replicate-append-replicate}
use Rattle.regions.specs.Held.{pad}

pub take-pad : (m : ℕ) (l : List ℕ) (n : ℕ) → length l ≡ n → take n (pad m l) ≡ l
take-pad m l n e = take_at l _ n e

-- An array of zeros, of which the first n are used.
pub zeros-pad : (m n : ℕ) → n ≤ m → replicate m 0 ≡ pad m (replicate n 0)
zeros-pad m n h =
    let many = length-replicate {A = ℕ} n 0 in
    let behind = m - length (replicate {A = ℕ} n 0) in
    let all : n + behind ≡ m = omega arith in
    sym (replicate-append-replicate n behind 0 ∙ ap (λ (k : ℕ). replicate k 0) all)
