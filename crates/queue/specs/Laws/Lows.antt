-- The words without their slots: their entries, and what a store does to them.
-- Assumes nothing.
use Rattle.std.specs.Prelude.{◌≡◌, refl, List, [], ◌∷◌, ℕ, zero, suc, pred, ◌+◌, ◌*◌, ◌%◌, ◌<◌, length, get_or, set, drop}
use Rattle.std.proofs.Common.{sym, ap, ◌∙◌, arith}
use Rattle.std.proofs.lemmas.List.{set-get_or}
use Rattle.semantics.specs.Order.{Cost}
use Rattle.semantics.specs.Graph.Path.{charge_at, steps_at}
use Rattle.semantics.specs.Paths.Words.{stored, stored-length, stored-rest}
use Rattle.queue.specs.Queue.{lows}

even-entry : (n : ℕ) (ws : List ℕ) (j v : ℕ) → j ≡ 2 * v → get_or (lows n ws) j 0 ≡ get_or ws j 0
unfolding lows
even-entry zero ws j v e = refl
even-entry (suc n) [] j v e = refl
even-entry (suc n) (c ∷ []) j v e = refl
even-entry (suc n) (c ∷ k ∷ ws) zero v e = refl
even-entry (suc n) (c ∷ k ∷ ws) (suc zero) v e = absurd (omega arith)
even-entry (suc n) (c ∷ k ∷ ws) (suc (suc j)) v e = even-entry n ws j (pred v) (omega arith)

odd-entry : (n : ℕ) (ws : List ℕ) (j v : ℕ) → j ≡ 2 * v + 1 → v < n → get_or (lows n ws) j 0 ≡ get_or ws j 0 % 65536
unfolding lows
odd-entry zero ws j v e h = absurd (omega arith)
odd-entry (suc n) [] j v e h = refl
odd-entry (suc n) (c ∷ []) zero v e h = absurd (omega arith)
odd-entry (suc n) (c ∷ []) (suc j) v e h = refl
odd-entry (suc n) (c ∷ k ∷ ws) zero v e h = absurd (omega arith)
odd-entry (suc n) (c ∷ k ∷ ws) (suc zero) v e h = refl
odd-entry (suc n) (c ∷ k ∷ ws) (suc (suc j)) v e h = odd-entry n ws j (pred v) (omega arith) (omega arith)

even-set : (n : ℕ) (ws : List ℕ) (j v x : ℕ) → j ≡ 2 * v → v < n → lows n (set ws j x) ≡ set (lows n ws) j x
unfolding lows
even-set zero ws j v x e h = absurd (omega arith)
even-set (suc n) [] j v x e h = refl
even-set (suc n) (c ∷ []) zero v x e h = refl
even-set (suc n) (c ∷ []) (suc j) v x e h = refl
even-set (suc n) (c ∷ k ∷ ws) zero v x e h = refl
even-set (suc n) (c ∷ k ∷ ws) (suc zero) v x e h = absurd (omega arith)
even-set (suc n) (c ∷ k ∷ ws) (suc (suc j)) v x e h =
    ap (λ (l : List ℕ). c ∷ k % 65536 ∷ l) (even-set n ws j (pred v) x (omega arith) (omega arith))

odd_set : (n : ℕ) (ws : List ℕ) (j v x : ℕ) → j ≡ 2 * v + 1 → v < n → lows n (set ws j x) ≡ set (lows n ws) j (x % 65536)
unfolding lows
odd_set zero ws j v x e h = absurd (omega arith)
odd_set (suc n) [] j v x e h = refl
odd_set (suc n) (c ∷ []) zero v x e h = absurd (omega arith)
odd_set (suc n) (c ∷ []) (suc j) v x e h = refl
odd_set (suc n) (c ∷ k ∷ ws) zero v x e h = absurd (omega arith)
odd_set (suc n) (c ∷ k ∷ ws) (suc zero) v x e h = refl
odd_set (suc n) (c ∷ k ∷ ws) (suc (suc j)) v x e h =
    ap (λ (l : List ℕ). c ∷ k % 65536 ∷ l) (odd_set n ws j (pred v) x (omega arith) (omega arith))

drop-lows : (n : ℕ) (ws : List ℕ) (j : ℕ) → j ≡ 2 * n → drop j (lows n ws) ≡ drop j ws
unfolding lows
drop-lows zero ws j e = refl
drop-lows (suc n) [] j e = refl
drop-lows (suc n) (c ∷ []) j e = refl
drop-lows (suc n) (c ∷ k ∷ ws) zero e = absurd (omega arith)
drop-lows (suc n) (c ∷ k ∷ ws) (suc zero) e = absurd (omega arith)
drop-lows (suc n) (c ∷ k ∷ ws) (suc (suc j)) e = drop-lows n ws j (omega arith)

pub lows-length : (n : ℕ) (ws : List ℕ) → length (lows n ws) ≡ length ws
unfolding lows
lows-length zero ws = refl
lows-length (suc n) [] = refl
lows-length (suc n) (c ∷ []) = refl
lows-length (suc n) (c ∷ k ∷ ws) = ap (λ (m : ℕ). suc (suc m)) (lows-length n ws)

module _ (n : ℕ) (ws : List ℕ) where
  -- The words behind those of the nodes.
  pub lows-rest : drop (2 * n) (lows n ws) ≡ drop (2 * n) ws
  lows-rest = drop-lows n ws (2 * n) refl

  pub lows-charge : (v : ℕ) → charge_at (lows n ws) v ≡ charge_at ws v
  lows-charge v = even-entry n ws (2 * v) v refl

  pub lows-steps : (v : ℕ) → v < n → steps_at (lows n ws) v ≡ steps_at ws v % 65536
  lows-steps v h = odd-entry n ws (2 * v + 1) v refl h

  pub lows-set-charge : (v x : ℕ) → v < n → lows n (set ws (2 * v) x) ≡ set (lows n ws) (2 * v) x
  lows-set-charge v x h = even-set n ws (2 * v) v x refl h

  pub lows-set-steps : (v x : ℕ) → v < n → lows n (set ws (2 * v + 1) x) ≡ set (lows n ws) (2 * v + 1) (x % 65536)
  lows-set-steps v x h = odd_set n ws (2 * v + 1) v x refl h

  -- A store that changes a slot alone.
  pub lows-same : (v x : ℕ) → v < n → x % 65536 ≡ steps_at ws v % 65536 → lows n (set ws (2 * v + 1) x) ≡ lows n ws
  lows-same v x h e =
      lows-set-steps v x h
      ∙ ap (λ (y : ℕ). set (lows n ws) (2 * v + 1) y) (e ∙ sym (lows-steps v h))
      ∙ set-get_or (lows n ws) (2 * v + 1) 0

-- Words with the same costs are as many, and the same behind those of the nodes.
module _ (n : ℕ) (ws us : List ℕ) (same : lows n us ≡ lows n ws) where
  pub costs-length : length us ≡ length ws
  costs-length = sym (lows-length n us) ∙ ap length same ∙ lows-length n ws

  pub costs-rest : drop (2 * n) us ≡ drop (2 * n) ws
  costs-rest = sym (lows-rest n us) ∙ ap (λ (l : List ℕ). drop (2 * n) l) same ∙ lows-rest n ws

-- And so are those in which a cost was stored.
module _ (n : ℕ) (ws us : List ℕ) (v : ℕ) (c : Cost) (same : lows n us ≡ stored (lows n ws) v c) where
  pub lowered-length : length us ≡ length ws
  lowered-length = sym (lows-length n us) ∙ ap length same ∙ stored-length (lows n ws) v c ∙ lows-length n ws

  pub lowered-rest : v < n → drop (2 * n) us ≡ drop (2 * n) ws
  lowered-rest h =
      sym (lows-rest n us) ∙ ap (λ (l : List ℕ). drop (2 * n) l) same ∙ stored-rest (lows n ws) v c n h ∙ lows-rest n ws
