-- The route bytes of the labels that a walk has taken: those of one label more, and the last ones.
-- Assumes nothing.
use mathlib.Core.Path.{◌≡◌, refl, sym, ap, ◌∙◌}
use mathlib.Core.List.{List, [], ◌∷◌, ◌++◌, map, append_assoc}
use Prim.Native.Nat.{ℕ, suc, ◌+◌, ◌*◌, ◌/◌, ◌%◌, ◌<◌}
use native.Mathlib.Omega.{arith}
use lib.ListN.{length, get_or, take, set, length-set}
use lib.Seq.{take-suc-set, take-take, take_at, get_or-take, get_or_at, get_or-append-add}
use Rattle.semantics.specs.Timetable.{bytes_of}
use Rattle.semantics.specs.Graph.MinuteGraph.{pair_of}
use Rattle.semantics.specs.Timetables.Edges.{label-bytes-length}

-- The bytes of labels.
abbrev pub label_bytes : List ℕ → List ℕ
label_bytes ks = bytes_of (map pair_of ks)

pub bytes-more : (ks : List ℕ) (k : ℕ) → label_bytes (ks ++ k ∷ []) ≡ label_bytes ks ++ k / 64 ∷ k % 64 ∷ []
bytes-more [] k = refl
bytes-more (j ∷ ks) k = ap (λ (l : List ℕ). j / 64 ∷ j % 64 ∷ l) (bytes-more ks k)

-- Two bytes are written behind the first n.
pub take-two :
    (bs : List ℕ) (n a b : ℕ) → n + 1 < length bs → take (n + 2) (set (set bs n a) (n + 1) b) ≡ take n bs ++ a ∷ b ∷ []
take-two bs n a b h =
    let one : n + 1 ≡ suc n = omega arith in
    let two : n + 2 ≡ suc (suc n) = omega arith in
    let there : suc n < length (set bs n a) = omega (arith, length-set bs n a) in
    (λ i. take (two i) (set (set bs n a) (one i) b))
    ∙ take-suc-set (set bs n a) (suc n) b there
    ∙ ap (λ (l : List ℕ). l ++ b ∷ []) (take-suc-set bs n a (omega arith))
    ∙ append_assoc (take n bs) (a ∷ []) (b ∷ [])

-- The bytes of the labels js and k are the first ones: those of js come before that of k.
module _ (bs js : List ℕ) (k n : ℕ) (counted : 2 * length js ≡ n) (is : take (n + 2) bs ≡ label_bytes (js ++ k ∷ [])) where
  front : length (label_bytes js) ≡ n
  front = label-bytes-length js ∙ counted

  split : take (n + 2) bs ≡ label_bytes js ++ k / 64 ∷ k % 64 ∷ []
  split = is ∙ bytes-more js k

  pub bytes-before : take n bs ≡ label_bytes js
  bytes-before = sym (take-take n (n + 2) bs (omega arith)) ∙ ap (take n) split ∙ take_at (label_bytes js) (k / 64 ∷ k % 64 ∷ []) n front

  pub last-minutes : get_or bs n 0 ≡ k / 64
  last-minutes =
      sym (get_or-take (n + 2) bs n 0 (omega arith)) ∙ ap (λ (l : List ℕ). get_or l n 0) split
      ∙ get_or_at (label_bytes js) (k / 64) (k % 64 ∷ []) 0 n front

  pub last_made : get_or bs (n + 1) 0 ≡ k % 64
  last_made =
      sym (get_or-take (n + 2) bs (n + 1) 0 (omega arith)) ∙ ap (λ (l : List ℕ). get_or l (n + 1) 0) split
      ∙ ap (λ (m : ℕ). get_or (label_bytes js ++ k / 64 ∷ k % 64 ∷ []) (m + 1) 0) (sym front)
      ∙ get_or-append-add (label_bytes js) (k / 64 ∷ k % 64 ∷ []) 1 0
