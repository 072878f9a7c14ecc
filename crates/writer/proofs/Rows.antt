-- Loops that write parts one after another.
-- Assumes nothing.
use Prim.Native.Nat.{ℕ, suc, ◌+◌, ◌*◌, ◌≤◌, ◌<◌}
use native.Mathlib.Nat.{mul-add, mul-one}
use native.Mathlib.Numerals.{add-one}
use native.Mathlib.Omega.{arith}
use mathlib.Core.Path.{◌≡◌, sym, ap, ◌∙◌}
use mathlib.Core.List.{List, [], ◌∷◌, ◌++◌}
use borrow.Author.Tests.{eq-eqb, ne_eqb}
use Rattle.std.specs.Prelude.{Result, Ok, Err, IsErrAnd}
use Rattle.std.proofs.lemmas.Result.{err_from_is_err_and}
use lib.ListN.{length, get_or, take, drop}
use lib.Seq.{take-suc, split_at, take_all}
use Rattle.table.specs.declared.refusals.Refusal.{Refusal}
use Rattle.parts.specs.declared.pens.Pen.{Pen}
use Rattle.parts.specs.Part.{Part, ◌then◌, each}
use Rattle.parts.specs.Puts.{Puts}
use Rattle.parts.specs.Theorems.Putting.{some-number, each_append, then-nothing, puts_then}

-- The parts of a list, each of at most so many bytes.
module _ {A : Type 0} (most : ℕ) (part : A → Part) (l : List A) where
  -- The first i of them are put.
  pub record Row (old new : Pen) (i : ℕ) : Type 0 where
    pub few : i ≤ length l
    pub puts : Puts (most * i) (each part (take i l)) old (Ok tt) new

  module _ {old pen new : Pen} {i : ℕ} {a : A} (d : A) where
    -- One more.
    pub row_more : Row old pen i → i < length l → get_or l i d ≡ a → Puts most (part a) pen (Ok tt) new → Row old new (i + 1)
    row_more row h e v =
        let one : take (suc i) l ≡ take i l ++ a ∷ [] = take-suc l i d h ∙ ap (λ (b : A). take i l ++ b ∷ []) e in
        let parts : each part (take (i + 1) l) ≡ (each part (take i l) then part a) =
        rw (add-one i) (ap (each part) one ∙ each_append part (take i l) (a ∷ []) ∙ ap (λ (p : Part). each part (take i l) then p) (then-nothing (part a))) in
        let wide : most * i + most ≡ most * (i + 1) = omega (arith, mul-add most i 1, mul-one most) in
        record { few = omega arith; puts = rw (parts, ← wide) (puts_then row.puts v) }

    -- One that is refused, by a `?`.
    pub row-refused : {b : ℕ} {r : Refusal} {s : Result (Unit {0}) Refusal} → Row old pen i → i < length l → get_or l i d ≡ a →
        Puts most (part a) pen (Err r) new → IsErrAnd s (λ x. x ≡ r) → Puts b (each part l) old s new
    row-refused {r = r} {s = s} row h e v up =
        let rest = drop (suc i) l in
        let parts : each part l ≡ (each part (take i l) then (part a then each part rest)) =
        ap (each part) (split_at l i d h ∙ ap (λ (b : A). take i l ++ b ∷ rest) e) ∙ each_append part (take i l) (a ∷ rest) in
        let passed = err_from_is_err_and s up in
        rw (parts, passed.1, passed.2) (record {
          fault = v.fault ∙ rw (eq-eqb (each part (take i l)).fault 0 (sym row.puts.fault), ne_eqb (part a).fault 0 (λ y. some-number r (v.fault ∙ y)));
          few = tt;
          put = tt;
        })

  pub row-all : {old new : Pen} {i : ℕ} → Row old new i → length l ≤ i → Puts (most * i) (each part l) old (Ok tt) new
  row-all {i = i} row h = rw (sym (take_all i l h)) row.puts
