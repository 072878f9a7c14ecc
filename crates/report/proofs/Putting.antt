-- Texts put one behind another.
-- Assumes nothing.
use mathlib.Core.Path.{◌≡◌, refl, sym, ap, ap₂, ◌∙◌}
use mathlib.Core.List.{List, [], ◌++◌, append_assoc, append-nil}
use Prim.Native.Nat.{ℕ, ◌+◌, ◌≤◌}
use native.Mathlib.Omega.{arith}
use lib.ListN.{length, take, drop, length-append, take-append-drop}
use lib.Seq.{length-take-le, take_at, drop-append-add, drop-drop}
use Rattle.report.specs.Put.{Put}

-- No text.
pub put-none : (place : ℕ) (d : List ℕ) → Put [] place d place d
put-none place d =
    let e : place + 0 ≡ place = omega arith in
    record { behind = omega arith; bytes = sym (rw (e, append-nil) (take-append-drop place d)) }

-- What was copied in place of as many bytes is a text put.
pub put-slice : (place : ℕ) (d s : List ℕ) {t : List ℕ} → t ≡ s → Put s place d (place + length s) (take place d ++ (t ++ drop (length s) (drop place d)))
put-slice place d s e = record { behind = refl; bytes = rw (e, drop-drop (length s) place d) (sym (append_assoc (take place d) s (drop (place + length s) d))) }

module _ {w : List ℕ} {place : ℕ} {d : List ℕ} {next : ℕ} {e : List ℕ} (p : Put w place d next e) (room : place + length w ≤ length d) where
  front : length (take place d) ≡ place
  front = length-take-le place d (omega arith)

  front-text : length (take place d ++ w) ≡ next
  front-text = omega (arith, length-append (take place d) w, front, p.behind)

  -- Up to the place behind the text; and from there on.
  put_front : take next e ≡ take place d ++ w
  put_front = ap (take next) p.bytes ∙ take_at (take place d ++ w) (drop (place + length w) d) next front-text

  put_rest : (n : ℕ) → drop (next + n) e ≡ drop (place + length w + n) d
  put_rest n =
      ap₂ (λ (k : ℕ) (l : List ℕ). drop (k + n) l) (sym front-text) p.bytes
      ∙ drop-append-add (take place d ++ w) (drop (place + length w) d) n ∙ drop-drop n (place + length w) d

  -- A text behind a text.
  pub put_both : {v : List ℕ} {last : ℕ} {f : List ℕ} → Put v next e last f → Put (w ++ v) place d last f
  put_both {v} {last} {f} q =
      let sum : length (w ++ v) ≡ length w + length v = length-append w v in
      let far : place + length w + length v ≡ place + length (w ++ v) = omega arith in
      record {
        behind = omega (arith, p.behind, q.behind);
        bytes =
            q.bytes
            ∙ ap₂ (λ (a b : List ℕ). a ++ v ++ b) put_front (put_rest (length v))
            ∙ ap (λ (k : ℕ). ((take place d ++ w) ++ v) ++ drop k d) far
            ∙ ap (λ (l : List ℕ). l ++ drop (place + length (w ++ v)) d) (append_assoc (take place d) w v);
      }
