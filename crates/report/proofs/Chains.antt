-- The lines of a refusal and of a route are their texts put one behind another.
-- Assumes nothing.
use mathlib.Core.Path.{◌≡◌, refl}
use mathlib.Core.List.{List, [], ◌∷◌, ◌++◌}
use Prim.Native.Nat.{ℕ, ◌+◌, ◌≤◌}
use native.Mathlib.Omega.{arith}
use lib.ListN.{length, take, length-append}
use Rattle.route.specs.Answers.{Answer}
use Rattle.route.specs.Answers.{Refused, NoRoute, Route}
use Rattle.report.specs.Lines.{decimal, charge_text, route_text, no_route_text, refused_text, step_texts, lines}
use Rattle.report.specs.Put.{Put}
use Rattle.report.proofs.Putting.{put_both}

-- There is room for a refusal's line.
pub refusal-room : (n m : ℕ) → length (lines (Refused n) []) ≤ m → length (refused_text ++ decimal n) + 1 ≤ m
unfolding lines
refusal-room n m h = omega (arith, h, length-append (refused_text ++ decimal n) (10 ∷ []))

pub refusal-put :
    (n : ℕ) {d : List ℕ} {next : ℕ} {e : List ℕ} {last : ℕ} {f : List ℕ} → Put (refused_text ++ decimal n) 0 d next e → Put (10 ∷ []) next e last f →
    length (lines (Refused n) []) ≤ length d → Put (lines (Refused n) []) 0 d last f
unfolding lines
refusal-put n p q h = put_both p (omega (arith, refusal-room n _ h)) q

-- There is room for a route's lines.
pub route-room : (C n : ℕ) (rs : List ℕ) (m : ℕ) → length (lines (Route C n) rs) ≤ m →
    length (charge_text ++ decimal C) + 6 + length (step_texts (take n rs)) + 1 ≤ m
unfolding lines
route-room C n rs m h =
    omega (
      arith,
      h,
      length-append (charge_text ++ decimal C ++ route_text ++ step_texts (take n rs)) (10 ∷ []),
      length-append (charge_text ++ decimal C ++ route_text) (step_texts (take n rs)),
      length-append (charge_text ++ decimal C) route_text,
    )

module _ (C n : ℕ) (rs : List ℕ) {d : List ℕ} {a b c z : ℕ} {d₁ d₂ d₃ d₄ : List ℕ}
    (p : Put (charge_text ++ decimal C) 0 d a d₁) (q : Put route_text a d₁ b d₂) (r : Put (step_texts (take n rs)) b d₂ c d₃) (s : Put (10 ∷ []) c d₃ z d₄)
    (h : length (lines (Route C n) rs) ≤ length d) where
  words : Put (charge_text ++ decimal C ++ route_text) 0 d b d₂
  words = put_both p (omega (arith, route-room C n rs (length d) h)) q

  words-steps : Put (charge_text ++ decimal C ++ route_text ++ step_texts (take n rs)) 0 d c d₃
  words-steps = put_both words (omega (arith, route-room C n rs (length d) h, length-append (charge_text ++ decimal C) route_text)) r

  pub route-put : Put (lines (Route C n) rs) 0 d z d₄
  unfolding lines
  route-put =
      put_both words-steps
      (omega (
        arith,
        route-room C n rs (length d) h,
        length-append (charge_text ++ decimal C) route_text,
        length-append (charge_text ++ decimal C ++ route_text) (step_texts (take n rs)),
      ))
      s

-- What each answer prints.
pub lines-refused : (n : ℕ) (rs : List ℕ) {x : Answer} → x ≡ Refused n → lines x rs ≡ lines (Refused n) []
unfolding lines
lines-refused n rs e = rw e refl

pub lines_none : (rs : List ℕ) {x : Answer} → x ≡ NoRoute → lines x rs ≡ no_route_text ++ 10 ∷ []
unfolding lines
lines_none rs e = rw e refl

pub lines-route : (C n : ℕ) (rs : List ℕ) {x : Answer} → x ≡ Route C n → lines x rs ≡ lines (Route C n) rs
lines-route C n rs e = rw e refl
