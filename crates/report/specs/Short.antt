-- The lines of an answer are short: a caller knows how many bytes to lend.
-- Assumes nothing.
use Rattle.std.specs.Prelude.{◌≡◌, Option, Some, None, Bool, true, false, cond, List, [], ◌∷◌, ◌++◌, ℕ, suc, ◌*◌, ◌^◌, ◌≤◌, ◌<◌, min, leb, length, get_or, take, drop}
use Rattle.std.proofs.Common.{sym, ap, ◌∙◌, arith, length-append, length-take, get_or-take}
use Prim.{Unit}
use Rattle.semantics.specs.Distinct.{distinct}
use Rattle.route.specs.Answers.{Answer}
use Rattle.route.specs.Answers.{Refused, NoRoute, Route}
use Rattle.report.specs.Lines.{decimal, charge_text, route_text, refused_text, step_texts, lines}
use Rattle.report.specs.Destination.{overwritten, room, filled, lines_into}
use Rattle.report.specs.Counting.{decimal-below}

-- The numbers of an answer are those of its types.
abbrev pub InRange : Answer → Type 0
InRange (Refused n) = n < 256
InRange NoRoute = Unit {0}
InRange (Route C n) = C < 2 ^ 32

-- So are the route bytes.
abbrev pub AreBytes : List ℕ → Type 0
AreBytes rs = (i : ℕ) → i < length rs → get_or rs i 0 < 256

byte-short : (n : ℕ) → n < 256 → length (decimal n) ≤ 3
byte-short n h = decimal-below 2 n (omega arith)

-- At most four bytes for a step.
steps-short : (rs : List ℕ) → AreBytes rs → length (step_texts rs) ≤ 4 * length rs
steps-short [] h = omega arith
steps-short (k ∷ ks) h =
    omega (
      arith,
      length-append (decimal k) (step_texts ks),
      byte-short k (h 0 (omega arith)),
      steps-short ks (λ i l. h (suc i) (omega arith)),
    )

taken-short : (n : ℕ) (rs : List ℕ) → AreBytes rs → length (step_texts (take n rs)) ≤ 4 * length rs
taken-short n rs h =
    let part : length (take n rs) ≡ min n (length rs) = length-take n rs in
    omega (arith, part, steps-short (take n rs) (λ i l. rw (get_or-take n rs i 0 (omega arith)) (h i (omega arith))))

pub lines-short : (answer : Answer) (rs : List ℕ) → InRange answer → AreBytes rs → length (lines answer rs) ≤ room (length rs)
unfolding lines
lines-short (Refused n) rs r h = omega (arith, length-append (refused_text ++ decimal n) (10 ∷ []), length-append refused_text (decimal n), byte-short n r)
lines-short NoRoute rs r h = omega arith
lines-short (Route C n) rs r h =
    omega (
      arith,
      length-append (charge_text ++ decimal C ++ route_text ++ step_texts (take n rs)) (10 ∷ []),
      length-append (charge_text ++ decimal C ++ route_text) (step_texts (take n rs)),
      length-append (charge_text ++ decimal C) route_text,
      length-append charge_text (decimal C),
      decimal-below 9 C (omega arith),
      taken-short n rs h,
    )

-- What is written is within the destination.
pub written-within : (answer : Answer) (rs d : List ℕ) {w : Option ℕ} {n : ℕ} {e : List ℕ} → filled w e ≡ lines_into answer rs d → w ≡ Some n →
    n ≤ length e
unfolding lines_into
written-within answer rs d {w} {n} {e} q t = go (leb (room (length rs)) (length d)) (ap (λ (v : Option ℕ). filled v e) (sym t) ∙ q)
  where
    go : (b : Bool) → filled (Some n) e ≡ cond b (filled (Some (length (lines answer rs))) (overwritten (lines answer rs) d)) (filled None d) → n ≤ length e
    go true q =
        let same : Some n ≡ Some (length (lines answer rs)) = ap (λ f. f.written) q in
        let count : n ≡ length (lines answer rs) = cc in
        omega (arith, ap (λ f. length f.bytes) q, length-append (lines answer rs) (drop (length (lines answer rs)) d))
    go false q =
        let clash : Some n ≡ None = ap (λ f. f.written) q in
        distinct cc
