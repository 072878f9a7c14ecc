-- The bytes of a table that stand in it as they are read: the header and the ceilings.
-- Assumes nothing.
use Rattle.std.proofs.Common.{drop-drop}
use Prim.Native.Nat.{ℕ, ◌+◌, ◌-◌, ◌≤◌}
use native.Mathlib.Omega.{arith}
use mathlib.Core.Path.{◌≡◌, refl, sym, ap, ◌∙◌}
use mathlib.Core.Bool.{Bool, true, false, cond, ◌&&◌}
use mathlib.Core.List.{List, [], ◌∷◌}
use borrow.Author.Tests.{leb-true}
use lib.Dec.{leb}
use lib.ListN.{length, drop, set}
use lib.Seq.{sets-eq}
use Rattle.semantics.specs.Distinct.{distinct}
use Rattle.reader.specs.Parser.{done, refuse, Outcome, took, run}
use Rattle.reader.specs.Format.{within, header}
use Rattle.reader.specs.Step.{Took, Copied, HeaderWrote}
use Rattle.reader.specs.Theorems.Running.{took-same, took-rest}
use Rattle.reader.proofs.Giving.{part-taken, known-by}

-- A byte that was read within a range is in it, and is one.
module _ (refusal least most b : ℕ) (rest : List ℕ) where
  tested-took : (x : ℕ) (l : List ℕ) (t u : Bool) → leb least x ≡ t → leb x most ≡ u → run (cond (t && u) (done x) (refuse refusal)) l ≡ took b rest →
      (least ≤ b) × (b ≤ most) × (rest ≡ l)
  tested-took x l true true g h e =
      let same : x ≡ b = took-same e in
      (rw same at (leb-true least x g), rw same at (leb-true x most h), sym (took-rest e))
  tested-took x l true false g h e = distinct cc
  tested-took x l false u g h e = distinct cc

  within-took : (l : List ℕ) → run (within refusal least most) l ≡ took b rest → (least ≤ b) × (b ≤ most) × (rest ≡ drop 1 l)
  unfolding within
  within-took [] e = distinct cc
  within-took (x ∷ l) e = tested-took x l (leb least x) (leb x most) refl refl e

-- It is written.
pub copied : {least most at v : ℕ} {bytes : List ℕ} (next : ℕ) (t : List ℕ) → run (within 2 least most) (drop at bytes) ≡ took v (drop next bytes) →
    Took bytes (at + 1) (Copied least most t at (set t at v) v) (run (within 2 least most) (drop at bytes))
copied {least} {most} {at} {v} {bytes} next t e =
    let w = within-took 2 least most v (drop next bytes) (drop at bytes) e in
    record {
      value = v;
      taken = e ∙ ap (λ (l : List ℕ). took v l) (w.2 ∙ drop-drop 1 at bytes);
      holds = record { value = refl; is = refl; range = (w.0, w.1) };
    }

pub copied-value : {least most at next v : ℕ} {bytes t t' : List ℕ} {o : Outcome ℕ} → Took bytes next (Copied least most t at t' v) o → o ≡ took v (drop next bytes)
copied-value k = known-by (λ b w. w.value) k

-- The header is written.
pub header-whole : {bytes t t₁ t₂ t₃ t₄ : List ℕ} {m n e g : ℕ} → 4 ≤ length t → Took bytes 1 (Copied 1 16 t 0 t₁ m) (run (within 2 1 16) bytes) →
    Took bytes 2 (Copied 1 3 t₁ 1 t₂ n) (run (within 2 1 3) (drop 1 bytes)) → Took bytes 3 (Copied 0 64 t₂ 2 t₃ e) (run (within 2 0 64) (drop 2 bytes)) →
    Took bytes 4 (Copied 0 (m - 1) t₃ 3 t₄ g) (run (within 2 0 (m - 1)) (drop 3 bytes)) → Took bytes 4 (HeaderWrote t t₄) (run header bytes)
unfolding header
header-whole {bytes} {t} {m = m} {n} {e} {g} long a b c d = record {
  value = record { modes = m; timers = n; moves = e; goal = g };
  taken =
      part-taken (within 2 1 16) _ bytes (copied-value a) ∙ part-taken (within 2 1 3) _ (drop 1 bytes) (copied-value b)
      ∙ part-taken (within 2 0 64) _ (drop 2 bytes) (copied-value c) ∙ part-taken (within 2 0 (m - 1)) _ (drop 3 bytes) (copied-value d);
  holds = record {
    is =
        d.holds.is ∙ ap (λ (u : List ℕ). set u 3 g) (c.holds.is ∙ ap (λ (u : List ℕ). set u 2 e) (b.holds.is ∙ ap (λ (u : List ℕ). set u 1 n) a.holds.is))
        ∙ sets-eq (m ∷ n ∷ e ∷ g ∷ []) t 0 long;
    range = omega (arith, a.holds.range, b.holds.range, c.holds.range);
  };
}
