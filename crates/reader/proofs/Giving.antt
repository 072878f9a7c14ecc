-- How what a function gives follows from what the functions that it calls give.
-- Assumes nothing.
use Rattle.std.specs.Prelude.{Result, Ok, Err, MatchResult, IfOk, IsErrAnd}
use Prim.Native.Nat.{ℕ, ◌/◌, ◌%◌, ◌^◌, ◌≤◌, ◌<◌}
use native.Mathlib.Nat.{div-one}
use native.Mathlib.Omega.{arith}
use mathlib.Core.Path.{◌≡◌, sym, ap, ap₂, subst, ◌∙◌}
use mathlib.Core.Bool.{Bool, cond}
use mathlib.Core.List.{List}
use borrow.Author.Tests.{le-leb, lt-leb, le-ltb, lt-ltb}
use lib.Dec.{eqb}
use lib.ListN.{drop}
use Rattle.semantics.specs.Distinct.{distinct}
use Rattle.reader.specs.Parser.{Parser, done, refuse, ◌>>=◌, Outcome, refused, took, run}
use Rattle.reader.specs.Format.{any_byte, tested, between, within, if_stands, map_present, bit_map, amount_byte, reset_present, reset_byte}
use Rattle.table.specs.declared.refusals.Refusal.{Refusal}
use Rattle.reader.specs.Step.{Took, Gives}
use Rattle.reader.specs.Theorems.Running.{run_bind, and_then, parts, took-same, took-rest}

-- A part that is refused refuses the whole.
pub part-refused : {A B : Type 0} {n : ℕ} (p : Parser A) (f : A → Parser B) (s : List ℕ) → run p s ≡ refused n → run (p >>= f) s ≡ refused n
part-refused p f s e = run_bind p f s ∙ ap (λ (o : Outcome _). and_then o f) e

-- Behind a part that was taken, the whole goes on with its value.
pub part-taken : {A B : Type 0} {a : A} {rest : List ℕ} (p : Parser A) (f : A → Parser B) (s : List ℕ) → run p s ≡ took a rest → run (p >>= f) s ≡ run (f a) rest
part-taken p f s e = run_bind p f s ∙ ap (λ (o : Outcome _). and_then o f) e

abbrev pair : {A B : Type 0} → A → B → A × B
pair a b = (a, b)

-- Two parts that were read at once, where the whole has them one after the other.
module _ {A B C : Type 0} (p : Parser A) (q : A → Parser B) (f : A → B → Parser C) (s : List ℕ) where
  second-refused : (n : ℕ) (a : A) (o : Outcome B) → and_then o (λ b. done (pair a b)) ≡ refused n → and_then o (f a) ≡ refused n
  second-refused n a (refused m) e = let same : m ≡ n = cc in ap (λ (k : ℕ). refused k) same
  second-refused n a (took b rest) e = distinct cc

  either-refused : (n : ℕ) (o : Outcome A) → and_then o (λ a. q a >>= λ b. done (pair a b)) ≡ refused n → and_then o (λ a. q a >>= f a) ≡ refused n
  either-refused n (refused m) e = let same : m ≡ n = cc in ap (λ (k : ℕ). refused k) same
  either-refused n (took a rest) e = run_bind (q a) (f a) rest ∙ second-refused n a (run (q a) rest) (sym (run_bind (q a) _ rest) ∙ e)

  pub two-refused : {n : ℕ} → run (p >>= λ a. q a >>= λ b. done (pair a b)) s ≡ refused n → run (p >>= λ a. q a >>= f a) s ≡ refused n
  two-refused {n} e = run_bind p _ s ∙ either-refused n (run p s) (sym (run_bind p _ s) ∙ e)

  pub two-taken : {c : A × B} {rest : List ℕ} → run (p >>= λ a. q a >>= λ b. done (pair a b)) s ≡ took c rest → run (p >>= λ a. q a >>= f a) s ≡ run (f c.0 c.1) rest
  two-taken {c} {rest} e =
      let one = parts p _ s c rest e in
      let two = parts (q one.value) _ one.middle c rest one.second in
      part-taken p _ s one.first ∙ part-taken (q one.value) _ one.middle two.first
      ∙ ap₂ (λ (d : A × B) (l : List ℕ). run (f d.0 d.1) l) (took-same two.second) (took-rest two.second)

-- A refusal that is passed up by a `?`.
pub passed-up : {B E : Type 0} (r : Result B E) (e : E) (P : B → Type 0) (Q : E → Type 0) → IsErrAnd r (λ y. y ≡ e) → Q e → MatchResult r P Q
passed-up (Ok b) e P Q is q = absurd is
passed-up (Err y) e P Q is q = subst Q (sym is) q

-- Of a result that is a refusal nothing is said where it would be none.
pub refused-only : {B E : Type 0} (P : B → Type 0) (r : Result B E) (e : E) → IsErrAnd r (λ y. y ≡ e) → IfOk r P
refused-only P (Ok b) e is = absurd is
refused-only P (Err y) e is = tt

-- What was taken, where its value is known.
pub known-by : {A : Type 0} {bytes : List ℕ} {next : ℕ} {v : A} {P : A → Type 0} {o : Outcome A} → ((a : A) → P a → v ≡ a) → Took bytes next P o → o ≡ took v (drop next bytes)
known-by {bytes = bytes} {next = next} k t = t.taken ∙ ap (λ (a : _). took a (drop next bytes)) (sym (k t.value t.holds))

pub known : {A : Type 0} {bytes : List ℕ} {next : ℕ} {v : A} {o : Outcome A} → Took bytes next (λ a. v ≡ a) o → o ≡ took v (drop next bytes)
known t = known-by (λ a e. e) t

-- So the whole goes on with it.
pub part-known : {A B : Type 0} {bytes : List ℕ} {next : ℕ} {v : A} (p : Parser A) (f : A → Parser B) (s : List ℕ) → Took bytes next (λ a. v ≡ a) (run p s) →
    run (p >>= f) s ≡ run (f v) (drop next bytes)
part-known p f s t = part-taken p f s (known t)

-- The last part, whose value makes the whole's.
pub part-last : {A B : Type 0} (bytes : List ℕ) (P : A → Type 0) (Q : B → Type 0) (p : Parser A) (f : A → B) (s : List ℕ) {o : Outcome B} (r : Result ℕ Refusal) →
    o ≡ run (p >>= λ a. done (f a)) s → Gives bytes (λ next. next) (λ next. P) (run p s) r →
    ((next : ℕ) (a : A) → run p s ≡ took a (drop next bytes) → P a → Q (f a)) → Gives bytes (λ next. next) (λ next. Q) o r
part-last bytes P Q p f s (Ok next) e t k = record { value = f t.value; taken = e ∙ part-taken p _ s t.taken; holds = k next t.value t.taken t.holds }
part-last bytes P Q p f s (Err n) e q k = e ∙ part-refused p _ s q

-- The bit of the low byte.
pub low_same : (map : ℕ) (s : List ℕ) → run (amount_byte map 0) s ≡ run (if_stands (eqb (map % 2) 1) any_byte) s
unfolding amount_byte
low_same map s = ap (λ (m : ℕ). run (if_stands (eqb (m % 2) 1) any_byte) s) (div-one map)

-- A byte that was read goes on to its test.
module _ {rest : List ℕ} (s : List ℕ) (b : ℕ) (g : run any_byte s ≡ took b rest) where
  tested-on : {o : Outcome ℕ} (passes : ℕ → Bool) (number : ℕ) → run (cond (passes b) (done b) (refuse number)) rest ≡ o → run (tested passes number) s ≡ o
  tested-on passes number k = part-taken any_byte _ s g ∙ k

  -- A byte that is wanted within a range is below it, above it or right.
  module _ (number least most : ℕ) where
    pub within-below : b < least → run (within number least most) s ≡ refused number
    unfolding within
    within-below h = tested-on (between least most) number (rw (lt-leb least b h))

    pub within-above : least ≤ b → most < b → run (within number least most) s ≡ refused number
    unfolding within
    within-above h k = tested-on (between least most) number (rw (le-leb least b h, lt-leb b most k))

    pub within-right : least ≤ b → b ≤ most → run (within number least most) s ≡ took b rest
    unfolding within
    within-right h k = tested-on (between least most) number (rw (le-leb least b h, le-leb b most k))

  module _ (n limit : ℕ) (e : limit ≡ 2 ^ n) where
    -- A bit map: a bit of the first three or of the further three is for an absent timer, or none is.
    pub map_first : limit ≤ b / 2 % 8 → run (bit_map n) s ≡ refused 3
    unfolding bit_map
    map_first h = tested-on (map_present n) 3 (rw (le-ltb (b / 2 % 8) (2 ^ n) (omega arith)))

    pub map-further : b / 2 % 8 < limit → limit ≤ b / 16 % 8 → run (bit_map n) s ≡ refused 3
    unfolding bit_map
    map-further k h = tested-on (map_present n) 3 (rw (lt-ltb (b / 2 % 8) (2 ^ n) (omega arith), le-ltb (b / 16 % 8) (2 ^ n) (omega arith)))

    pub map-right : b / 2 % 8 < limit → b / 16 % 8 < limit → run (bit_map n) s ≡ took b rest
    unfolding bit_map
    map-right k h = tested-on (map_present n) 3 (rw (lt-ltb (b / 2 % 8) (2 ^ n) (omega arith), lt-ltb (b / 16 % 8) (2 ^ n) (omega arith)))

    -- A reset byte: a bit below bit 7 is for no timer that is there, or none is.
    pub reset-wrong : limit ≤ b % 128 → run (reset_byte n) s ≡ refused 3
    unfolding reset_byte
    reset-wrong h = tested-on (reset_present n) 3 (rw (le-ltb (b % 128) (2 ^ n) (omega arith)))

    pub reset-right : b % 128 < limit → run (reset_byte n) s ≡ took b rest
    unfolding reset_byte
    reset-right h = tested-on (reset_present n) 3 (rw (lt-ltb (b % 128) (2 ^ n) (omega arith)))
