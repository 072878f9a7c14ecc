-- Laws of running parsers.
-- Assumes nothing.
use Rattle.std.specs.Prelude.{ℕ, zero, suc, ◌+◌, ◌≤◌, ◌<◌, ◌≡◌, refl, List, [], ◌∷◌, ◌++◌, length, get_or, drop}
use Rattle.std.proofs.Common.{add-one, ap, sym, ◌∙◌, true≢false, drop_of_length-le, drop-cons}
use Rattle.reader.specs.Parser.{Parser, done, refuse, byte, ◌>>=◌, in_order, Outcome, refused, took, run}

-- What comes of going on after an outcome.
abbrev pub and_then : {A B : Type 0} → Outcome A → (A → Parser B) → Outcome B
and_then (refused n) f = refused n
and_then (took a rest) f = run (f a) rest

pub run_bind : {A B : Type 0} (p : Parser A) (f : A → Parser B) (bytes : List ℕ) → run (p >>= f) bytes ≡ and_then (run p bytes) f
run_bind (done a) f bytes = refl
run_bind (refuse n) f bytes = refl
run_bind (byte k) f [] = refl
run_bind (byte k) f (b ∷ bytes) = run_bind (k b) f bytes

module _ {A : Type 0} (k : ℕ → Parser A) (bytes : List ℕ) (from : ℕ) where
  -- The next byte is there.
  pub run-byte : from < length bytes → run (byte k) (drop from bytes) ≡ run (k (get_or bytes from 0)) (drop (from + 1) bytes)
  run-byte h = rw (add-one from, drop-cons bytes from 0)

  -- The next byte is not there.
  pub run_none : length bytes ≤ from → run (byte k) (drop from bytes) ≡ refused 1
  run_none h = rw (drop_of_length-le bytes h)

pub took-same : {A : Type 0} {a b : A} {s t : List ℕ} → took a s ≡ took b t → a ≡ b
took-same h = cc

pub took-rest : {A : Type 0} {a b : A} {s t : List ℕ} → took a s ≡ took b t → s ≡ t
took-rest h = cc

-- A value behind a parser in two parts comes of both.
pub record Parts {A B : Type 0} (p : Parser A) (f : A → Parser B) (bytes : List ℕ) (b : B) (rest : List ℕ) : Type 0 where
  pub value : A
  pub middle : List ℕ
  pub first : run p bytes ≡ took value middle
  pub second : run (f value) middle ≡ took b rest

parts_at : {A B : Type 0} (p : Parser A) (f : A → Parser B) (bytes : List ℕ) (b : B) (rest : List ℕ) (o : Outcome A) → run p bytes ≡ o →
    and_then o f ≡ took b rest → Parts p f bytes b rest
parts_at p f bytes b rest (refused n) e h = absurd (true≢false cc)
parts_at p f bytes b rest (took a middle) e h = record { value = a; middle = middle; first = e; second = h }

pub parts : {A B : Type 0} (p : Parser A) (f : A → Parser B) (bytes : List ℕ) (b : B) (rest : List ℕ) → run (p >>= f) bytes ≡ took b rest → Parts p f bytes b rest
parts p f bytes b rest h = parts_at p f bytes b rest (run p bytes) refl (sym (run_bind p f bytes) ∙ h)

-- So many parsers in order give so many values.
pub order-length : {A : Type 0} (p : ℕ → Parser A) (i n : ℕ) (bytes : List ℕ) (l : List A) (rest : List ℕ) → run (in_order p i n) bytes ≡ took l rest → length l ≡ n
unfolding in_order
order-length p i zero bytes l rest h = sym (ap length (took-same h))
order-length p i (suc n) bytes l rest h =
    let a = parts (p i) _ bytes l rest h in
    let b = parts (in_order p (suc i) n) _ a.middle l rest a.second in
    sym (ap length (took-same b.second)) ∙ ap suc (order-length p (suc i) n a.middle b.value b.middle b.first)

-- The outcome with values in front that were taken before.
abbrev pub after : {A : Type 0} → List A → Outcome (List A) → Outcome (List A)
after taken (refused n) = refused n
after taken (took rest bytes) = took (taken ++ rest) bytes
