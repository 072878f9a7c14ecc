-- Reading bytes: document 01, "Bytes are judged from the left, each before the next is sought."
-- Assumes nothing.
use Rattle.std.specs.Prelude.{ℕ, zero, suc, List, [], ◌∷◌}

infixl 10 ◌>>=◌
-- A parser is done with a value, refuses by a number, or takes the next byte and goes on.
pub data Parser (A : Type 0) : Type 0 where
  done : A → Parser A
  refuse : ℕ → Parser A
  byte : (ℕ → Parser A) → Parser A

-- What comes of it: a refusal's number, or the value and the bytes that are left.
pub data Outcome (A : Type 0) : Type 0 where
  refused : ℕ → Outcome A
  took : A → List ℕ → Outcome A

-- Refusal 1: "a byte is needed and none is left".
abbrev pub run : {A : Type 0} → Parser A → List ℕ → Outcome A
run (done a) bytes = took a bytes
run (refuse n) bytes = refused n
run (byte k) [] = refused 1
run (byte k) (b ∷ bytes) = run (k b) bytes

-- One parser after another, for `do`.
abbrev pub ◌>>=◌ : {A B : Type 0} → Parser A → (A → Parser B) → Parser B
◌>>=◌ (done a) f = f a
◌>>=◌ (refuse n) f = refuse n
◌>>=◌ (byte k) f = byte (λ b. k b >>= f)

-- The parsers p i, p (i + 1), .., so many of them, one after another.
unfoldable pub in_order : {A : Type 0} → (ℕ → Parser A) → ℕ → ℕ → Parser (List A)
in_order p i zero = done []
in_order p i (suc n) = do
  a ← p i
  rest ← in_order p (suc i) n
  done (a ∷ rest)
