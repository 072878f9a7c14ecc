-- Bytes behind the first 920 do not matter: the parser takes at most 919, and of those that are left only counts whether there are any.
-- Assumes nothing.
use Prim.Native.Nat.{ℕ, zero, suc, ◌+◌, ◌*◌, ◌-◌, ◌≤◌, ◌<◌}
use Rattle.std.proofs.Math.Nat.{suc-mul}
use Rattle.std.proofs.Common.{arith, leb-true}
use Rattle.std.specs.Prelude.{◌≡◌, refl, Bool, true, false, cond, ◌&&◌, List, [], ◌∷◌, leb, take}
use Rattle.semantics.specs.Regions.Compare.{and-true-iff}
use Rattle.reader.specs.Parser.{Parser, done, refuse, byte, ◌>>=◌, in_order, Outcome, refused, took, run}
use Rattle.table.specs.Fields.{Fields}
use Rattle.table.specs.Meaning.{stands}
use Rattle.reader.specs.Format.{longest, any_byte, tested, between, within, if_stands, map_present, bit_map, amount_byte, conditions, reset_present, reset_byte, mode_record, move_record, Header, header, table}
use Rattle.reader.specs.Read.{judge, read}

-- The parser takes at most d bytes, and the values that it gives are good.
abbrev Takes : {A : Type 0} → (A → Type 0) → Parser A → ℕ → Type 0
Takes Good (done a) d = Good a
Takes Good (refuse n) d = Unit {0}
Takes Good (byte k) d = (1 ≤ d) × ((b : ℕ) → Takes Good (k b) (d - 1))

-- Any value will do.
abbrev Any : {A : Type 0} → A → Type 0
Any a = Unit {0}

takes-more : {A : Type 0} (Good : A → Type 0) (p : Parser A) (d e : ℕ) → d ≤ e → Takes Good p d → Takes Good p e
takes-more Good (done a) d e l h = h
takes-more Good (refuse n) d e l h = tt
takes-more Good (byte k) d e l h = (omega (arith, h.0), λ b. takes-more Good (k b) (d - 1) (e - 1) (omega arith) (h.1 b))

-- One parser after another.
takes-both : {A B : Type 0} (Good : A → Type 0) (Best : B → Type 0) (p : Parser A) (f : A → Parser B) (d e t : ℕ) → d + e ≤ t → Takes Good p d →
    ((a : A) → Good a → Takes Best (f a) e) → Takes Best (p >>= f) t
takes-both Good Best (done a) f d e t l h g = takes-more Best (f a) e t (omega arith) (g a h)
takes-both Good Best (refuse n) f d e t l h g = tt
takes-both Good Best (byte k) f d e t l h g =
    (omega (arith, h.0), λ b. takes-both Good Best (k b) f (d - 1) e (t - 1) (omega (arith, h.0)) (h.1 b) g)

module _ {A : Type 0} (p : ℕ → Parser A) (k : ℕ) (h : (i : ℕ) → Takes Any (p i) k) where
  takes-order : (i n : ℕ) → Takes Any (in_order p i n) (n * k)
  unfolding in_order
  takes-order i zero = tt
  takes-order i (suc n) =
      takes-both Any Any (p i) _ k (n * k) (suc n * k) (omega (arith, suc-mul n k)) (h i)
      (λ a u. takes-both Any Any (in_order p (suc i) n) _ (n * k) 0 (n * k) (omega arith) (takes-order (suc i) n) (λ rest w. tt))

-- The fields.
takes-test : (Good : ℕ → Type 0) (t : Bool) (v n d : ℕ) → (t ≡ true → Good v) → Takes Good (cond t (done v) (refuse n)) d
takes-test Good true v n d g = g refl
takes-test Good false v n d g = tt

takes-within : (n least most : ℕ) → Takes (λ b. b ≤ most) (within n least most) 1
unfolding within
takes-within n least most = (
  omega arith,
  λ b. takes-test (λ b. b ≤ most) (leb least b && leb b most) b n (1 - 1) (λ e. leb-true b most ((and-true-iff (leb least b) (leb b most)).0 e).1),
)

takes-tested : (passes : ℕ → Bool) (n : ℕ) → Takes Any (tested passes n) 1
takes-tested passes n = (omega arith, λ b. takes-test Any (passes b) b n (1 - 1) (λ e. tt))

takes-byte : (n least most : ℕ) → Takes Any (within n least most) 1
unfolding within
takes-byte n least most = takes-tested (between least most) n

takes-optional : (t : Bool) (p : Parser ℕ) → Takes Any p 1 → Takes Any (if_stands t p) 1
takes-optional true p h = h
takes-optional false p h = tt

takes-map : (n : ℕ) → Takes Any (bit_map n) 1
unfolding bit_map
takes-map n = takes-tested (map_present n) 3

takes-reset : (n : ℕ) → Takes Any (reset_byte n) 1
unfolding reset_byte
takes-reset n = takes-tested (reset_present n) 3

takes-amount : (announcing bit : ℕ) → Takes Any (amount_byte announcing bit) 1
unfolding amount_byte
takes-amount announcing bit = takes-optional (stands announcing bit) any_byte (omega arith, λ b. tt)

takes-conditions : (map : ℕ) → Takes Any (conditions map) 6
unfolding conditions
takes-conditions map = takes-order _ 1 (λ i. takes-optional (stands map i) (within 4 16 95) (takes-byte 4 16 95)) 1 6

-- The records.
takes-mode : (n : ℕ) → Takes Any (mode_record n) 9
unfolding mode_record
takes-mode n =
    takes-both Any Any (bit_map n) _ 1 8 9 (omega arith) (takes-map n) (λ map u.
    takes-both Any Any (amount_byte map 0) _ 1 7 8 (omega arith) (takes-amount map 0) (λ low u.
    takes-both Any Any (conditions map) _ 6 1 7 (omega arith) (takes-conditions map) (λ cs u.
    takes-both Any Any (amount_byte map 7) _ 1 0 1 (omega arith) (takes-amount map 7) (λ high u. tt))))

takes-move : (m n : ℕ) → Takes Any (move_record m n) 12
unfolding move_record
takes-move m n =
    let named = takes-byte 5 0 (m - 1) in
    takes-both Any Any (bit_map n) _ 1 11 12 (omega arith) (takes-map n) (λ map u.
    takes-both Any Any (within 5 0 (m - 1)) _ 1 10 11 (omega arith) named (λ source u.
    takes-both Any Any (within 5 0 (m - 1)) _ 1 9 10 (omega arith) named (λ target u.
    takes-both Any Any (amount_byte map 0) _ 1 8 9 (omega arith) (takes-amount map 0) (λ low u.
    takes-both Any Any (conditions map) _ 6 2 8 (omega arith) (takes-conditions map) (λ cs u.
    takes-both Any Any (if_stands (stands map 7) (reset_byte n)) _ 1 1 2 (omega arith) (takes-optional (stands map 7) (reset_byte n) (takes-reset n)) (λ reset u.
    takes-both Any Any (amount_byte reset 7) _ 1 0 1 (omega arith) (takes-amount reset 7) (λ high u. tt)))))))

-- The counts are in their ranges.
record Counts (h : Header) : Type 0 where
  modes : h.modes ≤ 16
  timers : h.timers ≤ 3
  moves : h.moves ≤ 64

takes-header : Takes Counts header 4
unfolding header
takes-header =
    takes-both (λ b. b ≤ 16) Counts (within 2 1 16) _ 1 3 4 (omega arith) (takes-within 2 1 16) (λ m a.
    takes-both (λ b. b ≤ 3) Counts (within 2 1 3) _ 1 2 3 (omega arith) (takes-within 2 1 3) (λ n b.
    takes-both (λ b. b ≤ 64) Counts (within 2 0 64) _ 1 1 2 (omega arith) (takes-within 2 0 64) (λ e c.
    takes-both Any Counts (within 2 0 (m - 1)) _ 1 0 1 (omega arith) (takes-byte 2 0 (m - 1)) (λ goal u.
    record { modes = a; timers = b; moves = c }))))

-- "the longest table has 919 bytes".
takes-table : Takes Any table longest
unfolding table
takes-table =
    takes-both Counts Any header _ 4 915 longest (omega arith) takes-header (λ h c.
    takes-both Any Any (in_order (λ i. within 2 1 15) 0 h.timers) _ (h.timers * 1) 912 915 (omega (arith, c.timers))
    (takes-order _ 1 (λ i. takes-byte 2 1 15) 0 h.timers) (λ cs u.
    takes-both Any Any (in_order (λ i. mode_record h.timers) 0 h.modes) _ (h.modes * 9) 768 912 (omega (arith, c.modes))
    (takes-order _ 9 (λ i. takes-mode h.timers) 0 h.modes) (λ ms u.
    takes-both Any Any (in_order (λ i. move_record h.modes h.timers) 0 h.moves) _ (h.moves * 12) 0 768 (omega (arith, c.moves))
    (takes-order _ 12 (λ i. takes-move h.modes h.timers) 0 h.moves) (λ es u. tt))))

-- The same refusal; or the same value, and bytes left over in both or in none.
data Alike {A : Type 0} : Outcome A → Outcome A → Type 0 where
  same : {n : ℕ} → Alike (refused n) (refused n)
  left : {a : A} (n : ℕ) (rest : List ℕ) → Alike (took a (take (suc n) rest)) (took a rest)

-- A parser that takes at most d bytes, run on more than d of them.
run-alike : {A : Type 0} (p : Parser A) (d n : ℕ) → Takes Any p d → d ≤ n → (bytes : List ℕ) → Alike (run p (take (suc n) bytes)) (run p bytes)
run-alike (done a) d n h l bytes = left n bytes
run-alike (refuse m) d n h l bytes = same
run-alike (byte k) d n h l [] = same
run-alike (byte k) d zero h l (b ∷ bytes) = absurd (omega (arith, h.0))
run-alike (byte k) d (suc n) h l (b ∷ bytes) = run-alike (k b) (d - 1) n (h.1 b) (omega arith) bytes

judge-alike : (o r : Outcome Fields) → Alike o r → judge o ≡ judge r
judge-alike o r same = refl
judge-alike o r (left n []) = refl
judge-alike o r (left n (b ∷ rest)) = refl

pub longer-same : (bytes : List ℕ) (n : ℕ) → longest < n → read (take n bytes) ≡ read bytes
unfolding read
longer-same bytes zero h = absurd (omega arith)
longer-same bytes (suc n) h = judge-alike (run table (take (suc n) bytes)) (run table bytes) (run-alike table longest n takes-table (omega arith) bytes)
