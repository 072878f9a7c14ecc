-- How what a function writes follows from what the functions that it calls write.
-- Assumes nothing.
use Rattle.std.specs.Prelude.{ℕ, ◌+◌, ◌*◌, ◌^◌, ◌≤◌, ◌<◌, ◌≡◌, refl, Bool, true, false, cond, ◌&&◌, ◌/◌, ◌%◌, List, [], ◌∷◌, ◌++◌, eqb, ltb, length, take, drop, set, Result, Ok, Err, OnOk, IsErrAnd}
use Rattle.std.proofs.Common.{add-zero, add-one, take-append-drop, arith, sym, ap, ◌∙◌, append_assoc, append-nil, eq-eqb, ne_eqb, eqb-true, lt-ltb, le-ltb, length-append, pow_mono, pow_pos, length-take-le, take_at}
use Rattle.std.proofs.lemmas.List.{set_split}
use Rattle.std.proofs.lemmas.Result.{err_from_is_err_and}
use Rattle.table.specs.declared.refusals.Refusal.{Refusal}
use Rattle.table.specs.declared.refusals.Refusal.TheVariants.{NoByteLeft, OutOfRange, AbsentTimer, BadCode, NoSuchMode, BytesLeftOver, StartFails, TooManyNodes, TooFewWords, RouteTooLong, DestinationTooShort, NotClosed}
use Rattle.table.specs.Refusals.{number}
use Rattle.parts.specs.declared.pens.Pen.{Pen}
use Rattle.parts.specs.Part.{Part, nothing, checked, unless_zero, ◌then◌, each}
use Rattle.parts.specs.Format.{bit_of, map_byte, amount_byte, reset_bits, reset_byte}
use Rattle.parts.specs.Overlays.{OverlaysBy, Overlays}
use Rattle.parts.specs.Puts.{Puts}

-- Laws of parts.
fault-assoc : (a b c : ℕ) → cond (eqb (cond (eqb a 0) b a) 0) c (cond (eqb a 0) b a) ≡ cond (eqb a 0) (cond (eqb b 0) c b) a
fault-assoc a b c = go (eqb a 0) refl
  where
    go : (t : Bool) → eqb a 0 ≡ t → cond (eqb (cond t b a) 0) c (cond t b a) ≡ cond t (cond (eqb b 0) c b) a
    go true e = refl
    go false e = rw e

pub then-assoc : (p q r : Part) → ((p then q) then r) ≡ (p then (q then r))
then-assoc p q r = λ i. record { bytes = append_assoc p.bytes q.bytes r.bytes i; fault = fault-assoc p.fault q.fault r.fault i }

fault-none : (a : ℕ) → cond (eqb a 0) 0 a ≡ a
fault-none a = go (eqb a 0) refl
  where
    go : (t : Bool) → eqb a 0 ≡ t → cond t 0 a ≡ a
    go true e = sym (eqb-true a 0 e)
    go false e = refl

pub then-nothing : (p : Part) → (p then nothing) ≡ p
then-nothing p = λ i. record { bytes = append-nil p.bytes i; fault = fault-none p.fault i }

pub each_append : {A : Type 0} (part : A → Part) (l m : List A) → each part (l ++ m) ≡ (each part l then each part m)
each_append part [] m = refl
each_append part (a ∷ l) m = ap (λ (p : Part). part a then p) (each_append part l m) ∙ sym (then-assoc (part a) (each part l) (each part m))

-- No refusal has the number 0.
pub some-number : (e : Refusal) → number e ≡ 0 → ⊥
some-number NoByteLeft h = omega arith
some-number OutOfRange h = omega arith
some-number AbsentTimer h = omega arith
some-number BadCode h = omega arith
some-number NoSuchMode h = omega arith
some-number BytesLeftOver h = omega arith
some-number StartFails h = omega arith
some-number TooManyNodes h = omega arith
some-number TooFewWords h = omega arith
some-number RouteTooLong h = omega arith
some-number DestinationTooShort h = omega arith
some-number NotClosed h = omega arith

-- One byte, by whichever numbering of refusals: refused, or put.
module _ {E : Type 0} {n : E → ℕ} (passes : Bool) (b : ℕ) {pen : Pen} where
  pub refused-by : (e : E) → passes ≡ false → 0 < n e → OverlaysBy n (checked passes (n e) b) pen (Err e) pen
  refused-by e k h = let some = ne_eqb (n e) 0 (λ z. omega arith) in rw k (record { fault = refl; place = rw some; array = rw some })

  pub byte_put : {pen' : Pen} (k : ℕ) → passes ≡ true → pen.at < length pen.bytes → pen'.bytes ≡ set pen.bytes pen.at b → pen'.at ≡ pen.at + 1 →
      OverlaysBy n (checked passes k b) pen (Ok tt) pen'
  byte_put k e h bytes-are at-is =
      rw e (record { fault = refl; place = at-is; array = bytes-are ∙ rw (add-one pen.at) (set_split pen.bytes pen.at b h) })

pub byte-refused : (passes : Bool) (b : ℕ) {pen : Pen} (e : Refusal) → passes ≡ false → Overlays (checked passes (number e) b) pen (Err e) pen
byte-refused passes b e k = refused-by passes b e k (omega (arith, some-number e))

-- One that is left out where it is 0: it has at most one byte.
module _ {E : Type 0} {n : E → ℕ} (passes : Bool) (k b : ℕ) {pen : Pen} where
  pub zero_left : b ≡ 0 → OverlaysBy n (unless_zero passes k b) pen (Ok tt) pen
  zero_left e =
      rw (eq-eqb b 0 e)
      (record { fault = refl; place = sym (add-zero pen.at); array = rw (add-zero pen.at) (sym (take-append-drop pen.at pen.bytes)) })

  pub not-zero : {pen' : Pen} {r : Result (Unit {0}) E} → (b ≡ 0 → ⊥) → OverlaysBy n (checked passes k b) pen r pen' →
      OverlaysBy n (unless_zero passes k b) pen r pen'
  not-zero z v = rw (ne_eqb b 0 z) v

pub unless-short : (passes : Bool) (k b : ℕ) → length (unless_zero passes k b).bytes ≤ 1
unless-short passes k b = go (eqb b 0)
  where
    go : (t : Bool) → length (cond t nothing (checked passes k b)).bytes ≤ 1
    go true = omega arith
    go false = omega arith

-- A bit map.
pub map-overlays : {E : Type 0} {k : E → ℕ} {limit : ℕ} {pen pen' : Pen} {r : Result (Unit {0}) E} (n map : ℕ) → limit ≡ 2 ^ n →
    OverlaysBy k (checked (ltb (map / 2 % 8) limit && ltb (map / 16 % 8) limit) 3 map) pen r pen' → OverlaysBy k (map_byte n map) pen r pen'
map-overlays n map e v = rw (← e) v

-- What was put by a function that writes a part of at most one byte where there is room for one.
module _ {p : Part} {pen pen' : Pen} where
  abbrev pub PutBy : {r : Result (Unit {0}) Refusal} → Overlays p pen r pen' → Type 0
  PutBy {r = r} v = Puts 1 p pen r pen'

  pub overlays-puts : {r : Result (Unit {0}) Refusal} (v : Overlays p pen r pen') → length p.bytes ≤ 1 → PutBy v
  overlays-puts {r = Ok a} v short =
      let behind : length (take pen.at pen.bytes ++ p.bytes) ≡ pen.at + length p.bytes =
      length-append (take pen.at pen.bytes) p.bytes ∙ ap (λ (k : ℕ). k + length p.bytes) (length-take-le pen.at pen.bytes pen.within) in
      let none = eq-eqb p.fault 0 (sym v.fault) in
      let next-is : pen'.at ≡ pen.at + length p.bytes = rw none at v.place in
      let array-is : pen'.bytes ≡ (take pen.at pen.bytes ++ p.bytes) ++ drop (pen.at + length p.bytes) pen.bytes =
      rw append_assoc (rw none at v.array) in
      record {
        fault = v.fault;
        few = omega (arith, next-is);
        put = rw (next-is, array-is)
            (take_at (take pen.at pen.bytes ++ p.bytes) (drop (pen.at + length p.bytes) pen.bytes) (pen.at + length p.bytes) behind);
      }
  overlays-puts {r = Err e} v short = record { fault = v.fault; few = tt; put = tt }

module _ {pen pen' pen'' : Pen} {p q : Part} where
  -- A part behind a part that was put, and behind one of at most one byte.
  pub puts_then : {a b : ℕ} {r : Result (Unit {0}) Refusal} → Puts a p pen (Ok tt) pen' → Puts b q pen' r pen'' → Puts (a + b) (p then q) pen r pen''
  puts_then {r = Ok u} v w = record {
    fault = w.fault ∙ rw (eq-eqb p.fault 0 (sym v.fault));
    few = omega (arith, v.few, w.few);
    put = w.put ∙ ap (λ (l : List ℕ). l ++ q.bytes) v.put ∙ append_assoc (take pen.at pen.bytes) p.bytes q.bytes;
  }
  puts_then {r = Err e} v w = record { fault = w.fault ∙ rw (eq-eqb p.fault 0 (sym v.fault)); few = tt; put = tt }

  pub byte_then : {b : ℕ} {r : Result (Unit {0}) Refusal} → Overlays p pen (Ok tt) pen' → length p.bytes ≤ 1 → Puts b q pen' r pen'' → Puts (1 + b) (p then q) pen r pen''
  byte_then v short w = puts_then (overlays-puts v short) w

-- A part that was refused refuses the whole; and so does a byte. The refusal is passed up by a `?`.
refused-first : {b : ℕ} {pen pen'' : Pen} {s : Result (Unit {0}) Refusal} (p q : Part) (e : Refusal) → number e ≡ p.fault → IsErrAnd s (λ x. x ≡ e) →
    Puts b (p then q) pen s pen''
refused-first {s = s} p q e k up =
    let passed = err_from_is_err_and s up in
    rw (passed.1, passed.2) (record { fault = k ∙ rw (ne_eqb p.fault 0 (λ z. some-number e (k ∙ z))); few = tt; put = tt })

module _ {pen pen' pen'' : Pen} {p : Part} {e : Refusal} {s : Result (Unit {0}) Refusal} {b : ℕ} (q : Part) where
  pub puts-fault : {a : ℕ} → Puts a p pen (Err e) pen' → IsErrAnd s (λ x. x ≡ e) → Puts b (p then q) pen s pen''
  puts-fault v = refused-first p q e v.fault

  pub byte-fault : Overlays p pen (Err e) pen' → IsErrAnd s (λ x. x ≡ e) → Puts b (p then q) pen s pen''
  byte-fault v = refused-first p q e v.fault

-- The array stays as long as it is.
pub puts-long : {most n : ℕ} {r : Result (Unit {0}) Refusal} {p : Part} {pen pen' : Pen} → Puts most p pen r pen' → length pen.bytes ≡ n → length pen'.bytes ≡ n
puts-long {pen = pen} {pen' = pen'} v e = pen'.long ∙ sym pen.long ∙ e

-- At most so many bytes are at most more; of a refusal nothing is asked.
pub puts-wide : {a b : ℕ} {r : Result (Unit {0}) Refusal} {p : Part} {pen pen' : Pen} → Puts a p pen r pen' → OnOk r (a ≤ b) → Puts b p pen r pen'
puts-wide {r = Ok u} v h = record { fault = v.fault; few = omega (arith, v.few); put = v.put }
puts-wide {r = Err e} v h = record { fault = v.fault; few = tt; put = tt }

-- What holds in any case holds where something was put.
pub holds-on-ok : {P : Type 0} (r : Result (Unit {0}) Refusal) → P → OnOk r P
holds-on-ok (Ok u) h = h
holds-on-ok (Err e) h = tt

-- The reset byte: refused, or put.
pub limit-small : {n limit : ℕ} → n ≤ 3 → limit ≡ 2 ^ n → limit ≤ 8
limit-small h e = omega (arith, e, pow_mono h)

module _ {limit : ℕ} (n resets high : ℕ) (names : limit ≡ 2 ^ n) where
  pub resets-refused : {pen pen' : Pen} (q : Part) → limit ≤ resets → Puts 2 (reset_byte n resets high then q) pen (Err AbsentTimer) pen'
  resets-refused q h =
      let some : reset_bits resets high ≡ 0 → ⊥ = λ z. omega (arith, names, pow_pos n) in
      record { fault = rw (ne_eqb (reset_bits resets high) 0 some, le-ltb resets (2 ^ n) (omega arith)); few = tt; put = tt }

  pub reset-put : {b : ℕ} {pen pen' : Pen} → resets < limit → b ≡ bit_of high → Puts 1 (amount_byte (resets + 128 * b)) pen (Ok tt) pen' →
      Puts 1 (reset_byte n resets high) pen (Ok tt) pen'
  reset-put h e v = rw (lt-ltb resets (2 ^ n) (omega arith), ← e) v
