-- Bytes are rejected by a number from 1 to 7 and by no other.
-- Assumes nothing.
use Rattle.std.specs.Prelude.{ℕ, zero, suc, ◌-◌, ◌≤◌, ◌≡◌, refl, Bool, true, false, cond, List, [], ◌∷◌}
use Rattle.std.proofs.Common.{arith, true≢false}
use Rattle.semantics.specs.Automaton.{start_holds}
use Rattle.reader.specs.Parser.{Parser, done, refuse, byte, ◌>>=◌, in_order, Outcome, refused, took, run}
use Rattle.table.specs.Fields.{Fields}
use Rattle.table.specs.Meaning.{stands, automaton}
use Rattle.reader.specs.Format.{any_byte, tested, between, within, if_stands, map_present, bit_map, amount_byte, conditions, reset_present, reset_byte, mode_record, move_record, header, table}
use Rattle.reader.specs.Read.{accepted, rejected, judge, read}

-- Every refusal of the parser has a number from 1 to 5.
abbrev Refuses : {A : Type 0} → Parser A → Type 0
Refuses (done a) = Unit {0}
Refuses (refuse n) = (1 ≤ n) × (n ≤ 5)
Refuses (byte k) = (b : ℕ) → Refuses (k b)

refused-range : {A : Type 0} (p : Parser A) (bytes : List ℕ) (n : ℕ) → Refuses p → run p bytes ≡ refused n → (1 ≤ n) × (n ≤ 5)
refused-range (done a) bytes n h e = absurd (true≢false cc)
refused-range (refuse m) bytes n h e = let q : m ≡ n = cc in rw (← q) h
refused-range (byte k) [] n h e = let q : 1 ≡ n = cc in omega arith
refused-range (byte k) (b ∷ bytes) n h e = refused-range (k b) bytes n (h b) e

then-refuses : {A B : Type 0} (p : Parser A) (f : A → Parser B) → Refuses p → ((a : A) → Refuses (f a)) → Refuses (p >>= f)
then-refuses (done a) f h k = k a
then-refuses (refuse n) f h k = h
then-refuses (byte q) f h k = λ b. then-refuses (q b) f (h b) k

order-refuses : {A : Type 0} (p : ℕ → Parser A) → ((i : ℕ) → Refuses (p i)) → (i n : ℕ) → Refuses (in_order p i n)
unfolding in_order
order-refuses p h i zero = tt
order-refuses p h i (suc n) = then-refuses (p i) _ (h i) (λ a. then-refuses (in_order p (suc i) n) _ (order-refuses p h (suc i) n) (λ rest. tt))

cond-refuses : (t : Bool) (v n : ℕ) → (1 ≤ n) × (n ≤ 5) → Refuses (cond t (done v) (refuse n))
cond-refuses true v n h = tt
cond-refuses false v n h = h

tested-refuses : (passes : ℕ → Bool) (n : ℕ) → (1 ≤ n) × (n ≤ 5) → Refuses (tested passes n)
tested-refuses passes n h = λ b. cond-refuses (passes b) b n h

within-refuses : (n least most : ℕ) → (1 ≤ n) × (n ≤ 5) → Refuses (within n least most)
unfolding within
within-refuses n least most h = tested-refuses (between least most) n h

if-refuses : (t : Bool) (p : Parser ℕ) → Refuses p → Refuses (if_stands t p)
if-refuses true p h = h
if-refuses false p h = tt

map-refuses : (n : ℕ) → Refuses (bit_map n)
unfolding bit_map
map-refuses n = tested-refuses (map_present n) 3 (omega arith)

reset-refuses : (n : ℕ) → Refuses (reset_byte n)
unfolding reset_byte
reset-refuses n = tested-refuses (reset_present n) 3 (omega arith)

amount-refuses : (announcing bit : ℕ) → Refuses (amount_byte announcing bit)
unfolding amount_byte
amount-refuses announcing bit = if-refuses (stands announcing bit) any_byte (λ b. tt)

conditions-refuse : (map : ℕ) → Refuses (conditions map)
unfolding conditions
conditions-refuse map = order-refuses _ (λ i. if-refuses (stands map i) (within 4 16 95) (within-refuses 4 16 95 (omega arith))) 1 6

mode-refuses : (n : ℕ) → Refuses (mode_record n)
unfolding mode_record
mode-refuses n =
    then-refuses (bit_map n) _ (map-refuses n) (λ map. then-refuses (amount_byte map 0) _ (amount-refuses map 0) (λ low.
    then-refuses (conditions map) _ (conditions-refuse map) (λ cs. then-refuses (amount_byte map 7) _ (amount-refuses map 7) (λ high. tt))))

move-refuses : (m n : ℕ) → Refuses (move_record m n)
unfolding move_record
move-refuses m n =
    let named = within-refuses 5 0 (m - 1) (omega arith) in
    then-refuses (bit_map n) _ (map-refuses n) (λ map. then-refuses (within 5 0 (m - 1)) _ named (λ source.
    then-refuses (within 5 0 (m - 1)) _ named (λ target. then-refuses (amount_byte map 0) _ (amount-refuses map 0) (λ low.
    then-refuses (conditions map) _ (conditions-refuse map) (λ cs.
    then-refuses (if_stands (stands map 7) (reset_byte n)) _ (if-refuses (stands map 7) (reset_byte n) (reset-refuses n)) (λ reset.
    then-refuses (amount_byte reset 7) _ (amount-refuses reset 7) (λ high. tt)))))))

header-refuses : Refuses header
unfolding header
header-refuses =
    then-refuses (within 2 1 16) _ (within-refuses 2 1 16 (omega arith)) (λ m. then-refuses (within 2 1 3) _ (within-refuses 2 1 3 (omega arith)) (λ n.
    then-refuses (within 2 0 64) _ (within-refuses 2 0 64 (omega arith)) (λ e.
    then-refuses (within 2 0 (m - 1)) _ (within-refuses 2 0 (m - 1) (omega arith)) (λ goal. tt))))

table-refuses : Refuses table
unfolding table
table-refuses =
    then-refuses header _ header-refuses (λ h.
    then-refuses (in_order (λ i. within 2 1 15) 0 h.timers) _ (order-refuses _ (λ i. within-refuses 2 1 15 (omega arith)) 0 h.timers) (λ cs.
    then-refuses (in_order (λ i. mode_record h.timers) 0 h.modes) _ (order-refuses _ (λ i. mode-refuses h.timers) 0 h.modes) (λ ms.
    then-refuses (in_order (λ i. move_record h.modes h.timers) 0 h.moves) _
    (order-refuses _ (λ i. move-refuses h.modes h.timers) 0 h.moves) (λ es. tt))))

judged-range : (o : Outcome Fields) → ((m : ℕ) → o ≡ refused m → (1 ≤ m) × (m ≤ 5)) → (n : ℕ) → judge o ≡ rejected n → (1 ≤ n) × (n ≤ 7)
judged-range (refused m) h n e = let q : m ≡ n = cc in omega (arith, h m refl)
judged-range (took f (b ∷ s)) h n e = let q : 6 ≡ n = cc in omega arith
judged-range (took f []) h n e = go (start_holds (automaton f)) e
  where
    go : (t : Bool) → cond t (accepted f) (rejected 7) ≡ rejected n → (1 ≤ n) × (n ≤ 7)
    go true e = absurd (true≢false cc)
    go false e = let q : 7 ≡ n = cc in omega arith

-- The numbers of the reader's refusals.
pub rejected-range : (bytes : List ℕ) (n : ℕ) → read bytes ≡ rejected n → (1 ≤ n) × (n ≤ 7)
unfolding read
rejected-range bytes n e = judged-range (run table bytes) (λ m q. refused-range table bytes m table-refuses q) n e
