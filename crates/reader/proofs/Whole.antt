-- The whole table: what the parts write together.
-- Assumes nothing.
use Rattle.std.specs.Prelude.{Result}
use Prim.Native.Nat.{ℕ, zero, suc, ◌*◌, ◌-◌, ◌≤◌, ◌<◌}
use native.Mathlib.Nat.{sub-zero}
use native.Mathlib.Omega.{arith}
use mathlib.Core.Path.{◌≡◌, refl, sym, ap, ap₂, ◌∙◌}
use mathlib.Core.Bool.{true, false}
use mathlib.Core.List.{List, [], ◌∷◌, ◌++◌, map, append_assoc, append-nil}
use lib.ListN.{length, get_or, take, drop, replicate, length-append, length-replicate, replicate-append-replicate, drop_of_length-le}
use lib.Seq.{sets, sets-eq, take-append_seam, drop-append-add, drop-append-le, drop-cons}
use Rattle.semantics.specs.Condition.{hold_at_zero}
use Rattle.semantics.specs.Automaton.{start_holds}
use Rattle.reader.specs.Parser.{in_order, refused, run}
use Rattle.table.specs.declared.refusals.Refusal.{Refusal}
use Rattle.table.specs.Fields.{ModeFields, MoveFields, Fields}
use Rattle.reader.specs.Format.{within, mode_record, move_record, Header, header, table}
use Rattle.table.specs.Meaning.{conditions_from, automaton}
use Rattle.reader.specs.Read.{rejected, read}
use Rattle.table.specs.Held.{pad, flat, mode_bytes, move_bytes, held}
use Rattle.reader.specs.Step.{Took, Wrote, Reads, HeaderWrote, header_bytes, Contains, Holds}
use Rattle.reader.specs.Theorems.Exactly.{taken}
use Rattle.reader.specs.Theorems.Accepts.{table-exactly}
use Rattle.reader.specs.Theorems.Running.{order-length}
use Rattle.table.specs.Theorems.Holding.{length-pad, Shaped, fields-shaped}
use Rattle.reader.specs.Theorems.Accepted.{layout-shaped}
use Rattle.table.specs.Theorems.Access.{start-at}
use Rattle.reader.proofs.Giving.{part-taken, part-refused, part-last}

abbrev zeros : ℕ → List ℕ
zeros n = replicate n 0

drop-zeros : (k n : ℕ) → drop k (zeros n) ≡ zeros (n - k)
drop-zeros zero n = ap zeros (sym (sub-zero n))
drop-zeros (suc k) zero = let none : 0 ≡ 0 - suc k = omega arith in ap zeros none
drop-zeros (suc k) (suc n) = let fewer : n - k ≡ suc n - suc k = omega arith in drop-zeros k n ∙ ap zeros fewer

-- Bytes that are written where there was room for them.
fill : (a xs b : List ℕ) (k n : ℕ) → length a ≡ k → length xs ≤ n → sets (a ++ (zeros n ++ b)) k xs ≡ a ++ (pad n xs ++ b)
fill a xs b k n e h =
    let room = zeros n ++ b in
    let long : length xs ≤ length (zeros n) = omega (arith, length-replicate {A = ℕ} n 0) in
    rw (← e)
    (sets-eq xs (a ++ room) (length a) (omega (arith, length-append a room, length-append (zeros n) b))
    ∙ ap₂ (λ (l m : List ℕ). (l ++ xs) ++ m) (take-append_seam a room)
    (drop-append-add a room (length xs) ∙ drop-append-le (length xs) (zeros n) b long ∙ ap (λ (l : List ℕ). l ++ b) (drop-zeros (length xs) n))
    ∙ append_assoc a xs _ ∙ ap (λ (l : List ℕ). a ++ l) (sym (append_assoc xs (zeros (n - length xs)) b)))

-- A table of zeros by its parts.
zero-parts : zeros 4 ++ (zeros 128 ++ zeros 768) ≡ zeros 900
zero-parts = ap (λ (l : List ℕ). zeros 4 ++ l) (replicate-append-replicate 128 768 0) ∙ replicate-append-replicate 4 896 0

-- The parts that were written one after another are the table.
parts_held : (h : Header) (cs : List ℕ) (ms : List ModeFields) (es : List MoveFields) {t₀ t₁ t₂ t₃ t₄ : List ℕ} {n m e : ℕ} → n ≤ 3 → m ≤ 16 → e ≤ 64 →
    t₀ ≡ zeros 904 → HeaderWrote t₀ t₁ h → Wrote n t₁ 4 t₂ cs → Wrote (8 * m) t₂ 8 t₃ (flat (map mode_bytes ms)) →
    Wrote (12 * e) t₃ 136 t₄ (flat (map move_bytes es)) → t₄ ≡ header_bytes h ++ (pad 4 cs ++ (pad 128 (flat (map mode_bytes ms)) ++ pad 768 (flat (map move_bytes es))))
parts_held h cs ms es {t₀} {t₁} {t₂} {t₃} {t₄} hn hm he z wh wc wm we =
    let front = header_bytes h in
    let mb = flat (map mode_bytes ms) in
    let eb = flat (map move_bytes es) in
    let two = front ++ pad 4 cs in
    let three = two ++ pad 128 mb in
    let cl = length-pad 4 cs (omega (arith, wc.long)) in
    let ml = length-pad 128 mb (omega (arith, wm.long)) in
    let at_1 : t₁ ≡ front ++ (zeros 4 ++ (zeros 128 ++ zeros 768)) =
    wh.is ∙ ap (λ (l : List ℕ). front ++ l) (ap (drop 4) z ∙ sym zero-parts) in
    let at-2 : t₂ ≡ two ++ (zeros 128 ++ zeros 768) =
    wc.is ∙ ap (λ (l : List ℕ). sets l 4 cs) at_1 ∙ fill front cs (zeros 128 ++ zeros 768) 4 4 refl (omega (arith, wc.long))
    ∙ sym (append_assoc front (pad 4 cs) _) in
    let at-3 : t₃ ≡ three ++ (zeros 768 ++ []) =
    wm.is ∙ ap (λ (l : List ℕ). sets l 8 mb) at-2
    ∙ fill two mb (zeros 768) 8 128 (omega (arith, length-append front (pad 4 cs), cl)) (omega (arith, wm.long))
    ∙ sym (append_assoc two (pad 128 mb) _) ∙ ap (λ (l : List ℕ). three ++ l) (sym (append-nil (zeros 768))) in
    we.is ∙ ap (λ (l : List ℕ). sets l 136 eb) at-3
    ∙ fill three eb [] 136 768 (omega (arith, length-append two (pad 128 mb), length-append front (pad 4 cs), cl, ml)) (omega (arith, we.long))
    ∙ ap (λ (l : List ℕ). three ++ l) (append-nil (pad 768 eb)) ∙ append_assoc two (pad 128 mb) (pad 768 eb) ∙ append_assoc front (pad 4 cs) _

-- A header that is refused refuses the table.
pub header_refused : (bytes : List ℕ) {r : ℕ} → run header bytes ≡ refused r → run table bytes ≡ refused r
unfolding table
header_refused bytes e = part-refused header _ bytes e

-- The parts behind the header, whose counts are those of the header.
module _ {bytes t₀ t₁ : List ℕ} (g : Took bytes 4 (HeaderWrote t₀ t₁) (run header bytes)) (n m e : ℕ) (en : n ≡ get_or t₁ 1 0) (em : m ≡ get_or t₁ 0 0) (ee : e ≡ get_or t₁ 2 0) where
  timers-are : n ≡ g.value.timers
  timers-are = en ∙ ap (λ (l : List ℕ). get_or l 1 0) g.holds.is

  modes-are : m ≡ g.value.modes
  modes-are = em ∙ ap (λ (l : List ℕ). get_or l 0 0) g.holds.is

  moves-are : e ≡ g.value.moves
  moves-are = ee ∙ ap (λ (l : List ℕ). get_or l 2 0) g.holds.is

  pub ceilings-refused : {r : ℕ} → run (in_order (λ i. within 2 1 15) 0 n) (drop 4 bytes) ≡ refused r → run table bytes ≡ refused r
  unfolding table
  ceilings-refused q = part-taken header _ bytes g.taken ∙ rw (← timers-are) (part-refused (in_order (λ i. within 2 1 15) 0 n) _ (drop 4 bytes) q)

  module _ {t₂ : List ℕ} {c : ℕ} (gc : Took bytes c (λ cs. Wrote n t₁ 4 t₂ cs) (run (in_order (λ i. within 2 1 15) 0 n) (drop 4 bytes))) where
    pub modes-refused : {r : ℕ} → run (in_order (λ i. mode_record n) 0 m) (drop c bytes) ≡ refused r → run table bytes ≡ refused r
    unfolding table
    modes-refused q =
        part-taken header _ bytes g.taken ∙ rw (← timers-are, ← modes-are)
        (part-taken (in_order (λ i. within 2 1 15) 0 n) _ (drop 4 bytes) gc.taken ∙ part-refused (in_order (λ i. mode_record n) 0 m) _ (drop c bytes) q)

    -- The whole table is held.
    pub all_held : {t₃ : List ℕ} (t₄ : List ℕ) {o : ℕ} → t₀ ≡ replicate 904 0 →
        Took bytes o (λ ms. Wrote (8 * m) t₂ 8 t₃ (flat (map mode_bytes ms))) (run (in_order (λ i. mode_record n) 0 m) (drop c bytes)) → (r : Result ℕ Refusal) →
        Reads (in_order (λ i. move_record m n) 0 e) bytes o (λ es. Wrote (12 * e) t₃ 136 t₄ (flat (map move_bytes es))) r → Contains bytes t₄ r
    unfolding table held
    all_held t₄ {o = o} blank gm r ge =
        let h = g.value in
        let cs = gc.value in
        let ms = gm.value in
        part-last bytes _ _ (in_order (λ i. move_record m n) 0 e) _ (drop o bytes) r
        (part-taken header _ bytes g.taken ∙ rw (← timers-are, ← modes-are, ← moves-are)
        (part-taken (in_order (λ i. within 2 1 15) 0 n) _ (drop 4 bytes) gc.taken
        ∙ part-taken (in_order (λ i. mode_record n) 0 m) _ (drop c bytes) gm.taken)) ge (λ next es v j.
        let em : h.modes ≡ length ms = sym modes-are ∙ sym (order-length _ 0 m (drop c bytes) ms _ gm.taken) in
        let en : h.timers ≡ length cs = sym timers-are ∙ sym (order-length _ 0 n (drop 4 bytes) cs _ gc.taken) in
        let ee : h.moves ≡ length es = sym moves-are ∙ sym (order-length _ 0 e (drop o bytes) es _ v) in
        parts_held h cs ms es (omega (arith, g.holds.range, timers-are)) (omega (arith, g.holds.range, modes-are)) (omega (arith, g.holds.range, moves-are)) blank
        g.holds gc.holds gm.holds j
        ∙ (λ i. em i ∷ en i ∷ ee i ∷ h.goal ∷ (pad 4 cs ++ (pad 128 (flat (map mode_bytes ms)) ++ pad 768 (flat (map move_bytes es))))))

-- The judgement of the whole: refused by a part, bytes left over, or the start tested.
pub judged-refused : (bytes : List ℕ) {r : ℕ} → run table bytes ≡ refused r → read bytes ≡ rejected r
unfolding read
judged-refused bytes e = rw e

-- The test of the start.
held_start : (f : Fields) → Shaped f → 1 ≤ length f.modes → hold_at_zero (conditions_from 0 (take 6 (drop 10 (held f)))) ≡ start_holds (automaton f)
unfolding held
held_start f k h = sym (start-at (held f) h) ∙ ap (λ (g : Fields). start_holds (automaton g)) (fields-shaped f k)

-- Fields that were read, and the table that holds them.
module _ {bytes t : List ℕ} {next : ℕ} (w : Took bytes next (λ f. t ≡ held f) (run table bytes)) where
  start_is : hold_at_zero (conditions_from 0 (take 6 (drop 10 t))) ≡ start_holds (automaton w.value)
  start_is =
      let front = taken table bytes w.value (drop next bytes) w.taken in
      let lays = table-exactly.lays front.front w.value front.alone in
      rw w.holds (held_start w.value (layout-shaped front.front w.value lays) lays.modes-range.0)

  pub judged-over : next < length bytes → read bytes ≡ rejected 6
  unfolding read
  judged-over l = rw (w.taken, drop-cons bytes next 0 l)

  pub judged-fails : length bytes ≤ next → hold_at_zero (conditions_from 0 (take 6 (drop 10 t))) ≡ false → read bytes ≡ rejected 7
  unfolding read
  judged-fails l b = rw (w.taken, drop_of_length-le bytes l, ← start_is, b)

  pub judged-table : length bytes ≤ next → hold_at_zero (conditions_from 0 (take 6 (drop 10 t))) ≡ true → Holds bytes t
  unfolding read
  judged-table l b = record { fields = w.value; accepts = rw (w.taken, drop_of_length-le bytes l, ← start_is, b); is = w.holds }
