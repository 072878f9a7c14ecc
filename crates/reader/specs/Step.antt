-- The contract of each private function that reads from a place on: what it gives, or writes into the table, is what comes of a parser there.
-- Assumes nothing.
use Rattle.std.specs.Prelude.{ℕ, ◌+◌, ◌-◌, ◌%◌, ◌≤◌, ◌<◌, ◌≡◌, List, [], ◌∷◌, ◌++◌, length, drop, set, Result, MatchResult, IfOk}
use Rattle.std.proofs.lemmas.List.Edits.{sets}
use Rattle.reader.specs.Parser.{Parser, done, ◌>>=◌, Outcome, refused, took, run}
use Rattle.table.specs.declared.refusals.Refusal.{Refusal}
use Rattle.table.specs.Fields.{Fields}
use Rattle.table.specs.Meaning.{stands}
use Rattle.table.specs.Refusals.{number}
use Rattle.reader.specs.Format.{within, if_stands, amount_byte, conditions, reset_byte, Header, header, table}
use Rattle.reader.specs.Read.{accepted, rejected, read}
use Rattle.table.specs.Held.{held}
use Rattle.reader.specs.declared.fields.Field.{Field}

-- A value of which P holds was taken, and the bytes from the place `next` on are left.
pub record Took {A : Type 0} (bytes : List ℕ) (next : ℕ) (P : A → Type 0) (o : Outcome A) : Type 0 where
  pub value : A
  pub taken : o ≡ took value (drop next bytes)
  pub holds : P value

-- A result is an outcome: a refusal by its number; or what holds the place after what was taken, and a value of which P holds.
abbrev pub Gives : {A B : Type 0} → List ℕ → (B → ℕ) → (B → A → Type 0) → Outcome A → Result B Refusal → Type 0
Gives bytes next P o r = MatchResult r (λ b. Took bytes (next b) (P b) o) (λ e. o ≡ refused (number e))

-- The field is what the parser gives from the place `from` on.
abbrev pub GivesField : Parser ℕ → List ℕ → ℕ → Result Field Refusal → Type 0
GivesField p bytes from r = Gives bytes (λ f. f.next) (λ f a. f.value ≡ a) (run p (drop from bytes)) r

-- Besides, where it is not refused, the byte is in its range, and one byte was taken.
pub record GivesWithin (refusal least most : ℕ) (bytes : List ℕ) (from : ℕ) (r : Result Field Refusal) : Type 0 where
  pub gives : GivesField (within refusal least most) bytes from r
  pub range : IfOk r (λ f. (least ≤ f.value) × (f.value ≤ most) × (f.next ≡ from + 1))

-- The bytes xs, so many, were written into t from `at` on.
pub record Wrote (wide : ℕ) (t : List ℕ) (at : ℕ) (t' xs : List ℕ) : Type 0 where
  pub is : t' ≡ sets t at xs
  pub long : length xs ≡ wide

-- P holds of what the parser gives from the place `from` on, and the result is the place behind it.
abbrev pub Reads : {A : Type 0} → Parser A → List ℕ → ℕ → (A → Type 0) → Result ℕ Refusal → Type 0
Reads p bytes from P r = Gives bytes (λ next. next) (λ next. P) (run p (drop from bytes)) r

-- A byte in its range is given, and written where it stands.
pub record Copied (least most : ℕ) (t : List ℕ) (at : ℕ) (t' : List ℕ) (v b : ℕ) : Type 0 where
  pub value : v ≡ b
  pub is : t' ≡ set t at v
  pub range : (least ≤ v) × (v ≤ most)

abbrev pub Copies : List ℕ → ℕ → ℕ → ℕ → List ℕ → List ℕ → Result ℕ Refusal → Type 0
Copies bytes least most at t t' r = Gives bytes (λ v. at + 1) (Copied least most t at t') (run (within 2 least most) (drop at bytes)) r

abbrev pub header_bytes : Header → List ℕ
header_bytes h = h.modes ∷ h.timers ∷ h.moves ∷ h.goal ∷ []

-- The counts are in their ranges.
pub record HeaderWrote (t t' : List ℕ) (h : Header) : Type 0 where
  pub is : t' ≡ header_bytes h ++ drop 4 t
  pub range : (1 ≤ h.modes) × (h.modes ≤ 16) × (1 ≤ h.timers) × (h.timers ≤ 3) × (h.moves ≤ 64)

abbrev pub WritesHeader : List ℕ → List ℕ → List ℕ → Result (Unit {0}) Refusal → Type 0
WritesHeader bytes t t' r = Gives bytes (λ done. 4) (λ done. HeaderWrote t t') (run header bytes) r

-- The parts of a record behind its bit map: the low byte of the rate or price with the conditions, the from and to modes, and the reset byte.
abbrev pub priced : ℕ → Parser (ℕ × List ℕ)
priced map = do
  low ← amount_byte map 0
  cs ← conditions map
  done (low, cs)

-- The place of the high byte, which comes last, is 0 until then.
pub record WrotePriced (t : List ℕ) (at : ℕ) (t' : List ℕ) (a : ℕ × List ℕ) : Type 0 where
  pub wrote : Wrote 8 t at t' (a.0 ∷ 0 ∷ a.1)
  pub low : a.0 < 256

abbrev pub ends : ℕ → Parser (ℕ × ℕ)
ends m = do
  source ← within 5 0 (m - 1)
  target ← within 5 0 (m - 1)
  done (source, target)

abbrev pub end_bytes : ℕ × ℕ → List ℕ
end_bytes p = p.0 ∷ p.1 ∷ []

abbrev pub resets : ℕ → ℕ → Parser ℕ
resets map n = if_stands (stands map 7) (reset_byte n)

-- The byte is given, and its bits for timers are written.
pub record WroteResets (v : ℕ) (t : List ℕ) (at : ℕ) (t' : List ℕ) (b : ℕ) : Type 0 where
  pub value : v ≡ b
  pub wrote : Wrote 2 t at t' (v % 8 ∷ 0 ∷ [])

abbrev pub ReadsResets : ℕ → ℕ → List ℕ → ℕ → List ℕ → ℕ → List ℕ → Result Field Refusal → Type 0
ReadsResets map n bytes from t at t' r = Gives bytes (λ f. f.next) (λ f. WroteResets f.value t at t') (run (resets map n) (drop from bytes)) r

-- The whole table is held.
abbrev pub Contains : List ℕ → List ℕ → Result ℕ Refusal → Type 0
Contains bytes t' r = Gives bytes (λ next. next) (λ next f. t' ≡ held f) (run table bytes) r

-- The bytes are accepted, and their fields held.
pub record Holds (bytes t' : List ℕ) : Type 0 where
  pub fields : Fields
  pub accepts : read bytes ≡ accepted fields
  pub is : t' ≡ held fields

-- The bytes are rejected by a refusal's number, or accepted.
abbrev pub Judges : List ℕ → List ℕ → Result (Unit {0}) Refusal → Type 0
Judges bytes t' r = MatchResult r (λ done. Holds bytes t') (λ e. read bytes ≡ rejected (number e))
