-- Reading goes along what is written.
-- Assumes nothing.
use Rattle.std.specs.Prelude.{ℕ, suc, ◌+◌, ◌<◌, ◌≡◌, refl, Bool, true, false, cond, not, eqb, length, get_or}
use Rattle.std.proofs.Common.{add-zero, add-suc, suc-add, arith, sym, ap, ◌∙◌, true≢false, eq-eqb, ne_eqb, eqb-true}
use mathlib.Core.List.{List, [], ◌∷◌, ◌++◌, append_assoc, Memᴰ}
use Rattle.reader.specs.Parser.{Parser, done, refuse, ◌>>=◌, in_order, Outcome, refused, took, run}
use Rattle.reader.specs.Format.{any_byte, tested, if_stands}
use Rattle.reader.specs.Theorems.Running.{run_bind, and_then}
use Rattle.parts.specs.Part.{Part, nothing, checked, unless_zero, ◌then◌, each}

-- The parser takes the bytes of a part as the value a; where a byte is out of range it refuses them by the part's number, if the bytes can
-- express the fault.
pub record Mirrors (Fits : Type 0) {A : Type 0} (p : Parser A) (w : Part) (a : A) : Type 0 where
  pub good : w.fault ≡ 0 → (rest : List ℕ) → run p (w.bytes ++ rest) ≡ took a rest
  pub bad : Fits → (w.fault ≡ 0 → ⊥) → (rest : List ℕ) → run p (w.bytes ++ rest) ≡ refused w.fault

-- The fault of two parts by theirs.
abbrev pub first_fault : ℕ → ℕ → ℕ
first_fault a b = cond (eqb a 0) b a

pub no-fault : (a b : ℕ) → first_fault a b ≡ 0 → (a ≡ 0) × (b ≡ 0)
no-fault a b e = go (eqb a 0) refl e
  where
    go : (t : Bool) → eqb a 0 ≡ t → cond t b a ≡ 0 → (a ≡ 0) × (b ≡ 0)
    go true h e = (eqb-true a 0 h, e)
    go false h e = let z : eqb a 0 ≡ true = eq-eqb a 0 e in absurd (true≢false (sym z ∙ h))

pub later-fault : (a b : ℕ) → a ≡ 0 → first_fault a b ≡ b
later-fault a b e = rw (eq-eqb a 0 e)

pub first-fault : (a b : ℕ) → (a ≡ 0 → ⊥) → first_fault a b ≡ a
first-fault a b h = rw (ne_eqb a 0 h)

-- A byte that is not refused has passed its test.
pub passed : (t : Bool) (number : ℕ) → 0 < number → cond t 0 number ≡ 0 → t ≡ true
passed true number some e = refl
passed false number some e = absurd (omega arith)

module _ {Fits A B : Type 0} {p : Parser A} {w : Part} {a : A} (f : A → Parser B) (first : Mirrors Fits p w a) where
  -- The first part is taken, and the parser goes on behind it.
  goes_on : w.fault ≡ 0 → (v rest : List ℕ) → run (p >>= f) ((w.bytes ++ v) ++ rest) ≡ run (f a) (v ++ rest)
  goes_on e v rest =
      run_bind p f ((w.bytes ++ v) ++ rest) ∙ ap (λ (l : List ℕ). and_then (run p l) f) (append_assoc w.bytes v rest)
      ∙ ap (λ (o : Outcome A). and_then o f) (first.good e (v ++ rest))

  stops : Fits → (w.fault ≡ 0 → ⊥) → (v rest : List ℕ) → run (p >>= f) ((w.bytes ++ v) ++ rest) ≡ refused w.fault
  stops fit h v rest =
      run_bind p f ((w.bytes ++ v) ++ rest) ∙ ap (λ (l : List ℕ). and_then (run p l) f) (append_assoc w.bytes v rest)
      ∙ ap (λ (o : Outcome A). and_then o f) (first.bad fit h (v ++ rest))

  module _ {v : Part} {b : B} (second : w.fault ≡ 0 → Mirrors Fits (f a) v b) where
    then-bad : Fits → (first_fault w.fault v.fault ≡ 0 → ⊥) → (rest : List ℕ) → (t : Bool) → eqb w.fault 0 ≡ t →
        run (p >>= f) ((w.bytes ++ v.bytes) ++ rest) ≡ refused (first_fault w.fault v.fault)
    then-bad fit h rest true e =
        let none : w.fault ≡ 0 = eqb-true w.fault 0 e in
        let same = later-fault w.fault v.fault none in
        goes_on none v.bytes rest ∙ (second none).bad fit (λ z. h (same ∙ z)) rest ∙ ap refused (sym same)
    then-bad fit h rest false e =
        let some : w.fault ≡ 0 → ⊥ = λ z. true≢false (sym (eq-eqb w.fault 0 z) ∙ e) in
        stops fit some v.bytes rest ∙ ap refused (sym (first-fault w.fault v.fault some))

    -- One part behind another.
    pub mirror-then : Mirrors Fits (p >>= f) (w then v) b
    mirror-then = record {
      good = λ e rest.
          let both = no-fault w.fault v.fault e in
          goes_on both.0 v.bytes rest ∙ (second both.0).good both.1 rest;
      bad = λ fit h rest. then-bad fit h rest (eqb w.fault 0) refl;
    }

-- The last part, whose value makes the whole's.
pub mirror-made : {Fits A B : Type 0} {p : Parser A} {w : Part} {a : A} (g : A → B) → Mirrors Fits p w a → Mirrors Fits (p >>= λ x. done (g x)) w (g a)
mirror-made {p = p} {w = w} g M = record {
  good = λ e rest. run_bind p (λ x. done (g x)) (w.bytes ++ rest) ∙ ap (λ (o : Outcome _). and_then o (λ x. done (g x))) (M.good e rest);
  bad = λ fit h rest. run_bind p (λ x. done (g x)) (w.bytes ++ rest) ∙ ap (λ (o : Outcome _). and_then o (λ x. done (g x))) (M.bad fit h rest);
}

-- The same under a stronger condition.
pub mirror-under : {F G A : Type 0} {p : Parser A} {w : Part} {a : A} → (G → F) → Mirrors F p w a → Mirrors G p w a
mirror-under h M = record { good = M.good; bad = λ fit. M.bad (h fit) }

-- The same for an equal value.
pub mirror-same : {Fits A : Type 0} {p : Parser A} {w : Part} {a b : A} → a ≡ b → Mirrors Fits p w a → Mirrors Fits p w b
mirror-same e M = rw e at M

-- A byte: what the writer tests is what the reader tests.
module _ {Fits : Type 0} (passes : ℕ → Bool) (number b : ℕ) (some : 0 < number) where
  pub mirror-checked : (t : Bool) → (t ≡ true → passes b ≡ true) → (Fits → t ≡ false → passes b ≡ false) →
      Mirrors Fits (tested passes number) (checked t number b) b
  mirror-checked true h k = record {
    good = λ e rest. ap (λ (t : Bool). run (cond t (done b) (refuse number)) rest) (h refl);
    bad = λ fit e. absurd (e refl);
  }
  mirror-checked false h k = record {
    good = λ e. absurd (omega arith);
    bad = λ fit e rest. ap (λ (t : Bool). run (cond t (done b) (refuse number)) rest) (k fit refl);
  }

  pub mirror-tested : Mirrors Fits (tested passes number) (checked (passes b) number b) b
  mirror-tested = mirror-checked (passes b) (λ e. e) (λ fit e. e)

pub mirror-any : {Fits : Type 0} (b : ℕ) → Mirrors Fits any_byte (checked true 0 b) b
mirror-any b = record { good = λ e rest. refl; bad = λ fit e. absurd (e refl) }

-- A byte that is left out where it is 0, and whose bit then does not stand.
pub mirror-optional : {Fits : Type 0} {p : Parser ℕ} (passes : Bool) (number b : ℕ) (bit : Bool) → bit ≡ not (eqb b 0) →
    Mirrors Fits p (checked passes number b) b → Mirrors Fits (if_stands bit p) (unless_zero passes number b) b
mirror-optional {Fits} {p} passes number b bit e M = rw e (go (eqb b 0) refl)
  where
    go : (t : Bool) → eqb b 0 ≡ t → Mirrors Fits (if_stands (not t) p) (cond t nothing (checked passes number b)) b
    go true h = record { good = λ e rest. ap (λ (c : ℕ). took c rest) (sym (eqb-true b 0 h)); bad = λ fit e. absurd (e refl) }
    go false h = M

-- One after another, each at its place.
pub mirror-each : {Fits A : Type 0} (p : ℕ → Parser A) (w : A → Part) (d : A) (l : List A) (i : ℕ) →
    ((j : ℕ) → j < length l → Mirrors Fits (p (i + j)) (w (get_or l j d)) (get_or l j d)) → Mirrors Fits (in_order p i (length l)) (each w l) l
unfolding in_order
mirror-each p w d [] i h = record { good = λ e rest. refl; bad = λ fit e. absurd (e refl) }
mirror-each {Fits} p w d (a ∷ l) i h =
    let first : Mirrors Fits (p i) (w a) a = rw add-zero at (h 0 (omega arith)) in
    mirror-then _ first (λ e. mirror-made (λ rest. a ∷ rest) (mirror-each p w d l (suc i) (λ j k. rw (suc-add i j, ← add-suc i j) (h (suc j) (omega arith)))))

-- The same by what is among them.
pub mirror-all : {Fits A : Type 0} (p : Parser A) (w : A → Part) (l : List A) (i : ℕ) → ((a : A) → Memᴰ a l → Mirrors Fits p (w a) a) →
    Mirrors Fits (in_order (λ i. p) i (length l)) (each w l) l
unfolding in_order
mirror-all p w [] i h = record { good = λ e rest. refl; bad = λ fit e. absurd (e refl) }
mirror-all p w (a ∷ l) i h =
    mirror-then _ (h a (Memᴰ.head refl))
    (λ e. mirror-made (λ rest. a ∷ rest) (mirror-all p w l (suc i) (λ b m. h b (Memᴰ.tail m))))
