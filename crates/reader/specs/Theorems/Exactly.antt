-- A parser that takes exactly the bytes that a relation lays out, from its parts.
-- Assumes nothing.
use Rattle.std.specs.Prelude.{ℕ, zero, suc, ◌≤◌, ◌≡◌, refl, Bool, true, false, cond, List, [], ◌∷◌, ◌++◌, leb, length}
use Rattle.std.proofs.Common.{arith, sym, ap, ◌∙◌, true≢false, append-nil, le-leb, leb-true}
use Rattle.semantics.specs.Regions.Compare.{and-true-iff}
use Rattle.reader.specs.Parser.{Parser, done, refuse, byte, ◌>>=◌, in_order, Outcome, refused, took, run}
use Rattle.reader.specs.Format.{any_byte, tested, between, within, if_stands}
use Rattle.reader.specs.Layout.{Optional, present, absent, InRow, none, more}
use Rattle.reader.specs.Theorems.Running.{run_bind, and_then, parts, took-same, took-rest}

-- The parser takes the whole of these bytes, and gives a, exactly if R lays them out for a.
pub record Exactly {A : Type 0} (p : Parser A) (R : List ℕ → A → Type 0) : Type 0 where
  pub lays : (xs : List ℕ) (a : A) → run p xs ≡ took a [] → R xs a
  pub takes : (xs : List ℕ) (a : A) → R xs a → run p xs ≡ took a []

-- More bytes behind change nothing.
pub frame : {A : Type 0} (p : Parser A) (xs rest ys : List ℕ) (a : A) → run p xs ≡ took a rest → run p (xs ++ ys) ≡ took a (rest ++ ys)
frame (done b) xs rest ys a e = ap (λ (o : Outcome _). behind o ys) e
  where
    behind : {A : Type 0} → Outcome A → List ℕ → Outcome A
    behind (refused n) ys = refused n
    behind (took a s) ys = took a (s ++ ys)
frame (refuse n) xs rest ys a e = absurd (true≢false cc)
frame (byte k) [] rest ys a e = absurd (true≢false cc)
frame (byte k) (b ∷ xs) rest ys a e = frame (k b) xs rest ys a e

-- What was taken stands in front of what is left, and is taken alone.
pub record Taken {A : Type 0} (p : Parser A) (bytes : List ℕ) (a : A) (rest : List ℕ) : Type 0 where
  pub front : List ℕ
  pub split : bytes ≡ front ++ rest
  pub alone : run p front ≡ took a []

pub taken : {A : Type 0} (p : Parser A) (bytes : List ℕ) (a : A) (rest : List ℕ) → run p bytes ≡ took a rest → Taken p bytes a rest
taken (done b) bytes a rest e = let f : bytes ≡ rest = cc in let g : b ≡ a = cc in record { front = []; split = f; alone = ap (λ (c : _). took c []) g }
taken (refuse n) bytes a rest e = absurd (true≢false cc)
taken (byte k) [] a rest e = absurd (true≢false cc)
taken (byte k) (b ∷ bytes) a rest e =
    let t = taken (k b) bytes a rest e in
    record { front = b ∷ t.front; split = ap (λ (l : List ℕ). b ∷ l) t.split; alone = t.alone }

-- Two parts: the bytes split, and the second part's layout goes by the first's value.
pub record Both {A B : Type 0} (R : List ℕ → A → Type 0) (S : A → List ℕ → B → Type 0) (bytes : List ℕ) (b : B) : Type 0 where
  pub value : A
  pub front : List ℕ
  pub back : List ℕ
  pub split : bytes ≡ front ++ back
  pub first : R front value
  pub second : S value back b

pub both-given : {A B : Type 0} {p : Parser A} {f : A → Parser B} {R : List ℕ → A → Type 0} {S : A → List ℕ → B → Type 0} →
    Exactly p R → ((a : A) (xs : List ℕ) → R xs a → Exactly (f a) (S a)) → Exactly (p >>= f) (Both R S)
both-given {p = p} {f = f} E F = record {
  lays = λ xs b e.
      let q = parts p f xs b [] e in
      let t = taken p xs q.value q.middle q.first in
      let r = E.lays t.front q.value t.alone in
      record {
        value = q.value;
        front = t.front;
        back = q.middle;
        split = t.split;
        first = r;
        second = (F q.value t.front r).lays q.middle b q.second;
      };
  takes = λ xs b k.
      let e : run p xs ≡ took k.value k.back = rw k.split (frame p k.front [] k.back k.value (E.takes k.front k.value k.first)) in
      run_bind p f xs ∙ ap (λ (o : Outcome _). and_then o f) e ∙ (F k.value k.front k.first).takes k.back b k.second;
}

pub both : {A B : Type 0} {p : Parser A} {f : A → Parser B} {R : List ℕ → A → Type 0} {S : A → List ℕ → B → Type 0} →
    Exactly p R → ((a : A) → Exactly (f a) (S a)) → Exactly (p >>= f) (Both R S)
both E F = both-given E (λ a xs r. F a)

-- The last part, whose value makes the whole's.
pub record Made {A B : Type 0} (g : A → B) (R : List ℕ → A → Type 0) (bytes : List ℕ) (b : B) : Type 0 where
  pub value : A
  pub laid : R bytes value
  pub same : g value ≡ b

pub made : {A B : Type 0} {p : Parser A} {R : List ℕ → A → Type 0} (g : A → B) → Exactly p R → Exactly (p >>= λ a. done (g a)) (Made g R)
made {p = p} g E = record {
  lays = λ xs b e.
      let q = parts p (λ a. done (g a)) xs b [] e in
      let m : q.middle ≡ [] = took-rest q.second in
      record { value = q.value; laid = E.lays xs q.value (q.first ∙ ap (λ (l : List ℕ). took q.value l) m); same = took-same q.second };
  takes = λ xs b k.
      run_bind p (λ a. done (g a)) xs ∙ ap (λ (o : Outcome _). and_then o (λ a. done (g a))) (E.takes xs k.value k.laid) ∙ ap (λ (c : _). took c []) k.same;
}

-- Nothing more is taken.
pub finished : {A : Type 0} (v : A) → Exactly (done v) (λ xs a. (xs ≡ []) × (v ≡ a))
finished v = record { lays = λ xs a e. let f : xs ≡ [] = cc in let g : v ≡ a = cc in (f, g); takes = λ xs a k. rw (k.0, k.1) }

-- The same relation in other words.
pub reworded : {A : Type 0} {p : Parser A} {R S : List ℕ → A → Type 0} → ((xs : List ℕ) (a : A) → R xs a → S xs a) → ((xs : List ℕ) (a : A) → S xs a → R xs a) →
    Exactly p R → Exactly p S
reworded f g E = record { lays = λ xs a e. f xs a (E.lays xs a e); takes = λ xs a s. E.takes xs a (g xs a s) }

-- One byte, of which Good holds.
abbrev pub One : (ℕ → Type 0) → List ℕ → ℕ → Type 0
One Good xs b = (xs ≡ b ∷ []) × Good b

-- A byte that is taken if a test passes.
module _ (passes : ℕ → Bool) (number : ℕ) where
  tested-lays : (xs : List ℕ) (a : ℕ) → run (tested passes number) xs ≡ took a [] → One (λ b. passes b ≡ true) xs a
  tested-lays [] a e = absurd (true≢false cc)
  tested-lays (b ∷ xs) a e = go (passes b) refl e
    where
      go : (t : Bool) → passes b ≡ t → run (cond t (done b) (refuse number)) xs ≡ took a [] → One (λ b. passes b ≡ true) (b ∷ xs) a
      go true f e = let g : b ≡ a = cc in let h : xs ≡ [] = cc in (rw (g, h), rw (← g) f)
      go false f e = absurd (true≢false cc)

  tested-takes : (xs : List ℕ) (a : ℕ) → One (λ b. passes b ≡ true) xs a → run (tested passes number) xs ≡ took a []
  tested-takes xs a k = ap (run (tested passes number)) k.0 ∙ ap (λ (t : Bool). run (cond t (done a) (refuse number)) []) k.1

  pub tested-exactly : Exactly (tested passes number) (One (λ b. passes b ≡ true))
  tested-exactly = record { lays = tested-lays; takes = tested-takes }

pub within-exactly : (number least most : ℕ) → Exactly (within number least most) (One (λ b. (least ≤ b) × (b ≤ most)))
unfolding within
within-exactly number least most =
    reworded (λ xs a k. (k.0, let c = (and-true-iff (leb least a) (leb a most)).0 k.1 in (leb-true least a c.0, leb-true a most c.1)))
    (λ xs a k. (k.0, rw (le-leb least a k.1.0, le-leb a most k.1.1))) (tested-exactly (between least most) number)

pub any-exactly : Exactly any_byte (One (λ b. Unit {0}))
any-exactly = reworded (λ xs a k. (k.0, tt)) (λ xs a k. (k.0, refl)) (tested-exactly (λ b. true) 0)

-- A field where its bit stands.
pub optional-exactly : {p : Parser ℕ} {Good : ℕ → Type 0} → Exactly p (One Good) → (t : Bool) → Exactly (if_stands t p) (Optional Good t)
optional-exactly {Good = Good} E true = reworded (λ xs a k. rw k.0 (present k.1)) (λ xs a k. back xs a k) E
  where
    back : (xs : List ℕ) (a : ℕ) → Optional Good true xs a → One Good xs a
    back xs a (present g) = (refl, g)
optional-exactly {Good = Good} E false = reworded (λ xs a k. rw (k.0, ← k.1) absent) back (finished 0)
  where
    back : (xs : List ℕ) (a : ℕ) → Optional Good false xs a → (xs ≡ []) × (0 ≡ a)
    back xs a absent = (refl, refl)

-- Parsers in order take rows.
abbrev pub Row : {A : Type 0} → (ℕ → List ℕ → A → Type 0) → ℕ → ℕ → List ℕ → List A → Type 0
Row R i n xs l = (length l ≡ n) × InRow R i xs l

row-none : {A : Type 0} {R : ℕ → List ℕ → A → Type 0} (i : ℕ) (xs : List ℕ) (l : List A) → InRow R i xs l → length l ≡ 0 → (xs ≡ []) × ([] ≡ l)
row-none i xs l none h = (refl, refl)
row-none i xs l (more r k) h = absurd (omega arith)

-- The first of a row and the others.
abbrev RowParts : {A : Type 0} → (ℕ → List ℕ → A → Type 0) → ℕ → ℕ → List ℕ → List A → Type 0
RowParts R i n = Both (R i) (λ a. Both (Row R (suc i) n) (λ rest xs l. (xs ≡ []) × (a ∷ rest ≡ l)))

row_more : {A : Type 0} {R : ℕ → List ℕ → A → Type 0} (i n : ℕ) (xs : List ℕ) (l : List A) → InRow R i xs l → length l ≡ suc n → RowParts R i n xs l
row_more i n xs l none h = absurd (omega arith)
row_more i n xs l (more {xs = front} {ys = back} {a = a} {l = rest} r k) h = record {
  value = a;
  front = front;
  back = back;
  split = refl;
  first = r;
  second = record { value = rest; front = back; back = []; split = sym (append-nil back); first = (omega arith, k); second = (refl, refl) };
}

more-row : {A : Type 0} {R : ℕ → List ℕ → A → Type 0} (i n : ℕ) (xs : List ℕ) (l : List A) → RowParts R i n xs l → Row R i (suc n) xs l
more-row {R = R} i n xs l k =
    let s = k.second in
    let e : xs ≡ k.front ++ s.front = k.split ∙ ap (λ (m : List ℕ). k.front ++ m) (s.split ∙ ap (λ (m : List ℕ). s.front ++ m) s.second.0 ∙ append-nil s.front) in
    rw (e, ← s.second.1) (ap suc s.first.0, more k.first s.first.1)

pub order-exactly : {A : Type 0} {p : ℕ → Parser A} {R : ℕ → List ℕ → A → Type 0} → ((i : ℕ) → Exactly (p i) (R i)) → (i n : ℕ) → Exactly (in_order p i n) (Row R i n)
unfolding in_order
order-exactly {R = R} E i zero = reworded (λ xs l k. rw (k.0, ← k.1) (refl, none)) (λ xs l k. row-none i xs l k.1 k.0) (finished [])
order-exactly {R = R} E i (suc n) =
    reworded (more-row i n) (λ xs l k. row_more i n xs l k.1 k.0) (both (E i) (λ a. both (order-exactly E (suc i) n) (λ rest. finished (a ∷ rest))))
