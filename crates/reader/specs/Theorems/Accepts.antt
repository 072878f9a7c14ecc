-- The reading function accepts bytes exactly if they are a layout of some fields and mode 0's conditions hold at zero, and these are then the
-- fields read.
-- Assumes nothing.
use Rattle.std.specs.Prelude.{ℕ, suc, ◌-◌, ◌≤◌, ◌<◌, ◌≡◌, refl, ◌↔◌, Bool, true, false, cond, length}
use Rattle.std.proofs.Common.{arith, sym, ap, ◌∙◌, inl, inr, true≢false}
use mathlib.Core.List.Memᴰ
use mathlib.Core.List.{List, [], ◌∷◌, ◌++◌, Memᴰ}
use Rattle.semantics.specs.Automaton.{start_holds}
use Rattle.reader.specs.Parser.{Outcome, refused, took, run}
use Rattle.table.specs.Fields.{Fields}
use Rattle.reader.specs.Format.{Header, header, table}
use Rattle.reader.specs.Layout.{InRow, none, more, ModeLayout, MoveLayout, Layout}
use Rattle.table.specs.Meaning.{automaton}
use Rattle.reader.specs.Read.{accepted, rejected, judge, read}
use Rattle.reader.specs.Theorems.Running.{took-same}
use Rattle.reader.specs.Theorems.Exactly.{Exactly, Both, both, both-given, One, Row, reworded, within-exactly, order-exactly, Made, made}
use Rattle.reader.specs.Theorems.RecordLayouts.{mode-exactly, move-exactly}

-- The first four bytes.
pub record HeaderLayout (bytes : List ℕ) (h : Header) : Type 0 where
  pub split : bytes ≡ h.modes ∷ h.timers ∷ h.moves ∷ h.goal ∷ []
  pub modes : (1 ≤ h.modes) × (h.modes ≤ 16)
  pub timers : (1 ≤ h.timers) × (h.timers ≤ 3)
  pub moves : h.moves ≤ 64
  pub goal : h.goal < h.modes

abbrev Between : ℕ → ℕ → List ℕ → ℕ → Type 0
Between least most = One (λ b. (least ≤ b) × (b ≤ most))

abbrev HeaderParts : List ℕ → Header → Type 0
HeaderParts =
    Both (Between 1 16) (λ m. Both (Between 1 3) (λ n. Both (Between 0 64) (λ e.
    Made (λ g. record { modes = m; timers = n; moves = e; goal = g }) (Between 0 (m - 1)))))

header-lays : (xs : List ℕ) (h : Header) → HeaderParts xs h → HeaderLayout xs h
header-lays xs h k =
    let n = k.second in
    let e = n.second in
    let g = e.second in
    rw (← g.same) (record {
      split =
          k.split ∙ ap (λ (l : List ℕ). l ++ k.back) k.first.0
          ∙ ap (λ (l : List ℕ). k.value ∷ l) (n.split ∙ ap (λ (l : List ℕ). l ++ n.back) n.first.0
          ∙ ap (λ (l : List ℕ). n.value ∷ l) (e.split ∙ ap (λ (l : List ℕ). l ++ e.back) e.first.0
          ∙ ap (λ (l : List ℕ). e.value ∷ l) g.laid.0));
      modes = k.first.1;
      timers = n.first.1;
      moves = e.first.1.1;
      goal = omega (arith, k.first.1, g.laid.1);
    })

lays-header : (xs : List ℕ) (h : Header) → HeaderLayout xs h → HeaderParts xs h
lays-header xs h k = record {
  value = h.modes;
  front = h.modes ∷ [];
  back = h.timers ∷ h.moves ∷ h.goal ∷ [];
  split = k.split;
  first = (refl, k.modes);
  second = record {
    value = h.timers;
    front = h.timers ∷ [];
    back = h.moves ∷ h.goal ∷ [];
    split = refl;
    first = (refl, k.timers);
    second = record {
      value = h.moves;
      front = h.moves ∷ [];
      back = h.goal ∷ [];
      split = refl;
      first = (refl, (omega arith, k.moves));
      second = record { value = h.goal; laid = (refl, (omega arith, omega (arith, k.goal))); same = refl };
    };
  };
}

header-exactly : Exactly header HeaderLayout
unfolding header
header-exactly =
    reworded header-lays lays-header
    (both (within-exactly 2 1 16) (λ m. both (within-exactly 2 1 3) (λ n. both (within-exactly 2 0 64) (λ e. made _ (within-exactly 2 0 (m - 1))))))

-- A row of single bytes is the list of them.
row-bytes : {Good : ℕ → Type 0} {i : ℕ} (xs l : List ℕ) → InRow (λ i. One Good) i xs l → (xs ≡ l) × ((c : ℕ) → Memᴰ c l → Good c)
row-bytes xs l none = (refl, λ c m. absurd (Memᴰ.not-nil m))
row-bytes {Good = Good} xs l (more {xs = front} {ys = back} {a = a} {l = rest} r k) =
    let t = row-bytes back rest k in (
      ap (λ (m : List ℕ). m ++ back) r.0 ∙ ap (λ (m : List ℕ). a ∷ m) t.0,
      λ c m. elim (Memᴰ.cases_cons m) [ inl e ↦ rw e r.1 | inr m' ↦ t.1 c m' ],
    )

bytes-row : {Good : ℕ → Type 0} (i : ℕ) (l : List ℕ) → ((c : ℕ) → Memᴰ c l → Good c) → InRow (λ i. One Good) i l l
bytes-row i [] h = none
bytes-row i (c ∷ l) h = more {xs = c ∷ []} (refl, h c (Memᴰ.head refl)) (bytes-row (suc i) l (λ d m. h d (Memᴰ.tail m)))

-- The parts of a table in the order of its bytes.
abbrev Good : ℕ → Type 0
Good c = (1 ≤ c) × (c ≤ 15)

abbrev TableParts : List ℕ → Fields → Type 0
TableParts =
    Both HeaderLayout (λ h. Both (Row (λ i. One Good) 0 h.timers) (λ cs. Both (Row (λ i. ModeLayout h.timers) 0 h.modes) (λ ms.
    Made (λ es. record { goal = h.goal; ceilings = cs; modes = ms; moves = es }) (Row (λ i. MoveLayout h.modes h.timers) 0 h.moves))))

table-lays : (xs : List ℕ) (f : Fields) → TableParts xs f → Layout xs f
table-lays xs f k =
    let h = k.first in
    let c = k.second in
    let m = c.second in
    let e = m.second in
    let t = row-bytes c.front c.value c.first.1 in
    let n : k.value.timers ≡ length c.value = sym c.first.0 in
    let j : k.value.modes ≡ length m.value = sym m.first.0 in
    let o : k.value.moves ≡ length e.value = sym e.laid.0 in
    rw (← e.same) (record {
      mode-bytes = m.front;
      move-bytes = m.back;
      split =
          k.split ∙ ap (λ (l : List ℕ). l ++ k.back) h.split
          ∙ ap (λ (l : List ℕ). k.value.modes ∷ k.value.timers ∷ k.value.moves ∷ k.value.goal ∷ l)
          (c.split ∙ ap (λ (l : List ℕ). l ++ c.back) t.0 ∙ ap (λ (l : List ℕ). c.value ++ l) m.split)
          ∙ rw (n, j, o);
      modes-range = rw j at h.modes;
      timers-range = rw n at h.timers;
      moves-range = rw o at h.moves;
      goal-range = rw j at h.goal;
      ceilings-range = t.1;
      modes = rw n at m.first.1;
      moves = rw (j, n) at e.laid.1;
    })

lays-table : (xs : List ℕ) (f : Fields) → Layout xs f → TableParts xs f
lays-table xs f k = record {
  value = record { modes = length f.modes; timers = length f.ceilings; moves = length f.moves; goal = f.goal };
  front = length f.modes ∷ length f.ceilings ∷ length f.moves ∷ f.goal ∷ [];
  back = f.ceilings ++ (k.mode-bytes ++ k.move-bytes);
  split = k.split;
  first = record { split = refl; modes = k.modes-range; timers = k.timers-range; moves = k.moves-range; goal = k.goal-range };
  second = record {
    value = f.ceilings;
    front = f.ceilings;
    back = k.mode-bytes ++ k.move-bytes;
    split = refl;
    first = (refl, bytes-row 0 f.ceilings k.ceilings-range);
    second = record {
      value = f.modes;
      front = k.mode-bytes;
      back = k.move-bytes;
      split = refl;
      first = (refl, k.modes);
      second = record { value = f.moves; laid = (refl, k.moves); same = refl };
    };
  };
}

-- The parser of tables takes exactly the layouts of fields.
pub table-exactly : Exactly table Layout
unfolding table
table-exactly =
    reworded table-lays lays-table
    (both-given header-exactly (λ h xs r. both (order-exactly (λ i. within-exactly 2 1 15) 0 h.timers) (λ cs.
    both (order-exactly (λ i. mode-exactly h.timers r.timers.0 r.timers.1) 0 h.modes) (λ ms.
    made _ (order-exactly (λ i. move-exactly h.timers r.timers.0 r.timers.1 h.modes r.modes.0) 0 h.moves)))))

-- Bytes are a layout of one list of fields at most.
pub layout-once : (bytes : List ℕ) (f g : Fields) → Layout bytes f → Layout bytes g → f ≡ g
layout-once bytes f g k l = took-same (sym (table-exactly.takes bytes f k) ∙ table-exactly.takes bytes g l)

-- What an acceptance comes of.
accepted-from : (f : Fields) (o : Outcome Fields) → judge o ≡ accepted f → (o ≡ took f []) × (start_holds (automaton f) ≡ true)
accepted-from f (refused n) e = absurd (true≢false cc)
accepted-from f (took g (b ∷ s)) e = absurd (true≢false cc)
accepted-from f (took g []) e = go (start_holds (automaton g)) refl e
  where
    go : (t : Bool) → start_holds (automaton g) ≡ t → cond t (accepted g) (rejected 7) ≡ accepted f → (took g [] ≡ took f []) × (start_holds (automaton f) ≡ true)
    go true h e = let q : g ≡ f = cc in (ap (λ (u : Fields). took u []) q, rw (← q) h)
    go false h e = absurd (true≢false cc)

module _ (bytes : List ℕ) (f : Fields) where
  -- Bytes are accepted with the fields f exactly if they are a layout of f and mode 0's conditions hold at zero.
  pub accepts : (read bytes ≡ accepted f) ↔ (Layout bytes f × (start_holds (automaton f) ≡ true))
  unfolding read
  accepts = (
    λ e. let a = accepted-from f (run table bytes) e in (table-exactly.lays bytes f a.0, a.1),
    λ k. rw (table-exactly.takes bytes f k.0, k.1),
  )

  -- A layout whose mode 0 has a condition that fails at zero is refused by 7.
  pub start-fails : Layout bytes f → start_holds (automaton f) ≡ false → read bytes ≡ rejected 7
  unfolding read
  start-fails k h = rw (table-exactly.takes bytes f k, h)

  layout-judged : (t : Bool) → start_holds (automaton f) ≡ t → Layout bytes f → (n : ℕ) → read bytes ≡ rejected n → n ≡ 7
  layout-judged true h k n e = let q : read bytes ≡ accepted f = accepts.1 (k, h) in absurd (true≢false cc)
  layout-judged false h k n e = let q : read bytes ≡ rejected 7 = start-fails k h in cc

  -- Bytes that are refused by any other number are no layout.
  pub refused-layout : (n : ℕ) → read bytes ≡ rejected n → (n ≡ 7 → ⊥) → Layout bytes f → ⊥
  refused-layout n e h k = h (layout-judged (start_holds (automaton f)) refl k n e)
