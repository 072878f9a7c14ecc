-- Words that hold the entries of a table node by node: they are its words in a row, and the other way round.
-- Assumes nothing.
use Rattle.std.specs.Prelude.{◌≡◌, refl, ◌≢◌, List, [], ◌∷◌, ◌++◌, ℕ, zero, suc, ◌+◌, ◌*◌, ◌≤◌, ◌<◌, length, get_or, drop}
use Rattle.std.proofs.Common.{sym, ap, ap₂, ◌∙◌, append_assoc, arith}
use Rattle.semantics.specs.Answer.{count_from}
use Rattle.semantics.specs.Corners.Corner.{flat_map}
use Rattle.semantics.specs.Order.{Cost}
use Rattle.semantics.specs.Graph.Path.{Entry, unreached, reached, infinity, charge_at, steps_at, table}
use Rattle.semantics.specs.Graph.Distance.{entry_words}
use Rattle.semantics.specs.Paths.Words.{Blank, table-unreached, table-holds, reached-words, unreached-words}

-- The two words of node v.
abbrev pub words_at : List ℕ → ℕ → List ℕ
words_at ws v = charge_at ws v ∷ steps_at ws v ∷ []

-- The table has an entry: the words of the node are those of the entry.
pub entry-words : (ws : List ℕ) (v : ℕ) → Blank ws v → (x : Entry) → table ws v ≡ x → words_at ws v ≡ entry_words x
entry-words ws v b unreached q = let c = unreached-words ws v q in ap₂ (λ (k n : ℕ). k ∷ n ∷ []) c (b c)
entry-words ws v b (reached c) q = let w = reached-words ws v c q in ap₂ (λ (k n : ℕ). k ∷ n ∷ []) w.charge w.steps

-- And the other way round, if no charge is infinity.
pub words-entry : (ws : List ℕ) (v : ℕ) (x : Entry) → ((c : Cost) → x ≡ reached c → c.charge ≢ infinity) → words_at ws v ≡ entry_words x → table ws v ≡ x
words-entry ws v unreached known e = table-unreached ws v (ap (λ (l : List ℕ). get_or l 0 0) e)
words-entry ws v (reached c) known e =
    let charge : charge_at ws v ≡ c.charge = ap (λ (l : List ℕ). get_or l 0 0) e in
    let steps : steps_at ws v ≡ c.steps = ap (λ (l : List ℕ). get_or l 1 0) e in
    table-holds ws v c (record { known = λ q. known c refl (sym charge ∙ q); charge = charge; steps = steps })

-- Behind the two words of a node are those of the next ones.
later-words : (x y : ℕ) (ws : List ℕ) (v : ℕ) → words_at (x ∷ y ∷ ws) (suc v) ≡ words_at ws v
later-words x y ws v =
    let charge : 2 * suc v ≡ suc (suc (2 * v)) = omega arith in
    let steps : 2 * suc v + 1 ≡ suc (suc (2 * v + 1)) = omega arith in
    ap₂ (λ (i j : ℕ). get_or (x ∷ y ∷ ws) i 0 ∷ get_or (x ∷ y ∷ ws) j 0 ∷ []) charge steps

-- The words of the entries that d gives to n nodes from i on.
module _ (d : ℕ → Entry) where
  abbrev pub words_of : ℕ → ℕ → List ℕ
  words_of i n = flat_map (λ v. entry_words (d v)) (count_from i n)

  -- Words that are theirs node by node begin with them.
  pub words-gathered :
      (n i : ℕ) (ws : List ℕ) → 2 * n ≤ length ws → ((v : ℕ) → v < n → words_at ws v ≡ entry_words (d (i + v)))
      → ws ≡ words_of i n ++ drop (2 * n) ws
  words-gathered zero i ws room h = refl
  words-gathered (suc n) i [] room h = absurd (omega arith)
  words-gathered (suc n) i (x ∷ []) room h = absurd (omega arith)
  words-gathered (suc n) i (x ∷ y ∷ ws) room h =
      let same : i + 0 ≡ i = omega arith in
      let further : suc (suc (2 * n)) ≡ 2 * suc n = omega arith in
      let first : x ∷ y ∷ [] ≡ entry_words (d i) = h 0 (omega arith) ∙ ap (λ (u : ℕ). entry_words (d u)) same in
      let others : ws ≡ words_of (suc i) n ++ drop (2 * n) ws =
      words-gathered n (suc i) ws (omega arith)
      (λ v l. let next : i + suc v ≡ suc i + v = omega arith in
      sym (later-words x y ws v) ∙ h (suc v) (omega arith) ∙ ap (λ (u : ℕ). entry_words (d u)) next) in
      ap₂ (λ (k l : List ℕ). k ++ l) first others
      ∙ sym (append_assoc (entry_words (d i)) (words_of (suc i) n) (drop (2 * n) ws))
      ∙ ap (λ (k : ℕ). words_of i (suc n) ++ drop k (x ∷ y ∷ ws)) further

  -- And they are theirs node by node, whatever is behind them.
  first_of : (x : Entry) (l rest : List ℕ) → words_at (entry_words x ++ l ++ rest) 0 ≡ entry_words x
  first_of unreached l rest = refl
  first_of (reached c) l rest = refl

  later_of : (x : Entry) (l rest : List ℕ) (v : ℕ) → words_at (entry_words x ++ l ++ rest) (suc v) ≡ words_at (l ++ rest) v
  later_of unreached l rest v = later-words infinity infinity (l ++ rest) v
  later_of (reached c) l rest v = later-words c.charge c.steps (l ++ rest) v

  pub words-scattered : (n i : ℕ) (rest : List ℕ) (v : ℕ) → v < n → words_at (words_of i n ++ rest) v ≡ entry_words (d (i + v))
  words-scattered zero i rest v h = absurd (omega arith)
  words-scattered (suc n) i rest zero h =
      let same : i ≡ i + 0 = omega arith in
      first_of (d i) (words_of (suc i) n) rest ∙ ap (λ (u : ℕ). entry_words (d u)) same
  words-scattered (suc n) i rest (suc v) h =
      let next : suc i + v ≡ i + suc v = omega arith in
      later_of (d i) (words_of (suc i) n) rest v ∙ words-scattered n (suc i) rest v (omega arith) ∙ ap (λ (u : ℕ). entry_words (d u)) next
