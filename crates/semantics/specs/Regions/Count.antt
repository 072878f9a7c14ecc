-- How many timers are in a group, after a map of the group numbers and after a store to one of them.
-- Assumes nothing.
use Rattle.std.specs.Prelude.{◌≡◌, refl, Bool, true, false, cond, List, [], ◌∷◌, map, ℕ, zero, suc, ◌<◌, ◌≤◌, eqb, length, get_or, set}
use Rattle.std.proofs.Common.{ap, ◌∙◌, le_of_suc-le-suc, not-suc-le-zero, le_refl, arith, eq-eqb, ne_eqb, eqb-true}
use Rattle.semantics.specs.Region.{count}

one_more : (b : Bool) (n : ℕ) → n ≤ cond b (suc n) n
one_more true n = omega arith
one_more false n = le_refl _

one-more-mono : (b : Bool) (m n : ℕ) → m ≤ n → cond b (suc m) m ≤ cond b (suc n) n
one-more-mono true m n h = omega arith
one-more-mono false m n h = h

-- A group in which some timer is has a timer.
pub count-pos : (g i : ℕ) (l : List ℕ) → i < length l → get_or l i 0 ≡ g → 0 < count g l
count-pos g i [] h e = absurd (not-suc-le-zero h)
count-pos g zero (x ∷ l) h e = rw (eq-eqb x g e) (omega arith)
count-pos g (suc i) (x ∷ l) h e = omega (arith, count-pos g i l (le_of_suc-le-suc h) e, one_more (eqb x g) (count g l))

-- And the other way round: a group that has a timer has one at some place.
pub count-place : (g : ℕ) (l : List ℕ) → 0 < count g l → (i : ℕ) × (i < length l) × (get_or l i 0 ≡ g)
count-place g [] h = absurd (not-suc-le-zero h)
count-place g (x ∷ l) h = go (count-place g l) (eqb x g) refl h
  where
    go :
        (0 < count g l → (i : ℕ) × (i < length l) × (get_or l i 0 ≡ g)) → (b : Bool) → eqb x g ≡ b → 0 < cond b (suc (count g l)) (count g l)
        → (i : ℕ) × (i < suc (length l)) × (get_or (x ∷ l) i 0 ≡ g)
    go ih true e h = (0, omega arith, eqb-true x g e)
    go ih false e h = let o = ih h in (suc o.0, omega arith, o.2)

-- f takes g to h, so that h stands in the image at least as often as g in the list.
pub count_map : (f : ℕ → ℕ) (g h : ℕ) → f g ≡ h → (l : List ℕ) → count g l ≤ count h (map f l)
count_map f g h e [] = le_refl _
count_map f g h e (x ∷ l) = go (count_map f g h e l) (eqb x g) refl
  where
    go : count g l ≤ count h (map f l) → (b : Bool) → eqb x g ≡ b → cond b (suc (count g l)) (count g l) ≤ count h (map f (x ∷ l))
    go ih true p = rw (eq-eqb (f x) h (ap f (eqb-true x g p) ∙ e)) (omega arith)
    go ih false p = omega (arith, one_more (eqb (f x) h) (count h (map f l)))

-- No number is taken to h, so that h does not stand in the image.
pub count-map-none : (f : ℕ → ℕ) (h : ℕ) → ((x : ℕ) → f x ≡ h → ⊥) → (l : List ℕ) → count h (map f l) ≡ 0
count-map-none f h n [] = refl
count-map-none f h n (x ∷ l) = rw (ne_eqb (f x) h (n x)) (count-map-none f h n l)

-- Every group moved up one place: r0 is empty.
pub count-map-suc : (l : List ℕ) → count 0 (map suc l) ≡ 0
count-map-suc l = count-map-none suc 0 (λ x e. omega arith) l

-- A store over another group's number takes no timer out of group g.
pub count-set-other : (g v i : ℕ) (l : List ℕ) → (get_or l i 0 ≡ g → ⊥) → count g l ≤ count g (set l i v)
count-set-other g v i [] n = le_refl _
count-set-other g v zero (x ∷ l) n = rw (ne_eqb x g n) (one_more (eqb v g) (count g l))
count-set-other g v (suc i) (x ∷ l) n = one-more-mono (eqb x g) (count g l) (count g (set l i v)) (count-set-other g v i l n)

-- A store of another number over g takes one timer out of group g.
pub count-set-out : (g v i : ℕ) (l : List ℕ) → i < length l → get_or l i 0 ≡ g → (v ≡ g → ⊥) → count g l ≡ suc (count g (set l i v))
count-set-out g v i [] h e n = absurd (not-suc-le-zero h)
count-set-out g v zero (x ∷ l) h e n = rw (eq-eqb x g e, ne_eqb v g n) refl
count-set-out g v (suc i) (x ∷ l) h e n = go (count-set-out g v i l (le_of_suc-le-suc h) e n) (eqb x g)
  where
    go :
        count g l ≡ suc (count g (set l i v)) → (b : Bool)
        → cond b (suc (count g l)) (count g l) ≡ suc (cond b (suc (count g (set l i v))) (count g (set l i v)))
    go p true = ap suc p
    go p false = p

-- Another timer's number does not count.
pub count-other : (x g : ℕ) (l : List ℕ) → (x ≡ g → ⊥) → count g (x ∷ l) ≡ count g l
count-other x g l n = rw (ne_eqb x g n)
