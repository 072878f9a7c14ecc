-- The graph of minutes: its edges are exactly the pairs that are allowed, each with a label of its own, they lead to nodes, and none weighs more than
-- the greatest rate or price for each minute that timer 0 allows and for the move. Labels are in the order of the pairs' bytes.
-- Assumes nothing.
use Rattle.std.specs.Prelude.{◌≡◌, ◌↔◌, ◌⊎◌, length}
use Rattle.std.proofs.Math.Path.{refl, ap, subst}
use Rattle.std.proofs.Common.{◌∙◌, sym, inl, inr, ⊎_elim, mod-lt, div-add-mod', mul-le-mul_left, mul-le-mul_right}
use mathlib.Core.List.Memᴰ
use mathlib.Core.List.{List, [], ◌∷◌, map, Memᴰ}
use Rattle.std.proofs.Math.Option.{Option, none, some}
use Prim.Native.Nat.{ℕ, suc, ◌+◌, ◌*◌, ◌/◌, ◌%◌, ◌<◌, ◌≤◌}
use Rattle.std.proofs.Math.Nat.{suc-mul, le_trans}
use Rattle.std.proofs.Math.Decide.{dec_lt}
use native.Mathlib.Omega.{arith}
use Rattle.std.proofs.Math.ListN.{get_or}
use Rattle.std.proofs.lemmas.List.{length-map}
use Rattle.semantics.specs.Automata.Proper.{Proper}
use Rattle.semantics.specs.Automaton.{Automaton, mode_at, move_at}
use Rattle.semantics.specs.Order.{◌⊑◌}
use Rattle.semantics.specs.Run.{State}
use Rattle.semantics.specs.Answer.{count_from}
use Rattle.semantics.specs.Timetable.{Pair, bytes_of, after_pair, pair_step, pair_charge, pairs_from, all_pairs, state_count}
use Rattle.semantics.specs.Graph.Path.{Edge, Graph, Leaves, Closed, WeightsWithin}
use Rattle.semantics.specs.Graph.CornerGraph.{PricesWithin}
use Rattle.semantics.specs.Graph.MinuteGraph.{label_of, pair_of, state_number, state_at, pair_edges, minute_graph}
use Rattle.semantics.specs.Nodes.Radix.{pair-quotient, pair-remainder}
use Rattle.semantics.specs.Corners.Lists.{mem_below, mem-get_or, mem-flat_map, mem-of-flat_map}
use Rattle.semantics.specs.Timetables.Allowed.{PairAllowed, pair_step_lem}
use Rattle.semantics.specs.Timetables.States.{state-below, state_at-state, pair-state}

-- The pair of a pair's label.
pub pair-label : (p : Pair) → p.made < 64 → pair_of (label_of p) ≡ p
pair-label p h =
    let e : label_of p ≡ p.minutes * 64 + p.made = omega arith in
    let q = ap (λ (n : ℕ). n / 64) e ∙ pair-quotient 64 p.minutes p.made h in
    let r = ap (λ (n : ℕ). n % 64) e ∙ pair-remainder 64 p.minutes p.made h in
    λ i. record { minutes = q i; made = r i }

-- The label order is that of the bytes.
module _ (j k : ℕ) where
  digits : (j / 64 * 64 + j % 64 ≡ j) × (k / 64 * 64 + k % 64 ≡ k) × (j % 64 < 64) × (k % 64 < 64)
  digits = (div-add-mod' j 64, div-add-mod' k 64, mod-lt j {m = 64} (omega arith), mod-lt k {m = 64} (omega arith))

  label-less : j < k → Dec (j / 64 < k / 64) → (j / 64 < k / 64) ⊎ ((j / 64 ≡ k / 64) × (j % 64 < k % 64))
  label-less h (yes l) = inl l
  label-less h (no l) = inr (omega (arith, digits), omega (arith, digits))

pub labels-bytes : (ls ms : List ℕ) → (ls ⊑ ms) ↔ (bytes_of (map pair_of ls) ⊑ bytes_of (map pair_of ms))
labels-bytes [] ms = (λ h. tt, λ h. tt)
labels-bytes (j ∷ ls) [] = (λ h. h, λ h. h)
labels-bytes (j ∷ ls) (k ∷ ms) = (to (labels-bytes ls ms).0, from (labels-bytes ls ms).1)
  where
    to :
        (ls ⊑ ms → bytes_of (map pair_of ls) ⊑ bytes_of (map pair_of ms)) → (j ∷ ls) ⊑ (k ∷ ms)
        → bytes_of (map pair_of (j ∷ ls)) ⊑ bytes_of (map pair_of (k ∷ ms))
    to ih (inl h) = ⊎_elim (λ l. inl l) (λ o. inr (o.0, inl o.1)) (label-less j k h (dec_lt (j / 64) (k / 64)))
    to ih (inr h) = inr (ap (λ (n : ℕ). n / 64) h.0, inr (ap (λ (n : ℕ). n % 64) h.0, ih h.1))

    from :
        (bytes_of (map pair_of ls) ⊑ bytes_of (map pair_of ms) → ls ⊑ ms) → bytes_of (map pair_of (j ∷ ls)) ⊑ bytes_of (map pair_of (k ∷ ms))
        → (j ∷ ls) ⊑ (k ∷ ms)
    from ih (inl h) = inl (omega (arith, digits j k))
    from ih (inr (e, inl h)) = inl (omega (arith, digits j k))
    from ih (inr (e, inr h)) = inr (omega (arith, digits j k), ih h.1)

pub bytes-length : (ps : List Pair) → length (bytes_of ps) ≡ 2 * length ps
bytes-length [] = refl
bytes-length (p ∷ ps) = omega (arith, bytes-length ps)

pub label-bytes-length : (ls : List ℕ) → length (bytes_of (map pair_of ls)) ≡ 2 * length ls
label-bytes-length ls = omega (arith, bytes-length (map pair_of ls), length-map ls pair_of)

-- The pairs of so many moves and these minutes.
mem-pairs : (n : ℕ) (ds : List ℕ) (p : Pair) → Memᴰ p.minutes ds → p.made < n → Memᴰ p (pairs_from n ds)
mem-pairs n [] p m h = absurd (Memᴰ.not-nil m)
mem-pairs n (d ∷ ds) p m h = go (mem-pairs n ds p) (Memᴰ.cases_cons m)
  where
    of : ℕ → ℕ → Pair
    of d k = record { minutes = d; made = k }

    go :
        (Memᴰ p.minutes ds → p.made < n → Memᴰ p (pairs_from n ds)) → (p.minutes ≡ d) ⊎ Memᴰ p.minutes ds
        → Memᴰ p (pairs_from n (d ∷ ds))
    go ih (inl e) =
        Memᴰ.append_left (pairs_from n ds)
        (subst (λ (c : ℕ). Memᴰ p (map (of c) (count_from 0 n))) e (Memᴰ.map (of p.minutes) (mem_below n p.made h)))
    go ih (inr k) = Memᴰ.append_right (map (of d) (count_from 0 n)) (ih k h)

-- The edge of a pair from a state to the next.
abbrev pub pair_edge : Automaton → Pair → State → State → Edge
pair_edge a p s s' = record { label = label_of p; weight = pair_charge a p s; to = state_number a s' }

-- An edge that leaves node v, as one of a pair.
pub record EdgeOf (a : Automaton) (v : ℕ) (e : Edge) : Type 0 where
  pub pair : Pair
  pub allowed : PairAllowed a pair (state_at a v)
  pub is : e ≡ pair_edge a pair (state_at a v) (after_pair a pair (state_at a v))

module _ (a : Automaton) (ok : Proper a) where
  -- The wait of an allowed pair is no longer than the ceiling of timer 0, and its move is there.
  pub pair-minutes : (p : Pair) (s : State) → PairAllowed a p s → p.minutes ≤ get_or a.ceilings 0 0
  pair-minutes p s h = let b = h.waits.1 0 ok.some-timer in omega arith

  pub pair_made : (p : Pair) (s : State) → PairAllowed a p s → p.made < length a.moves
  pair_made p s h = h.moves.0

  pub pair-few : (p : Pair) (s : State) → PairAllowed a p s → p.made < 64
  pair-few p s h = omega (arith, pair_made p s h, ok.few-moves)

  pub pair-listed : (p : Pair) (s : State) → PairAllowed a p s → Memᴰ p (all_pairs a)
  unfolding all_pairs
  pair-listed p s h =
      mem-pairs (length a.moves) (count_from 0 (suc (get_or a.ceilings 0 0))) p
      (mem_below (suc (get_or a.ceilings 0 0)) p.minutes (omega (arith, pair-minutes p s h))) (pair_made p s h)

  module _ (l : ℕ) where
    abbrev g : Graph
    g = minute_graph a l

    -- The edges that leave a node are those of the pairs that are allowed there.
    pub minute-edge-to :
        (v : ℕ) (e : Edge) → Leaves g v e
        → (p : Pair) × (s' : State) × (pair_step a p (state_at a v) ≡ some s') × (e ≡ pair_edge a p (state_at a v) s')
    unfolding minute_graph
    minute-edge-to v e m =
        let o = mem-of-flat_map (pair_edges a (state_at a v)) (all_pairs a) e m in
        at o.0 (pair_step a o.0 (state_at a v)) refl o.2
      where
        at :
            (p : Pair) (o : Option State) → pair_step a p (state_at a v) ≡ o
            → Memᴰ e (elim o [ none ↦ [] | some s' ↦ pair_edge a p (state_at a v) s' ∷ [] ])
            → (p : Pair) × (s' : State) × (pair_step a p (state_at a v) ≡ some s') × (e ≡ pair_edge a p (state_at a v) s')
        at p none q k = absurd (Memᴰ.not-nil k)
        at p (some s') q k = (p, s', q, Memᴰ.eq_of_singleton k)

    pub minute-edge-from :
        (v : ℕ) (p : Pair) (s' : State) → pair_step a p (state_at a v) ≡ some s' → Leaves g v (pair_edge a p (state_at a v) s')
    unfolding minute_graph
    minute-edge-from v p s' q =
        let h = ((pair_step_lem a p (state_at a v) s').0 q).0 in
        mem-flat_map (pair_edges a (state_at a v)) (pair-listed p (state_at a v) h)
        (subst (λ (o : Option State). Memᴰ (pair_edge a p (state_at a v) s') (elim o [ none ↦ [] | some t ↦ pair_edge a p (state_at a v) t ∷ [] ]))
        (sym q) (Memᴰ.head refl))

    pub edge_of : (v : ℕ) (e : Edge) → Leaves g v e → EdgeOf a v e
    edge_of v e m =
        let o = minute-edge-to v e m in
        let h = (pair_step_lem a o.0 (state_at a v) o.1).0 o.2 in
        record { pair = o.0; allowed = h.0; is = o.3 ∙ ap (pair_edge a o.0 (state_at a v)) h.1 }

    pub edge-from : (v : ℕ) (p : Pair) → PairAllowed a p (state_at a v) → Leaves g v (pair_edge a p (state_at a v) (after_pair a p (state_at a v)))
    edge-from v p h =
        let t = after_pair a p (state_at a v) in
        minute-edge-from v p t ((pair_step_lem a p (state_at a v) t).1 (h, refl))

    -- The edges lead to nodes.
    pub minute-closed : Closed g
    unfolding minute_graph
    minute-closed v e h m =
        let o = edge_of v e m in
        let i = pair-state a ok o.pair (state_at a v) (state_at-state a v h) o.allowed in
        subst (λ (f : Edge). f.to < state_count a) (sym o.is) (state-below a (after_pair a o.pair (state_at a v)) i)

    -- No edge weighs more than the greatest rate or price for each minute and for the move.
    pub minute-weights : (w : ℕ) → PricesWithin a w → WeightsWithin g ((get_or a.ceilings 0 0 + 1) * w)
    unfolding minute_graph
    minute-weights w light v e h m =
        let o = edge_of v e m in
        let p = o.pair in
        let c = get_or a.ceilings 0 0 in
        let i = state_at-state a v h in
        let r = light.rates (mode_at a (state_at a v).mode) (mem-get_or a.modes (state_at a v).mode _ i.mode) in
        let k = light.prices (move_at a p.made) (mem-get_or a.moves p.made _ (pair_made p (state_at a v) o.allowed)) in
        let d = le_trans (mul-le-mul_left p.minutes r) (mul-le-mul_right w (pair-minutes p (state_at a v) o.allowed)) in
        let up : c + 1 ≡ suc c = omega arith in
        let s : (c + 1) * w ≡ c * w + w = ap (λ (n : ℕ). n * w) up ∙ suc-mul c w in
        let b : pair_charge a p (state_at a v) ≤ (c + 1) * w = omega (arith, d, k, s) in
        subst (λ (f : Edge). f.weight ≤ (c + 1) * w) (sym o.is) b

    -- A label has one edge at most.
    pub minute-labels : (v : ℕ) (e e' : Edge) → Leaves g v e → Leaves g v e' → e.label ≡ e'.label → e ≡ e'
    minute-labels v e e' m m' q =
        let o = edge_of v e m in
        let o' = edge_of v e' m' in
        let s = state_at a v in
        let same = sym (ap (λ (f : Edge). f.label) o.is) ∙ q ∙ ap (λ (f : Edge). f.label) o'.is in
        let one = pair-label o.pair (pair-few o.pair s o.allowed) in
        let other = pair-label o'.pair (pair-few o'.pair s o'.allowed) in
        let pairs : o.pair ≡ o'.pair = sym one ∙ ap pair_of same ∙ other in
        o.is ∙ ap (λ (p : Pair). pair_edge a p s (after_pair a p s)) pairs ∙ sym o'.is
