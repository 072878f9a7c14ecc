-- Dijkstra's order. Nodes are settled one by one, by charge, then steps, then number, and the edges of each are relaxed once, when it is settled.
-- Assumes nothing.
use Rattle.std.specs.Prelude.{◌≡◌, refl, ◌≢◌, ◌⊎◌, ℕ, suc, ◌+◌, ◌*◌, ◌≤◌, ◌<◌}
use Rattle.std.proofs.Common.{sym, ap, subst, ◌∙◌, true≢false, inl, inr, arith}
use Rattle.std.proofs.Math.Decide.{ℕ_discrete, dec_lt}
use Rattle.semantics.specs.Order.{Cost, cost, ◌≼◌, ◌≺◌}
use Rattle.semantics.specs.Graph.Path.{Edge, Graph, Leaves, Target, HasCost, Entry, unreached, reached, Within, along}
use Rattle.semantics.specs.Graph.Near.{turn, turned}
use Rattle.semantics.specs.Paths.Cost.{cost-trans, cost-weaken, cost-both}
use Rattle.semantics.specs.Paths.Lower.{Lower, relaxed-kept, relaxed-loop}
use Rattle.semantics.specs.Paths.Turned.{turned-nodes, turned_more}
use Rattle.semantics.specs.Paths.Explored.{RelaxedFrom, Beyond, Explored}
use Rattle.semantics.specs.Paths.Near.{BestTarget, TargetWithin}

-- Steps and node numbers are below this.
abbrev pub most : ℕ
most = 65536

-- The place of node v with the cost a in the order, as one number.
abbrev pub key_of : Cost → ℕ → ℕ
key_of a v = (a.charge * most + a.steps) * most + v

-- A lesser cost has a lesser key, whatever the nodes are.
pub key-less : (a b : Cost) (v w : ℕ) → a.steps < most → v < most → a ≺ b → key_of a v < key_of b w
key-less a b v w few small (inl x) = omega arith
key-less a b v w few small (inr x) = omega arith

-- Of two keys the lesser one, or the same, has no greater cost.
pub key-cost : (a b : Cost) (v w : ℕ) → b.steps < most → w < most → key_of a v ≤ key_of b w → a ≼ b
key-cost a b v w few small h = at (dec_lt a.charge b.charge)
  where
    at : Dec (a.charge < b.charge) → a ≼ b
    at (yes x) = inl x
    at (no x) = inr (omega arith)

-- A key has one node.
pub key-node : (a b : Cost) (v w : ℕ) → v < most → w < most → key_of a v ≡ key_of b w → v ≡ w
key-node a b v w small small' e = omega arith

-- The entries are costs of ways from s, of fewer than E steps.
pub record Costs (g : Graph) (s : ℕ) (d : ℕ → Entry) : Type 0 where
  pub attained : (v : ℕ) (a : Cost) → v < g.nodes → d v ≡ reached a → HasCost (turned g s) v a
  pub few : (v : ℕ) (a : Cost) → v < g.nodes → d v ≡ reached a → a.steps < g.nodes
  pub start : (v : ℕ) → v < g.nodes → Target (turned g s) v → d v ≡ reached (cost 0 0)

-- Node v is settled with the cost a: its key is below `upto`.
pub record IsSettled (upto : ℕ) (d : ℕ → Entry) (v : ℕ) (a : Cost) : Type 0 where
  pub entry : d v ≡ reached a
  pub before : key_of a v < upto

-- The edges of every settled node were relaxed, but for the nodes that are still in hand. No target is settled.
pub record Settling (g : Graph) (s upto : ℕ) (InHand : ℕ → Type 0) (d : ℕ → Entry) : Type 0 where
  pub costs : Costs g s d
  pub settled : (v : ℕ) (e : Edge) (a : Cost) → v < g.nodes → Leaves g v e → IsSettled upto d v a → RelaxedFrom g s d v e ⊎ InHand v
  pub targets : (v : ℕ) (a : Cost) → v < g.nodes → Target g v → IsSettled upto d v a → ⊥

abbrev pub None : ℕ → Type 0
None v = ⊥

abbrev pub Only : ℕ → ℕ → Type 0
Only u v = v ≡ u

-- No node that is not settled comes before node u, with the cost c.
abbrev pub IsFirst : Graph → ℕ → (ℕ → Entry) → ℕ → Cost → Type 0
IsFirst g upto d u c = (v : ℕ) (a : Cost) → v < g.nodes → d v ≡ reached a → upto ≤ key_of a v → key_of c u ≤ key_of a v

module _ {g : Graph} {s upto : ℕ} {d : ℕ → Entry} (small : g.nodes ≤ most) (ok : Settling g s upto None d) where
  settled-edge : (v : ℕ) (e : Edge) (a : Cost) → v < g.nodes → Leaves g v e → IsSettled upto d v a → RelaxedFrom g s d v e
  settled-edge v e a h l k = at (ok.settled v e a h l k)
    where
      at : RelaxedFrom g s d v e ⊎ ⊥ → RelaxedFrom g s d v e
      at (inl x) = x
      at (inr x) = absurd x

  module _ (u : ℕ) (c : Cost) (inside : u < g.nodes) (first : IsFirst g upto d u c) where
    -- What is settled with u, other than u, was settled before.
    settled_before : (v : ℕ) (a : Cost) → v < g.nodes → v ≢ u → IsSettled (suc (key_of c u)) d v a → IsSettled upto d v a
    settled_before v a h ne k = at (dec_lt (key_of a v) upto)
      where
        at : Dec (key_of a v < upto) → IsSettled upto d v a
        at (yes z) = record { entry = k.entry; before = z }
        at (no z) =
            let same : key_of a v ≡ key_of c u = omega (arith, first v a h k.entry (omega arith), k.before) in
            absurd (ne (key-node a c v u (omega arith) (omega arith) same))

    -- The first node that is not settled is settled, and its edges are in hand.
    pub settle-first : (Target g u → ⊥) → Settling g s (suc (key_of c u)) (Only u) d
    settle-first away = record {
      costs = ok.costs;
      settled = λ v e a h l k. at v e a h l k (ℕ_discrete v u);
      targets = λ v a h t k. ok.targets v a h t (settled_before v a h (λ q. away (subst (Target g) q t)) k);
    }
      where
        at :
            (v : ℕ) (e : Edge) (a : Cost) → v < g.nodes → Leaves g v e → IsSettled (suc (key_of c u)) d v a → Dec (v ≡ u)
            → RelaxedFrom g s d v e ⊎ (v ≡ u)
        at v e a h l k (yes q) = inr q
        at v e a h l k (no ne) = inl (settled-edge v e a h l (settled_before v a h ne k))

    -- If it is a target, everything was explored up to its cost, which is the best of all targets.
    module _ (goal : Target g u) (entry : d u ≡ reached c) where
      -- What is not settled costs no less.
      no_less : (v : ℕ) (a : Cost) → v < g.nodes → d v ≡ reached a → upto ≤ key_of a v → c ≼ a
      no_less v a h q z = key-cost c a u v (omega (arith, ok.costs.few v a h q)) (omega arith) (first v a h q z)

      pub target-explored : Explored g s (reached c) d
      target-explored = record {
        attained = ok.costs.attained;
        start = ok.costs.start;
        edges = λ v e a h l q. at v e a h l q (dec_lt (key_of a v) upto);
      }
        where
          at :
              (v : ℕ) (e : Edge) (a : Cost) → v < g.nodes → Leaves g v e → d v ≡ reached a → Dec (key_of a v < upto)
              → RelaxedFrom g s d v e ⊎ (Beyond (reached c) a ⊎ Target g v)
          at v e a h l q (yes z) = inl (settled-edge v e a h l (record { entry = q; before = z }))
          at v e a h l q (no z) = inr (inl (no_less v a h q (omega arith)))

      pub target-within : (b : Cost) → reached c ≡ reached b → TargetWithin g d b
      target-within b q =
          let same : c ≡ b = cc in
          record { node = u; inside = inside; target = goal; within = rw (entry, same) (cost-both b b (omega arith) (omega arith)) }

      pub target-best : BestTarget g d (reached c)
      target-best = record {
        none = λ q. absurd (true≢false cc);
        some = λ b q. let same : c ≡ b = cc in (u, inside, goal, entry ∙ ap reached same);
        least = λ b q v a h t e.
            let same : c ≡ b = cc in
            subst (λ (x : Cost). x ≼ a) same (at v a h t e (dec_lt (key_of a v) upto));
      }
        where
          at : (v : ℕ) (a : Cost) → v < g.nodes → Target g v → d v ≡ reached a → Dec (key_of a v < upto) → c ≼ a
          at v a h t e (yes z) = absurd (ok.targets v a h t (record { entry = e; before = z }))
          at v a h t e (no z) = no_less v a h e (omega arith)

  -- With no node left to settle everything was explored, and no target is reached.
  module _ (all : (v : ℕ) (a : Cost) → v < g.nodes → d v ≡ reached a → key_of a v < upto) where
    pub all-explored : Explored g s unreached d
    all-explored = record {
      attained = ok.costs.attained;
      start = ok.costs.start;
      edges = λ v e a h l q. inl (settled-edge v e a h l (record { entry = q; before = all v a h q }));
    }

    pub all-best : BestTarget g d unreached
    all-best = record {
      none = λ q v h t. at v h t (d v) refl;
      some = λ b q. absurd (true≢false cc);
      least = λ b q. absurd (true≢false cc);
    }
      where
        at : (v : ℕ) → v < g.nodes → Target g v → (x : Entry) → d v ≡ x → d v ≡ unreached
        at v h t unreached q = q
        at v h t (reached a) q = absurd (ok.targets v a h t (record { entry = q; before = all v a h q }))

-- From d to d' entries were lowered, and none of a settled node.
pub record Lowering (g : Graph) (s upto : ℕ) (d d' : ℕ → Entry) : Type 0 where
  pub costs : Costs g s d'
  pub lower : (v : ℕ) → Lower (d' v) (d v)
  pub kept : (v : ℕ) (a : Cost) → v < g.nodes → IsSettled upto d v a → d' v ≡ d v
  pub fresh : (v : ℕ) (a : Cost) → v < g.nodes → IsSettled upto d' v a → d v ≡ reached a

pub lowering-none : {g : Graph} {s upto : ℕ} {d : ℕ → Entry} → Costs g s d → Lowering g s upto d d
lowering-none k = record { costs = k; lower = λ v c h. h; kept = λ v a h z. refl; fresh = λ v a h z. z.entry }

pub lowering-then :
    {g : Graph} {s upto : ℕ} {d d' d'' : ℕ → Entry} → Lowering g s upto d d' → Lowering g s upto d' d'' → Lowering g s upto d d''
lowering-then x y = record {
  costs = y.costs;
  lower = λ v c h. y.lower v c (x.lower v c h);
  kept = λ v a h z. y.kept v a h (record { entry = x.kept v a h z ∙ z.entry; before = z.before }) ∙ x.kept v a h z;
  fresh = λ v a h z. x.fresh v a h (record { entry = y.fresh v a h z; before = z.before });
}

module _ {g : Graph} {s upto : ℕ} {d d' : ℕ → Entry} (low : Lowering g s upto d d') where
  -- An edge of a settled node that was relaxed still is.
  pub lowering-relaxed :
      (v : ℕ) (e : Edge) (a : Cost) → v < g.nodes → IsSettled upto d v a → RelaxedFrom g s d v e → RelaxedFrom g s d' v e
  lowering-relaxed v e a h z r = relaxed-kept (turned g s) d d' e.to (turn v e) (low.lower e.to) (low.kept v a h z) r

  -- What is settled was settled.
  lowering-old : (v : ℕ) (a : Cost) → v < g.nodes → IsSettled upto d' v a → IsSettled upto d v a
  lowering-old v a h z = record { entry = low.fresh v a h z; before = z.before }

  -- So what was settled stays settled.
  pub lowering-settling : {InHand : ℕ → Type 0} → Settling g s upto InHand d → Settling g s upto InHand d'
  lowering-settling {InHand} ok = record {
    costs = low.costs;
    settled = λ v e a h l z. at v e a h (lowering-old v a h z) (ok.settled v e a h l (lowering-old v a h z));
    targets = λ v a h t z. ok.targets v a h t (lowering-old v a h z);
  }
    where
      at : (v : ℕ) (e : Edge) (a : Cost) → v < g.nodes → IsSettled upto d v a → RelaxedFrom g s d v e ⊎ InHand v → RelaxedFrom g s d' v e ⊎ InHand v
      at v e a h k (inl x) = inl (lowering-relaxed v e a h k x)
      at v e a h k (inr x) = inr x

-- When its edges are relaxed the node is out of hand.
pub settle-done :
    {g : Graph} {s upto u : ℕ} {d : ℕ → Entry} → Settling g s upto (Only u) d → ((e : Edge) → Leaves g u e → RelaxedFrom g s d u e)
    → Settling g s upto None d
settle-done {g} {s} {upto} {u} {d} ok all = record {
  costs = ok.costs;
  settled = λ v e a h l k. inl (at v e l (ok.settled v e a h l k));
  targets = ok.targets;
}
  where
    at : (v : ℕ) (e : Edge) → Leaves g v e → RelaxedFrom g s d v e ⊎ (v ≡ u) → RelaxedFrom g s d v e
    at v e l (inl x) = x
    at v e l (inr q) = subst (λ (x : ℕ). RelaxedFrom g s d x e) (sym q) (all e (subst (λ (x : ℕ). Leaves g x e) q l))

-- One edge e of the node u in hand, which is settled last: its cost is c.
module _ {g : Graph} {s u : ℕ} {c : Cost} {d : ℕ → Entry} (small : g.nodes ≤ most) (k : Costs g s d) (inside : u < g.nodes) (entry : d u ≡ reached c)
    (e : Edge) (leaves : Leaves g u e) (to : e.to < g.nodes) where
  -- What it offers comes after u in the order.
  pub offered-later : (v : ℕ) → key_of c u < key_of (along e c) v
  offered-later v = at e.weight refl
    where
      few : c.steps < most
      few = omega (arith, k.few u c inside entry)

      at : (w : ℕ) → e.weight ≡ w → key_of c u < key_of (along e c) v
      at w q = omega arith

  -- It offers no less than what stands at its end, or it has too many steps.
  pub relaxed-already : (suc c.steps < g.nodes → Within (d e.to) (along e c)) → RelaxedFrom g s d u e
  relaxed-already shown b q few =
      let same : c ≡ b = cc in
      subst (λ (x : Cost). Within (d e.to) (along (turn u e) x)) same (shown (omega (arith, few, turned-nodes g s, ap (λ (x : Cost). x.steps) same)))

  -- It offers less, and that is stored.
  module _ (d' : ℕ → Entry) (stored : d' e.to ≡ reached (along e c)) (others : (v : ℕ) → v ≢ e.to → d' v ≡ d v)
      (few : suc c.steps < g.nodes) (less : (b : Cost) → d e.to ≡ reached b → along e c ≺ b) where
    entry_of : (v : ℕ) (a : Cost) → d' v ≡ reached a → v ≡ e.to → a ≡ along e c
    entry_of v a q same = let x : d' e.to ≡ reached a = subst (λ (i : ℕ). d' i ≡ reached a) same q in cc

    -- The end is not settled: what stood there came later still.
    not-settled : (a : Cost) → IsSettled (suc (key_of c u)) d e.to a → ⊥
    not-settled a z =
        omega (arith, z.before, offered-later e.to, key-less (along e c) a e.to e.to (omega arith) (omega arith) (less a z.entry))

    pub stored-lowering : Lowering g s (suc (key_of c u)) d d'
    stored-lowering = record {
      costs = record {
        attained = λ v a h q. attained v a h q (ℕ_discrete v e.to);
        few = λ v a h q. steps v a h q (ℕ_discrete v e.to);
        start = λ v h t. start v h t (ℕ_discrete v e.to);
      };
      lower = λ v b h. lower v b h (ℕ_discrete v e.to);
      kept = λ v a h z. kept v a z (ℕ_discrete v e.to);
      fresh = λ v a h z. fresh v a z (ℕ_discrete v e.to);
    }
      where
        attained : (v : ℕ) (a : Cost) → v < g.nodes → d' v ≡ reached a → Dec (v ≡ e.to) → HasCost (turned g s) v a
        attained v a h q (yes same) =
            rw (same, entry_of v a q same) (turned_more g s u e c inside leaves (k.attained u c inside entry))
        attained v a h q (no ne) = k.attained v a h (sym (others v ne) ∙ q)

        steps : (v : ℕ) (a : Cost) → v < g.nodes → d' v ≡ reached a → Dec (v ≡ e.to) → a.steps < g.nodes
        steps v a h q (yes same) = rw (entry_of v a q same) few
        steps v a h q (no ne) = k.few v a h (sym (others v ne) ∙ q)

        -- The entry of the start is not lowered.
        start : (v : ℕ) → v < g.nodes → Target (turned g s) v → Dec (v ≡ e.to) → d' v ≡ reached (cost 0 0)
        start v h t (yes same) =
            absurd (no_less (less (cost 0 0) (subst (λ (i : ℕ). d i ≡ reached (cost 0 0)) same (k.start v h t))))
          where
            no_less : along e c ≺ cost 0 0 → ⊥
            no_less (inl x) = omega arith
            no_less (inr x) = omega arith
        start v h t (no ne) = others v ne ∙ k.start v h t

        lower : (v : ℕ) (b : Cost) → Within (d v) b → Dec (v ≡ e.to) → Within (d' v) b
        lower v b h (no ne) = rw (others v ne) h
        lower v b h (yes same) = rw (same, stored) (at (d e.to) refl (rw same at h))
          where
            at : (x : Entry) → d e.to ≡ x → Within x b → along e c ≼ b
            at unreached q z = absurd z
            at (reached a) q z = cost-trans (along e c) a b (cost-weaken (along e c) a (less a q)) z

        kept : (v : ℕ) (a : Cost) → IsSettled (suc (key_of c u)) d v a → Dec (v ≡ e.to) → d' v ≡ d v
        kept v a z (no ne) = others v ne
        kept v a z (yes same) = absurd (not-settled a (subst (λ (i : ℕ). IsSettled (suc (key_of c u)) d i a) same z))

        fresh : (v : ℕ) (a : Cost) → IsSettled (suc (key_of c u)) d' v a → Dec (v ≡ e.to) → d v ≡ reached a
        fresh v a z (no ne) = sym (others v ne) ∙ z.entry
        fresh v a z (yes same) =
            absurd (omega (arith, offered-later v, z.before, ap (λ (x : Cost). key_of x v) (entry_of v a z.entry same)))

    -- Now it is relaxed.
    pub stored-relaxed : RelaxedFrom g s d' u e
    stored-relaxed b q few' = at (ℕ_discrete u e.to)
      where
        at : Dec (u ≡ e.to) → Within (d' e.to) (along (turn u e) b)
        at (yes same) = relaxed-loop (turned g s) d' e.to (turn u e) same b q few'
        at (no ne) =
            let x : c ≡ b = let y = others u ne in cc in
            rw (stored, x) (cost-both (along e b) (along (turn u e) b) (omega arith) (omega arith))
