-- `distance` is the least cost everywhere.
-- Assumes nothing.
use Rattle.std.specs.Prelude.{◌≡◌, refl, Bool, true, false, cond, ◌⊎◌}
use Rattle.std.proofs.Common.{ap, true≢false, inl, inr, ⊎_elim, arith}
use mathlib.Core.List.Memᴰ
use mathlib.Core.List.{List, [], ◌∷◌, Memᴰ}
use Prim.Native.Nat.{ℕ, zero, suc, pred, ◌+◌, ◌≤◌, ◌<◌}
use Rattle.std.proofs.Math.ListN.{length}
use Rattle.semantics.specs.Order.{Cost, cost}
use Rattle.semantics.specs.Graph.Path.{Edge, Graph, Closed, Leaves, Target, IsPath, cost_of, HasCost, Entry, unreached, reached, LeastCosts, Within, along}
use Rattle.semantics.specs.Graph.Distance.{lesser, offered, relaxed, target_entry, up_to, distance}
use Rattle.semantics.specs.Paths.Cost.{cost-trans, cost-total, cost-weaken, less-true, less-false, cost-both, cost-along}
use Rattle.semantics.specs.Paths.Loops.{short-path}
use Rattle.semantics.specs.Paths.Distance.{within-trans}

-- The lesser of two entries is within each of them, and is one of them.
lesser-left : (x y : Entry) (c : Cost) → Within x c → Within (lesser x y) c
lesser-left unreached y c w = absurd w
lesser-left (reached a) unreached c w = w
lesser-left (reached a) (reached b) c w = elim (cost-total a b) [
  | inl h ↦ rw (less-false b a h) w
  | inr h ↦ rw (less-true b a h) (cost-trans b a c (cost-weaken b a h) w)
]

lesser-right : (x y : Entry) (c : Cost) → Within y c → Within (lesser x y) c
lesser-right unreached y c w = w
lesser-right (reached a) unreached c w = absurd w
lesser-right (reached a) (reached b) c w = elim (cost-total a b) [
  | inl h ↦ rw (less-false b a h) (cost-trans a b c h w)
  | inr h ↦ rw (less-true b a h) w
]

lesser-one : (x y : Entry) → (lesser x y ≡ x) ⊎ (lesser x y ≡ y)
lesser-one unreached y = inr refl
lesser-one (reached a) unreached = inl refl
lesser-one (reached a) (reached b) = elim (cost-total a b) [
  | inl h ↦ inl (rw (less-false b a h))
  | inr h ↦ inr (rw (less-true b a h))
]

-- Relaxing keeps what was within, and puts what an edge offers within.
relaxed-keeps : (d : ℕ → Entry) (es : List Edge) (x : Entry) (c : Cost) → Within x c → Within (relaxed d es x) c
relaxed-keeps d [] x c w = w
relaxed-keeps d (e ∷ es) x c w = relaxed-keeps d es (lesser x (offered e (d e.to))) c (lesser-left x (offered e (d e.to)) c w)

relaxed-within : (d : ℕ → Entry) (es : List Edge) (x : Entry) (c : Cost) (e : Edge) → Memᴰ e es → Within (offered e (d e.to)) c → Within (relaxed d es x) c
relaxed-within d [] x c e m w = absurd (Memᴰ.not-nil m)
relaxed-within d (f ∷ es) x c e m w = elim (Memᴰ.cases_cons m) [
  | inl q ↦ relaxed-keeps d es (lesser x (offered f (d f.to))) c (lesser-right x (offered f (d f.to)) c (rw q at w))
  | inr q ↦ relaxed-within d es (lesser x (offered f (d f.to))) c e q w
]

-- Whatever holds of the entry and of what each edge offers holds of the least of them.
relaxed-all : (P : Entry → Type 0) (d : ℕ → Entry) (es : List Edge) (x : Entry) → P x → ((e : Edge) → Memᴰ e es → P (offered e (d e.to))) → P (relaxed d es x)
relaxed-all P d [] x h k = h
relaxed-all P d (e ∷ es) x h k =
    relaxed-all P d es (lesser x (offered e (d e.to)))
    (⊎_elim (λ q. rw q h) (λ q. rw q (k e (Memᴰ.head refl))) (lesser-one x (offered e (d e.to))))
    (λ f m. k f (Memᴰ.tail m))

offered-within : (e : Edge) (x : Entry) (c : Cost) → Within x c → Within (offered e x) (along e c)
offered-within e unreached c w = absurd w
offered-within e (reached b) c w = cost-along e b c w

module _ (g : Graph) where
  -- Each entry is the cost of some path.
  abbrev IsCost : ℕ → Entry → Type 0
  IsCost v x = (c : Cost) → x ≡ reached c → HasCost g v c

  no-cost : (v : ℕ) → IsCost v unreached
  no-cost v c e = absurd (true≢false cc)

  target_at : (v : ℕ) (t : Bool) → g.is_target v ≡ t → IsCost v (cond t (reached (cost 0 0)) unreached)
  target_at v true h c e =
      let q : cost 0 0 ≡ c = cc in
      rw (← q) (record { path = []; is-path = h; charged = refl; counted = refl })
  target_at v false h c e = no-cost v c e

  target-cost : (v : ℕ) → IsCost v (target_entry g v)
  target-cost v = target_at v (g.is_target v) refl

  offered-cost : (v : ℕ) (e : Edge) → Leaves g v e → (x : Entry) → IsCost e.to x → IsCost v (offered e x)
  offered-cost v e l unreached h c q = no-cost v c q
  offered-cost v e l (reached b) h c q =
      let r = h b refl in
      let s : along e b ≡ c = cc in
      rw (← s) (record {
        path = e ∷ r.path;
        is-path = (l, r.is-path);
        charged = ap (λ (k : ℕ). e.weight + k) r.charged;
        counted = ap suc r.counted;
      })

  up_to-cost : (n v : ℕ) → IsCost v (up_to g n v)
  unfolding up_to
  up_to-cost zero v = target-cost v
  up_to-cost (suc n) v =
      relaxed-all (IsCost v) (up_to g n) (g.edges v) (target_entry g v) (target-cost v) (λ e m. offered-cost v e m (up_to g n e.to) (up_to-cost n e.to))

  -- Every path of at most n edges is within the entry.
  target-within : (v : ℕ) → Target g v → (c : Cost) → Within (target_entry g v) c
  target-within v t c = rw t (cost-both (cost 0 0) c (omega arith) (omega arith))

  up_to-within : (n v : ℕ) (p : List Edge) → IsPath g v p → length p ≤ n → Within (up_to g n v) (cost_of p)
  unfolding up_to
  up_to-within zero v [] w h = target-within v w (cost_of [])
  up_to-within zero v (e ∷ p) w h = absurd (omega arith)
  up_to-within (suc n) v [] w h = relaxed-keeps (up_to g n) (g.edges v) (target_entry g v) (cost_of []) (target-within v w (cost_of []))
  up_to-within (suc n) v (e ∷ p) w h =
      relaxed-within (up_to g n) (g.edges v) (target_entry g v) (cost_of (e ∷ p)) e w.0
      (offered-within e (up_to g n e.to) (cost_of p) (up_to-within n e.to p w.1 (omega arith)))

  module _ (closed : Closed g) where
    distance-within : (v : ℕ) → v < g.nodes → (p : List Edge) → IsPath g v p → Within (distance g v) (cost_of p)
    unfolding distance
    distance-within v h p w =
        let s = short-path g closed v p h w in
        let few : length s.path ≤ pred g.nodes = omega (arith, s.few) in
        within-trans (up_to g (pred g.nodes) v) (cost_of s.path) (cost_of p) (up_to-within (pred g.nodes) v s.path s.is-path few)
        (cost-both (cost_of s.path) (cost_of p) s.no-dearer s.no_longer)

    -- The distances are the least costs.
    pub distance_least : LeastCosts g (distance g)
    unfolding distance
    distance_least = record {
      least = λ v c h q. record {
        attained = up_to-cost (pred g.nodes) v c q;
        least = λ p w. rw q at (distance-within v h p w);
      };
      no-path = λ v h q p w. rw q at (distance-within v h p w);
    }
