-- A walk that stands at the place of a struct: what the words say of the edges that leave its marked corners, and of the step along them.
-- Assumes nothing.
use mathlib.Core.Path.{◌≡◌, refl, sym, ap, subst, ◌∙◌}
use mathlib.Core.Logic.{◌↔◌, ◌≢◌}
use mathlib.Core.List.{List}
use mathlib.Core.Option.{some, some-injective}
use Prim.Native.Nat.{ℕ, ◌+◌, ◌≤◌, ◌<◌}
use native.Mathlib.Decide.{ℕ_discrete}
use native.Mathlib.Numerals.{add-one}
use native.Mathlib.Omega.{arith}
use lib.ListN.{length, take}
use Rattle.std.specs.Prelude.{Option}
use Rattle.std.proofs.lemmas.Option.{none-some, same_Some}
use Rattle.semantics.specs.Automata.Proper.{Proper}
use Rattle.semantics.specs.Automaton.{Automaton}
use Rattle.semantics.specs.Region.{top}
use Rattle.semantics.specs.Nodes.Node.{node_at}
use Rattle.semantics.specs.Chain.{Place, step}
use Rattle.semantics.specs.Graph.Path.{Entry, charge_at}
use Rattle.semantics.specs.Graph.CornerGraph.{number_of}
use Rattle.semantics.specs.Answers.Places.{IsPlace, corner-top}
use Rattle.semantics.specs.Answers.Marks.{Grows, Led}
use Rattle.semantics.proofs.Answers.Led.{grows-iff}
use Rattle.table.specs.Fields.{most_price}
use Rattle.table.specs.Held.{automaton_of}
use Rattle.regions.specs.declared.nodes.NodeRegion.{NodeRegion}
use Rattle.regions.specs.Held.{view}
use Rattle.regions.specs.Nodes.{pack_node_region}
use Rattle.space.specs.declared.Space.{Space}
use Rattle.steps.specs.declared.Stand.{Stand}
use Rattle.steps.specs.declared.Next.{Next}
use Rattle.space.specs.Space.{place_at}
use Rattle.steps.specs.Steps.{Marked, stand_place, Tells, StandReady, Leads}
use Rattle.steps.specs.Leading.{TightAt, CornersReady, StepReady, Silent, LeadsOn, TriedOne, IsFound}
use Rattle.space.specs.Laws.NodeRegion.{corner-at}
use Rattle.space.proofs.Settings.{place-row, place-below, setting-proper, corner-number, corner-below}
use Rattle.steps.proofs.Sets.{none-marked, some-marked}

-- What `region_at` gives is of the walk's place.
pub standing :
    {t rs : List ℕ} {s : Space} {z : Stand} {ws : List ℕ} → StandReady t rs s z ws → (x : NodeRegion)
    → x ≡ pack_node_region (take s.timers s.ceilings) (node_at (take s.timers s.ceilings) z.first) → StepReady t s x z ws
standing {t} {rs} ready x is =
    let o = corner-at ready.setting ready.there x is in
    record { rules = rs; ready = ready; here = record { corner = o.corner; place_is = o.place_is } }

module _ {t : List ℕ} {s : Space} {x : NodeRegion} {z : Stand} {ws : List ℕ} (w : StepReady t s x z ws) where
  abbrev a : Automaton
  a = automaton_of t

  abbrev p : Place
  p = place_at x

  pub stand-proper : Proper (automaton_of t)
  stand-proper = setting-proper w.ready.setting

  stand-first : x.first ≡ z.first
  stand-first = w.here.corner.first-is ∙ ap (λ (q : Place). number_of a q 0) w.here.place_is ∙ w.ready.first-is

  stand-number : (j : ℕ) → j ≤ top (view x.region) → number_of (automaton_of t) (place_at x) j ≡ z.first + j
  stand-number j h = omega (arith, corner-number w.here.corner j h, stand-first)

  pub stand-corners : (j : ℕ) → Marked z.set j → j ≤ top (view x.region)
  stand-corners j m = subst (λ (q : Place). j ≤ top q.region) (sym w.here.place_is) (w.ready.corners j m)

  pub stand-among : (j : ℕ) → Marked z.set j → j < length (view x.region).prices
  stand-among j m = (corner-top (view x.region) w.here.corner.place.well-formed j).1 (stand-corners j m)

  -- The corners of a place are nodes.
  pub row_inside :
      (q : Place) → IsPlace (automaton_of t) q → (to : ℕ) → to ≡ number_of (automaton_of t) q 0 → (i : ℕ) → i ≤ top q.region → to + i < s.nodes
  row_inside q h to is i b = omega (arith, place-row a q h to is i b, place-below a q h i b, w.ready.setting.is-space.nodes-are)

  pub corners-ready : CornersReady z ws
  corners-ready = record {
    sixteen = w.ready.sixteen;
    there = λ j m.
        let inside = corner-below w.here.corner j (stand-corners j m) in
        omega (arith, inside, stand-first, w.ready.setting.is-space.nodes-are, w.ready.words);
    room = w.ready.room;
    short = w.ready.short;
  }

  -- An edge from a marked corner is tight by the words just if it is by the table of which they tell.
  pub tight-grows :
      (d : ℕ → Entry) → Tells s z ws d → (j : ℕ) → Marked z.set j → (weight : ℕ) → weight ≤ most_price → (v : ℕ) → v < s.nodes
      → TightAt ws (z.first + j) v weight (z.steps + 1) ↔ Grows d z.steps weight (number_of (automaton_of t) (place_at x) j) v
  tight-grows d tells j m weight small v there =
      let c = charge_at ws (z.first + j) in
      let grows = grows-iff d z.steps weight (number_of a p j) v c (ap d (stand-number j (stand-corners j m)) ∙ tells.entry j m) in
      let next = tells.next v (c + weight) there (omega (arith, w.ready.room j m)) in (
        λ o. grows.1 (next.1 (o.1, o.0 ∙ add-one z.steps)),
        λ g. let o = next.0 (grows.0 g) in (o.1 ∙ sym (add-one z.steps), o.0),
      )

  -- The byte k leads nowhere from the place.
  pub silent-here :
      (k : ℕ)
      → ((l : ℕ) (d : ℕ → Entry) → Tells s z ws d → (y : Place) (i : ℕ) → step (automaton_of t) k (place_at x) ≡ some y
      → Led (automaton_of t) l d (place_at x) z.steps (Marked z.set) k y i → ⊥)
      → Silent t s z ws k
  silent-here k none l d tells =
      subst (λ (q : Place). (y : Place) (i : ℕ) → step a k q ≡ some y → Led a l d q z.steps (Marked z.set) k y i → ⊥) w.here.place_is
      (none l d tells)

  -- It leads to the place y, whose first node was found with the corners to which tight edges lead.
  pub tried-one :
      (k : ℕ) (y : Place) → step (automaton_of t) k (place_at x) ≡ some y → {first set : ℕ} → first ≡ number_of (automaton_of t) y 0 → set < 16
      → ((l : ℕ) (d : ℕ → Entry) → Tells s z ws d → (i : ℕ)
      → Marked set i ↔ Led (automaton_of t) l d (place_at x) z.steps (Marked z.set) k y i)
      → {r : Option Next} → IsFound k first set r → TriedOne t s z ws k r
  tried-one k y f {first} {set} first-is few marks {r} found = at (ℕ_discrete set 0)
    where
      leads :
          set ≢ 0 → (l : ℕ) (d : ℕ → Entry) → Tells s z ws d → step a k (stand_place t z) ≡ some y
          → ((i : ℕ) → Marked set i ↔ Led a l d (stand_place t z) z.steps (Marked z.set) k y i)
          → Leads t l d z (record { byte = k; first = first; set = set })
      leads n l d tells g m =
          let o = some-marked set few n in
          record { place = y; leads = g; first-is = first-is; sixteen = few; marks = m; corner = o.0; marked = o.1 }

      leads_on : set ≢ 0 → LeadsOn t s z ws (record { byte = k; first = first; set = set })
      leads_on n l d tells =
          subst
          (λ (q : Place). step a k q ≡ some y → ((i : ℕ) → Marked set i ↔ Led a l d q z.steps (Marked z.set) k y i)
          → Leads t l d z (record { byte = k; first = first; set = set }))
          (sym w.here.place_is) (leads n l d tells) f (marks l d tells)

      silent :
          set ≡ 0 → (l : ℕ) (d : ℕ → Entry) → Tells s z ws d → (v : Place) (i : ℕ) → step a k p ≡ some v
          → Led a l d p z.steps (Marked z.set) k v i → ⊥
      silent e l d tells v i g led =
          let same : v ≡ y = some-injective v y (sym g ∙ f) in
          let m = (marks l d tells i).1 (subst (λ (u : Place). Led a l d p z.steps (Marked z.set) k u i) same led) in
          none-marked i (subst (λ (u : ℕ). Marked u i) e m)

      at : Dec (set ≡ 0) → TriedOne t s z ws k r
      at (yes e) = record { leads = λ n q. absurd (none-some n (sym (found.none e) ∙ q)); silent = λ _. silent-here k (silent e) }
      at (no n) = record {
        leads = λ m q.
            let same = same_Some _ m (sym (found.some n) ∙ q) in
            subst (λ (u : Next). (u.byte ≡ k) × LeadsOn t s z ws u) same (refl, leads_on n);
        silent = λ q. absurd (none-some _ (sym q ∙ found.some n));
      }
