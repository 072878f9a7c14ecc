-- Mode and move records are taken exactly as they are laid out.
-- Assumes nothing.
use Rattle.std.specs.Prelude.{ℕ, ◌-◌, ◌/◌, ◌%◌, ◌^◌, ◌≤◌, ◌<◌, ◌≡◌, refl, List, [], ◌∷◌, ◌++◌}
use Rattle.std.proofs.Common.{div-one, ap, ◌∙◌}
use native.Mathlib.Omega.{arith}
use borrow.Author.Tests.{lt-ltb, ltb-true}
use Rattle.std.proofs.Math.Pow.{pow_mono}
use Rattle.semantics.specs.Regions.Compare.{and-true-iff}
use Rattle.table.specs.Fields.{amount_of, ModeFields, MoveFields}
use Rattle.table.specs.Meaning.{stands}
use Rattle.reader.specs.Format.{present, map_present, bit_map, amount_byte, conditions, reset_present, reset_byte, mode_record, move_record}
use Rattle.reader.specs.Layout.{Optional, TimersThere, AmountByte, SixConditions, IsReset, ModeLayout, MoveLayout}
use Rattle.reader.specs.Theorems.Bits.{there-below, below-there}
use Rattle.reader.specs.Theorems.Exactly.{Exactly, Both, both, One, reworded, tested-exactly, within-exactly, any-exactly, optional-exactly, order-exactly, Made, made}

-- A bit map is right.
pub record MapByte (n b : ℕ) : Type 0 where
  pub first : TimersThere n 1 b
  pub further : TimersThere n 4 b

amount-exactly : (announcing bit : ℕ) → Exactly (amount_byte announcing bit) (AmountByte announcing bit)
unfolding amount_byte
amount-exactly announcing bit = optional-exactly any-exactly (stands announcing bit)

conditions-exactly : (map : ℕ) → Exactly (conditions map) (SixConditions map)
unfolding conditions
conditions-exactly map =
    reworded (λ xs l k. record { six = k.0; row = k.1 }) (λ xs l k. (k.six, k.row))
    (order-exactly (λ bit. optional-exactly
    (reworded (λ xs b k. (k.0, (omega (arith, k.1), omega (arith, k.1)))) (λ xs b k. (k.0, (omega (arith, k.1), omega (arith, k.1)))) (within-exactly 4 16 95))
    (stands map bit)) 1 6)

module _ (n : ℕ) (some : 1 ≤ n) (few : n ≤ 3) where
  map-exactly : Exactly (bit_map n) (One (MapByte n))
  unfolding bit_map
  map-exactly =
      reworded
      (λ xs b k.
      let c = (and-true-iff (present n (b / 2 % 8)) (present n (b / 16 % 8))).0 k.1 in (
        k.0,
        record {
          first = below-there n 1 b some few (ltb-true (b / 2 % 8) (2 ^ n) c.0);
          further = below-there n 4 b some few (ltb-true (b / 16 % 8) (2 ^ n) c.1);
        },
      ))
      (λ xs b k. (
        k.0,
        rw (
          lt-ltb (b / 2 % 8) (2 ^ n) (there-below n 1 b some few k.1.first),
          lt-ltb (b / 16 % 8) (2 ^ n) (there-below n 4 b some few k.1.further),
        ),
      ))
      (tested-exactly (map_present n) 3)

  -- The parts of a mode record in the order of its bytes.
  abbrev ModeParts : List ℕ → ModeFields → Type 0
  ModeParts =
      Both (One (MapByte n)) (λ map. Both (AmountByte map 0) (λ low. Both (SixConditions map) (λ cs.
      Made (λ high. record { rate = amount_of low high; conditions = cs }) (AmountByte map 7))))

  mode-lays : (xs : List ℕ) (a : ModeFields) → ModeParts xs a → ModeLayout n xs a
  mode-lays xs a k =
      let l = k.second in
      let c = l.second in
      let h = c.second in
      rw (← h.same) (record {
        map = k.value;
        low = l.value;
        high = h.value;
        low-bytes = l.front;
        condition-bytes = c.front;
        high-bytes = c.back;
        split =
            k.split ∙ ap (λ (u : List ℕ). u ++ k.back) k.first.0
            ∙ ap (λ (u : List ℕ). k.value ∷ u) (l.split ∙ ap (λ (u : List ℕ). l.front ++ u) c.split);
        first = k.first.1.first;
        further = k.first.1.further;
        has-low = l.first;
        conditions = c.first;
        has-high = h.laid;
        rate = refl;
      })

  lays-mode : (xs : List ℕ) (a : ModeFields) → ModeLayout n xs a → ModeParts xs a
  lays-mode xs a k = record {
    value = k.map;
    front = k.map ∷ [];
    back = k.low-bytes ++ (k.condition-bytes ++ k.high-bytes);
    split = k.split;
    first = (refl, record { first = k.first; further = k.further });
    second = record {
      value = k.low;
      front = k.low-bytes;
      back = k.condition-bytes ++ k.high-bytes;
      split = refl;
      first = k.has-low;
      second = record {
        value = a.conditions;
        front = k.condition-bytes;
        back = k.high-bytes;
        split = refl;
        first = k.conditions;
        second = record { value = k.high; laid = k.has-high; same = λ i. record { rate = k.rate i; conditions = a.conditions } };
      };
    };
  }

  pub mode-exactly : Exactly (mode_record n) (ModeLayout n)
  unfolding mode_record
  mode-exactly =
      reworded mode-lays lays-mode
      (both map-exactly (λ map. both (amount-exactly map 0) (λ low. both (conditions-exactly map) (λ cs. made _ (amount-exactly map 7)))))

  -- The parts of a move record in the order of its bytes.
  module _ (m : ℕ) (modes : 1 ≤ m) where
    abbrev ModeByte : List ℕ → ℕ → Type 0
    ModeByte = One (λ b. (0 ≤ b) × (b ≤ m - 1))

    abbrev MoveParts : List ℕ → MoveFields → Type 0
    MoveParts =
        Both (One (MapByte n)) (λ map. Both ModeByte (λ source. Both ModeByte (λ target. Both (AmountByte map 0) (λ low. Both (SixConditions map) (λ cs.
        Both (Optional (IsReset n) (stands map 7)) (λ reset.
        Made (λ high. record { source = source; target = target; price = amount_of low high; conditions = cs; resets = reset % 8 }) (AmountByte reset 7)))))))

    move-lays : (xs : List ℕ) (a : MoveFields) → MoveParts xs a → MoveLayout m n xs a
    move-lays xs a k =
        let s = k.second in
        let t = s.second in
        let l = t.second in
        let c = l.second in
        let r = c.second in
        let h = r.second in
        rw (← h.same) (record {
          map = k.value;
          low = l.value;
          reset = r.value;
          high = h.value;
          low-bytes = l.front;
          condition-bytes = c.front;
          reset-bytes = r.front;
          high-bytes = r.back;
          split =
              k.split ∙ ap (λ (u : List ℕ). u ++ k.back) k.first.0
              ∙ ap (λ (u : List ℕ). k.value ∷ u) (s.split ∙ ap (λ (u : List ℕ). u ++ s.back) s.first.0
              ∙ ap (λ (u : List ℕ). s.value ∷ u) (t.split ∙ ap (λ (u : List ℕ). u ++ t.back) t.first.0
              ∙ ap (λ (u : List ℕ). t.value ∷ u) (l.split ∙ ap (λ (u : List ℕ). l.front ++ u)
              (c.split ∙ ap (λ (u : List ℕ). c.front ++ u) r.split))));
          first = k.first.1.first;
          further = k.first.1.further;
          source = omega (arith, s.first.1);
          target = omega (arith, t.first.1);
          has-low = l.first;
          conditions = c.first;
          has-reset = r.first;
          has-high = h.laid;
          price = refl;
          resets = refl;
        })

    lays-move : (xs : List ℕ) (a : MoveFields) → MoveLayout m n xs a → MoveParts xs a
    lays-move xs a k =
        let behind = k.low-bytes ++ (k.condition-bytes ++ (k.reset-bytes ++ k.high-bytes)) in
        record {
          value = k.map;
          front = k.map ∷ [];
          back = a.source ∷ a.target ∷ behind;
          split = k.split;
          first = (refl, record { first = k.first; further = k.further });
          second = record {
            value = a.source;
            front = a.source ∷ [];
            back = a.target ∷ behind;
            split = refl;
            first = (refl, (omega arith, omega (arith, k.source)));
            second = record {
              value = a.target;
              front = a.target ∷ [];
              back = behind;
              split = refl;
              first = (refl, (omega arith, omega (arith, k.target)));
              second = record {
                value = k.low;
                front = k.low-bytes;
                back = k.condition-bytes ++ (k.reset-bytes ++ k.high-bytes);
                split = refl;
                first = k.has-low;
                second = record {
                  value = a.conditions;
                  front = k.condition-bytes;
                  back = k.reset-bytes ++ k.high-bytes;
                  split = refl;
                  first = k.conditions;
                  second = record {
                    value = k.reset;
                    front = k.reset-bytes;
                    back = k.high-bytes;
                    split = refl;
                    first = k.has-reset;
                    second = record {
                      value = k.high;
                      laid = k.has-high;
                      same = λ i. record {
                        source = a.source;
                        target = a.target;
                        price = k.price i;
                        conditions = a.conditions;
                        resets = k.resets i;
                      };
                    };
                  };
                };
              };
            };
          };
        }

    -- A reset byte, but for its bit 7, is below 2 ^ n exactly if it has no bit but for the timers that are there.
    reset-exactly : Exactly (reset_byte n) (One (IsReset n))
    unfolding reset_byte
    reset-exactly =
        reworded
        (λ xs b k.
        let l : b % 128 < 2 ^ n = ltb-true (b % 128) (2 ^ n) k.1 in
        let bits : b % 128 < 8 = omega (arith, pow_mono few) in
        let same : b % 128 ≡ b % 8 = omega arith in
        (k.0, record { bits = bits; there = below-there n 0 b some few (rw (div-one b, ← same) l) }))
        (λ xs b k.
        let same : b % 8 ≡ b % 128 = omega (arith, k.1.bits) in
        let l : b % 8 < 2 ^ n = rw (div-one b) at (there-below n 0 b some few k.1.there) in
        (k.0, lt-ltb (b % 128) (2 ^ n) (rw (← same) l)))
        (tested-exactly (reset_present n) 3)

    pub move-exactly : Exactly (move_record m n) (MoveLayout m n)
    unfolding move_record
    move-exactly =
        reworded move-lays lays-move
        (both map-exactly (λ map. both (within-exactly 5 0 (m - 1)) (λ source. both (within-exactly 5 0 (m - 1)) (λ target.
        both (amount-exactly map 0) (λ low. both (conditions-exactly map) (λ cs.
        both (optional-exactly reset-exactly (stands map 7)) (λ reset. made _ (amount-exactly reset 7))))))))
