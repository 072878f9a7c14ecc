-- The starred tables of document 01, "Tables with their outcome", as one list, with their outcomes under the definitions.
-- Assumes nothing.
use Rattle.std.specs.Prelude.{◌≡◌, refl, Bool, true, false, ◌&&◌, ℕ, eqb}
use Rattle.std.proofs.Common.{ap₂, ◌∙◌, true≢false, inl, inr, eqb-true}
use mathlib.Core.List.Memᴰ
use mathlib.Core.List.{List, [], ◌∷◌, ◌++◌, Memᴰ}
use Rattle.semantics.specs.Region.{start, leave, arrive, delay, linger, reset, reset_all, charge, meets, within}
use Rattle.semantics.specs.Corners.Corner.{same_list, corner_number, corner_at}
use Rattle.semantics.specs.NodeCount.{node_count}
use Rattle.semantics.specs.Nodes.Node.{node_number, node_at}
use Rattle.semantics.specs.Chain.{delay_step, linger_step, move_step, step}
use Rattle.semantics.specs.Corners.Edges.{reset_all_corner, edges}
use Rattle.semantics.specs.Graph.CornerGraph.{corner_graph}
use Rattle.semantics.specs.Answer.{Answer, no_route, route, answer}
use Rattle.semantics.specs.Paths.Greedy.{completes}
use Rattle.semantics.specs.Paths.Computed.{distances}
use Rattle.semantics.specs.Regions.Compare.{and-true-iff}
use Rattle.semantics.specs.Corners.Number.{same_list-eq}
use Rattle.semantics.proofs.Answers.Computed.{computed, computed-answer}
use Rattle.reader.specs.Parser.{in_order}
use Rattle.table.specs.Fields.{Fields}
use Rattle.reader.specs.Format.{within as byte_within, bit_map, amount_byte, conditions, reset_byte, mode_record, move_record, header, table}
use Rattle.table.specs.Meaning.{automaton}
use Rattle.reader.specs.Read.{Judgement, accepted, rejected, read}
use Rattle.reader.specs.Theorems.Proper.{accepted-proper}

-- A table by its bytes, and its outcome.
pub record Sample : Type 0 where
  pub bytes : List ℕ
  pub outcome : Answer

abbrev sample : List ℕ → Answer → Sample
sample bytes outcome = record { bytes = bytes; outcome = outcome }

-- T and its variants: the goal, the ceiling, the rates of modes 0 and 1, the bytes of move 0 and the last byte.
abbrev table_t : ℕ → ℕ → ℕ → ℕ → List ℕ → ℕ → List ℕ
table_t goal ceiling first second move0 last =
    0x03 ∷ 0x01 ∷ 0x02 ∷ goal ∷ ceiling ∷ 0x01 ∷ first ∷ 0x01 ∷ second ∷ 0x00 ∷ (move0 ++ 0x03 ∷ 0x01 ∷ 0x02 ∷ 0x01 ∷ last ∷ [])

abbrev plain_move : List ℕ
plain_move = 0x01 ∷ 0x00 ∷ 0x01 ∷ 0x05 ∷ []

pub starred : List Sample
starred =
    sample (table_t 2 2 3 1 plain_move 0x51) (route 7 (0 ∷ 64 ∷ 64 ∷ 64 ∷ 1 ∷ []))
    ∷ sample (table_t 2 2 3 1 plain_move 0x41) (route 7 (0 ∷ 64 ∷ 64 ∷ 1 ∷ []))
    ∷ sample (table_t 2 2 3 1 plain_move 0x32) (route 8 (0 ∷ 64 ∷ 64 ∷ 64 ∷ 64 ∷ 1 ∷ []))
    ∷ sample (table_t 2 2 3 1 plain_move 0x52) no_route
    ∷ sample (table_t 2 1 3 1 plain_move 0x51) no_route
    ∷ sample (table_t 0 2 3 1 plain_move 0x51) (route 0 [])
    ∷ sample (table_t 2 2 1 3 plain_move 0x41) (route 7 (64 ∷ 0 ∷ 64 ∷ 1 ∷ []))
    ∷ sample (table_t 2 2 3 1 (0x03 ∷ 0x00 ∷ 0x01 ∷ 0x05 ∷ 0x50 ∷ []) 0x41) (route 7 (64 ∷ 0 ∷ 65 ∷ 64 ∷ 1 ∷ []))
    ∷ sample (0x02 ∷ 0x01 ∷ 0x01 ∷ 0x01 ∷ 0x01 ∷ 0x01 ∷ 0x01 ∷ 0x00 ∷ 0x82 ∷ 0x00 ∷ 0x01 ∷ 0x50 ∷ 0x01 ∷ []) (route 0 (64 ∷ 0 ∷ []))
    ∷ []

-- T's bytes are those of document 01.
table-T : table_t 2 2 3 1 plain_move 0x51
    ≡ 0x03 ∷ 0x01 ∷ 0x02 ∷ 0x02 ∷ 0x02 ∷ 0x01 ∷ 0x03 ∷ 0x01 ∷ 0x01 ∷ 0x00 ∷ 0x01 ∷ 0x00 ∷ 0x01 ∷ 0x05 ∷ 0x03 ∷ 0x01 ∷ 0x02 ∷ 0x01 ∷ 0x51 ∷ []
table-T = refl

-- The bytes are accepted, and the answer for the table's goal is the outcome.
pub record HasOutcome (s : Sample) : Type 0 where
  pub fields : Fields
  pub accepts : read s.bytes ≡ accepted fields
  pub answers : answer (automaton fields) fields.goal ≡ s.outcome

-- The test: read the bytes, compute the answer, compare.
abbrev same_answer : Answer → Answer → Bool
same_answer no_route no_route = true
same_answer no_route (route D js) = false
same_answer (route C ks) no_route = false
same_answer (route C ks) (route D js) = eqb C D && same_list ks js

abbrev outcome_is : Answer → Judgement → Bool
outcome_is x (rejected n) = false
outcome_is x (accepted f) = same_answer (computed (automaton f) f.goal) x

abbrev passes : Sample → Bool
passes s = outcome_is s.outcome (read s.bytes)

abbrev all_pass : List Sample → Bool
all_pass [] = true
all_pass (s ∷ ss) = passes s && all_pass ss

starred-pass : all_pass starred ≡ true
unfolding starred read table header mode_record move_record reset_byte conditions amount_byte bit_map byte_within in_order computed distances completes corner_graph node_count node_number node_at corner_number corner_at step move_step delay_step linger_step start leave arrive delay linger reset reset_all charge meets within edges reset_all_corner
starred-pass = refl

same_answer_lem : (x y : Answer) → same_answer x y ≡ true → x ≡ y
same_answer_lem no_route no_route e = refl
same_answer_lem no_route (route D js) e = absurd (true≢false cc)
same_answer_lem (route C ks) no_route e = absurd (true≢false cc)
same_answer_lem (route C ks) (route D js) e =
    let both = (and-true-iff (eqb C D) (same_list ks js)).0 e in
    ap₂ route (eqb-true C D both.0) (same_list-eq ks js both.1)

-- The test's soundness.
passes_at : (s : Sample) (j : Judgement) → read s.bytes ≡ j → outcome_is s.outcome j ≡ true → HasOutcome s
passes_at s (rejected n) e t = absurd (true≢false cc)
passes_at s (accepted f) e t = record {
  fields = f;
  accepts = e;
  answers = computed-answer (automaton f) (accepted-proper s.bytes f e) f.goal ∙ same_answer_lem (computed (automaton f) f.goal) s.outcome t;
}

all_have : (ss : List Sample) → all_pass ss ≡ true → (s : Sample) → Memᴰ s ss → HasOutcome s
all_have [] t s m = absurd (Memᴰ.not-nil m)
all_have (r ∷ ss) t s m =
    let both = (and-true-iff (passes r) (all_pass ss)).0 t in
    elim (Memᴰ.cases_cons m) [ inl e ↦ rw e (passes_at r (read r.bytes) refl both.0) | inr k ↦ all_have ss both.1 s k ]

-- Every starred table has its outcome.
pub starred-outcomes : (s : Sample) → Memᴰ s starred → HasOutcome s
starred-outcomes = all_have starred starred-pass
