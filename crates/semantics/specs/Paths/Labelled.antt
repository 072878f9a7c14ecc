-- Paths into the targets by their labels and their charge.
-- Assumes nothing.
use Rattle.std.specs.Prelude.{◌≡◌, List, ℕ, length}
use Rattle.std.proofs.Common.{ap, ◌∙◌, sym}
use Rattle.std.proofs.lemmas.List.{length-map}
use Rattle.semantics.specs.Graph.Path.{Edge, Graph, IsPath, labels_of, charge_of}

-- Some path from v has the labels ls and is charged C.
pub record LabelledPath (g : Graph) (v : ℕ) (ls : List ℕ) (C : ℕ) : Type 0 where
  pub path : List Edge
  pub is-path : IsPath g v path
  pub labelled : labels_of path ≡ ls
  pub charged : charge_of path ≡ C

-- It has as many edges as labels.
pub labelled-length : {g : Graph} {v : ℕ} (ls : List ℕ) (C : ℕ) (p : LabelledPath g v ls C) → length p.path ≡ length ls
labelled-length ls C p = sym (length-map p.path (λ e. e.label)) ∙ ap length p.labelled
