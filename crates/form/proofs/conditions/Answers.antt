-- `form::conditions` meets its contract. Assumes nothing.
use native.Mathlib.Nat.{add_assoc}
use lib.Seq.{drop-drop}
use Rattle.form.proofs.conditions.Goals as goal

pub returns : goal.returns
returns c = simp (drop-drop, add_assoc) (cc)
