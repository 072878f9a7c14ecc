-- `reader::records::ends` meets its contract. Assumes nothing.
use Prim.Native.Nat.{◌-◌}
use mathlib.Core.Path.{refl, ◌∙◌}
use lib.ListN.{drop}
use Rattle.reader.specs.Format.{within}
use Rattle.reader.proofs.Giving.{part-refused, part-taken, known, passed-up}
use Rattle.reader.proofs.Writing.{wrote-two}
use Rattle.reader.proofs.records.ends.Goals as goal

pub returns-in_err-source : goal.returns-in_err-source
returns-in_err-source c =
    let a = c.args in
    passed-up c.from_residual.result _ _ _ c.from_residual.ensures.1
    (part-refused (within 5 0 (a.modes - 1)) _ (drop a.from a.bytes.now) c.in_err-source.ensures.gives)

pub returns-in_err-target : goal.returns-in_err-target
returns-in_err-target c =
    let a = c.args in
    let mode = within 5 0 (a.modes - 1) in
    let source = c.in_ok-source in
    let up = c.from_residual-in_err-target in
    passed-up up.result _ _ _ up.ensures.1
    (part-taken mode _ (drop a.from a.bytes.now) (known source.ensures.gives)
    ∙ part-refused mode _ (drop source.source.next a.bytes.now) c.in_err-target.ensures.gives)

pub returns : goal.returns
returns c =
    let a = c.args in
    let mode = within 5 0 (a.modes - 1) in
    let source = c.in_ok-source in
    let target = c.in_ok-target in record {
      value = (source.source.value, target.target.value);
      taken =
          part-taken mode _ (drop a.from a.bytes.now) (known source.ensures.gives)
          ∙ part-taken mode _ (drop source.source.next a.bytes.now) (known target.ensures.gives);
      holds = wrote-two a.table.now a.at refl refl;
    }
