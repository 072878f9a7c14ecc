-- `rules::order::order` meets its contract. The loop's invariant: the moves from e on stand in their order. Assumes nothing.
use Rattle.table.specs.Held.{automaton_of}
use Rattle.rules.specs.Making.{OrderedFrom}
use Rattle.rules.proofs.order.order.Given as goal

abbrev pub invariant-loop-e : goal.invariant-loop-e
invariant-loop-e l = OrderedFrom (automaton_of l.table.bytes) l.e l.initial.rules l.rules
