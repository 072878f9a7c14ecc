-- The comparisons of the code as those of the definitions.
-- Assumes nothing.
use Rattle.semantics.specs.Condition.{Comparison, less, at_most, equal, at_least, greater}
use Rattle.conditions.specs.declared.comparison.Comparison.{Comparison as Told}
use Rattle.conditions.specs.declared.comparison.Comparison.TheVariants.{Less, AtMost, Equal, AtLeast, Greater}

abbrev pub told : Told → Comparison
told Less = less
told AtMost = at_most
told Equal = equal
told AtLeast = at_least
told Greater = greater
