-- The crossings are those of the code, and no more of them are positive than there are.
use Rattle.std.proofs.lemmas.Bool.Decides.{nat_tests}
use Rattle.std.proofs.Common.{arith, ap, ◌∙◌}
use Rattle.kh_types.specs.Directions.{plus_count}
use Rattle.kh_types.proofs.DirectionLemmas.{plus_count-le}
use Rattle.kh_types.proofs.diagram.Diagram.plus.Goals as goal

pub returns-clause-count : goal.returns-clause-count
returns-clause-count c = c.plus_count.ensures ∙ ap plus_count c.crossings.ensures.crossings

pub returns-clause-fits : goal.returns-clause-fits
returns-clause-fits = grind (arith, nat_tests, plus_count-le)
