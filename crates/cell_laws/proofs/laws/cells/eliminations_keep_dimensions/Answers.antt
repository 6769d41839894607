use Rattle.std.proofs.lemmas.Bool.Decides.{nat_tests}
use Rattle.std.proofs.Common.{arith}
use Rattle.cell_laws.proofs.AlikeComplexes.{complex-left_any, dimension-left_any}
use Rattle.cell_laws.proofs.laws.cells.eliminations_keep_dimensions.Goals as goal

pub returns : goal.returns
returns = grind (arith, nat_tests, complex-left_any, dimension-left_any)
