use Rattle.std.proofs.lemmas.Bool.Decides.{nat_tests}
use Rattle.std.proofs.Common.{arith}
use Rattle.cube_signs.proofs.ChosenLoops.{mapped-more, mapped-whole}
use Rattle.cube_signs.proofs.chosen.renumber.Goals as goal

pub entries-preserved : goal.entries-preserved
entries-preserved = grind (arith, nat_tests, mapped-more)

pub returns : goal.returns
returns = grind (arith, nat_tests, mapped-whole)
