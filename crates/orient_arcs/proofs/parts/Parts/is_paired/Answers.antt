use Rattle.std.proofs.lemmas.Bool.Decides.{nat_tests}
use Rattle.std.proofs.Common.{arith}
use Rattle.orient_arcs.proofs.PairingTests.{tested}
use Rattle.orient_arcs.proofs.parts.Parts.is_paired.Goals as goal

pub returns : goal.returns
returns = grind (arith, nat_tests, tested)
