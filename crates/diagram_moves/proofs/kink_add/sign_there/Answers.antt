use Rattle.std.proofs.lemmas.Bool.Decides.{nat_tests}
use Rattle.std.proofs.Common.{arith}
use Rattle.diagram_moves.proofs.AddLemmas.{sign_there}
use Rattle.diagram_moves.proofs.kink_add.sign_there.Goals as goal

pub returns : goal.returns
returns c = grind (arith, nat_tests, sign_there c.args.diagram.now.crossings c.args.place c.requires.place)
