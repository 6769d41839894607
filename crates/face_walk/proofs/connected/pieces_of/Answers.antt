use Rattle.std.proofs.lemmas.Bool.Decides.{nat_tests}
use Rattle.std.proofs.Common.{arith}
use Rattle.face_walk.proofs.FaceLemmas.{IsNamed-pieces, IsNamed-pieces_of}
use Rattle.face_walk.proofs.connected.pieces_of.Goals as goal

pub returns-clause-named : goal.returns-clause-named
returns-clause-named = grind (arith, nat_tests, IsNamed-pieces)

pub returns-clause-size : goal.returns-clause-size
returns-clause-size = grind (arith, nat_tests, IsNamed-pieces_of)
