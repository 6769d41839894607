use Rattle.std.proofs.lemmas.Bool.Decides.{nat_tests}
use Rattle.std.proofs.Common.{arith}
use Rattle.face_walk.proofs.FaceLemmas.{IsNamed-faces, IsNamed-faces_of, face_numbers-classes}
use Rattle.face_walk.proofs.finding.faces.Goals as goal

pub class_numbers-requires-clause-named : goal.class_numbers-requires-clause-named
class_numbers-requires-clause-named = grind (arith, nat_tests, IsNamed-faces)

pub invariant_of-result : goal.invariant_of-result
invariant_of-result = grind (arith, nat_tests, face_numbers-classes, IsNamed-faces_of)
