use Rattle.std.proofs.lemmas.Bool.Decides.{nat_tests}
use Rattle.std.proofs.Common.{arith}
use Rattle.face_walk.proofs.NumberLemmas.{least_numbers-class_number}
use Rattle.face_walk.proofs.laws.numbers.class_numbers_are_places.Goals as goal

pub returns-clause-place : goal.returns-clause-place
returns-clause-place c = least_numbers-class_number

pub returns-clause-same : goal.returns-clause-same
returns-clause-same = grind (arith, nat_tests, least_numbers-class_number)
