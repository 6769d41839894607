use Rattle.std.proofs.lemmas.Bool.Decides.{nat_tests}
use Rattle.std.proofs.Common.{arith}
use Rattle.kh_types.proofs.AcceptedLemmas.{HasArcsTwice-accepted}
use Rattle.slide_laws.proofs.Sides.{HasSides-triangle}
use Rattle.slide_laws.proofs.SlidBack.{face_count-slid, piece_count-slid, planar-slid}
use Rattle.slide_laws.proofs.SlidBoard.{IsCheckerboard-slid}
use Rattle.slide_laws.proofs.laws.slides_keep_the_plane.Goals as goal

pub returns-clause-checkerboard : goal.returns-clause-checkerboard
returns-clause-checkerboard = grind (arith, nat_tests, IsCheckerboard-slid, HasSides-triangle, HasArcsTwice-accepted)

pub returns-clause-pieces : goal.returns-clause-pieces
returns-clause-pieces c crossings x y z twice is = piece_count-slid crossings x y z twice (HasSides-triangle crossings x y z twice is)

pub returns-clause-faces : goal.returns-clause-faces
returns-clause-faces c crossings x y z twice is = face_count-slid crossings x y z twice (HasSides-triangle crossings x y z twice is)

pub returns-clause-planar : goal.returns-clause-planar
returns-clause-planar = grind (arith, nat_tests, planar-slid, HasSides-triangle, HasArcsTwice-accepted)
