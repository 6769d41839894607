use Rattle.std.proofs.lemmas.Bool.Decides.{nat_tests}
use Rattle.std.proofs.Common.{arith}
use Rattle.orient_arcs.proofs.AlikeCrossings.{partner_at-alike, faces-alike, pieces-alike, IsCheckerboard-alike}
use Rattle.orient_arcs.proofs.laws.alike.alike_crossings_have_the_same_faces.Goals as goal

pub returns-clause-partners : goal.returns-clause-partners
returns-clause-partners c = partner_at-alike

pub returns-clause-faces : goal.returns-clause-faces
returns-clause-faces c = faces-alike

pub returns-clause-pieces : goal.returns-clause-pieces
returns-clause-pieces c = pieces-alike

pub returns-clause-planar : goal.returns-clause-planar
returns-clause-planar = grind (arith, nat_tests, faces-alike, pieces-alike)

pub returns-clause-checkerboard : goal.returns-clause-checkerboard
returns-clause-checkerboard c = IsCheckerboard-alike
