use Rattle.face_walk.proofs.Board.{IsCheckerboard-planar}
use Rattle.face_walk.proofs.laws.planar.planar_codes_have_a_checkerboard.Goals as goal

pub returns : goal.returns
returns c = IsCheckerboard-planar
