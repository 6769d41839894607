use Rattle.braid_maker.proofs.Partners.{HasArcsTwice-braid}
use Rattle.braid_maker.proofs.Faces.{face_count-braid}
use Rattle.braid_maker.proofs.AlikeCodes.{IsCheckerboard-alike_braid, face_count-alike_braid}
use Rattle.braid_maker.proofs.laws.closed_braids_are_planar.Goals as goal

pub returns : goal.returns
returns c = record {
  twice = HasArcsTwice-braid;
  checkerboard = IsCheckerboard-alike_braid;
  faces = face_count-braid;
  alike = face_count-alike_braid;
}
