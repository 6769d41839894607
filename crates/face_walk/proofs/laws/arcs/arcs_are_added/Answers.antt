use Rattle.face_walk.proofs.AddedArcs.{HasArcMore-with_arc, IsPairing-more, JoinsPieces-apart, StaysInPiece-together, open_dart_count-more}
use Rattle.face_walk.proofs.BareCrossings.{open_dart_count-bare, open_face_count-bare, open_piece_count-bare}
use Rattle.face_walk.proofs.laws.arcs.arcs_are_added.Goals as goal

pub returns : goal.returns
returns c = record {
  bare_faces = open_face_count-bare;
  bare_pieces = open_piece_count-bare;
  bare_darts = open_dart_count-bare;
  added = HasArcMore-with_arc;
  pairing = IsPairing-more;
  darts = open_dart_count-more;
  between = JoinsPieces-apart;
  inside = StaysInPiece-together;
}
