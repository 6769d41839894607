use Rattle.std.proofs.Common.{◌≡◌, map}
use Rattle.std.specs.List.{range_with_len}
use Rattle.kh_types.specs.Darts.{partner_at}
use Rattle.kh_types.specs.Faces.{piece_pair}
use Rattle.face_walk.proofs.connected.piece_pairs.Given as goal

abbrev pub invariant-loop-place : goal.invariant-loop-place
invariant-loop-place l = l.pairs.items ≡ map (piece_pair (partner_at l.diagram.crossings)) (range_with_len 0 l.place)
