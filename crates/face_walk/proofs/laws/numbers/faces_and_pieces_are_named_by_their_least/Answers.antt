use Rattle.face_walk.proofs.FaceLemmas.{IsNamed-faces_of, IsNamed-pieces_of}
use Rattle.face_walk.proofs.laws.numbers.faces_and_pieces_are_named_by_their_least.Goals as goal

pub returns : goal.returns
returns c = record { faces = IsNamed-faces_of; pieces = IsNamed-pieces_of }
