use Rattle.std.proofs.Common.{◌≡◌, arith}
use Rattle.face_walk.specs.Numbered.{face_numbers}
use Rattle.face_walk.proofs.FaceLemmas.{face_number-in}
use Rattle.face_walk.proofs.numbered.Faces.face_of.Goals as goal

pub returns-clause-face : goal.returns-clause-face
returns-clause-face c =
    let kept : c.deref.result.now ≡ face_numbers c.args.self.now.crossings = grind arith in
    face_number-in c.args.self.now.crossings c.args.dart c.deref.result.now c.dart_place.result kept c.dart_place.ensures c.requires
