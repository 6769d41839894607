use Rattle.std.proofs.Common.{◌*◌, length, ap}
use Rattle.face_walk.proofs.FaceCycles.{faces_unwalked}
use Rattle.face_walk.proofs.walk.faces_of.Goals as goal

pub places-init : goal.places-init
places-init c =
    faces_unwalked c.args.diagram.now c.classes_of-classes.result.items (4 * length c.crossings.result.now)
    c.crossings.ensures.accepted (ap (λ xs. 4 * length xs) c.crossings.ensures.crossings) c.classes_of-classes.ensures
