use Rattle.face_walk.proofs.PartArcs.{IsPlanar-part, planar-bound, planar-split, planar-together}
use Rattle.face_walk.proofs.laws.arcs.planar_arcs_split_faces.Goals as goal

pub returns : goal.returns
returns c = record { bound = planar-bound; part = IsPlanar-part; together = planar-together; split = planar-split }
