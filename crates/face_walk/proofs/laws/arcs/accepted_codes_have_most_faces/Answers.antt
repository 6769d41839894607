use Rattle.face_walk.proofs.FewFaces.{IsPlanar-accepted, sphere_faces, face_count-most}
use Rattle.face_walk.proofs.laws.arcs.accepted_codes_have_most_faces.Goals as goal

pub returns : goal.returns
returns c = record { planar = IsPlanar-accepted; exact = sphere_faces; most = face_count-most }
