use Rattle.face_walk.proofs.FewFaces.{IsPlanar-twice, face_count-le, genus_fault-fewer, open_dart_count-twice}
use Rattle.face_walk.proofs.laws.arcs.codes_have_few_faces.Goals as goal

pub returns : goal.returns
returns c = record { closed = open_dart_count-twice; few = face_count-le; planar = IsPlanar-twice; genus = genus_fault-fewer }
