use Rattle.genus_laws.proofs.CutSurfaces.{IsSurface-through}
use Rattle.genus_laws.proofs.laws.added_crossings_are_surfaces.Goals as goal

pub returns : goal.returns
returns c = IsSurface-through
