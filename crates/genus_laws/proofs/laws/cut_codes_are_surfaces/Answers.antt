use Rattle.genus_laws.proofs.CutSurfaces.{IsSurface-cut}
use Rattle.genus_laws.proofs.laws.cut_codes_are_surfaces.Goals as goal

pub returns : goal.returns
returns c = IsSurface-cut
