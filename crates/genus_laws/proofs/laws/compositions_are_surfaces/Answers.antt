use Rattle.genus_laws.proofs.LeadLemmas.{IsSurface-three}
use Rattle.genus_laws.proofs.laws.compositions_are_surfaces.Goals as goal

pub returns : goal.returns
returns c = IsSurface-three
