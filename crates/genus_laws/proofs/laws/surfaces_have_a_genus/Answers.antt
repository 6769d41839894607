use Rattle.genus_laws.proofs.SurfaceGenus.{HaveWholeGenus-surface, open-counted}
use Rattle.genus_laws.proofs.laws.surfaces_have_a_genus.Goals as goal

pub returns-clause-genus : goal.returns-clause-genus
returns-clause-genus c = HaveWholeGenus-surface

pub returns-clause-strips : goal.returns-clause-strips
returns-clause-strips c = open-counted
