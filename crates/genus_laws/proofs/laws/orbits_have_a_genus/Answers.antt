use Rattle.genus_laws.proofs.OrbitGenus.{HaveWholeGenus-orbits}
use Rattle.genus_laws.proofs.laws.orbits_have_a_genus.Goals as goal

pub returns : goal.returns
returns c = HaveWholeGenus-orbits
