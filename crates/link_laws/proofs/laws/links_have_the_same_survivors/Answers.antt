use Rattle.link_laws.proofs.Paths.{survivors-link}
use Rattle.link_laws.proofs.laws.links_have_the_same_survivors.Goals as goal

pub returns : goal.returns
returns c = survivors-link
