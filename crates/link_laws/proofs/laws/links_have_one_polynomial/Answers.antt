use Rattle.link_laws.proofs.Paths.{sum-link}
use Rattle.link_laws.proofs.laws.links_have_one_polynomial.Goals as goal

pub returns : goal.returns
returns c = sum-link
