use Rattle.link_algebra.proofs.UnionLemmas.{union-sum}
use Rattle.link_algebra.proofs.laws.state_sums_of_unions_are_products.Goals as goal

pub returns : goal.returns
returns c = union-sum
