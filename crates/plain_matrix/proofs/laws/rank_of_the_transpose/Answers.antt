use Rattle.kh_types.proofs.PivotLemmas.{rank-transposed}
use Rattle.plain_matrix.proofs.TransposeLemmas.{rank-transpose}
use Rattle.plain_matrix.proofs.laws.rank_of_the_transpose.Goals as goal

pub returns-clause-has : goal.returns-clause-has
returns-clause-has c = rank-transposed

pub returns-clause-plain : goal.returns-clause-plain
returns-clause-plain c = rank-transpose
