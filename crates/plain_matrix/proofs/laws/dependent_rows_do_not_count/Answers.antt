use Rattle.kh_types.proofs.RankLaws.{rank-without_row, rank-without_column}
use Rattle.plain_matrix.proofs.laws.dependent_rows_do_not_count.Goals as goal

pub returns-clause-row : goal.returns-clause-row
returns-clause-row c = rank-without_row

pub returns-clause-column : goal.returns-clause-column
returns-clause-column c = rank-without_column
