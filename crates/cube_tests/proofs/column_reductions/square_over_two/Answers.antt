use Rattle.column_reduction.proofs.WorkedInputs.{square-two}
use Rattle.cube_tests.proofs.column_reductions.square_over_two.Goals as goal

pub square-requires : goal.square-requires
square-requires c = square-two
