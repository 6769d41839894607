use Rattle.column_reduction.proofs.WorkedInputs.{square-three}
use Rattle.cube_tests.proofs.column_reductions.square_over_three.Goals as goal

pub square-requires : goal.square-requires
square-requires c = square-three
