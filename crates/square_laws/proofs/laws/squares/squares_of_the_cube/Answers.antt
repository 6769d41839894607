use Rattle.square_laws.proofs.SquareKinds.{squares}
use Rattle.square_laws.proofs.laws.squares.squares_of_the_cube.Goals as goal

pub returns : goal.returns
returns c = squares
