use Rattle.square_laws.proofs.Signs.{signs-opposite}
use Rattle.square_laws.proofs.laws.squares.signs_are_opposite.Goals as goal

pub returns : goal.returns
returns c = signs-opposite
