use Rattle.std.proofs.Common.{refl}
use Rattle.square_laws.proofs.laws.known.known_squares.Goals as goal

pub returns : goal.returns
returns c = record { same = refl; merge_first = refl; split_first = refl }
