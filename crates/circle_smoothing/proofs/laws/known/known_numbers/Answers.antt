use Rattle.std.proofs.Common.{refl}
use Rattle.circle_smoothing.proofs.laws.known.known_numbers.Goals as goal

pub returns : goal.returns
returns c = record { zeros = refl; ones = refl; merged = refl; loops = refl }
