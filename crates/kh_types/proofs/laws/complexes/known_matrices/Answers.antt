use Rattle.std.proofs.Common.{refl}
use Rattle.kh_types.proofs.laws.complexes.known_matrices.Goals as goal

pub returns : goal.returns
returns c = record { before = refl; second = refl; first = refl; inverse = refl; signs = refl }
