use Rattle.std.proofs.Common.{refl}
use Rattle.drop_view_laws.proofs.laws.worked_numbers.Goals as goal

pub returns : goal.returns
returns c = record { curl = refl; two = refl; kinked = refl; over = refl; fingered = refl }
