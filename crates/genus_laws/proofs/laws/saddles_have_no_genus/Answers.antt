use Rattle.genus_laws.proofs.SaddleCodes.{saddle-code}
use Rattle.genus_laws.proofs.laws.saddles_have_no_genus.Goals as goal

pub returns : goal.returns
returns c = saddle-code
