use Rattle.layer_laws.proofs.Slides.{dimension-slide}
use Rattle.layer_laws.proofs.laws.moves.slides_keep_the_dimensions.Goals as goal

pub returns : goal.returns
returns c p closing count saddle height weight between first second field above below states cut measured other_cut other_measured i j =
    dimension-slide p closing count saddle height weight between first second field above below states cut measured other_cut
    other_measured i j
