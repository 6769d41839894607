use Rattle.layer_laws.proofs.FilteredSlides.{survivors-slide}
use Rattle.layer_laws.proofs.laws.survivors.slides_keep_survivors.Goals as goal

pub returns : goal.returns
returns c p closing count saddle height weight between first second field above below states cut measured other_cut other_measured i t =
    survivors-slide p closing count saddle height weight between first second field above below states cut measured other_cut
    other_measured i t
