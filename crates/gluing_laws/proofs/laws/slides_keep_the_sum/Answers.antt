use Rattle.gluing_laws.proofs.SlidSums.{sum_with-slide}
use Rattle.gluing_laws.proofs.laws.slides_keep_the_sum.Goals as goal

pub returns : goal.returns
returns c = sum_with-slide
