use Rattle.gluing_laws.proofs.SlideSums.{inside_sum-slide}
use Rattle.gluing_laws.proofs.laws.triangles_have_one_sum.Goals as goal

pub returns : goal.returns
returns c = inside_sum-slide
