use Rattle.std.proofs.Common.{length}
use Rattle.kh_types.specs.Darts.{partner_at}
use Rattle.morse_drawing.proofs.PageEnds.{IsWholeSphere-accepted}
use Rattle.morse_drawing.proofs.Pairs.{length-slices}
use Rattle.morse_drawing.proofs.laws.drawings_have_few_slices.Goals as goal

pub returns : goal.returns
returns c = λ code is. length-slices (length code.crossings) (partner_at code.crossings) code.loops (IsWholeSphere-accepted code is)
