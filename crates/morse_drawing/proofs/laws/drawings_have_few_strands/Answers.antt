use Rattle.std.proofs.Common.{length, arith}
use Rattle.kh_types.specs.Darts.{partner_at}
use Rattle.morse_drawing.proofs.PageEnds.{IsWholeSphere-accepted}
use Rattle.morse_drawing.proofs.StrandCounts.{few-slices}
use Rattle.morse_drawing.proofs.laws.drawings_have_few_strands.Goals as goal

pub returns : goal.returns
returns c = record {
  each = λ code place is.
      few-slices (length code.crossings) (partner_at code.crossings) code.loops place (IsWholeSphere-accepted code is);
  most = λ code place is small.
      omega (
        arith,
        few-slices (length code.crossings) (partner_at code.crossings) code.loops place (IsWholeSphere-accepted code is),
        small,
      );
}
