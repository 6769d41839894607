use Rattle.std.proofs.Common.{length}
use Rattle.kh_types.specs.Darts.{partner_at}
use Rattle.morse_drawing.specs.Pages.{page_of}
use Rattle.morse_drawing.proofs.PageEnds.{IsDrawn-page_of, IsWholeSphere-accepted}
use Rattle.morse_drawing.proofs.PageLemmas.{true-in}
use Rattle.morse_drawing.proofs.StepLemmas.{page_of-later}
use Rattle.morse_drawing.proofs.laws.drawings_finish.Goals as goal

pub returns : goal.returns
returns c = record {
  row = λ code is. (IsDrawn-page_of (length code.crossings) (partner_at code.crossings) (IsWholeSphere-accepted code is)).finished.row;
  drawn = λ code crossing is below.
      true-in crossing (page_of (length code.crossings) (partner_at code.crossings)).drawn
      ((IsDrawn-page_of (length code.crossings) (partner_at code.crossings) (IsWholeSphere-accepted code is)).finished.all crossing below);
  later = λ code count is. page_of-later (length code.crossings) (partner_at code.crossings) count (IsWholeSphere-accepted code is);
}
