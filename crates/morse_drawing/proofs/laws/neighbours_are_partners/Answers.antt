use Rattle.std.proofs.Common.{length}
use Rattle.kh_types.specs.Darts.{partner_at}
use Rattle.morse_drawing.proofs.PageEnds.{IsWholeSphere-accepted}
use Rattle.morse_drawing.proofs.StepLemmas.{few-strands, pair-on_pages}
use Rattle.morse_drawing.proofs.laws.neighbours_are_partners.Goals as goal

pub returns : goal.returns
returns c = record {
  pair = λ code count is. pair-on_pages (length code.crossings) (partner_at code.crossings) count (IsWholeSphere-accepted code is);
  few = λ code count is. few-strands (length code.crossings) (partner_at code.crossings) count (IsWholeSphere-accepted code is);
}
