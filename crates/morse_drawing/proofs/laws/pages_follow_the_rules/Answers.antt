use Rattle.morse_drawing.proofs.RulePages.{pages-drawn, pages-only, slices-last}
use Rattle.morse_drawing.proofs.laws.pages_follow_the_rules.Goals as goal

pub returns : goal.returns
returns c = record { all = pages-drawn; one = pages-only; slices = slices-last }
