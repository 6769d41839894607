use Rattle.std.proofs.Common.{◌∙◌, ap}
use Rattle.jones_sum.specs.Coefficients.{coefficient_in}
use Rattle.jones_sum.specs.Terms.{jones_line_of}
use Rattle.jones_sum.proofs.TermTexts.{jones_line_of-terms}
use Rattle.jones_sum.proofs.jones_line.print_jones.Goals as goal

pub returns : goal.returns
returns c = record {
  text =
      ap (λ made. made.items) c.into_bytes.ensures.value ∙ c.in_ok-line.ensures
      ∙ ap jones_line_of (c.as_str.ensures.value ∙ c.in_ok-terms.ensures) ∙ jones_line_of-terms (coefficient_in c.args.polynomial.now);
}
