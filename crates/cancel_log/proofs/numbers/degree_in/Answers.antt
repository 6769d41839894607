use Rattle.std.proofs.Common.{◌∙◌, sym, subst}
use Rattle.cancel_log.specs.NumberWords.{IsDegreeIn}
use Rattle.cancel_log.proofs.NumberTexts.{degree-none, degree-unprinted}
use Rattle.cancel_log.proofs.numbers.degree_in.Goals as goal

pub returns-then-not-is_printed : goal.returns-then-not-is_printed
returns-then-not-is_printed c = degree-unprinted c.args.word.now (sym c.is_printed.ensures ∙ c.if-not-is_printed.true)

pub returns-in_err-degree : goal.returns-in_err-degree
returns-in_err-degree c =
    subst (IsDegreeIn c.args.word.now) (sym c.from_residual.ensures)
    (degree-none c.args.word.now (sym c.signed_number_of.ensures.number ∙ c.in_err-degree.was))
