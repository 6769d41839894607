use Rattle.std.proofs.Common.{sym, subst}
use Rattle.cancel_log.specs.NumberWords.{IsPivotIn}
use Rattle.cancel_log.proofs.LineTexts.{pivot-uncut_places}
use Rattle.cancel_log.proofs.saying.pivot_in.Goals as goal

pub returns-in_err-column : goal.returns-in_err-column
returns-in_err-column c =
    subst (IsPivotIn c.args.text.now) (sym c.from_residual-in_err-column.ensures)
    (pivot-uncut_places c.args.text.now c.in_ok-degree.degree.now c.in_ok-degree.places.now c.in_ok-degree.ensures.some
    (c.cut_at_space-2.ensures.none c.in_err-column.was))
