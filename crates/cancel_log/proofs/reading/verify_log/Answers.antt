use Rattle.std.proofs.Common.{List, ℕ, ap, subst}
use Rattle.cancel_log.specs.LinesLeft.{LinesLeft}
use Rattle.cancel_log.specs.Verdicts.{BeginsAsLog}
use Rattle.cancel_log.proofs.WholeLogs.{verdict-behind, verdict-log}
use Rattle.cancel_log.proofs.reading.verify_log.Goals as goal

pub returns-clause-verdict : goal.returns-clause-verdict
returns-clause-verdict c = λ told.
    let start = c.in_ok-start.start in
    let others = c.take_start.new.lines.rest in
    verdict-behind c.args.text.now start.diagram start.field others c.table_behind.result
    (subst (λ (lines : List (List ℕ)). BeginsAsLog lines start.diagram start.field others)
    (ap (λ (left : LinesLeft). left.rest) c.of-lines.ensures) c.in_ok-start.ensures.begins) (c.table_behind.ensures told)

pub returns-clause-table : goal.returns-clause-table
returns-clause-table c =
    let start = c.in_ok-start.start in
    let others = c.take_start.new.lines.rest in
    verdict-log c.args.text.now start.diagram start.field others c.table_behind.result
    (subst (λ (lines : List (List ℕ)). BeginsAsLog lines start.diagram start.field others)
    (ap (λ (left : LinesLeft). left.rest) c.of-lines.ensures) c.in_ok-start.ensures.begins) c.table_behind.ensures
