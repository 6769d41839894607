use Rattle.std.proofs.Common.{◌∙◌, ℕ, List, ap, subst}
use Rattle.scan_laws.specs.Counts.{counted_table}
use Rattle.tangle_scan.specs.declared.complex.Object.{Object}
use Rattle.tangle_scan.specs.CountedRows.{IsCountedFor}
use Rattle.tangle_scan.specs.Scanned.{scan_of}
use Rattle.tangle_scan.proofs.CountLemmas.{table-counted}
use Rattle.tangle_scan.proofs.finished.counted_table.Goals as goal

pub returns : goal.returns
returns g c =
    let scan = c.args.scan.now in
    let code = c.args.diagram.now in
    let rows = c.in_ok-rows.ensures in
    c.of_rows.ensures
    ∙ table-counted code scan.front.done scan.front.opened.items scan.complex rows.counted
    (subst (λ (objects : List Object). IsCountedFor code objects rows.counted) c.objects.ensures rows.of_objects)
    c.P.result c.in_ok-rows.rows.items rows.all
    ∙ ap (λ (p : ℕ). counted_table p code (scan_of scan)) c.P.ensures
