use Rattle.std.proofs.Common.{◌≡◌, ℕ, ap, subst}
use Rattle.std.specs.Result.{IfOk}
use Rattle.kh_types.specs.Code.{Code}
use Rattle.kh_types.specs.Table as tables
use Rattle.kh_types.specs.Table.{table}
use Rattle.order_laws.specs.Orders.{listed_by}
use Rattle.scan_laws.specs.Counts.{counted_table}
use Rattle.scan_laws.specs.Steps.{IsLast, IsReached}
use Rattle.tangle_scan.specs.Scanned.{scan_of}
use Rattle.tangle_scan.proofs.finished.table_of_finished.Goals as goal

pub returns : goal.returns
returns g c =
    let p = g.F.PrimeField.P in
    let code = c.args.diagram.now in
    let held = c.args.scan.now in
    let crossings = held.front.diagram.crossings in
    let same : held.front.diagram ≡ listed_by code crossings =
    ap (λ (loops : ℕ). let listed : Code = record { crossings = crossings; loops = loops } in listed) c.requires.loops in
    let counts : counted_table p code (scan_of held) ≡ table p code =
    c.scans_count_dimensions.ensures.small p code crossings (scan_of held) c.element_laws.ensures.prime c.diagram_laws.ensures.accepted
    (record {
      order = c.requires.order;
      reached = subst (λ (listed : Code). IsReached p 0 0 listed (scan_of held)) same c.laws.ensures.kept.reached;
      last = subst (λ (listed : Code). IsLast p 0 0 listed (scan_of held)) same c.finished_scans_are_last.ensures;
    }) in
    subst (λ (homology : tables.Table). IfOk c.counted_table.result (λ made. made ≡ homology)) counts c.counted_table.ensures
