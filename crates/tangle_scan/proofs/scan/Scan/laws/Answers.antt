use Rattle.std.proofs.Common.{subst}
use Rattle.scan_laws.specs.Scans.{IsScanOf}
use Rattle.tangle_scan.specs.Scanned.{Scanned, scan_of, scanned}
use Rattle.tangle_scan.proofs.scan.Scan.laws.Goals as goal

pub returns-clause-of : goal.returns-clause-of
returns-clause-of g c =
    let p = g.F.PrimeField.P in
    let held = scanned c.self.inside.front c.self.inside.complex in
    subst (λ (seen : Scanned). IsScanOf seen.front.diagram (scan_of seen)) c.self.view_is
    (c.reached_scans.ensures.of p held.front.diagram (scan_of held)
    (c.reached_scans.ensures.fields p c.element_laws.ensures.prime) c.diagram_laws.ensures.accepted c.self.invariant.reached)
