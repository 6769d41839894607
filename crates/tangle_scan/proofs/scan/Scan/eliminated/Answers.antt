use Rattle.std.proofs.Common.{subst, sym}
use Rattle.scan_laws.specs.Scans.{IsScanOf}
use Rattle.tangle_scan.specs.Scanned.{Scanned, scan_of, scanned}
use Rattle.tangle_scan.proofs.StepLemmas.{scanned-leads}
use Rattle.tangle_scan.proofs.scan.Scan.eliminated.Goals as goal

pub eliminate_all-requires-clause-dots : goal.eliminate_all-requires-clause-dots
eliminate_all-requires-clause-dots g c =
    (subst (λ (seen : Scanned). IsScanOf seen.front.diagram (scan_of seen)) (sym c.self.view_is) c.laws.ensures.of).dots

pub invariant_of-result : goal.invariant_of-result
invariant_of-result g c =
    scanned-leads g.F.PrimeField.P (scanned c.self.inside.front c.self.inside.complex) c.in_ok-complex.complex c.self.invariant
    c.in_ok-complex.ensures.complex c.in_ok-complex.ensures.steps
