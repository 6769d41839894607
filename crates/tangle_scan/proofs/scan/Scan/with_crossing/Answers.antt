use Rattle.std.proofs.Common.{subst, sym}
use Rattle.scan_laws.specs.Scans.{IsScanOf}
use Rattle.tangle_scan.specs.Scanned.{Scanned, scan_of, scanned}
use Rattle.tangle_scan.proofs.StepLemmas.{scanned-added}
use Rattle.tangle_scan.proofs.scan.Scan.with_crossing.Goals as goal

pub add_crossing-requires-clause-scan : goal.add_crossing-requires-clause-scan
add_crossing-requires-clause-scan g c =
    subst (λ (seen : Scanned). IsScanOf seen.front.diagram (scan_of seen)) (sym c.self.view_is) c.laws.ensures.of

pub invariant_of-result : goal.invariant_of-result
invariant_of-result g c =
    scanned-added g.F.PrimeField.P (scanned c.self.inside.front c.self.inside.complex) c.next-front.result c.in_ok-complex.complex
    c.self.invariant c.next-front.ensures.there c.next-front.ensures.diagram c.in_ok-complex.ensures.complex
    c.in_ok-complex.ensures.adding
