use Rattle.std.proofs.Common.{refl}
use Rattle.std.specs.Fmt.{digits}
use Rattle.scan_laws.proofs.DeformedSteps.{deformed-hopf, deformed_hopf-end}
use Rattle.scan_laws.proofs.worked.deformed_hopf_steps.Goals as goal

pub returns : goal.returns
unfolding digits
returns c = record { steps = deformed-hopf; end = deformed_hopf-end; last = refl }
