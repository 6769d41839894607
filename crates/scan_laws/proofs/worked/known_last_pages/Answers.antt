use Rattle.std.proofs.Common.{refl}
use Rattle.std.specs.Fmt.{digits}
use Rattle.scan_laws.proofs.DeformedSteps.{deformed-page, deformed-steps, last-end}
use Rattle.scan_laws.proofs.worked.known_last_pages.Goals as goal

pub returns : goal.returns
unfolding digits
returns c = record { steps = deformed-steps; page = deformed-page; table = refl; end = last-end; last = refl }
