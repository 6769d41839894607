use Rattle.genus_laws.proofs.CutCodes.{Lead-outside, ends-starts}
use Rattle.genus_laws.proofs.laws.codes_lead_outside.Goals as goal

pub returns-clause-leads : goal.returns-clause-leads
returns-clause-leads c = Lead-outside

pub returns-clause-apart : goal.returns-clause-apart
returns-clause-apart c = ends-starts
