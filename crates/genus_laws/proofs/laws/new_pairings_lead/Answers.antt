use Rattle.genus_laws.proofs.CutSteps.{Lead-more}
use Rattle.genus_laws.proofs.laws.new_pairings_lead.Goals as goal

pub returns : goal.returns
returns c = Lead-more
