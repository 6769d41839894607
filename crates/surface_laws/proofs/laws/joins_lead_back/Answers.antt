use Rattle.surface_laws.proofs.Renamed.{KeepsComponents-led}
use Rattle.surface_laws.proofs.laws.joins_lead_back.Goals as goal

pub returns : goal.returns
returns c = KeepsComponents-led
