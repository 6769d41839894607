use Rattle.kh_types.proofs.DartColours.{IsColoured-accepted}
use Rattle.kh_types.proofs.laws.darts.accepted_codes_are_coloured.Goals as goal

pub returns : goal.returns
returns c = IsColoured-accepted
