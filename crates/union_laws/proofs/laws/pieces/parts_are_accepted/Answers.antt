use Rattle.union_laws.proofs.CutCodes.{accepted-part}
use Rattle.union_laws.proofs.laws.pieces.parts_are_accepted.Goals as goal

pub returns : goal.returns
returns c = accepted-part
