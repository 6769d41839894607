use Rattle.cube_signs.proofs.EdgeHeads.{labels_behind-ascend, labels_behind-below}
use Rattle.cube_signs.proofs.laws.heads.labels_behind_fit.Goals as goal

pub returns-clause-below : goal.returns-clause-below
returns-clause-below c = labels_behind-below

pub returns-clause-ascending : goal.returns-clause-ascending
returns-clause-ascending c = labels_behind-ascend
