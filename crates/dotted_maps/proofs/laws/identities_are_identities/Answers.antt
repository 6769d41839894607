use Rattle.dotted_maps.proofs.Identities.{entry-identity, matrix-identity}
use Rattle.dotted_maps.proofs.laws.identities_are_identities.Goals as goal

pub returns-clause-entry : goal.returns-clause-entry
returns-clause-entry c h k points m w before after placed pairing glued =
    entry-identity h k points m w before after record { placed = placed; pairing = pairing; glued = glued }

pub returns-clause-matrix : goal.returns-clause-matrix
returns-clause-matrix c p h k points m w row column placed pairing glued =
    matrix-identity p h k points m w row column record { placed = placed; pairing = pairing; glued = glued }
