use Rattle.plain_matrix.proofs.FieldInverses.{inverses-field}
use Rattle.plain_matrix.proofs.laws.fields_have_inverses.Goals as goal

pub returns : goal.returns
returns c = inverses-field
