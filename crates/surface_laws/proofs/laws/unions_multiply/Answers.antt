use Rattle.surface_laws.proofs.Unions.{value-union}
use Rattle.surface_laws.proofs.TwoSides.{IsPlaced-union, IsClosed-union}
use Rattle.surface_laws.proofs.laws.unions_multiply.Goals as goal

pub returns : goal.returns
returns c = record { placed = IsPlaced-union; closed = IsClosed-union; product = value-union }
