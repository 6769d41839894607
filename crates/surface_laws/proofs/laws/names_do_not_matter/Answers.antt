use Rattle.surface_laws.proofs.Projected.{Corresponds-alike, Corresponds-projected, IsClosed-moved, IsClosed-moved_back, value-moved}
use Rattle.surface_laws.proofs.laws.names_do_not_matter.Goals as goal

pub returns : goal.returns
returns c = record { closed = IsClosed-moved; back = IsClosed-moved_back; same = value-moved; alike = Corresponds-alike; places = Corresponds-projected }
