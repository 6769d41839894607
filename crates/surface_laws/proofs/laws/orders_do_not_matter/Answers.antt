use Rattle.surface_laws.proofs.Renamed.{value-reordered, IsClosed-reordered}
use Rattle.surface_laws.proofs.laws.orders_do_not_matter.Goals as goal

pub returns : goal.returns
returns c = record { closed = IsClosed-reordered; same = value-reordered }
