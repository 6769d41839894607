use Rattle.cell_laws.proofs.AlikeComplexes.{pivots-from_places}
use Rattle.cell_laws.proofs.Listings.{pivots-without_doubles}
use Rattle.cell_laws.proofs.laws.cells.pivots_by_places.Goals as goal

pub returns : goal.returns
returns g c = record { places = pivots-from_places; once = pivots-without_doubles }
