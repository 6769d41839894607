use Rattle.cell_laws.proofs.Listings.{listed-flat, listed-turned}
use Rattle.cell_laws.proofs.laws.listings.listings_of_parts.Goals as goal

pub returns : goal.returns
returns g c = record { flat = listed-flat; turned = listed-turned }
