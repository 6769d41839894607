use Rattle.std.proofs.lemmas.Bool.Decides.{nat_tests}
use Rattle.std.proofs.Common.{arith}
use Rattle.cell_laws.proofs.Listings.{listed-append, listed-exchanged, listed-kept, listed-later, listed-named, listed-same}
use Rattle.cell_laws.proofs.laws.listings.listings_are_put_together.Goals as goal

pub returns : goal.returns
returns = grind (arith, nat_tests, listed-same, listed-named, listed-later, listed-append, listed-exchanged, listed-kept)
